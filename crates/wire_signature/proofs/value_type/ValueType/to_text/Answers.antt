use Rattle.wire_signature.proofs.Ascii.{type_utf8}
use Rattle.wire_signature.proofs.value_type.ValueType.to_text.Goals as goal

pub string_of-requires : goal.string_of-requires
string_of-requires c = type_utf8 _ c.args.self.now c.put_text-end.ensures.text.text
