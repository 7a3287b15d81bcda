use Rattle.wire_signature.specs.SingleType.{single_types_of}
use Rattle.wire_signature.proofs.Ascii.{types_utf8}
use Rattle.wire_signature.proofs.signature.Signature.to_text.Goals as goal

pub string_of-requires : goal.string_of-requires
string_of-requires c = types_utf8 _ (single_types_of c.types.result.now) c.put_types-end.ensures.1
