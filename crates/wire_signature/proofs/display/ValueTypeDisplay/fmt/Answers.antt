use Rattle.wire_signature.proofs.Ascii.{type_utf8}
use Rattle.wire_signature.proofs.display.ValueTypeDisplay.fmt.Goals as goal

pub write_text-requires : goal.write_text-requires
write_text-requires g c = type_utf8 _ c.args.self.now c.put_text-end.ensures.text.text
