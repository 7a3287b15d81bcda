use Rattle.wire_signature.specs.SingleType.{single_types_of}
use Rattle.wire_signature.proofs.Ascii.{types_utf8}
use Rattle.wire_signature.proofs.display.SignatureDisplay.fmt.Goals as goal

pub write_text-requires : goal.write_text-requires
write_text-requires g c = types_utf8 _ (single_types_of c.types.result.now) c.put_types-end.ensures.1
