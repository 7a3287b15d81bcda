use Rattle.wire_signature.specs.SingleType.{single_types_of}
use Rattle.wire_signature.proofs.Ascii.{types_utf8}
use Rattle.wire_message.proofs.bodies.signature_str.Goals as goal

pub from_utf8_unchecked-requires : goal.from_utf8_unchecked-requires
from_utf8_unchecked-requires c = types_utf8 c.args.bytes.now (single_types_of c.requires.0) c.requires.1.text
