use Rattle.wire_number.specs.ReaderView.{cursor_of}
use Rattle.wire_argument.proofs.TextReads.{signature_read}
use Rattle.wire_argument.proofs.texts.SignatureArgument.decode.Goals as goal

pub returns : goal.returns
returns c = rw (signature_read c.args._room c.args.order (cursor_of c.args.reader)) c.read_signature.ensures
