use Rattle.wire_tree.specs.Datum.{string}
use Rattle.wire_number.specs.ReaderView.{cursor_of}
use Rattle.wire_argument.proofs.TextReads.{text_read}
use Rattle.wire_argument.proofs.texts.TextArgument.decode.Goals as goal

pub returns : goal.returns
returns c = rw (text_read string c.args._room c.args.order (cursor_of c.args.reader)) c.read_text.ensures
