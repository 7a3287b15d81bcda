use Rattle.std.proofs.Common.{refl}
use Rattle.wire_tree.specs.Datum.{string}
use Rattle.wire_number.specs.ReaderView.{cursor_of}
use Rattle.rule_match.proofs.Walks.{text_next, no_text}
use Rattle.rule_match.proofs.finding.step_string.Goals as goal

pub returns-in_err-text-clause-none : goal.returns-in_err-text-clause-none
returns-in_err-text-clause-none c = rw c.from_residual.ensures (no_text c.args.order string c.args.types.now (cursor_of c.args.reader) c.in_err-text.ensures)

pub returns-clause-found : goal.returns-clause-found
returns-clause-found c =
    text_next c.args.order string c.args.types.now (cursor_of c.args.reader) (c.in_ok-text.text.now, cursor_of c.in_ok-text.reader) c.in_ok-text.ensures refl
