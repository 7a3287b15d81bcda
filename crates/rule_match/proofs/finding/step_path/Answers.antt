use Rattle.std.proofs.Common.{refl}
use Rattle.wire_tree.specs.Datum.{object_path}
use Rattle.wire_number.specs.ReaderView.{cursor_of}
use Rattle.rule_match.proofs.Walks.{text_next, no_text}
use Rattle.rule_match.proofs.finding.step_path.Goals as goal

pub returns-in_err-path-clause-none : goal.returns-in_err-path-clause-none
returns-in_err-path-clause-none c = rw c.from_residual.ensures (no_text c.args.order object_path c.args.types.now (cursor_of c.args.reader) c.in_err-path.ensures)

pub returns-clause-found : goal.returns-clause-found
returns-clause-found c =
    text_next c.args.order object_path c.args.types.now (cursor_of c.args.reader) (c.in_ok-path.path.now, cursor_of c.in_ok-path.reader) c.in_ok-path.ensures refl
