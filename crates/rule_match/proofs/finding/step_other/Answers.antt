use Rattle.wire_number.specs.ReaderView.{cursor_of}
use Rattle.rule_match.proofs.Walks.{are_bytes, no_type, nothing_there, other_next}
use Rattle.rule_match.proofs.finding.step_other.Goals as goal

pub returns-in_err-length-clause-none : goal.returns-in_err-length-clause-none
returns-in_err-length-clause-none c = rw c.from_residual.ensures (no_type c.args.order c.args.types.now (cursor_of c.args.reader) c.in_err-length.ensures.none)

pub returns-in_err-count-clause-none : goal.returns-in_err-count-clause-none
returns-in_err-count-clause-none c =
    rw c.from_residual-in_err-count.ensures (nothing_there c.args.order c.args.types.now (cursor_of c.args.reader) (are_bytes c.args.reader.rest.now c.tell_bytes.ensures) c.in_err-count.ensures.none)

pub returns-clause-found : goal.returns-clause-found
returns-clause-found c =
    rw (c.split_at.ensures.back, c.split_at-2.ensures.back)
    (other_next c.args.order c.args.types.now (cursor_of c.args.reader) c.in_ok-length.length c.in_ok-count.count c.in_ok-length.ensures.found
    c.requires.string c.requires.path c.in_ok-count.ensures.within c.in_ok-count.ensures.found)
