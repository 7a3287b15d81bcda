use Rattle.std.proofs.Common.{◌≡◌, ◌≤◌, ◌∙◌, sym, length, None, Some, arith, rules}
use Rattle.wire_message.specs.Front.{total}
use Rattle.wire_message.specs.Outcome.{head_fault}
use Rattle.wire_framing.proofs.Asked.{head_fault-take, total-take}
use Rattle.wire_framing.proofs.Whole.{spent_right, spent_refused}
use Rattle.wire_framing.proofs.read_to_message.consumed.Goals as goal

pub returns-clause-value : goal.returns-clause-value
returns-clause-value c =
    let b = c.args.bytes.now in
    let long : 16 ≤ length b = search rules in
    let right : head_fault b ≡ None = sym (head_fault-take b long) ∙ c.in-Ok.ensures.0 in
    let all : c.in-Ok.total ≡ total b = c.in-Ok.ensures.1 ∙ total-take b long in
    let is = spent_right b long right in
    omega (arith, is, all, c.min.ensures)

pub returns-in_default-clause-value : goal.returns-in_default-clause-value
returns-in_default-clause-value c =
    let b = c.args.bytes.now in
    let long : 16 ≤ length b = search rules in
    let fault : head_fault b ≡ Some c.in_default.field-0 = sym (head_fault-take b long) ∙ c.in_default.ensures in
    sym (spent_refused b c.in_default.field-0 long fault)
