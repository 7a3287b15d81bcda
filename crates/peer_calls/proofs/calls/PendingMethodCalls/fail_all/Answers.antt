-- The first closing error stays.
use Rattle.std.proofs.Common.{refl, sym, ◌∙◌, ap, is_some}
use Rattle.wire_message.specs.Plain.{first_of}
use Rattle.peer_calls.specs.Refinement.{CallsView}
use Rattle.peer_calls.proofs.CallsAfter.{shut, first_none, first_some}
use Rattle.peer_calls.proofs.calls.PendingMethodCalls.fail_all.Goals as goal

pub returns-then-is_none : goal.returns-then-is_none
returns-then-is_none c h left =
    shut c.args.error.now c.args.self.now _ h (ap (λ (v : CallsView). v.slots) c.self.view_is)
    (rw c.requires at c.of-self-inside.ensures ∙ first_none c.self.inside.closing c.args.error.now c.if-is_none.ensures ∙ ap (λ (v : CallsView). first_of v.closing c.args.error.now) c.self.view_is) left

pub returns-else-is_none : goal.returns-else-is_none
returns-else-is_none c h left =
    shut c.args.error.now c.args.self.now _ h refl
    (first_some c.args.self.now.closing c.args.error.now (sym (ap (λ (v : CallsView). is_some v.closing) c.self.view_is) ∙ c.if-is_none.ensures)) left
