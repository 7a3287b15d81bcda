-- A call that is over is unknown; another is over from now on.
use Rattle.std.proofs.Common.{sym, ◌∙◌, ap, set, get_or}
use Rattle.peer_calls.specs.{Names.Slot, Refinement.CallsView}
use Rattle.peer_calls.proofs.{CallsAfter.spent, Drops.{drops_slot, slot_drops_gone, slot_drops_there}}
use Rattle.peer_calls.proofs.calls.PendingMethodCalls.drop_call.Goals as goal

pub returns-then-is_empty-clause-answer : goal.returns-then-is_empty-clause-answer
returns-then-is_empty-clause-answer c h left =
    sym (slot_drops_gone (get_or c.self.inside.slots c.args.call Slot.Gone) (sym c.is_empty.ensures ∙ c.if-is_empty.true))
    ∙ drops_slot c.self.inside.slots c.self.inside.closing c.args.self.now h c.args.call c.self.view_is left

pub returns-clause-answer : goal.returns-clause-answer
returns-clause-answer c h left =
    sym (slot_drops_there (get_or c.self.inside.slots c.args.call Slot.Gone) (sym c.is_empty.ensures ∙ c.if-is_empty.false))
    ∙ drops_slot c.self.inside.slots c.self.inside.closing c.args.self.now h c.args.call c.self.view_is left

pub returns-clause-left : goal.returns-clause-left
returns-clause-left c h left =
    spent c.args.call c.args.self.now _ h
    (c.forget.ensures.slots ∙ ap (λ (v : CallsView). set v.slots c.args.call Slot.Gone) c.self.view_is)
    (ap (λ (v : CallsView). v.closing) c.self.view_is) left
