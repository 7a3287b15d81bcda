-- A poll gives what is kept of the call, once.
use Rattle.std.proofs.Common.{refl, sym, ◌∙◌, ap, subst, Some, None, set, get_or}
use Rattle.peer_calls.specs.{Calls.polled_by, Refinement.{CallsView, IsIndex}, Names.Slot}
use Rattle.peer_calls.proofs.{CallsAfter.{gives_slot, slot_gives_empty, slot_gives_waiting, slot_gives_reply, spent}, Index.{index_idle, reply_idle}}
use Rattle.peer_calls.proofs.calls.PendingMethodCalls.poll.Goals as goal

pub returns-then-is_empty-clause-answer : goal.returns-then-is_empty-clause-answer
returns-then-is_empty-clause-answer c h left =
    sym (slot_gives_empty (get_or c.self.inside.slots c.args.call Slot.Gone) c.self.inside.closing (sym c.is_empty.ensures ∙ c.if-is_empty.true))
    ∙ gives_slot c.self.inside.slots c.self.inside.closing c.args.self.now h c.args.call c.self.view_is left

-- ---- the reply

pub invariant_of-self : goal.invariant_of-self
invariant_of-self c open_ =
    subst (IsIndex c.self.inside.waiting) (sym c.in-Some.ensures.rest)
    (index_idle c.self.inside.waiting c.self.inside.slots c.args.call Slot.Gone (get_or c.self.inside.slots c.args.call Slot.Gone) (λ q. refl)
    (reply_idle (get_or c.self.inside.slots c.args.call Slot.Gone) c.in-Some.message (sym c.in-Some.ensures.value)) refl (c.self.invariant open_))

pub returns-in-Some-clause-answer : goal.returns-in-Some-clause-answer
returns-in-Some-clause-answer c h left =
    sym (slot_gives_reply (get_or c.self.inside.slots c.args.call Slot.Gone) c.self.inside.closing c.in-Some.message (sym c.in-Some.ensures.value))
    ∙ gives_slot c.self.inside.slots c.self.inside.closing c.args.self.now h c.args.call c.self.view_is left

pub returns-in-Some-clause-left : goal.returns-in-Some-clause-left
returns-in-Some-clause-left c h left =
    spent c.args.call c.args.self.now _ h
    (c.in-Some.ensures.rest ∙ ap (λ (v : CallsView). set v.slots c.args.call Slot.Gone) c.self.view_is)
    (ap (λ (v : CallsView). v.closing) c.self.view_is) left

-- ---- without a reply

pub returns-in_default-closing-clause-answer : goal.returns-in_default-closing-clause-answer
returns-in_default-closing-clause-answer c h left =
    ap (polled_by None) (sym c.in_default-closing.is)
    ∙ sym (slot_gives_waiting (get_or c.self.inside.slots c.args.call Slot.Gone) c.self.inside.closing (sym c.is_empty.ensures ∙ c.if-is_empty.false) (sym c.in_default.ensures.value))
    ∙ gives_slot c.self.inside.slots c.self.inside.closing c.args.self.now h c.args.call c.self.view_is left

pub returns-clause-answer : goal.returns-clause-answer
returns-clause-answer c h left =
    ap (λ error. polled_by None (Some error)) c.from.ensures
    ∙ ap (polled_by None) (sym c.in-Some-closing.is)
    ∙ sym (slot_gives_waiting (get_or c.self.inside.slots c.args.call Slot.Gone) c.self.inside.closing (sym c.is_empty.ensures ∙ c.if-is_empty.false) (sym c.in_default.ensures.value))
    ∙ gives_slot c.self.inside.slots c.self.inside.closing c.args.self.now h c.args.call c.self.view_is left

pub returns-clause-left : goal.returns-clause-left
returns-clause-left c h left =
    spent c.args.call c.args.self.now _ h
    (c.take.ensures.rest ∙ ap (λ ss. set ss c.args.call Slot.Gone) c.in_default.ensures.rest ∙ ap (λ (v : CallsView). set v.slots c.args.call Slot.Gone) c.self.view_is)
    (ap (λ (v : CallsView). v.closing) c.self.view_is) left
