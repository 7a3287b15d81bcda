-- The call that waits for the message's reply serial takes it.
use Rattle.std.proofs.{Common.{◌≡◌, ℕ, sym, ◌∙◌, ap, set, get_or, is_some, true, subst}, lemmas.Bool.false≢true}
use Rattle.std.specs.List.{list_any}
use Rattle.peer_calls.specs.{History.{Received, after}, Refinement.{CallsView, RefinesCalls, IsIndex, is_waiting, is_internal_slot}, Names.Gone}
use Rattle.peer_calls.proofs.{CallsAfter.{took_by_none, took_past, took_first}, Slots.{reply_kept, reply_waits}, Index.{any_index, reply_there, index_removed, some_same, open_none, pending_open, answers_none, answers_serial, answers_shut}}
use Rattle.peer_calls.proofs.calls.PendingMethodCalls.complete_call.Goals as goal

-- ---- a closed peer

pub returns-then-is_some-clause-exact : goal.returns-then-is_some-clause-exact
returns-then-is_some-clause-exact c =
    answers_shut c.self.inside.slots c.self.inside.closing c.args.self.now c.args.message c.self.view_is (sym c.is_some.ensures ∙ c.if-is_some.true)

pub returns-then-is_some-clause-left : goal.returns-then-is_some-clause-left
returns-then-is_some-clause-left c h left open_ =
    absurd (false≢true (sym (ap (λ (v : CallsView). is_some v.closing) c.self.view_is ∙ ap is_some (left.closing ∙ open_)) ∙ sym c.is_some.ensures ∙ c.if-is_some.true))

-- ---- a message that answers no serial

pub returns-in_default-clause-exact : goal.returns-in_default-clause-exact
returns-in_default-clause-exact c = answers_none c.args.self.now c.args.message c.in_default.ensures

pub returns-in_default-clause-left : goal.returns-in_default-clause-left
returns-in_default-clause-left c h left open_ = took_by_none c.args.message c.args.self.now h c.in_default.ensures left

-- ---- a serial that no call waits for

pub returns-in-None-clause-exact : goal.returns-in-None-clause-exact
returns-in-None-clause-exact c =
    ap is_some (sym c.in-None.is ∙ c.remove.ensures.value)
    ∙ pending_open c.self.inside.waiting c.self.inside.slots c.self.inside.closing c.args.self.now c.in-Some.serial c.self.view_is
    (sym c.is_some.ensures ∙ c.if-is_some.false) c.self.invariant
    ∙ answers_serial c.args.self.now c.args.message c.in-Some.serial c.in-Some.ensures

pub returns-in-None-clause-left : goal.returns-in-None-clause-left
returns-in-None-clause-left c h left open_ =
    let i = c.self.invariant (open_none c.self.inside.closing (sym c.is_some.ensures ∙ c.if-is_some.false)) in
    let none = ap (λ (v : CallsView). list_any (is_waiting c.in-Some.serial) v.slots) (sym c.self.view_is)
    ∙ sym (any_index c.self.inside.waiting c.self.inside.slots c.in-Some.serial i) ∙ ap is_some (sym c.remove.ensures.value ∙ c.in-None.is) in
    subst (λ v. RefinesCalls v (after (Received c.args.message) h)) (sym c.self.view_is)
    (took_past c.args.message c.in-Some.serial c.args.self.now h c.in-Some.ensures none left)

-- ---- a serial that a call waits for

pub invariant_of-self-in-Some-remove : goal.invariant_of-self-in-Some-remove
invariant_of-self-in-Some-remove c open_ =
    let serial = c.in-Some.serial in
    let k = c.in-Some-remove.call in
    let ss = c.self.inside.slots in
    let i = c.self.invariant open_ in
    let was = i.there serial k (sym c.remove.ensures.value ∙ c.in-Some-remove.is) in
    let kept = reply_kept (is_internal_slot (get_or ss k Gone)) c.args.message in
    subst (IsIndex c.remove.new.self) (sym (c.put_reply.ensures ∙ ap (set ss k) (reply_there (get_or ss k Gone) serial c.args.message was)))
    (index_removed c.self.inside.waiting c.remove.new.self ss serial k kept (reply_waits (is_internal_slot (get_or ss k Gone)) c.args.message) was c.remove.ensures.updates i)

pub returns-in-Some-remove-clause-exact : goal.returns-in-Some-remove-clause-exact
returns-in-Some-remove-clause-exact c =
    ap is_some (sym c.in-Some-remove.is ∙ c.remove.ensures.value)
    ∙ pending_open c.self.inside.waiting c.self.inside.slots c.self.inside.closing c.args.self.now c.in-Some.serial c.self.view_is
    (sym c.is_some.ensures ∙ c.if-is_some.false) c.self.invariant
    ∙ answers_serial c.args.self.now c.args.message c.in-Some.serial c.in-Some.ensures

pub returns-in-Some-remove-clause-none : goal.returns-in-Some-remove-clause-none
returns-in-Some-remove-clause-none c h left =
    let none = open_none c.self.inside.closing (sym c.is_some.ensures ∙ c.if-is_some.false) in
    let m = c.args.message in
    let k = c.in-Some-remove.call in
    let items = c.self.inside.slots in
    let index = c.self.invariant none in
    let was = index.there c.in-Some.serial k (sym c.remove.ensures.value ∙ c.in-Some-remove.is) in
    let only : (j : ℕ) → is_waiting c.in-Some.serial (get_or items j Gone) ≡ true → j ≡ k =
    λ j w. some_same j k (sym (index.whole c.in-Some.serial j w) ∙ index.whole c.in-Some.serial k was) in
    took_first m c.in-Some.serial k c.args.self.now _ h c.in-Some.ensures
    (ap (λ (v : CallsView). is_waiting c.in-Some.serial (get_or v.slots k Gone)) (sym c.self.view_is) ∙ was)
    (subst (λ (v : CallsView). (j : ℕ) → is_waiting c.in-Some.serial (get_or v.slots j Gone) ≡ true → j ≡ k) c.self.view_is only)
    (c.put_reply.ensures ∙ ap (set items k) (reply_there (get_or items k Gone) c.in-Some.serial m was)
    ∙ ap (λ (v : CallsView). set v.slots k (reply_kept (is_internal_slot (get_or v.slots k Gone)) m)) c.self.view_is)
    (ap (λ (v : CallsView). v.closing) c.self.view_is) left
