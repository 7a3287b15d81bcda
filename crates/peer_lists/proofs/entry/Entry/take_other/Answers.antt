-- A copy that is taken is of the message.
use Rattle.std.proofs.{Common.{◌≡◌, ◌==◌, ◌+◌, ◌-◌, ◌<◌, ◌++◌, ◌∷◌, [], inl, inr, sym, ◌∙◌, ap, subst, arith, length, length-append, nat_eq, true, List, Option, Some, None, is_some, option_to_list, if◌then◌else◌}, lemmas.Bool.{cases_lt, cond-true, cond-false, eq-eqb, ne_eqb, false≢true}, lemmas.List.Elements.All-pop}
use Rattle.wire_message.specs.Front.{MessageView}
use Rattle.peer_lists.specs.Entries.{Kept, AreCopies}
use Rattle.peer_lists.proofs.entry.Entry.take_other.Goals as goal

popped : (xs ys : List MessageView) (r : Option MessageView) (m : MessageView) → xs ≡ ys ++ option_to_list r → AreCopies m xs → (0 < length xs → is_some r ≡ true) → (r ≡ (if length xs == 0 then None else Some m)) × (length ys ≡ length xs - 1)
popped xs ys None m is all some =
    let less : length xs ≡ 0 = elim (cases_lt 0 (length xs)) [ inl lt ↦ absurd (false≢true (some lt)) | inr le ↦ omega arith ] in
    (sym (cond-true (nat_eq (length xs) 0) None (Some m) (eq-eqb (length xs) 0 less)), omega (arith, less, ap length is, length-append ys []))
popped xs ys (Some x) m is all some =
    let more : length xs ≡ length ys + 1 = omega (arith, ap length is, length-append ys (x ∷ [])) in
    (ap (λ y. Some y) (All-pop (λ copy. copy ≡ m) xs ys (Some x) is all).1 ∙ sym (cond-false (nat_eq (length xs) 0) None (Some m) (ne_eqb (length xs) 0 (λ e. omega arith))), omega arith)

pub invariant_of-self : goal.invariant_of-self
invariant_of-self c = (All-pop (λ copy. copy ≡ c.self.inside.message) c.self.inside.others.items c.pop.new.self.items c.pop.result c.pop.ensures.items c.self.invariant).0

pub returns-clause-gives : goal.returns-clause-gives
returns-clause-gives c =
    (popped c.self.inside.others.items c.pop.new.self.items c.pop.result c.self.inside.message c.pop.ensures.items c.self.invariant (λ lt. c.pop.ensures.variant.1 (subst (λ n. 0 < n) (sym c.self.inside.others.ok.0) lt))).0
    ∙ ap (λ (k : Kept). if k.others == 0 then None else Some k.message) c.self.view_is

pub returns-clause-left : goal.returns-clause-left
returns-clause-left c =
    ap (λ n. record { message = c.self.inside.message; others = n }) (popped c.self.inside.others.items c.pop.new.self.items c.pop.result c.self.inside.message c.pop.ensures.items c.self.invariant (λ lt. c.pop.ensures.variant.1 (subst (λ n. 0 < n) (sym c.self.inside.others.ok.0) lt))).1
    ∙ ap (λ (k : Kept). record k { others = k.others - 1 }) c.self.view_is
