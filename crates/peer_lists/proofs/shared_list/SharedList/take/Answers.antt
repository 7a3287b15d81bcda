-- The cursor moves on, and a copy goes.
use Rattle.std.proofs.{Common.{◌≡◌, ◌+◌, ◌-◌, ◌<◌, ◌==◌, if◌then◌else◌, sym, ◌∙◌, ap, subst, refl, arith, length, set, slice_get, ℕ, zero, suc, inl, inr, List, [], ◌∷◌, nat_eq, Some, None, option_map, is_some}, lemmas.Bool.{cases_eq, eq-eqb, ne_eqb, cond-true, cond-false}, lemmas.Option.{none-some, same_Some, slice_get_read, slice_get_past}}
use Rattle.std.specs.{Option.{option_copied}}
use Rattle.wire_message.specs.Front.{MessageView}
use Rattle.peer_lists.specs.{Entries.Kept, Holdings.{held_by, first_by, without_first}, Cursors.AreShared}
use Rattle.peer_lists.proofs.{Steps.{stands, shared_taken, shared_passed, is_first}, Views.{held_is, held_kept, first_none, first_waits, first_at, held_taken, held_shifted, messages-set, nothing_left}}
use Rattle.peer_lists.proofs.shared_list.SharedList.take.Goals as goal

-- where one copy is taken, another was there
other_given : (n : ℕ) (m x : MessageView) → Some m ≡ (if n == 0 then None else Some x) → (0 < n) × (m ≡ x)
other_given n m x e = elim (cases_eq n 0) [
  | inl none ↦ absurd (none-some m (sym (e ∙ cond-true (nat_eq n 0) None (Some x) (eq-eqb n 0 none))))
  | inr some ↦ (omega arith, same_Some m x (e ∙ cond-false (nat_eq n 0) None (Some x) (ne_eqb n 0 some)))
]

-- and where none is, none was
none_given : (n : ℕ) (x : MessageView) → None ≡ (if n == 0 then None else Some x) → n ≡ 0
none_given n x e = elim (cases_eq n 0) [
  | inl none ↦ none
  | inr some ↦ absurd (none-some x (e ∙ cond-false (nat_eq n 0) None (Some x) (ne_eqb n 0 some)))
]

-- where none was there, the copies are as they were
same_copies : (xs : List Kept) (i : ℕ) (e x : Kept) → slice_get xs i ≡ Some e → e.others ≡ 0 → x ≡ record e { others = e.others - 1 } → set xs i x ≡ xs
same_copies [] i e x there none is = refl
same_copies (y ∷ ys) zero e x there none is =
    let same : y ≡ e = same_Some y e there in
    let count : e.others - 1 ≡ e.others = omega (arith, none) in
    ap (λ z. z ∷ ys) (is ∙ ap (λ n. record { message = e.message; others = n }) count ∙ sym same)
same_copies (y ∷ ys) (suc i) e x there none is = ap (λ l. y ∷ l) (same_copies ys i e x there none is)

pub returns-in_err-get-clause-gives : goal.returns-in_err-get-clause-gives
returns-in_err-get-clause-gives c =
    c.from_residual.ensures
    ∙ first_none c.args.self.now c.args.stream (held_is c.self.inside.passed c.self.inside.entries.items c.self.inside.cursors c.args.self.now c.self.view_is c.args.stream None (sym c.get.ensures.value ∙ ap option_copied c.in_err-get.was))

pub returns-in_err-get-clause-left : goal.returns-in_err-get-clause-left
returns-in_err-get-clause-left c =
    let held = held_is c.self.inside.passed c.self.inside.entries.items c.self.inside.cursors c.args.self.now c.self.view_is c.args.stream None (sym c.get.ensures.value ∙ ap option_copied c.in_err-get.was) in
    held_kept c.args.self.now c.args.stream (option_map without_first) (held ∙ sym (ap (option_map without_first) held))

pub returns-in_err-cursor-clause-gives : goal.returns-in_err-cursor-clause-gives
returns-in_err-cursor-clause-gives c =
    c.from_residual-in_err-cursor.ensures
    ∙ first_waits c.args.self.now c.args.stream (held_is c.self.inside.passed c.self.inside.entries.items c.self.inside.cursors c.args.self.now c.self.view_is c.args.stream (Some None) (sym c.get.ensures.value ∙ ap option_copied c.in_ok-get.was ∙ ap (λ o. Some o) c.in_err-cursor.was))

pub returns-in_err-cursor-clause-left : goal.returns-in_err-cursor-clause-left
returns-in_err-cursor-clause-left c =
    let held = held_is c.self.inside.passed c.self.inside.entries.items c.self.inside.cursors c.args.self.now c.self.view_is c.args.stream (Some None) (sym c.get.ensures.value ∙ ap option_copied c.in_ok-get.was ∙ ap (λ o. Some o) c.in_err-cursor.was) in
    held_kept c.args.self.now c.args.stream (option_map without_first) (held ∙ sym (ap (option_map without_first) held))

pub returns-in_err-entry-clause-gives : goal.returns-in_err-entry-clause-gives
returns-in_err-entry-clause-gives c =
    let at = sym c.get.ensures.value ∙ ap option_copied c.in_ok-get.was ∙ ap (λ o. Some o) c.in_ok-cursor.was in
    let i = c.in_ok-cursor.cursor - c.self.inside.passed in
    c.from_residual-in_err-entry.ensures
    ∙ sym (ap (λ v. first_by v c.args.stream) (sym c.self.view_is) ∙ first_at c.self.inside.passed c.self.inside.entries.items c.self.inside.cursors c.args.stream c.in_ok-cursor.cursor at
    ∙ ap (option_map (λ (e : Kept). e.message)) (slice_get_past c.self.inside.entries.items i c.in_err-entry.ensures.item.3))

pub returns-in_err-entry-clause-left : goal.returns-in_err-entry-clause-left
returns-in_err-entry-clause-left c k =
    let at = sym c.get.ensures.value ∙ ap option_copied c.in_ok-get.was ∙ ap (λ o. Some o) c.in_ok-cursor.was in
    let i = c.in_ok-cursor.cursor - c.self.inside.passed in
    let none = sym (ap (λ v. first_by v c.args.stream) (sym c.self.view_is) ∙ first_at c.self.inside.passed c.self.inside.entries.items c.self.inside.cursors c.args.stream c.in_ok-cursor.cursor at
    ∙ ap (option_map (λ (e : Kept). e.message)) (slice_get_past c.self.inside.entries.items i c.in_err-entry.ensures.item.3)) in
    ap (λ v. held_by v k) c.self.view_is ∙ held_kept c.args.self.now c.args.stream (option_map without_first) (nothing_left (held_by c.args.self.now c.args.stream) none) k

pub invariant_of-self-in-Some : goal.invariant_of-self-in-Some
invariant_of-self-in-Some c =
    let at = sym c.get.ensures.value ∙ ap option_copied c.in_ok-get.was ∙ ap (λ o. Some o) c.in_ok-cursor.was in
    let i = c.in_ok-cursor.cursor - c.self.inside.passed in
    let e = c.in_ok-entry.entry.now in
    let place : c.in_ok-cursor.cursor ≡ c.self.inside.passed + i = omega (arith, stands c.self.invariant c.args.stream c.in_ok-cursor.cursor at) in
    let there = slice_get_read c.self.inside.entries.items (length c.self.inside.entries.items) i e refl c.in_ok-entry.ensures.item.3.0 c.in_ok-entry.ensures.value in
    let given = other_given e.others c.in-Some.message e.message c.in-Some.ensures.gives in
    subst (λ (x : Kept). AreShared c.self.inside.passed (set c.self.inside.entries.items i x) c.set_cursor.new.cursors c.self.inside.begun) (sym c.take_other.ensures.left)
    (shared_taken c.self.invariant c.set_cursor.new.cursors c.args.stream c.in_ok-cursor.cursor i e at place there given.0 c.set_cursor.ensures)

pub returns-in-Some-clause-gives : goal.returns-in-Some-clause-gives
returns-in-Some-clause-gives c =
    let at = sym c.get.ensures.value ∙ ap option_copied c.in_ok-get.was ∙ ap (λ o. Some o) c.in_ok-cursor.was in
    let i = c.in_ok-cursor.cursor - c.self.inside.passed in
    let e = c.in_ok-entry.entry.now in
    let there = slice_get_read c.self.inside.entries.items (length c.self.inside.entries.items) i e refl c.in_ok-entry.ensures.item.3.0 c.in_ok-entry.ensures.value in
    let given = other_given e.others c.in-Some.message e.message c.in-Some.ensures.gives in
    ap (λ m. Some m) given.1
    ∙ sym (ap (λ v. first_by v c.args.stream) (sym c.self.view_is) ∙ first_at c.self.inside.passed c.self.inside.entries.items c.self.inside.cursors c.args.stream c.in_ok-cursor.cursor at ∙ ap (option_map (λ (x : Kept). x.message)) there)

pub returns-in-Some-clause-left : goal.returns-in-Some-clause-left
returns-in-Some-clause-left c k =
    let at = sym c.get.ensures.value ∙ ap option_copied c.in_ok-get.was ∙ ap (λ o. Some o) c.in_ok-cursor.was in
    let i = c.in_ok-cursor.cursor - c.self.inside.passed in
    let e = c.in_ok-entry.entry.now in
    let there = slice_get_read c.self.inside.entries.items (length c.self.inside.entries.items) i e refl c.in_ok-entry.ensures.item.3.0 c.in_ok-entry.ensures.value in
    held_taken c.self.invariant (set c.self.inside.entries.items i c.take_other.new.self) c.set_cursor.new.cursors c.args.stream c.in_ok-cursor.cursor
    (messages-set c.self.inside.entries.items i e c.take_other.new.self there (sym (ap (λ (x : Kept). x.message) c.take_other.ensures.left))) at (c.set_cursor.ensures.3 (ap is_some at)) k
    ∙ ap (λ v. if c.args.stream == k then option_map without_first (held_by v k) else held_by v k) c.self.view_is

pub invariant_of-self-2 : goal.invariant_of-self-2
invariant_of-self-2 c =
    let at = sym c.get.ensures.value ∙ ap option_copied c.in_ok-get.was ∙ ap (λ o. Some o) c.in_ok-cursor.was in
    let i = c.in_ok-cursor.cursor - c.self.inside.passed in
    let e = c.in_ok-entry.entry.now in
    let xs = c.self.inside.entries.items in
    let place : c.in_ok-cursor.cursor ≡ c.self.inside.passed + i = omega (arith, stands c.self.invariant c.args.stream c.in_ok-cursor.cursor at) in
    let there = slice_get_read xs (length xs) i e refl c.in_ok-entry.ensures.item.3.0 c.in_ok-entry.ensures.value in
    let none = none_given e.others e.message c.in_default.ensures.gives in
    let whole : xs ≡ c.in_ok-first.first ∷ c.pop_front.new.self.items = sym (same_copies xs i e c.take_other.new.self there none c.take_other.ensures.left) ∙ c.in_ok-first.ensures.items in
    let zero_place = is_first c.self.invariant c.args.stream c.in_ok-cursor.cursor i e c.in_ok-first.first at place there none (ap (λ l. slice_get l 0) whole) in
    let front : c.in_ok-first.first ≡ e = same_Some c.in_ok-first.first e (sym (ap (λ l. slice_get l 0) whole) ∙ ap (slice_get xs) (sym zero_place) ∙ there) in
    shared_passed c.self.invariant c.set_cursor.new.cursors c.args.stream c.in_ok-cursor.cursor c.in_ok-first.first c.pop_front.new.self.items at (omega (arith, place, zero_place)) whole (ap (λ (x : Kept). x.others) front ∙ none) c.set_cursor.ensures

pub returns-clause-gives : goal.returns-clause-gives
returns-clause-gives c =
    let at = sym c.get.ensures.value ∙ ap option_copied c.in_ok-get.was ∙ ap (λ o. Some o) c.in_ok-cursor.was in
    let i = c.in_ok-cursor.cursor - c.self.inside.passed in
    let e = c.in_ok-entry.entry.now in
    let xs = c.self.inside.entries.items in
    let place : c.in_ok-cursor.cursor ≡ c.self.inside.passed + i = omega (arith, stands c.self.invariant c.args.stream c.in_ok-cursor.cursor at) in
    let there = slice_get_read xs (length xs) i e refl c.in_ok-entry.ensures.item.3.0 c.in_ok-entry.ensures.value in
    let none = none_given e.others e.message c.in_default.ensures.gives in
    let whole : xs ≡ c.in_ok-first.first ∷ c.pop_front.new.self.items = sym (same_copies xs i e c.take_other.new.self there none c.take_other.ensures.left) ∙ c.in_ok-first.ensures.items in
    let zero_place = is_first c.self.invariant c.args.stream c.in_ok-cursor.cursor i e c.in_ok-first.first at place there none (ap (λ l. slice_get l 0) whole) in
    ap (λ m. Some m) c.into_message.ensures
    ∙ sym (ap (λ v. first_by v c.args.stream) (sym c.self.view_is) ∙ first_at c.self.inside.passed xs c.self.inside.cursors c.args.stream c.in_ok-cursor.cursor at
    ∙ ap (option_map (λ (x : Kept). x.message)) (ap (slice_get xs) zero_place ∙ ap (λ l. slice_get l 0) whole))

pub returns-clause-left : goal.returns-clause-left
returns-clause-left c k =
    let at = sym c.get.ensures.value ∙ ap option_copied c.in_ok-get.was ∙ ap (λ o. Some o) c.in_ok-cursor.was in
    let i = c.in_ok-cursor.cursor - c.self.inside.passed in
    let e = c.in_ok-entry.entry.now in
    let xs = c.self.inside.entries.items in
    let there = slice_get_read xs (length xs) i e refl c.in_ok-entry.ensures.item.3.0 c.in_ok-entry.ensures.value in
    let none = none_given e.others e.message c.in_default.ensures.gives in
    let whole : xs ≡ c.in_ok-first.first ∷ c.pop_front.new.self.items = sym (same_copies xs i e c.take_other.new.self there none c.take_other.ensures.left) ∙ c.in_ok-first.ensures.items in
    held_shifted c.self.inside.passed (invariant_of-self-2 c) xs c.in_ok-first.first whole k
    ∙ held_taken c.self.invariant xs c.set_cursor.new.cursors c.args.stream c.in_ok-cursor.cursor refl at (c.set_cursor.ensures.3 (ap is_some at)) k
    ∙ ap (λ v. if c.args.stream == k then option_map without_first (held_by v k) else held_by v k) c.self.view_is
