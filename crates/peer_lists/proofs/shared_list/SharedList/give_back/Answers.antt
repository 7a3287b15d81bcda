-- The message before the cursor has a copy more.
use Rattle.std.proofs.{Common.{◌≡◌, ◌+◌, ◌-◌, sym, ◌∙◌, ap, subst, refl, arith, length, set, Some, None, option_map, is_some, Result, Ok, Err, OnErr}, lemmas.Option.{none-some, same_Some, slice_get_read}}
use Rattle.std.specs.{BTreeMap.{get}, Ordering.nat_cmp}
use Rattle.peer_lists.specs.{Entries.Kept, Cursors.{behind, AreShared}}
use Rattle.peer_lists.proofs.{Steps.{stands, shared_given_back}, Views.{held_is, given_cursor, held_given_back, messages-set, held_at}}
use Rattle.peer_lists.proofs.shared_list.SharedList.give_back.Goals as goal

on-err : {A E P : Type 0} (r : Result A E) → P → OnErr r P
on-err (Ok x) p = tt
on-err (Err e) p = p

pub returns-in_default-clause-ok : goal.returns-in_default-clause-ok
returns-in_default-clause-ok c other j ms whole lt rest =
    absurd (none-some _ (sym (held_is c.self.inside.passed c.self.inside.entries.items c.self.inside.cursors c.args.self.now c.self.view_is c.args.stream None (sym c.get.ensures.value ∙ sym c.copied.ensures ∙ c.in_default.is)) ∙ rest))

pub returns-in_default-cursor-clause-ok : goal.returns-in_default-cursor-clause-ok
returns-in_default-cursor-clause-ok c other j ms whole lt rest =
    absurd (none-some _ (same_Some _ _ (sym (held_is c.self.inside.passed c.self.inside.entries.items c.self.inside.cursors c.args.self.now c.self.view_is c.args.stream (Some None) (sym c.get.ensures.value ∙ sym c.copied.ensures ∙ c.in-Some.is ∙ ap (λ o. Some o) c.in_default-cursor.is)) ∙ rest)))

pub returns-then-cursor-self-clause-ok : goal.returns-then-cursor-self-clause-ok
returns-then-cursor-self-clause-ok c other j ms whole lt rest =
    let at = sym c.get.ensures.value ∙ sym c.copied.ensures ∙ c.in-Some.is ∙ ap (λ o. Some o) c.in-Some-cursor.is in
    let h = given_cursor c.self.invariant c.args.self.now c.self.view_is c.args.stream c.in-Some-cursor.cursor other j ms at whole lt rest in
    absurd (omega (arith, h.1, h.2, c.if-cursor-self.true))

pub returns-in_err-put_other-clause-err : goal.returns-in_err-put_other-clause-err
returns-in_err-put_other-clause-err c =
    let i = c.in-Some-cursor.cursor - 1 - c.self.inside.passed in
    let e = c.in-Some-get_mut.entry.now in
    let xs = set c.self.inside.entries.items i c.put_other.new.self in
    let there = slice_get_read c.self.inside.entries.items (length c.self.inside.entries.items) i e refl c.in-Some-get_mut.ensures.item.3.0 c.in-Some-get_mut.ensures.value in
    let same = messages-set c.self.inside.entries.items i e c.put_other.new.self there (sym (ap (λ (x : Kept). x.message) c.in_err-put_other.ensures.err)) in
    on-err c.from_residual.result (λ k. held_at c.self.inside.passed xs c.self.inside.cursors k ∙ ap (λ l. option_map (behind c.self.inside.passed l) (get nat_cmp c.self.inside.cursors k)) same ∙ sym (held_is c.self.inside.passed c.self.inside.entries.items c.self.inside.cursors c.args.self.now c.self.view_is k (get nat_cmp c.self.inside.cursors k) refl))

pub invariant_of-self-2 : goal.invariant_of-self-2
invariant_of-self-2 c =
    let at = sym c.get.ensures.value ∙ sym c.copied.ensures ∙ c.in-Some.is ∙ ap (λ o. Some o) c.in-Some-cursor.is in
    let d = c.in-Some-cursor.cursor - 1 in
    let i = d - c.self.inside.passed in
    let e = c.in-Some-get_mut.entry.now in
    let stand = stands c.self.invariant c.args.stream c.in-Some-cursor.cursor at in
    let more : c.in-Some-cursor.cursor ≡ d + 1 = omega (arith, c.if-cursor-self.false, stand) in
    let place : d ≡ c.self.inside.passed + i = omega (arith, c.if-cursor-self.false, stand) in
    let there = slice_get_read c.self.inside.entries.items (length c.self.inside.entries.items) i e refl c.in-Some-get_mut.ensures.item.3.0 c.in-Some-get_mut.ensures.value in
    subst (λ (x : Kept). AreShared c.self.inside.passed (set c.self.inside.entries.items i x) c.set_cursor.new.cursors c.self.inside.begun) (sym c.in_ok-put_other.ensures.ok)
    (shared_given_back c.self.invariant c.set_cursor.new.cursors c.args.stream d i e (at ∙ ap (λ n. Some (Some n)) more) place there c.set_cursor.ensures)

pub returns-clause-ok : goal.returns-clause-ok
returns-clause-ok c other j ms whole lt rest k =
    let at = sym c.get.ensures.value ∙ sym c.copied.ensures ∙ c.in-Some.is ∙ ap (λ o. Some o) c.in-Some-cursor.is in
    let i = c.in-Some-cursor.cursor - 1 - c.self.inside.passed in
    let e = c.in-Some-get_mut.entry.now in
    let there = slice_get_read c.self.inside.entries.items (length c.self.inside.entries.items) i e refl c.in-Some-get_mut.ensures.item.3.0 c.in-Some-get_mut.ensures.value in
    let same = messages-set c.self.inside.entries.items i e c.put_other.new.self there (sym (ap (λ (x : Kept). x.message) c.in_ok-put_other.ensures.ok)) in
    held_given_back c.self.invariant c.args.self.now c.self.view_is (set c.self.inside.entries.items i c.put_other.new.self) c.set_cursor.new.cursors c.args.stream c.in-Some-cursor.cursor other j ms same at (c.set_cursor.ensures.3 (ap is_some at)) whole lt rest k
