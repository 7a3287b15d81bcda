-- A stream that waits has no cursor.
use Rattle.std.proofs.{Common.{◌≡◌, ℕ, arith, length, List, sym, ◌∙◌, ap, refl, false, Option, Some, None, is_some, if◌then◌else◌, ◌==◌}, lemmas.Bool.false≢true, lemmas.List.length-map}
use Rattle.std.specs.{BTreeMap.get, Ordering.nat_cmp}
use Rattle.wire_message.specs.Front.{MessageView}
use Rattle.peer_lists.specs.{Holdings.held_by, Cursors.{behind, messages}}
use Rattle.peer_lists.proofs.{Steps.{shared_waits}, Views.{absent_at, held_new}}
use Rattle.peer_lists.proofs.shared_list.SharedList.reserve.Goals as goal

absent : {V : Type 0} (o : Option V) → is_some o ≡ false → o ≡ None
absent None e = refl
absent (Some x) e = absurd (false≢true (sym e))

pub invariant_of-self : goal.invariant_of-self
invariant_of-self c =
    shared_waits c.self.invariant c.insert.new.self c.args.stream (absent (get nat_cmp c.self.inside.cursors c.args.stream) (sym c.contains_key.ensures ∙ c.if-not-contains_key.true)) c.in_ok-insert.ensures.entries c.insert.ensures.ordered

pub returns-in_ok-insert-clause-ok : goal.returns-in_ok-insert-clause-ok
returns-in_ok-insert-clause-ok c none k =
    held_new c.self.inside.passed c.self.inside.entries.items c.self.inside.cursors c.insert.new.self c.args.stream (Some None) c.in_ok-insert.ensures.updates k
    ∙ ap (λ v. if c.args.stream == k then Some None else held_by v k) c.self.view_is

pub returns-else-not-contains_key-clause-ok : goal.returns-else-not-contains_key-clause-ok
returns-else-not-contains_key-clause-ok c none =
    absurd (false≢true (sym (c.if-not-contains_key.ensures ∙ ap is_some (absent_at c.self.inside.passed c.self.inside.entries.items c.self.inside.cursors c.args.stream (ap (λ v. held_by v c.args.stream) c.self.view_is ∙ none)))))

pub returns-in_ok-insert-clause-stay : goal.returns-in_ok-insert-clause-stay
returns-in_ok-insert-clause-stay c some none =
    let f : ℕ × Option ℕ → ℕ × Option (List MessageView) = λ e. (e.0, behind c.self.inside.passed (messages c.self.inside.entries.items) e.1) in
    let new : length c.insert.new.self.entries ≡ 0 = sym (length-map c.insert.new.self.entries f) ∙ none in
    let old : length c.self.inside.cursors.entries ≡ 0 = omega (arith, new, c.in_ok-insert.ensures.len) in
    some (ap length (sym c.self.view_is) ∙ length-map c.self.inside.cursors.entries f ∙ old)
