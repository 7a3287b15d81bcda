-- The counter counts, and tells the count.
use Rattle.std.proofs.Common.{◌≡◌, refl, ap, ◌∙◌, [], ◌∷◌, ℕ, true, List, Result, Ok, Err, IfOk}
use Rattle.wire_tree.specs.Datum.{num, uint32}
use Rattle.object_interface.specs.declared.answer.DispatchResult2.{DispatchResult2}
use Rattle.examples.specs.Example.{Counts, is_next, next, tells}

pub counts : {E : Type 0} (r : Result DispatchResult2 E) (member : List ℕ) (count later : ℕ) → is_next member ≡ true
    → IfOk r (λ _. later ≡ next count) → IfOk r (λ a. a ≡ tells (num uint32 later)) → IfOk r (λ a. Counts (count ∷ []) member a (later ∷ []))
counts (Ok a) member count later is counted told = Counts.Next count is refl (ap (λ n. n ∷ []) counted) (told ∙ ap (λ n. tells (num uint32 n)) counted)
counts (Err e) member count later is counted told = tt
