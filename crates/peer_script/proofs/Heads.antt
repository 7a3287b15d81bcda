-- Lines of no words, or of three and more, are no header lines.
use Rattle.std.proofs.Common.{◌≡◌, refl, ℕ, ◌≤◌, ◌<◌, List, [], ◌∷◌, length, map, None, arith}
use Rattle.peer_script.specs.Script.{head_line}

pub no_words : {A : Type 0} (f : A → List ℕ) (ws : List A) → length ws < 1 → None ≡ head_line (map f ws)
unfolding head_line
no_words f [] few = refl
no_words f (w ∷ ws) few = absurd (omega (arith, few))

pub more_words : {A : Type 0} (f : A → List ℕ) (ws : List A) → 3 ≤ length ws → None ≡ head_line (map f ws)
unfolding head_line
more_words f [] many = absurd (omega (arith, many))
more_words f (w ∷ []) many = absurd (omega (arith, many))
more_words f (w ∷ x ∷ []) many = absurd (omega (arith, many))
more_words f (w ∷ x ∷ y ∷ ws) many = refl
