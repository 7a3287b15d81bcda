-- The test of two values tells whether they are one.
use Rattle.std.specs.Prelude.{◌≡◌, Bool, true, false, ◌&&◌, refl}
use Rattle.std.specs.Bool.{Decides}
use Rattle.std.specs.Cmp.{unsigned_Decides}
use Rattle.std.proofs.Common.{ap, sym, ◌∙◌}
use base.Stored.{Gv, gnil, gnum, gcons}
use Rattle.wire_tree.specs.Datum.{Datum}
use Rattle.wire_tree.specs.DatumCode.{code, code-inj}
use Rattle.wire_tree.specs.Equal.{alike, same}

left : (a b : Bool) → a && b ≡ true → a ≡ true
left true b e = refl
left false b e = absurd (cc)

right : (a b : Bool) → a && b ≡ true → b ≡ true
right true b e = e
right false b e = absurd (cc)

alike-one : (g h : Gv) → alike g h ≡ true → g ≡ h
alike-one gnil gnil e = refl
alike-one (gnum m) (gnum n) e = ap gnum ((unsigned_Decides m n).0 e)
alike-one (gcons a b) (gcons c d) e =
    let p : a ≡ c = alike-one a c (left (alike a c) (alike b d) e) in let q : b ≡ d = alike-one b d (right (alike a c) (alike b d) e) in cc
alike-one g h e = absurd (cc)

alike-self : (g : Gv) → alike g g ≡ true
alike-self gnil = refl
alike-self (gnum n) = (unsigned_Decides n n).1 refl
alike-self (gcons a b) = ap (λ c. c && alike b b) (alike-self a) ∙ alike-self b

-- The test says yes exactly where the two values are one.
pub same_decides : (d e : Datum) → Decides (same d e) (d ≡ e)
unfolding same
same_decides d e = (λ p. code-inj d e (alike-one (code d) (code e) p), λ p. ap (λ f. alike (code d) (code f)) (sym p) ∙ alike-self (code d))
