-- What a lane's numbers name, once more calls or streams were made.
use Rattle.std.proofs.{Common.{◌≡◌, ℕ, zero, suc, ◌+◌, ◌==◌, refl, sym, ◌∙◌, ap, arith, true, false, if◌then◌else◌, [], ◌∷◌, ◌++◌, length, take, Option, Some, None}, lemmas.Bool.{eq-eqb, eqb-true}}
use Rattle.std.specs.List.{slice_get}
use Rattle.peer_route.specs.Replay.{Owners, handle_index, count}

pub place_append : (at lane number : ℕ) (owners more : Owners) (k : ℕ) → handle_index at lane number owners ≡ Some k → handle_index at lane number (owners ++ more) ≡ Some k
place_append at lane number [] more k e = cc
place_append at lane number (None ∷ owners) more k e = place_append (at + 1) lane number owners more k e
place_append at lane zero (Some l ∷ owners) more k e =
    elim (l == lane) as (λ b. (if b then Some at else handle_index (at + 1) lane zero owners) ≡ Some k → (if b then Some at else handle_index (at + 1) lane zero (owners ++ more)) ≡ Some k) [
      | true ↦ λ q. q
      | false ↦ λ q. place_append (at + 1) lane zero owners more k q
    ] e
place_append at lane (suc number) (Some l ∷ owners) more k e =
    elim (l == lane) as (λ b. (if b then handle_index (at + 1) lane number owners else handle_index (at + 1) lane (suc number) owners) ≡ Some k → (if b then handle_index (at + 1) lane number (owners ++ more) else handle_index (at + 1) lane (suc number) (owners ++ more)) ≡ Some k) [
      | true ↦ λ q. place_append (at + 1) lane number owners more k q
      | false ↦ λ q. place_append (at + 1) lane (suc number) owners more k q
    ] e

pub place_new : (at lane : ℕ) (owners : Owners) → handle_index at lane (count lane owners) (owners ++ Some lane ∷ []) ≡ Some (at + length owners)
place_new at lane [] =
    let e : (lane == lane) ≡ true = eq-eqb lane lane refl in
    rw e (ap Some (omega arith))
place_new at lane (None ∷ owners) = place_new (at + 1) lane owners ∙ ap Some (omega arith)
place_new at lane (Some l ∷ owners) =
    elim (l == lane) as (λ b. (l == lane) ≡ b → handle_index at lane (if b then count lane owners + 1 else count lane owners) (Some l ∷ owners ++ Some lane ∷ []) ≡ Some (at + length (Some l ∷ owners))) [
      | true ↦ λ e. place_past at lane l owners e (place_new (at + 1) lane owners ∙ ap Some (omega arith))
      | false ↦ λ e. place_other at lane (count lane owners) l owners e (place_new (at + 1) lane owners ∙ ap Some (omega arith))
    ] refl
  where
    place_past : (at lane l : ℕ) (owners : Owners) → (l == lane) ≡ true → handle_index (at + 1) lane (count lane owners) (owners ++ Some lane ∷ []) ≡ Some (at + length (Some l ∷ owners))
        → handle_index at lane (count lane owners + 1) (Some l ∷ owners ++ Some lane ∷ []) ≡ Some (at + length (Some l ∷ owners))
    place_past at lane l owners e q = let one : count lane owners + 1 ≡ suc (count lane owners) = omega arith in rw one (rw e q)

    place_other : (at lane n l : ℕ) (owners : Owners) → (l == lane) ≡ false → handle_index (at + 1) lane n (owners ++ Some lane ∷ []) ≡ Some (at + length (Some l ∷ owners))
        → handle_index at lane n (Some l ∷ owners ++ Some lane ∷ []) ≡ Some (at + length (Some l ∷ owners))
    place_other at lane zero l owners e q = rw e q
    place_other at lane (suc n) l owners e q = rw e q

-- ---- a number names one

-- the one that stands `i` places on belongs to the lane, and so many before it do
record Owned (at lane number : ℕ) (owners : Owners) (k : ℕ) : Type 0 where
  i : ℕ
  far : k ≡ at + i
  owner : slice_get owners i ≡ Some (Some lane)
  before : count lane (take i owners) ≡ number

owned_past : (at lane number n : ℕ) (o : Option ℕ) (owners : Owners) (k : ℕ) → ((i : ℕ) → count lane (take i owners) ≡ n → count lane (o ∷ take i owners) ≡ number) → Owned (at + 1) lane n owners k
    → Owned at lane number (o ∷ owners) k
owned_past at lane number n o owners k same r = let far = r.far in record { i = suc r.i; far = omega arith; owner = r.owner; before = same r.i r.before }

owned : (at lane number : ℕ) (owners : Owners) (k : ℕ) → handle_index at lane number owners ≡ Some k → Owned at lane number owners k
owned at lane number [] k e = cc
owned at lane number (None ∷ owners) k e = owned_past at lane number number None owners k (λ i q. q) (owned (at + 1) lane number owners k e)
owned at lane zero (Some l ∷ owners) k e =
    elim (l == lane) as (λ b. (l == lane) ≡ b → (if b then Some at else handle_index (at + 1) lane zero owners) ≡ Some k → Owned at lane zero (Some l ∷ owners) k) [
      | true ↦ λ same q. let here : at ≡ k = cc in record { i = 0; far = omega arith; owner = ap (λ x. Some (Some x)) (eqb-true l lane same); before = refl }
      | false ↦ λ other q. owned_past at lane zero zero (Some l) owners k (λ i r. rw other r) (owned (at + 1) lane zero owners k q)
    ] refl e
owned at lane (suc number) (Some l ∷ owners) k e =
    elim (l == lane) as (λ b. (l == lane) ≡ b → (if b then handle_index (at + 1) lane number owners else handle_index (at + 1) lane (suc number) owners) ≡ Some k → Owned at lane (suc number) (Some l ∷ owners) k) [
      | true ↦ λ same q. owned_past at lane (suc number) number (Some l) owners k (λ i r. rw same (omega arith)) (owned (at + 1) lane number owners k q)
      | false ↦ λ other q. owned_past at lane (suc number) (suc number) (Some l) owners k (λ i r. rw other r) (owned (at + 1) lane (suc number) owners k q)
    ] refl e

pub one_place : (owners : Owners) (lane number lane₂ number₂ k : ℕ) → handle_index 0 lane number owners ≡ Some k → handle_index 0 lane₂ number₂ owners ≡ Some k → (lane₂ ≡ lane) × (number₂ ≡ number)
one_place owners lane number lane₂ number₂ k p q =
    let a = owned 0 lane number owners k p in
    let b = owned 0 lane₂ number₂ owners k q in
    let far_a = a.far in
    let far_b = b.far in
    let one : b.i ≡ a.i = omega arith in
    let found : Some (Some lane₂) ≡ Some (Some lane) = sym b.owner ∙ ap (slice_get owners) one ∙ a.owner in
    let lanes : lane₂ ≡ lane = cc in
    (lanes, sym b.before ∙ ap (λ i. count lane₂ (take i owners)) one ∙ ap (λ l. count l (take a.i owners)) lanes ∙ a.before)

-- what a lane's number names is the lane's
pub named_owner : (owners : Owners) (lane number k : ℕ) → handle_index 0 lane number owners ≡ Some k → slice_get owners k ≡ Some (Some lane)
named_owner owners lane number k e =
    let o = owned 0 lane number owners k e in
    let far = o.far in
    let same : k ≡ o.i = omega arith in
    ap (slice_get owners) same ∙ o.owner
