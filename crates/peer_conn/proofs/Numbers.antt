-- What is kept for each lane is what its numbers name.
use Rattle.std.proofs.Common.{◌≡◌, ℕ, zero, suc, ◌+◌, ◌==◌, refl, sym, ◌∙◌, ap, arith, Bool, true, false, List, [], ◌∷◌, ◌++◌, append_assoc, append-nil, length, Option, Some, None, if◌then◌else◌, slice_get}
use Rattle.std.specs.{Option.option_map_or, Ordering.nat_cmp, BTreeMap.{BTreeMap, get}, Global.Vec}
use Rattle.peer_route.specs.Replay.{Owners, count, handle_index}
use Rattle.peer_conn.specs.Invariant.{is_of, places, kept_for}

-- the lane has as many as are counted
pub count-places : (at lane : ℕ) (owners : Owners) → count lane owners ≡ length (places at lane owners)
count-places at lane [] = refl
count-places at lane (None ∷ owners) = count-places (at + 1) lane owners
count-places at lane (Some l ∷ owners) = one_more (l == lane) (count lane owners) (places (at + 1) lane owners) (count-places (at + 1) lane owners)
  where
    one_more : (b : Bool) (n : ℕ) (ps : List ℕ) → n ≡ length ps → (if b then n + 1 else n) ≡ length ((if b then at ∷ [] else []) ++ ps)
    one_more true n ps e = omega (arith, e)
    one_more false n ps e = e

-- a number names the one that stands there
pub place-places : (at lane number : ℕ) (owners : Owners) → handle_index at lane number owners ≡ slice_get (places at lane owners) number
place-places at lane number [] = refl
place-places at lane number (None ∷ owners) = place-places (at + 1) lane number owners
place-places at lane zero (Some l ∷ owners) = first (l == lane) (handle_index (at + 1) lane 0 owners) (places (at + 1) lane owners) (place-places (at + 1) lane 0 owners)
  where
    first : (b : Bool) (o : Option ℕ) (ps : List ℕ) → o ≡ slice_get ps 0 → (if b then Some at else o) ≡ slice_get ((if b then at ∷ [] else []) ++ ps) 0
    first true o ps e = refl
    first false o ps e = e
place-places at lane (suc number) (Some l ∷ owners) =
    later (l == lane) (handle_index (at + 1) lane number owners) (handle_index (at + 1) lane (suc number) owners) (places (at + 1) lane owners) (place-places (at + 1) lane number owners) (place-places (at + 1) lane (suc number) owners)
  where
    later : (b : Bool) (o p : Option ℕ) (ps : List ℕ) → o ≡ slice_get ps number → p ≡ slice_get ps (suc number) → (if b then o else p) ≡ slice_get ((if b then at ∷ [] else []) ++ ps) (suc number)
    later true o p ps e f = e
    later false o p ps e f = f

-- one more at the end
pub places-push : (at lane : ℕ) (owners : Owners) (owner : Option ℕ) → places at lane (owners ++ owner ∷ []) ≡ places at lane owners ++ (if is_of owner lane then (at + length owners) ∷ [] else [])
places-push at lane [] owner = append-nil _ ∙ ap (λ n. if is_of owner lane then n ∷ [] else []) (let e : at ≡ at + 0 = omega arith in e)
places-push at lane (first ∷ owners) owner =
    let one = if is_of first lane then at ∷ [] else [] in
    let there : at + 1 + length owners ≡ at + suc (length owners) = omega arith in
    ap (λ ps. one ++ ps) (places-push (at + 1) lane owners owner)
    ∙ sym (append_assoc one (places (at + 1) lane owners) (if is_of owner lane then (at + 1 + length owners) ∷ [] else []))
    ∙ ap (λ n. (one ++ places (at + 1) lane owners) ++ (if is_of owner lane then n ∷ [] else [])) there

-- ---- the map that keeps them

pub kept-some : (lanes : BTreeMap ℕ (Vec ℕ)) (lane : ℕ) (owners : Owners) (v : Vec ℕ) → Some v ≡ get nat_cmp lanes lane → kept_for lanes lane ≡ places 0 lane owners → v.items ≡ places 0 lane owners
kept-some lanes lane owners v e k = ap (λ o. option_map_or (λ v. v.items) o []) e ∙ k

pub kept-none : (lanes : BTreeMap ℕ (Vec ℕ)) (lane : ℕ) (owners : Owners) → None ≡ get nat_cmp lanes lane → kept_for lanes lane ≡ places 0 lane owners → [] ≡ places 0 lane owners
kept-none lanes lane owners e k = ap (λ o. option_map_or (λ v. v.items) o []) e ∙ k

-- one number more
pub kept-push : (lanes next : BTreeMap ℕ (Vec ℕ)) (owners : Owners) (owner : Option ℕ) (at lane : ℕ) → at ≡ length owners
    → kept_for next lane ≡ kept_for lanes lane ++ (if is_of owner lane then at ∷ [] else [])
    → kept_for lanes lane ≡ places 0 lane owners → kept_for next lane ≡ places 0 lane (owners ++ owner ∷ [])
kept-push lanes next owners owner at lane h e k =
    let there : at ≡ 0 + length owners = omega (arith, h) in
    e ∙ ap (λ ps. ps ++ (if is_of owner lane then at ∷ [] else [])) k ∙ ap (λ n. places 0 lane owners ++ (if is_of owner lane then n ∷ [] else [])) there ∙ sym (places-push 0 lane owners owner)
