-- One block more, one command more of a kind, one piece more.
use Rattle.std.proofs.{Common.{ℕ, ◌≡◌, ◌+◌, ◌∙◌, ap, sym, List, [], ◌∷◌, ◌++◌, map, replicate, flat_map, append_assoc, arith}, lemmas.Grind.replicate_next, lemmas.List.flat_map_more, lemmas.List.FromFn.map-range_with_len_more}
use Rattle.std.specs.List.{range_with_len}
use Rattle.peer_gen.specs.declared.block.Block.{Block}
use Rattle.peer_gen.specs.Generated.{block_after, first_blocks}

-- an element more behind a list is one behind its last part
appended : {A : Type 0} (old part now new : List A) (x : A) → now ≡ old ++ part → new ≡ now ++ x ∷ [] → new ≡ old ++ (part ++ x ∷ [])
appended old part now new x e f = f ∙ ap (λ xs. xs ++ x ∷ []) e ∙ append_assoc old part (x ∷ [])

pub times_more : {A : Type 0} (old now new : List A) (x y : A) (n : ℕ) → now ≡ old ++ replicate n x → y ≡ x → new ≡ now ++ y ∷ [] → new ≡ old ++ replicate (n + 1) x
times_more old now new x y n e same f =
    appended old (replicate n x) now new x e (f ∙ ap (λ z. now ++ z ∷ []) same) ∙ ap (λ xs. old ++ xs) (sym (replicate_next n x))

pub made_more : {A : Type 0} (f : ℕ → A) (old now new : List A) (n : ℕ) → now ≡ old ++ map f (range_with_len 0 n) → new ≡ now ++ f n ∷ [] → new ≡ old ++ map f (range_with_len 0 (n + 1))
made_more f old now new n e g = appended old (map f (range_with_len 0 n)) now new (f n) e g ∙ ap (λ xs. old ++ xs) (sym (map-range_with_len_more f 0 n n (omega arith)))

pub block_more : {A : Type 0} (f : Block → List A) (count n : ℕ) (b : Block) (old now new : List A) → b ≡ block_after count n → now ≡ old ++ flat_map f (first_blocks count n) → new ≡ now ++ f b
    → new ≡ old ++ flat_map f (first_blocks count (n + 1))
block_more f count n b old now new is e g =
    g ∙ ap (λ xs. xs ++ f b) e ∙ ap (λ c. (old ++ flat_map f (first_blocks count n)) ++ f c) is
    ∙ flat_map_more f old (first_blocks count n) (block_after count n) ∙ ap (λ bs. old ++ flat_map f bs) (sym (map-range_with_len_more (block_after count) 0 n n (omega arith)))
