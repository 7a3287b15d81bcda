-- Lists as they are read.
use Rattle.std.proofs.Common.{◌≡◌, ℕ, zero, suc, List, [], ◌∷◌, length, map, Option, Some, None, option_map, refl, sym, ◌∙◌, ap, arith}
use Rattle.wire_number.specs.declared.endian.Endian.{Endian}
use Rattle.wire_number.specs.Reading.{Cursor, Parse, made, ◌>>=◌}
use Rattle.wire_number.proofs.Steps.{bound_some}
use Rattle.wire_signature.specs.SingleType.{SingleType, array as array_of}
use Rattle.wire_tree.specs.Datum.{Datum}
use Rattle.wire_encoding.specs.Reading.{none_at, more_at, many_at, elements_at, array_at, value_at}

none_made : {A B : Type 0} (f : A → B) (bytes : List ℕ) → none_at bytes ≡ option_map (map f) (none_at bytes)
none_made f [] = refl
none_made f (b ∷ bs) = refl

more_made : {A B : Type 0} (f : A → B) (read : Cursor → Parse A) (others : Cursor → Option (List A)) (made_others : Cursor → Option (List B))
    → ((c : Cursor) → made_others c ≡ option_map (map f) (others c)) → (c : Cursor) (bytes : List ℕ)
    → more_at made_others (λ c. made f (read c)) c bytes ≡ option_map (map f) (more_at others read c bytes)
more_made f read others made_others same c [] = refl
more_made {A} {B} f read others made_others same c (b ∷ bs) = by (read c) where
  join : (a : A) (o : Option (List A)) → (option_map (map f) o >>= λ xs. Some (f a ∷ xs)) ≡ option_map (map f) (o >>= λ xs. Some (a ∷ xs))
  join a None = refl
  join a (Some xs) = refl

  by : (found : Parse A) → (made f found >>= λ x. made_others x.1 >>= λ xs. Some (x.0 ∷ xs)) ≡ option_map (map f) (found >>= λ x. others x.1 >>= λ xs. Some (x.0 ∷ xs))
  by None = refl
  by (Some x) = ap (λ o. o >>= λ xs. Some (f x.0 ∷ xs)) (same x.1) ∙ join x.0 (others x.1)

-- items that are each made into something are the list of what is made
pub many_made : {A B : Type 0} (f : A → B) (read : Cursor → Parse A) (m : ℕ) (c : Cursor) → many_at m (λ c. made f (read c)) c ≡ option_map (map f) (many_at m read c)
unfolding many_at
many_made f read zero c = none_made f c.rest
many_made f read (suc m) c = more_made f read (many_at m read) (many_at m (λ c. made f (read c))) (λ c. many_made f read m c) c c.rest

-- an array's items, each made into something
pub array_made : {B : Type 0} (f : Datum → B) (make : List Datum → Datum) (read : Datum → List B) (boundary : ℕ) (item : Cursor → Parse Datum) (order : Endian) (c : Cursor) (x : Cursor × Cursor)
    → ((ds : List Datum) → read (make ds) ≡ map f ds) → elements_at order boundary c ≡ Some x
    → made read (made make (array_at boundary item order c)) ≡ (many_at (length x.0.rest) (λ c. made f (item c)) x.0 >>= λ ys. Some (ys, x.1))
unfolding array_at
array_made {B} f make read boundary item order c x same e =
    ap (λ o. made read (made make o)) (bound_some _ _ _ e) ∙ by (many_at (length x.0.rest) item x.0)
    ∙ ap (λ o. o >>= λ ys. Some (ys, x.1)) (sym (many_made f item (length x.0.rest) x.0)) where
      by : (o : Option (List Datum)) → made read (made make (o >>= λ xs. Some (xs, x.1))) ≡ (option_map (map f) o >>= λ ys. Some (ys, x.1))
      by None = refl
      by (Some ds) = ap (λ ys. Some (ys, x.1)) (same ds)

pub no_array : {B : Type 0} (make : List Datum → Datum) (read : Datum → List B) (boundary : ℕ) (item : Cursor → Parse Datum) (order : Endian) (c : Cursor)
    → elements_at order boundary c ≡ None → made read (made make (array_at boundary item order c)) ≡ None
unfolding array_at
no_array make read boundary item order c e = ap (λ o. made read (made make (o >>= λ x. many_at (length x.0.rest) item x.0 >>= λ xs. Some (xs, x.1)))) e

pub none_inside : {A : Type 0} (f : Datum → A) (room : ℕ) (order : Endian) (t : SingleType) (c : Cursor) → room ≡ 0 → made f (value_at room order (array_of t) c) ≡ None
unfolding value_at
none_inside f zero order t c e = refl
none_inside f (suc room) order t c e = absurd (omega (arith, e))

-- the boundary of a reader's elements
pub begun : (order : Endian) (boundary other : ℕ) (c : Cursor) (found : Option (Cursor × Cursor)) → boundary ≡ other → elements_at order boundary c ≡ found → elements_at order other c ≡ found
begun order boundary other c found same e = ap (λ k. elements_at order k c) (sym same) ∙ e
