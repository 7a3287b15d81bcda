-- What the values of a list feed a hasher.
use Rattle.std.proofs.Common.{◌≡◌, ℕ, zero, suc, ◌<◌, List, [], ◌∷◌, ◌++◌, length, fold, get_or, map, take, refl, sym, ◌∙◌, ap, arith, append_assoc, append-nil}
use Rattle.wire_tree.specs.Datum.{FixedType, Datum, num, num_type, array, dict, data_of, list_of, entries_of}
use Rattle.wire_tree.specs.DatumView.{datum_of, pair_of, entry_of}
use Rattle.std.specs.Hash.{le_bytes}
use Rattle.std.specs.Hash as fed
use Rattle.wire_signature.specs.declared.basic.BasicType.{BasicType}
use Rattle.wire_signature.specs.SingleType.{SingleType, letter}
use Rattle.wire_tree.specs.Equal.{writes, writes_of, writes_in}
use Rattle.wire_tree.specs.declared.tree.Tree.{Tree}
use Rattle.wire_tree.proofs.Parts.{entries_are}
use Rattle.wire_tree.proofs.Lists.{list_of-data_of}

counted : {A : Type 0} (f : A → Datum) (xs : List A) → length (list_of (data_of (map f xs))) ≡ length xs
counted f [] = refl
counted f (x ∷ xs) = ap suc (counted f xs)

-- one value more, as it is seen by a function
pub writes_of-take : {A : Type 0} (f : A → Datum) (xs : List A) (i : ℕ) (x : A) → i < length xs → x ≡ get_or xs i x
    → writes_of (data_of (map f (take (suc i) xs))) ≡ writes_of (data_of (map f (take i xs))) ++ writes (f x)
writes_of-take f [] i x h e = absurd (omega arith)
writes_of-take f (a ∷ xs) zero x h e = append-nil (writes (f a)) ∙ sym (ap (λ u. writes (f u)) e)
writes_of-take f (a ∷ xs) (suc i) x h e =
    ap (λ r. writes (f a) ++ r) (writes_of-take f xs i x (omega arith) e)
    ∙ sym (append_assoc (writes (f a)) (writes_of (data_of (map f (take i xs)))) (writes (f x)))

-- one key and value more
pub writes_in-take : (ps : List (Tree × Tree)) (i : ℕ) (p : Tree × Tree) → i < length ps → p ≡ get_or ps i p
    → writes_in (entries_of (map pair_of (take (suc i) ps))) ≡ (writes_in (entries_of (map pair_of (take i ps))) ++ writes (datum_of p.0)) ++ writes (datum_of p.1)
writes_in-take [] i p h e = absurd (omega arith)
writes_in-take (a ∷ ps) zero p h e =
    append-nil (writes (datum_of a.0) ++ (writes (datum_of a.1) ++ [])) ∙ ap (λ w. writes (datum_of a.0) ++ w) (append-nil (writes (datum_of a.1)))
    ∙ sym (ap (λ u. writes (datum_of u.0) ++ writes (datum_of u.1)) e)
writes_in-take (a ∷ ps) (suc i) p h e =
    ap (λ r. (writes (datum_of a.0) ++ (writes (datum_of a.1) ++ [])) ++ r) (writes_in-take ps i p (omega arith) e) ∙ grind (arith, append_assoc)

module _ {S : Type 0} (write : S → List ℕ → S) (s s1 s2 s3 : S) (d : Datum) where
  pub fed_array : (n : ℕ) (es : List Datum) (t : SingleType) → d ≡ array t (data_of es) → n ≡ length es
      → s1 ≡ write s (97 ∷ []) → s2 ≡ write s1 (le_bytes 8 n) → s3 ≡ fold write s2 (writes_of (data_of es)) → s3 ≡ fold write s (writes d)
  fed_array n es t e l p q r =
      r ∙ ap (λ x. fold write x (writes_of (data_of es))) (q ∙ ap (λ x. write x (le_bytes 8 n)) p)
      ∙ ap (λ k. fold write (write (write s (97 ∷ [])) (le_bytes 8 k)) (writes_of (data_of es))) (l ∙ sym (ap length (list_of-data_of es)))
      ∙ ap (λ x. fold write s (writes x)) (sym e)

  pub fed_dict : (ps : List (Tree × Tree)) (es : List (Datum × Datum)) (k : BasicType) (v : SingleType) → d ≡ dict k v (entries_of es) → map pair_of ps ≡ es
      → s1 ≡ write s (123 ∷ []) → s2 ≡ write s1 (le_bytes 8 (length ps)) → s3 ≡ fold write s2 (writes_in (entries_of (map pair_of ps)))
      → s3 ≡ fold write s (writes d)
  fed_dict ps es k v e f p q r =
      r ∙ ap (λ x. fold write x (writes_in (entries_of (map pair_of ps)))) (q ∙ ap (λ x. write x (le_bytes 8 (length ps))) p)
      ∙ ap (λ n. fold write (write (write s (123 ∷ [])) (le_bytes 8 n)) (writes_in (entries_of (map pair_of ps)))) (sym (ap (λ es. length (list_of es)) (entries_are ps) ∙ counted entry_of ps))
      ∙ ap (λ es. fold write s (writes (dict k v (entries_of es)))) f ∙ ap (λ x. fold write s (writes x)) (sym e)

-- a number, by its type's letter and its bits
pub fed_number : {S : Type 0} (write : S → List ℕ → S) (s t : S) (n : FixedType) (v l b : ℕ) → l ≡ letter (num_type n) → b ≡ v
    → t ≡ fold write s (fed.u8 l ++ fed.u64 b) → t ≡ fold write s (writes (num n v))
fed_number write s t n v l b e f p = p ∙ ap (λ k. fold write s (fed.u8 k ++ fed.u64 b)) e ∙ ap (λ k. fold write s (fed.u8 (letter (num_type n)) ++ fed.u64 k)) f
