-- One value of a list of values.
use Rattle.std.proofs.Common.{◌≡◌, ℕ, zero, suc, ◌+◌, ◌<◌, List, [], ◌∷◌, ◌++◌, length, get_or, map, take, refl, sym, ◌∙◌, ap, arith, append_assoc, append-nil}
use Rattle.wire_signature.specs.SingleType.{type_text, types_text}
use Rattle.wire_tree.specs.Datum.{Datum, Data, no_data, items, data_of, entries_of, size_of, sizes_of, type_of, types_of}
use Rattle.wire_tree.specs.DatumView.{datum_of, pair_of, entry_of}
use Rattle.wire_tree.specs.declared.tree.Tree.{Tree}

sizes_positive : (ds : Data) → 0 < sizes_of ds
sizes_positive no_data = omega arith
sizes_positive (items d ds) = omega (arith, sizes_positive ds)

size_at : {A : Type 0} (f : A → Datum) (xs : List A) (i : ℕ) (d : A) → i < length xs → size_of (f (get_or xs i d)) < sizes_of (data_of (map f xs))
size_at f [] i d h = absurd (omega arith)
size_at f (x ∷ xs) zero d h = omega (arith, sizes_positive (data_of (map f xs)))
size_at f (x ∷ xs) (suc i) d h = omega (arith, size_at f xs i d (omega arith))

-- a value of a list, as it is seen by a function, is smaller than the list
pub size_seen : {A : Type 0} (f : A → Datum) (xs : List A) (i : ℕ) (x : A) → i < length xs → x ≡ get_or xs i x → size_of (f x) < sizes_of (data_of (map f xs))
size_seen f xs i x h e = omega (arith, size_at f xs i x h, ap (λ y. size_of (f y)) e)

pub size_item : (ts : List Tree) (i : ℕ) (t : Tree) → i < length ts → t ≡ get_or ts i t → size_of (datum_of t) < sizes_of (data_of (map datum_of ts))
size_item ts i t h e = size_seen datum_of ts i t h e

-- dict entries, seen at once and by their keys and values
pub entries_are : (ps : List (Tree × Tree)) → entries_of (map pair_of ps) ≡ data_of (map entry_of ps)
entries_are [] = refl
entries_are (p ∷ ps) = ap (items (entry_of p)) (entries_are ps)

-- the texts of one type more
pub types_text-take : (ts : List Tree) (i : ℕ) (t : Tree) → i < length ts → t ≡ get_or ts i t
    → types_text (types_of (data_of (map datum_of (take (suc i) ts))))
    ≡ types_text (types_of (data_of (map datum_of (take i ts)))) ++ type_text (type_of (datum_of t))
types_text-take [] i t h e = absurd (omega arith)
types_text-take (u ∷ us) zero t h e = append-nil (type_text (type_of (datum_of u))) ∙ sym (ap (λ v. type_text (type_of (datum_of v))) e)
types_text-take (u ∷ us) (suc i) t h e =
    ap (λ r. type_text (type_of (datum_of u)) ++ r) (types_text-take us i t (omega arith) e)
    ∙ sym (append_assoc (type_text (type_of (datum_of u))) (types_text (types_of (data_of (map datum_of (take i us))))) (type_text (type_of (datum_of t))))

-- a key and its value are together smaller than the list
pub size_pair : (ps : List (Tree × Tree)) (i : ℕ) (p : Tree × Tree) → i < length ps → p ≡ get_or ps i p
    → size_of (datum_of p.0) + size_of (datum_of p.1) < sizes_of (entries_of (map pair_of ps))
size_pair ps i p h e = omega (arith, size_seen entry_of ps i p h e, ap sizes_of (entries_are ps))
