-- What a map with texts as its keys gives, by the bytes of the keys.
use Rattle.std.proofs.Common.{◌≡◌, refl, ap, ℕ, List, [], ◌∷◌, map, Bool, true, false, cond, string_bytes, length, suc}
use Rattle.std.specs.List.{AllByRecursion}
use Rattle.std.specs.List.Sorted.{IsStrictlySortedBy}
use Rattle.std.specs.Cmp.Lexicographic.{slice_cmp}
use Rattle.std.specs.Ordering.{nat_cmp, match_ordering}
use Rattle.std.specs.declared.cmp.Ordering.{Ordering}
use Rattle.std.specs.declared.cmp.Ordering.TheVariants.{Less, Equal, Greater}
use Rattle.std.specs.String.{string_cmp}
use Rattle.std.specs.declared.string.String.{String}
use Rattle.std.specs.Map.{lookup, remove_entry, set_value, keys_of}
use Rattle.std.specs.BTreeMap.{insert_entry, is_at}
use Rattle.object_tree.specs.Objects.{text_cmp}

module _ {Y X : Type 0} where
  -- the entries, each with the bytes of its key
  abbrev pub keyed : List (String Y × X) → List (List ℕ × X)
  keyed es = map {B = List ℕ × X} (λ (e : String Y × X). (string_bytes e.0, e.1)) es

  pub lookup_keyed : (q : List ℕ) (es : List (String Y × X)) → lookup (is_at (text_cmp q)) (keyed es) ≡ lookup (is_at (λ k. slice_cmp nat_cmp q (string_bytes k))) es
  lookup_keyed q [] = refl
  lookup_keyed q (e ∷ es) = ap (cond (is_at (text_cmp q) (string_bytes e.0)) _) (lookup_keyed q es)

  pub remove_keyed : (q : List ℕ) (es : List (String Y × X)) → remove_entry (is_at (text_cmp q)) (keyed es) ≡ keyed (remove_entry (is_at (λ k. slice_cmp nat_cmp q (string_bytes k))) es)
  remove_keyed q [] = refl
  remove_keyed q (e ∷ es) = by (is_at (text_cmp q) (string_bytes e.0)) (remove_keyed q es)
    where
      by : (b : Bool) → remove_entry (is_at (text_cmp q)) (keyed es) ≡ keyed (remove_entry (is_at (λ k. slice_cmp nat_cmp q (string_bytes k))) es) → cond b (keyed es) ((string_bytes e.0, e.1) ∷ remove_entry (is_at (text_cmp q)) (keyed es)) ≡ keyed (cond b es (e ∷ remove_entry (is_at (λ k. slice_cmp nat_cmp q (string_bytes k))) es))
      by true h = refl
      by false h = ap (λ r. (string_bytes e.0, e.1) ∷ r) h

  pub set_keyed : (q : List ℕ) (es : List (String Y × X)) (w : X) → set_value (is_at (text_cmp q)) (keyed es) w ≡ keyed (set_value (is_at (λ k. slice_cmp nat_cmp q (string_bytes k))) es w)
  set_keyed q [] w = refl
  set_keyed q (e ∷ es) w = by (is_at (text_cmp q) (string_bytes e.0)) (set_keyed q es w)
    where
      by : (b : Bool) → set_value (is_at (text_cmp q)) (keyed es) w ≡ keyed (set_value (is_at (λ k. slice_cmp nat_cmp q (string_bytes k))) es w) → cond b ((string_bytes e.0, w) ∷ keyed es) ((string_bytes e.0, e.1) ∷ set_value (is_at (text_cmp q)) (keyed es) w) ≡ keyed (cond b ((e.0, w) ∷ es) (e ∷ set_value (is_at (λ k. slice_cmp nat_cmp q (string_bytes k))) es w))
      by true h = refl
      by false h = ap (λ r. (string_bytes e.0, e.1) ∷ r) h

  pub insert_keyed : (es : List (String Y × X)) (k : String Y) (v : X) → insert_entry text_cmp (keyed es) (string_bytes k) v ≡ keyed (insert_entry string_cmp es k v)
  insert_keyed [] k v = refl
  insert_keyed (e ∷ es) k v = by (slice_cmp nat_cmp (string_bytes k) (string_bytes e.0)) (insert_keyed es k v)
    where
      by : (o : Ordering) → insert_entry text_cmp (keyed es) (string_bytes k) v ≡ keyed (insert_entry string_cmp es k v) → match_ordering o ((string_bytes k, v) ∷ (string_bytes e.0, e.1) ∷ keyed es) ((string_bytes e.0, v) ∷ keyed es) ((string_bytes e.0, e.1) ∷ insert_entry text_cmp (keyed es) (string_bytes k) v) ≡ keyed (match_ordering o ((k, v) ∷ e ∷ es) ((e.0, v) ∷ es) (e ∷ insert_entry string_cmp es k v))
      by Less h = refl
      by Equal h = refl
      by Greater h = ap (λ r. (string_bytes e.0, e.1) ∷ r) h

  below_keyed : (k : String Y) (es : List (String Y × X)) → AllByRecursion (λ y. string_cmp k y ≡ Less) (keys_of es) → AllByRecursion (λ y. text_cmp (string_bytes k) y ≡ Less) (keys_of (keyed es))
  below_keyed k [] h = h
  below_keyed k (e ∷ es) h = (h.0, below_keyed k es h.1)

  pub sorted_keyed : (es : List (String Y × X)) → IsStrictlySortedBy string_cmp (keys_of es) → IsStrictlySortedBy text_cmp (keys_of (keyed es))
  unfolding IsStrictlySortedBy
  sorted_keyed [] h = h
  sorted_keyed (e ∷ es) h = (below_keyed e.0 es h.0, sorted_keyed es h.1)

  pub length_keyed : (es : List (String Y × X)) → length (keyed es) ≡ length es
  length_keyed [] = refl
  length_keyed (e ∷ es) = ap suc (length_keyed es)
