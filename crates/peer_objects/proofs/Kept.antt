-- Each interface stays kept in its slot, and no two in one, where one is added or removed.
use Rattle.std.proofs.Common.{◌≡◌, refl, sym, ◌∙◌, ap, subst, ℕ, zero, suc, ◌<◌, List, [], ◌∷◌, ◌++◌, length, true, Option, Some, None, is_some, slice_get, slice_set, arith, ⊎_elim}
use Rattle.std.proofs.lemmas.Option.{slice_get_within}
use Rattle.object_tree.specs.Objects.{Objects, root, rows_at, slot_at, added, removed, gone_manager}
use Rattle.object_tree.specs.Standard.{manager_name}
use Rattle.object_tree.proofs.Removing.{slot_there}
use Rattle.peer_objects.specs.Serving.{Slots, IsKeptAt, emptied, AreKept}
use Rattle.peer_objects.proofs.Lookups.{added_cases, removed_cases, manager_there, added_sorted, removed_sorted, first_sorted, first_empty}

-- ---- lists

after_first : {X : Type 0} (y : X) (ys : List X) (j : ℕ) (x : X) → (0 ≡ j → ⊥) → slice_get (x ∷ ys) j ≡ slice_get (y ∷ ys) j
after_first y ys zero x ne = absurd (ne refl)
after_first y ys (suc j) x ne = refl

pub get_other : {X : Type 0} (xs : List X) (i j : ℕ) (x : X) → (i ≡ j → ⊥) → slice_get (slice_set xs i x) j ≡ slice_get xs j
get_other [] i j x ne = refl
get_other (y ∷ ys) zero j x ne = after_first y ys j x ne
get_other (y ∷ ys) (suc i) zero x ne = refl
get_other (y ∷ ys) (suc i) (suc j) x ne = get_other ys i j x (λ e. ne (ap suc e))

get_left : {X : Type 0} (xs ys : List X) (i : ℕ) → i < length xs → slice_get (xs ++ ys) i ≡ slice_get xs i
get_left [] ys i lt = absurd (omega arith)
get_left (x ∷ xs) ys zero lt = refl
get_left (x ∷ xs) ys (suc i) lt = get_left xs ys i (omega arith)

get_seam : {X : Type 0} (xs : List X) (x : X) → slice_get (xs ++ x ∷ []) (length xs) ≡ Some x
get_seam [] x = refl
get_seam (y ∷ xs) x = get_seam xs x

module _ {B : Type 0} (title : B → List ℕ) where
  pub none_kept : AreKept title ((root, []) ∷ []) []
  none_kept = record {
    sorted = first_sorted;
    kept = λ q m j h. absurd (first_empty q m j h);
    apart = λ q r m l j g h. absurd (first_empty q m j g);
  }

  -- ---- one added

  within : (o : Objects) (slots : Slots B) → AreKept title o slots → (q m : List ℕ) (j : ℕ) → slot_at o q m ≡ Some j → j < length slots
  within o slots whole q m j h = let was = whole.kept q m j h in slice_get_within slots j (Some was.0) was.1

  late : (o : Objects) (slots : Slots B) → AreKept title o slots → (q m : List ℕ) (j : ℕ) → length slots ≡ j → slot_at o q m ≡ Some j → ⊥
  late o slots whole q m j e h = let less = within o slots whole q m j h in omega (arith, less, e)

  pub added_kept : (o : Objects) (slots : Slots B) (p n : List ℕ) (b : B) → title b ≡ n → AreKept title o slots → AreKept title (added o p n (length slots)) (slots ++ Some b ∷ [])
  added_kept o slots p n b named whole = record {
    sorted = added_sorted o p n (length slots) whole.sorted;
    kept = λ q m j h. ⊎_elim
        (λ (w : (p ≡ q) × (n ≡ m) × (length slots ≡ j)). (b, subst (λ (i : ℕ). IsKeptAt (slots ++ Some b ∷ []) i b) w.2 (get_seam slots (Some b)), named ∙ w.1))
        (λ (w : slot_at o q m ≡ Some j). let was = whole.kept q m j w in (was.0, get_left slots (Some b ∷ []) j (within o slots whole q m j w) ∙ was.1, was.2))
        (added_cases o p n (length slots) q m j h);
    apart = λ q r m l j g h. ⊎_elim
        (λ (w : (p ≡ q) × (n ≡ m) × (length slots ≡ j)). ⊎_elim
        (λ (v : (p ≡ r) × (n ≡ l) × (length slots ≡ j)). (sym w.0 ∙ v.0, sym w.1 ∙ v.1))
        (λ (v : slot_at o r l ≡ Some j). absurd (late o slots whole r l j w.2 v))
        (added_cases o p n (length slots) r l j h))
        (λ (w : slot_at o q m ≡ Some j). ⊎_elim
        (λ (v : (p ≡ r) × (n ≡ l) × (length slots ≡ j)). absurd (late o slots whole q m j v.2 w))
        (λ (v : slot_at o r l ≡ Some j). whole.apart q r m l j w v)
        (added_cases o p n (length slots) r l j h))
        (added_cases o p n (length slots) q m j g);
  }

  -- ---- one removed

  get_emptied : (g : Option ℕ) (slots : Slots B) (j : ℕ) → ((i : ℕ) → g ≡ Some i → i ≡ j → ⊥) → slice_get (emptied g slots) j ≡ slice_get slots j
  get_emptied None slots j apart = refl
  get_emptied (Some i) slots j apart = get_other slots i j None (λ e. apart i refl e)

  pub removed_kept : (o : Objects) (slots : Slots B) (p n : List ℕ) (s : ℕ) → slot_at o p n ≡ Some s → AreKept title o slots → AreKept title (removed o p n) (emptied (gone_manager o p n) (slice_set slots s None))
  removed_kept o slots p n s here whole =
      let there : is_some (rows_at o p) ≡ true = slot_there o p n s (sym here) in record {
        sorted = removed_sorted o p n whole.sorted;
        kept = λ q m j h.
            let left = removed_cases o p n q m j whole.sorted there h in
            let was = whole.kept q m j left.0 in
            let other : s ≡ j → ⊥ = λ e. let both = whole.apart p q n m j (here ∙ ap Some e) left.0 in left.1 both.0 both.1 in
            let apart : (i : ℕ) → gone_manager o p n ≡ Some i → i ≡ j → ⊥ = λ i is e.
            let manager = manager_there o p n i whole.sorted is in
            let both = whole.apart p q manager_name m j (manager.1 ∙ ap Some e) left.0 in
            left.2 manager.0 both.0 in
            (was.0, get_emptied (gone_manager o p n) (slice_set slots s None) j apart ∙ get_other slots s j None other ∙ was.1, was.2);
        apart = λ q r m l j g h. whole.apart q r m l j (removed_cases o p n q m j whole.sorted there g).0 (removed_cases o p n r l j whole.sorted there h).0;
      }
