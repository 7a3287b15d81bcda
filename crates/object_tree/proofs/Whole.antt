-- A tree stays one where an object's interfaces change, and where a path goes that has none below.
use Rattle.std.proofs.Common.{◌≡◌, refl, sym, ◌∙◌, ap, subst, ℕ, ◌-◌, List, [], ◌∷◌, length, Bool, true, false, cond, is_some, filter}
use Rattle.std.specs.List.{AllByRecursion}
use Rattle.std.specs.BTreeMap.{is_at}
use Rattle.std.specs.Map.{remove_entry, set_value}
use Rattle.std.proofs.lemmas.Bool.{both_ways, false_from_ne_true}
use Rattle.object_tree.specs.Objects.{Objects, Rows, IsTree, IsObject, text_cmp, is_same, root, is_below, fronts, ancestors, has_below, rows_at}
use Rattle.object_tree.proofs.Entries.{same_at, remove_other, was_there, there_set}
use Rattle.object_tree.proofs.Below.{has_below_true}
use Rattle.object_tree.proofs.Valid.{AreNames, all_without, set_valid}

pub all_then : {X : Type 0} (P Q : X → Type 0) (xs : List X) → AllByRecursion P xs → ((x : X) → P x → Q x) → AllByRecursion Q xs
all_then P Q [] h f = h
all_then P Q (x ∷ xs) h f = (f x h.0, all_then P Q xs h.1 f)

pub all_passing : {X : Type 0} (P Q : X → Type 0) (p : X → Bool) (xs : List X) → AllByRecursion P (filter p xs) → ((x : X) → p x ≡ true → P x → Q x) → AllByRecursion Q (filter p xs)
all_passing P Q p [] h f = h
all_passing P Q p (x ∷ xs) h f = by (p x) refl h (λ rest. all_passing P Q p xs rest f)
  where
    by : (c : Bool) → p x ≡ c → AllByRecursion P (cond c (x ∷ filter p xs) (filter p xs)) → (AllByRecursion P (filter p xs) → AllByRecursion Q (filter p xs)) → AllByRecursion Q (cond c (x ∷ filter p xs) (filter p xs))
    by true e a later = (f x e a.0, later a.1)
    by false e a later = later a

-- the same paths are there
same_there : (old new : Objects) → ((q : List ℕ) → is_some (rows_at new q) ≡ is_some (rows_at old q)) → AllByRecursion IsObject new → IsTree old → IsTree new
same_there old new same valid whole = record {
  root_there = same root ∙ whole.root_there;
  closed = λ path there. all_then (λ (a : List ℕ). is_some (rows_at old a) ≡ true) (λ (a : List ℕ). is_some (rows_at new a) ≡ true) (ancestors path) (whole.closed path (sym (same path) ∙ there)) (λ a h. same a ∙ h);
  valid = valid;
}

pub set_stays : (objects : Objects) (path : List ℕ) (rows : Rows) → AreNames rows → IsTree objects → IsTree (set_value (is_at (text_cmp path)) objects rows)
set_stays objects path rows names whole = same_there objects (set_value (is_at (text_cmp path)) objects rows) (λ q. there_set (is_at (text_cmp q)) (is_at (text_cmp path)) objects rows) (set_valid objects path rows names whole.valid) whole

kept : (objects : Objects) (path q : List ℕ) → is_at (text_cmp q) path ≡ false → is_some (rows_at objects q) ≡ true → is_some (rows_at (remove_entry (is_at (text_cmp path)) objects) q) ≡ true
kept objects path q ne there = ap is_some (remove_other path q ne objects) ∙ there

pub gone_stays : (objects : Objects) (path : List ℕ) → is_same path root ≡ false → has_below objects path ≡ false → IsTree objects → IsTree (remove_entry (is_at (text_cmp path)) objects)
gone_stays objects path other bare whole = record {
  root_there = kept objects path root (false_from_ne_true (is_at (text_cmp root) path) (λ h. both_ways (is_same path root) other (is_root (same_at root path h)))) whole.root_there;
  closed = λ q there. all_passing (λ (a : List ℕ). is_some (rows_at objects a) ≡ true) (λ (a : List ℕ). is_some (rows_at (remove_entry (is_at (text_cmp path)) objects) a) ≡ true) (λ front. is_below front q) (fronts (length q - 1) q) (whole.closed q (was_there path q objects there))
      (λ a under h. kept objects path a (false_from_ne_true (is_at (text_cmp a) path) (λ e. both_ways (has_below objects path) bare (has_below_true objects path q (was_there path q objects there) (subst (λ (x : List ℕ). is_below x q ≡ true) (same_at a path e) under)))) h);
  valid = all_without IsObject (is_at (text_cmp path)) objects whole.valid;
}
  where
    is_root : root ≡ path → is_same path root ≡ true
    is_root e = subst (λ (x : List ℕ). is_same x root ≡ true) e refl
