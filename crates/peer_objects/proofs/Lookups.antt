-- What a look-up gives after an interface was added or removed: at its path and name the slot, or nothing; else what it gave before.
use Rattle.std.proofs.Common.{◌≡◌, ◌⊎◌, inl, inr, refl, sym, ◌∙◌, ap, subst, ℕ, List, [], ◌∷◌, Bool, true, false, cond, Option, Some, None, is_some, option_and_then, unwrap_or, ⊎_elim}
use Rattle.std.specs.Map.{lookup, remove_entry, set_value, keys_of}
use Rattle.std.specs.BTreeMap.{insert_entry, is_at}
use Rattle.std.proofs.lemmas.Bool.{cond-true, cond-false, cases_Bool, true≢false}
use Rattle.std.proofs.lemmas.Option.{same_Some, none-some}
use Rattle.object_tree.specs.Objects.{Objects, Rows, text_cmp, root, ancestors, rows_at, slot_at, with_path, with_paths, with_rows, added, removed, rows_without, is_gone_without, gone_manager}
use Rattle.object_tree.specs.Standard.{manager_name}
use Rattle.object_tree.proofs.Entries.{at_itself, same_at, insert_other, remove_other, lookup_set}
use Rattle.peer_objects.specs.Serving.{AreSorted}
use Rattle.peer_objects.proofs.Sorted.{Ascend, none_ascend, one_ascends, insert_ascends, remove_ascends, set_ascends, values_insert, values_remove, values_set, value_found, insert_found, remove_found, set_other}

differs : (a b : List ℕ) → is_at (text_cmp a) b ≡ false → b ≡ a → ⊥
differs a b ne is = true≢false (sym (at_itself a) ∙ subst (λ (x : List ℕ). is_at (text_cmp a) x ≡ false) is ne)

-- the slot of a name among the interfaces of an object, if there is the object
abbrev among : List ℕ → Option Rows → Option ℕ
among name rows = option_and_then (λ (r : Rows). lookup (is_at (text_cmp name)) r) rows

-- an object that isn't there has no interfaces
among_missing : (r : Option Rows) (name : List ℕ) → is_some r ≡ false → among name r ≡ None
among_missing None name h = refl
among_missing (Some rows) name h = absurd (true≢false h)

among_all : (r : Option Rows) (name : List ℕ) → lookup (is_at (text_cmp name)) (unwrap_or r []) ≡ among name r
among_all None name = refl
among_all (Some rows) name = refl

-- ---- an interface added

new_path : (objects : Objects) (k name : List ℕ) → is_some (rows_at objects k) ≡ false → slot_at (insert_entry text_cmp objects k []) k name ≡ slot_at objects k name
new_path objects k name gone = ap (among name) (insert_found k [] objects) ∙ sym (among_missing (rows_at objects k) name gone)

slot_path : (objects : Objects) (k q name : List ℕ) → slot_at (with_path objects k) q name ≡ slot_at objects q name
slot_path objects k q name = by (is_some (rows_at objects k)) refl
  where
    by : (b : Bool) → is_some (rows_at objects k) ≡ b → slot_at (cond b objects (insert_entry text_cmp objects k [])) q name ≡ slot_at objects q name
    by true h = refl
    by false h = ⊎_elim
        (λ (e : is_at (text_cmp q) k ≡ true). subst (λ (x : List ℕ). slot_at (insert_entry text_cmp objects k []) x name ≡ slot_at objects x name) (sym (same_at q k e)) (new_path objects k name h))
        (λ (e : is_at (text_cmp q) k ≡ false). ap (among name) (insert_other k q [] e objects))
        (cases_Bool (is_at (text_cmp q) k))

slot_paths : (objects : Objects) (paths : List (List ℕ)) (q name : List ℕ) → slot_at (with_paths objects paths) q name ≡ slot_at objects q name
slot_paths objects [] q name = refl
slot_paths objects (p ∷ paths) q name = slot_paths (with_path objects p) paths q name ∙ slot_path objects p q name

rows_put : (objects : Objects) (p : List ℕ) (rows : Rows) → rows_at (with_rows objects p rows) p ≡ Some rows
rows_put objects p rows = by (is_some (rows_at objects p)) refl
  where
    by : (b : Bool) → is_some (rows_at objects p) ≡ b → rows_at (cond b (set_value (is_at (text_cmp p)) objects rows) (insert_entry text_cmp objects p rows)) p ≡ Some rows
    by true h = lookup_set (is_at (text_cmp p)) objects rows h
    by false h = insert_found p rows objects

rows_other : (objects : Objects) (p : List ℕ) (rows : Rows) (q : List ℕ) → is_at (text_cmp q) p ≡ false → rows_at (with_rows objects p rows) q ≡ rows_at objects q
rows_other objects p rows q ne = by (is_some (rows_at objects p))
  where
    by : (b : Bool) → rows_at (cond b (set_value (is_at (text_cmp p)) objects rows) (insert_entry text_cmp objects p rows)) q ≡ rows_at objects q
    by true = set_other p q ne objects rows
    by false = insert_other p q rows ne objects

-- the object's interfaces with this one
abbrev rows_with : Objects → List ℕ → List ℕ → ℕ → Rows
rows_with objects p n k = insert_entry text_cmp (unwrap_or (rows_at objects p) []) n k

-- at its path and name the slot
pub added_here : (objects : Objects) (p n : List ℕ) (k : ℕ) → slot_at (added objects p n k) p n ≡ Some k
unfolding added
added_here objects p n k =
    slot_paths (with_rows objects p (rows_with objects p n k)) (ancestors p) p n
    ∙ ap (among n) (rows_put objects p (rows_with objects p n k))
    ∙ insert_found n k (unwrap_or (rows_at objects p) [])

-- another name there as before
pub added_name : (objects : Objects) (p n : List ℕ) (k : ℕ) (m : List ℕ) → is_at (text_cmp m) n ≡ false → slot_at (added objects p n k) p m ≡ slot_at objects p m
unfolding added
added_name objects p n k m ne =
    slot_paths (with_rows objects p (rows_with objects p n k)) (ancestors p) p m
    ∙ ap (among m) (rows_put objects p (rows_with objects p n k))
    ∙ insert_other n m k ne (unwrap_or (rows_at objects p) [])
    ∙ among_all (rows_at objects p) m

-- another path as before
pub added_path : (objects : Objects) (p n : List ℕ) (k : ℕ) (q m : List ℕ) → is_at (text_cmp q) p ≡ false → slot_at (added objects p n k) q m ≡ slot_at objects q m
unfolding added
added_path objects p n k q m ne =
    slot_paths (with_rows objects p (rows_with objects p n k)) (ancestors p) q m
    ∙ ap (among m) (rows_other objects p (rows_with objects p n k) q ne)

added_there : (objects : Objects) (p n : List ℕ) (k : ℕ) (m : List ℕ) (j : ℕ) → slot_at (added objects p n k) p m ≡ Some j → ((n ≡ m) × (k ≡ j)) ⊎ (slot_at objects p m ≡ Some j)
added_there objects p n k m j h = ⊎_elim
    (λ (f : is_at (text_cmp m) n ≡ true). inl (sym (same_at m n f), same_Some k j (sym (added_here objects p n k) ∙ subst (λ (x : List ℕ). slot_at (added objects p n k) p x ≡ Some j) (same_at m n f) h)))
    (λ (f : is_at (text_cmp m) n ≡ false). inr (sym (added_name objects p n k m f) ∙ h))
    (cases_Bool (is_at (text_cmp m) n))

-- what is found then is the new one, or was there before
pub added_cases : (objects : Objects) (p n : List ℕ) (k : ℕ) (q m : List ℕ) (j : ℕ) → slot_at (added objects p n k) q m ≡ Some j → ((p ≡ q) × (n ≡ m) × (k ≡ j)) ⊎ (slot_at objects q m ≡ Some j)
added_cases objects p n k q m j h = ⊎_elim
    (λ (e : is_at (text_cmp q) p ≡ true). ⊎_elim
    (λ (w : (n ≡ m) × (k ≡ j)). inl (sym (same_at q p e), w.0, w.1))
    (λ (w : slot_at objects p m ≡ Some j). inr (subst (λ (x : List ℕ). slot_at objects x m ≡ Some j) (sym (same_at q p e)) w))
    (added_there objects p n k m j (subst (λ (x : List ℕ). slot_at (added objects p n k) x m ≡ Some j) (same_at q p e) h)))
    (λ (e : is_at (text_cmp q) p ≡ false). inr (sym (added_path objects p n k q m e) ∙ h))
    (cases_Bool (is_at (text_cmp q) p))

-- ---- an interface removed

gone_is : (objects : Objects) (p n : List ℕ) → is_gone_without objects p n ≡ true → removed objects p n ≡ remove_entry (is_at (text_cmp p)) objects
unfolding removed
gone_is objects p n h = cond-true _ _ _ h

left_is : (objects : Objects) (p n : List ℕ) → is_gone_without objects p n ≡ false → removed objects p n ≡ set_value (is_at (text_cmp p)) objects (rows_without objects p n)
unfolding removed
left_is objects p n h = cond-false _ _ _ h

rows_ascend : (objects : Objects) (p : List ℕ) → AreSorted objects → Ascend (keys_of (unwrap_or (rows_at objects p) []))
rows_ascend objects p s = by (rows_at objects p) refl
  where
    by : (r : Option Rows) → rows_at objects p ≡ r → Ascend (keys_of (unwrap_or r []))
    by None h = none_ascend
    by (Some rows) h = value_found (λ (r : Rows). Ascend (keys_of r)) (is_at (text_cmp p)) objects rows s.1 h

-- what is left of an object's interfaces was there, and isn't the one taken out
name_left : (objects : Objects) (p n m : List ℕ) (j : ℕ) → AreSorted objects → lookup (is_at (text_cmp m)) (rows_without objects p n) ≡ Some j → (slot_at objects p m ≡ Some j) × (n ≡ m → ⊥)
name_left objects p n m j s g = ⊎_elim
    (λ (f : is_at (text_cmp m) n ≡ true). absurd (none-some j (sym (remove_found n (unwrap_or (rows_at objects p) []) (rows_ascend objects p s)) ∙ subst (λ (x : List ℕ). lookup (is_at (text_cmp x)) (rows_without objects p n) ≡ Some j) (same_at m n f) g)))
    (λ (f : is_at (text_cmp m) n ≡ false). (sym (remove_other n m f (unwrap_or (rows_at objects p) []) ∙ among_all (rows_at objects p) m) ∙ g, differs m n f))
    (cases_Bool (is_at (text_cmp m) n))

at_gone : (objects : Objects) (p q m : List ℕ) (j : ℕ) → AreSorted objects → slot_at (remove_entry (is_at (text_cmp p)) objects) q m ≡ Some j → (slot_at objects q m ≡ Some j) × (p ≡ q → ⊥)
at_gone objects p q m j s h = ⊎_elim
    (λ (e : is_at (text_cmp q) p ≡ true). absurd (none-some j (sym (ap (among m) (remove_found p objects s.0)) ∙ subst (λ (x : List ℕ). slot_at (remove_entry (is_at (text_cmp p)) objects) x m ≡ Some j) (same_at q p e) h)))
    (λ (e : is_at (text_cmp q) p ≡ false). (sym (ap (among m) (remove_other p q e objects)) ∙ h, differs q p e))
    (cases_Bool (is_at (text_cmp q) p))

at_left : (objects : Objects) (p n q m : List ℕ) (j : ℕ) → AreSorted objects → is_some (rows_at objects p) ≡ true → slot_at (set_value (is_at (text_cmp p)) objects (rows_without objects p n)) q m ≡ Some j → (slot_at objects q m ≡ Some j) × (p ≡ q → n ≡ m → ⊥)
at_left objects p n q m j s there h = ⊎_elim
    (λ (e : is_at (text_cmp q) p ≡ true).
    let here : slot_at (set_value (is_at (text_cmp p)) objects (rows_without objects p n)) p m ≡ Some j = subst (λ (x : List ℕ). slot_at (set_value (is_at (text_cmp p)) objects (rows_without objects p n)) x m ≡ Some j) (same_at q p e) h in
    let left = name_left objects p n m j s (sym (ap (among m) (lookup_set (is_at (text_cmp p)) objects (rows_without objects p n) there)) ∙ here) in
    (subst (λ (x : List ℕ). slot_at objects x m ≡ Some j) (sym (same_at q p e)) left.0, λ _. left.1))
    (λ (e : is_at (text_cmp q) p ≡ false). (sym (ap (among m) (set_other p q e objects (rows_without objects p n))) ∙ h, λ is _. differs q p e is))
    (cases_Bool (is_at (text_cmp q) p))

-- What is found then was there before, and isn't the one that was removed, nor at its path where the object is gone.
pub removed_cases : (objects : Objects) (p n q m : List ℕ) (j : ℕ) → AreSorted objects → is_some (rows_at objects p) ≡ true → slot_at (removed objects p n) q m ≡ Some j → (slot_at objects q m ≡ Some j) × (p ≡ q → n ≡ m → ⊥) × (is_gone_without objects p n ≡ true → p ≡ q → ⊥)
removed_cases objects p n q m j s there h = ⊎_elim
    (λ (e : is_gone_without objects p n ≡ true).
    let w = at_gone objects p q m j s (subst (λ (o : Objects). slot_at o q m ≡ Some j) (gone_is objects p n e) h) in
    (w.0, λ is _. w.1 is, λ _. w.1))
    (λ (e : is_gone_without objects p n ≡ false).
    let w = at_left objects p n q m j s there (subst (λ (o : Objects). slot_at o q m ≡ Some j) (left_is objects p n e) h) in
    (w.0, w.1, λ t _. true≢false (sym t ∙ e)))
    (cases_Bool (is_gone_without objects p n))

-- an ObjectManager that goes with its object was there
pub manager_there : (objects : Objects) (p n : List ℕ) (i : ℕ) → AreSorted objects → gone_manager objects p n ≡ Some i → (is_gone_without objects p n ≡ true) × (slot_at objects p manager_name ≡ Some i)
manager_there objects p n i s h = by (is_gone_without objects p n) refl h
  where
    by : (b : Bool) → is_gone_without objects p n ≡ b → cond b (lookup (is_at (text_cmp manager_name)) (rows_without objects p n)) None ≡ Some i → (is_gone_without objects p n ≡ true) × (slot_at objects p manager_name ≡ Some i)
    by true e g = (e, (name_left objects p n manager_name i s g).0)
    by false e g = absurd (none-some i g)

-- ---- the order of paths and names

path_sorted : (objects : Objects) (k : List ℕ) → AreSorted objects → AreSorted (with_path objects k)
path_sorted objects k s = by (is_some (rows_at objects k))
  where
    by : (b : Bool) → AreSorted (cond b objects (insert_entry text_cmp objects k []))
    by true = s
    by false = (insert_ascends objects k [] s.0, values_insert (λ (r : Rows). Ascend (keys_of r)) objects k [] s.1 none_ascend)

paths_sorted : (objects : Objects) (paths : List (List ℕ)) → AreSorted objects → AreSorted (with_paths objects paths)
paths_sorted objects [] s = s
paths_sorted objects (p ∷ paths) s = paths_sorted (with_path objects p) paths (path_sorted objects p s)

rows_sorted : (objects : Objects) (p : List ℕ) (rows : Rows) → AreSorted objects → Ascend (keys_of rows) → AreSorted (with_rows objects p rows)
rows_sorted objects p rows s r = by (is_some (rows_at objects p))
  where
    by : (b : Bool) → AreSorted (cond b (set_value (is_at (text_cmp p)) objects rows) (insert_entry text_cmp objects p rows))
    by true = (set_ascends (is_at (text_cmp p)) objects rows s.0, values_set (λ (r : Rows). Ascend (keys_of r)) (is_at (text_cmp p)) objects rows s.1 r)
    by false = (insert_ascends objects p rows s.0, values_insert (λ (r : Rows). Ascend (keys_of r)) objects p rows s.1 r)

pub added_sorted : (objects : Objects) (p n : List ℕ) (k : ℕ) → AreSorted objects → AreSorted (added objects p n k)
unfolding added
added_sorted objects p n k s = paths_sorted (with_rows objects p (rows_with objects p n k)) (ancestors p) (rows_sorted objects p (rows_with objects p n k) s (insert_ascends (unwrap_or (rows_at objects p) []) n k (rows_ascend objects p s)))

pub removed_sorted : (objects : Objects) (p n : List ℕ) → AreSorted objects → AreSorted (removed objects p n)
removed_sorted objects p n s = ⊎_elim
    (λ (e : is_gone_without objects p n ≡ true). subst (λ (o : Objects). AreSorted o) (sym (gone_is objects p n e)) (remove_ascends (is_at (text_cmp p)) objects s.0, values_remove (λ (r : Rows). Ascend (keys_of r)) (is_at (text_cmp p)) objects s.1))
    (λ (e : is_gone_without objects p n ≡ false). subst (λ (o : Objects). AreSorted o) (sym (left_is objects p n e))
    (set_ascends (is_at (text_cmp p)) objects (rows_without objects p n) s.0, values_set (λ (r : Rows). Ascend (keys_of r)) (is_at (text_cmp p)) objects (rows_without objects p n) s.1 (remove_ascends (is_at (text_cmp n)) (unwrap_or (rows_at objects p) []) (rows_ascend objects p s))))
    (cases_Bool (is_gone_without objects p n))

-- ---- the root alone

pub first_sorted : AreSorted ((root, []) ∷ [])
first_sorted = (one_ascends root, (none_ascend, tt))

pub first_empty : (q m : List ℕ) (j : ℕ) → slot_at ((root, []) ∷ []) q m ≡ Some j → ⊥
first_empty q m j h = by (is_at (text_cmp q) root) h
  where
    by : (b : Bool) → among m (cond b (Some []) None) ≡ Some j → ⊥
    by true g = none-some j g
    by false g = none-some j g
