-- A tree stays one where a path is put in with those on the way to it.
use Rattle.std.proofs.Common.{◌≡◌, refl, sym, ◌∙◌, ap, subst, ℕ, zero, suc, ◌-◌, ◌≤◌, ◌<◌, List, [], ◌∷◌, length, take, Bool, true, false, cond, is_some, unwrap_or, IsTrue, get_or, arith, filter, ⊎_elim, length-take-le, take-take}
use Rattle.std.specs.List.{AllByRecursion}
use Rattle.std.specs.BTreeMap.{insert_entry, is_at}
use Rattle.std.specs.Map.{set_value}
use Rattle.std.proofs.lemmas.Bool.{cases_Bool, cond-true, cond-false, false_from_ne_true, not_from_false}
use Rattle.wire_names.specs.Names.{is_object_path, is_interface_name}
use Rattle.object_tree.specs.Objects.{Objects, Rows, IsTree, text_cmp, rows_at, root, is_below, fronts, ancestors, with_path, with_paths, added, is_taken, Adds}
use Rattle.object_tree.proofs.Entries.{same_at, insert_here, insert_other, there_set}
use Rattle.object_tree.proofs.Below.{is_below-Decides, is_root_or_other, below_slash, front_begins, front_at}
use Rattle.object_tree.proofs.Valid.{AreNames, root_valid, front_valid, with_valid, paths_valid, names_at, row_valid}
use Rattle.object_tree.proofs.Ways.{same_below}
use Rattle.object_tree.proofs.Whole.{all_then, all_passing, set_stays}

pub shorter_other : (objects now : Objects) (k : List ℕ) (v : Rows) → now ≡ insert_entry text_cmp objects k v → (q : List ℕ) → length q < length k → is_some (rows_at now q) ≡ is_some (rows_at objects q)
shorter_other objects now k v is q short =
    ap (λ (o : Objects). is_some (rows_at o q)) is
    ∙ ap is_some (insert_other k q v (false_from_ne_true (is_at (text_cmp q) k) (λ h. let l = ap length (same_at q k h) in omega arith)) objects)

pub on_way_there : (old now : Objects) (above front : List ℕ) → IsTree old → length above < length front → ((q : List ℕ) → length q < length front → is_some (rows_at now q) ≡ is_some (rows_at old q)) → is_some (rows_at now above) ≡ true → AllByRecursion (λ a. is_some (rows_at now a) ≡ true) (above ∷ ancestors above)
on_way_there old now above front whole short same there = (
  there,
  all_passing (λ (a : List ℕ). is_some (rows_at old a) ≡ true) (λ (a : List ℕ). is_some (rows_at now a) ≡ true) (λ f. is_below f above) (fronts (length above - 1) above) (whole.closed above (sym (same above short) ∙ there))
      (λ a under h. let less = (front_begins a above ((is_below-Decides a above).0 under)).1 in same a (omega (arith, less)) ∙ h),
)

-- what is there stays there
insert_keeps : (objects : Objects) (k q : List ℕ) (v : Rows) → is_some (rows_at objects q) ≡ true → is_some (rows_at (insert_entry text_cmp objects k v) q) ≡ true
insert_keeps objects k q v there = ⊎_elim
    (λ (h : is_at (text_cmp q) k ≡ true). subst (λ (x : List ℕ). is_some (rows_at (insert_entry text_cmp objects k v) x) ≡ true) (sym (same_at q k h)) (insert_here k v objects))
    (λ (h : is_at (text_cmp q) k ≡ false). ap is_some (insert_other k q v h objects) ∙ there)
    (cases_Bool (is_at (text_cmp q) k))

path_keeps : (objects : Objects) (k q : List ℕ) → is_some (rows_at objects q) ≡ true → is_some (rows_at (with_path objects k) q) ≡ true
path_keeps objects k q there = by (is_some (rows_at objects k))
  where
    by : (b : Bool) → is_some (rows_at (cond b objects (insert_entry text_cmp objects k [])) q) ≡ true
    by true = there
    by false = insert_keeps objects k q [] there

paths_keep : (objects : Objects) (paths : List (List ℕ)) (q : List ℕ) → is_some (rows_at objects q) ≡ true → is_some (rows_at (with_paths objects paths) q) ≡ true
paths_keep objects [] q there = there
paths_keep objects (p ∷ paths) q there = paths_keep (with_path objects p) paths q (path_keeps objects p q there)

path_there : (objects : Objects) (k : List ℕ) → is_some (rows_at (with_path objects k) k) ≡ true
path_there objects k = by (is_some (rows_at objects k)) refl
  where
    by : (b : Bool) → is_some (rows_at objects k) ≡ b → is_some (rows_at (cond b objects (insert_entry text_cmp objects k [])) k) ≡ true
    by true h = h
    by false h = insert_here k [] objects

paths_there : (objects : Objects) (paths : List (List ℕ)) → AllByRecursion (λ a. is_some (rows_at (with_paths objects paths) a) ≡ true) paths
paths_there objects [] = tt
paths_there objects (p ∷ paths) = (paths_keep (with_path objects p) paths p (path_there objects p), paths_there (with_path objects p) paths)

-- what holds of each path that is there and of those put in, holds of each that is there then
of_inserted : (P : List ℕ → Type 0) (objects : Objects) (k : List ℕ) (v : Rows) → ((q : List ℕ) → is_some (rows_at objects q) ≡ true → P q) → P k → (q : List ℕ) → is_some (rows_at (insert_entry text_cmp objects k v) q) ≡ true → P q
of_inserted P objects k v each one q there = ⊎_elim
    (λ (h : is_at (text_cmp q) k ≡ true). subst P (sym (same_at q k h)) one)
    (λ (h : is_at (text_cmp q) k ≡ false). each q (sym (ap is_some (insert_other k q v h objects)) ∙ there))
    (cases_Bool (is_at (text_cmp q) k))

of_path : (P : List ℕ → Type 0) (objects : Objects) (k : List ℕ) → ((q : List ℕ) → is_some (rows_at objects q) ≡ true → P q) → P k → (q : List ℕ) → is_some (rows_at (with_path objects k) q) ≡ true → P q
of_path P objects k each one q there = by (is_some (rows_at objects k)) there
  where
    by : (b : Bool) → is_some (rows_at (cond b objects (insert_entry text_cmp objects k [])) q) ≡ true → P q
    by true h = each q h
    by false h = of_inserted P objects k [] each one q h

of_paths : (P : List ℕ → Type 0) (objects : Objects) (paths : List (List ℕ)) → ((q : List ℕ) → is_some (rows_at objects q) ≡ true → P q) → AllByRecursion P paths → (q : List ℕ) → is_some (rows_at (with_paths objects paths) q) ≡ true → P q
of_paths P objects [] each all q there = each q there
of_paths P objects (p ∷ paths) each all q there = of_paths P (with_path objects p) paths (of_path P objects p each all.0) all.1 q there

-- what holds of each front that is on the way
all_from : (P : List ℕ → Type 0) (f : List ℕ → Bool) (text : List ℕ) (n : ℕ) → ((j : ℕ) → 1 ≤ j → j ≤ n → f (take j text) ≡ true → P (take j text)) → AllByRecursion P (filter f (fronts n text))
all_from P f text zero h = tt
all_from P f text (suc n) h = by (f (take (suc n) text)) refl (all_from P f text n (λ j one most pass. h j one (omega arith) pass))
  where
    by : (b : Bool) → f (take (suc n) text) ≡ b → AllByRecursion P (filter f (fronts n text)) → AllByRecursion P (cond b (take (suc n) text ∷ filter f (fronts n text)) (filter f (fronts n text)))
    by true k rest = (h (suc n) (omega arith) (omega arith) k, rest)
    by false k rest = rest

-- the paths on the way to one that is on the way are on the way
all_ways : (P : List ℕ → Type 0) (path : List ℕ) → AllByRecursion P (ancestors path) → AllByRecursion (λ q. AllByRecursion P (ancestors q)) (ancestors path)
all_ways P path all = all_from (λ q. AllByRecursion P (ancestors q)) (λ f. is_below f path) path (length path - 1) (λ j one most under.
    let count = length-take-le j path (omega arith) in
    all_from P (λ f. is_below f (take j path)) (take j path) (length (take j path) - 1) (λ i a b below.
    let same = take-take i j path (omega (arith, count)) in
    let short = length-take-le i path (omega (arith, count)) in
    subst P (sym same) (front_at P (λ f. is_below f path) path i (length path - 1) all a (omega (arith, count))
    (same_below (take i path) path j (omega (arith, count, short)) (omega arith) ∙ subst (λ (x : List ℕ). is_below x (take j path) ≡ true) same below))))

-- the paths on the way to a path are paths
pub ways_valid : (path : List ℕ) → IsTrue (is_object_path path) → AllByRecursion (λ q. IsTrue (is_object_path q)) (ancestors path)
ways_valid path valid = all_from (λ q. IsTrue (is_object_path q)) (λ f. is_below f path) path (length path - 1) (λ j one most under. by j one most under)
  where
    by : (j : ℕ) → 1 ≤ j → j ≤ length path - 1 → is_below (take j path) path ≡ true → IsTrue (is_object_path (take j path))
    by j one most under = is_root_or_other (take j path)
        (λ e. subst (λ (x : List ℕ). IsTrue (is_object_path x)) (sym e) root_valid)
        (λ ne. let count = length-take-le j path (omega arith) in
        front_valid path j valid one (omega arith) (subst (λ i. get_or path i 0 ≡ 47) count (below_slash (take j path) path ne under)))

-- the tree with the path and those on the way to it
abbrev grown : Objects → List ℕ → Rows → Objects
grown objects path rows = with_paths (insert_entry text_cmp objects path rows) (ancestors path)

keeps : (objects : Objects) (path : List ℕ) (rows : Rows) (q : List ℕ) → is_some (rows_at objects q) ≡ true → is_some (rows_at (grown objects path rows) q) ≡ true
keeps objects path rows q there = paths_keep (insert_entry text_cmp objects path rows) (ancestors path) q (insert_keeps objects path q rows there)

pub added_stays : (objects : Objects) (path : List ℕ) (rows : Rows) → IsTrue (is_object_path path) → AreNames rows → IsTree objects → IsTree (with_paths (insert_entry text_cmp objects path rows) (ancestors path))
added_stays objects path rows valid names whole = record {
  root_there = keeps objects path rows root whole.root_there;
  closed = of_paths (λ q. AllByRecursion (λ a. is_some (rows_at (grown objects path rows) a) ≡ true) (ancestors q)) (insert_entry text_cmp objects path rows) (ancestors path)
      (of_inserted (λ q. AllByRecursion (λ a. is_some (rows_at (grown objects path rows) a) ≡ true) (ancestors q)) objects path rows
      (λ q there. all_then (λ (a : List ℕ). is_some (rows_at objects a) ≡ true) (λ (a : List ℕ). is_some (rows_at (grown objects path rows) a) ≡ true) (ancestors q) (whole.closed q there) (λ a h. keeps objects path rows a h))
      (paths_there (insert_entry text_cmp objects path rows) (ancestors path)))
      (all_ways (λ a. is_some (rows_at (grown objects path rows) a) ≡ true) path (paths_there (insert_entry text_cmp objects path rows) (ancestors path)));
  valid = paths_valid (insert_entry text_cmp objects path rows) (ancestors path) (ways_valid path valid) (with_valid objects path rows valid names whole.valid);
}

with_there : (objects : Objects) (paths : List (List ℕ)) → AllByRecursion (λ a. is_some (rows_at objects a) ≡ true) paths → with_paths objects paths ≡ objects
with_there objects [] h = refl
with_there objects (p ∷ paths) h =
    ap (λ (o : Objects). with_paths o paths) (cond-true (is_some (rows_at objects p)) objects (insert_entry text_cmp objects p []) h.0) ∙ with_there objects paths h.1

pub added_tree : (objects : Objects) (path name : List ℕ) (slot : ℕ) → IsTrue (is_object_path path) → IsTrue (is_interface_name name) → IsTree objects → IsTree (added objects path name slot)
unfolding added
added_tree objects path name slot valid named whole = by (is_some (rows_at objects path)) refl
  where
    put : Rows
    put = insert_entry text_cmp (unwrap_or (rows_at objects path) []) name slot

    names : AreNames put
    names = row_valid (unwrap_or (rows_at objects path) []) name slot named (names_at objects path whole.valid)

    by : (b : Bool) → is_some (rows_at objects path) ≡ b → IsTree (with_paths (cond b (set_value (is_at (text_cmp path)) objects put) (insert_entry text_cmp objects path put)) (ancestors path))
    by true there = subst (λ (o : Objects). IsTree o)
        (sym (with_there (set_value (is_at (text_cmp path)) objects put) (ancestors path)
        (all_then (λ (a : List ℕ). is_some (rows_at objects a) ≡ true) (λ (a : List ℕ). is_some (rows_at (set_value (is_at (text_cmp path)) objects put) a) ≡ true) (ancestors path) (whole.closed path there)
        (λ a h. there_set (is_at (text_cmp a)) (is_at (text_cmp path)) objects put ∙ h))))
        (set_stays objects path put names whole)
    by false gone = added_stays objects path put valid names whole

-- what adding an interface gives
pub adds : (old o new : Objects) (path name : List ℕ) (slot : ℕ) → o ≡ old → is_taken old path name ≡ false → new ≡ added o path name slot → Adds old new path name slot true
adds old o new path name slot same free is = record {
  told = sym (not_from_false (is_taken old path name) free);
  tree = is ∙ ap (λ (x : Objects). added x path name slot) same ∙ sym (cond-false (is_taken old path name) old (added old path name slot) free);
}
