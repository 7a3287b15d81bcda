-- What is left where an interface is removed.
use Rattle.std.proofs.Common.{◌≡◌, refl, sym, ◌∙◌, subst, ℕ, ◌≤◌, List, [], ◌∷◌, Bool, true, false, cond, Option, Some, None, is_some, IsTrue, arith, length, option_and_then}
use Rattle.std.specs.List.{AllByRecursion}
use Rattle.std.specs.Map.{lookup, remove_entry, set_value}
use Rattle.std.specs.BTreeMap.{is_at}
use Rattle.std.proofs.lemmas.Bool.{cond-true, cond-false}
use Rattle.wire_names.specs.Names.{is_object_path}
use Rattle.object_tree.specs.Objects.{Objects, Rows, IsTree, text_cmp, is_same, root, ancestors, has_below, rows_at, slot_at, rows_without, are_none_but_manager, manager_name, is_gone_without, gone_manager, removed}
use Rattle.object_tree.proofs.Entries.{same_at, remove_set}
use Rattle.object_tree.proofs.Valid.{root_valid}

-- a path has a byte
pub has_byte : (path : List ℕ) → IsTrue (is_object_path path) → 1 ≤ length path
unfolding is_object_path
has_byte [] h = grind arith
has_byte (b ∷ path) h = omega arith

-- the root alone is a tree
abbrev first : Objects
first = (root, []) ∷ []

at_root : (path : List ℕ) → is_some (rows_at first path) ≡ true → path ≡ root
at_root path there = same_at path root (by (is_at (text_cmp path) root) [] there)
  where
    by : (b : Bool) (rows : Rows) → is_some (cond b (Some rows) None) ≡ true → b ≡ true
    by true rows h = refl
    by false rows h = h

pub first_tree : IsTree ((root, []) ∷ [])
first_tree = record {
  root_there = refl;
  closed = λ path there. subst (λ (p : List ℕ). AllByRecursion (λ (above : List ℕ). is_some (rows_at first above) ≡ true) (ancestors p)) (sym (at_root path there)) tt;
  valid = (record { path = root_valid; names = tt }, tt);
}

-- ---- an object that goes or stays

pub stays_at_root : (objects : Objects) (path name : List ℕ) → is_same path root ≡ true → is_gone_without objects path name ≡ false
unfolding is_gone_without
stays_at_root objects path name h = grind arith

pub stays_with_paths : (objects : Objects) (path name : List ℕ) → has_below objects path ≡ true → is_gone_without objects path name ≡ false
unfolding is_gone_without
stays_with_paths objects path name h = grind arith

pub stays_with_rows : (objects : Objects) (path name : List ℕ) → are_none_but_manager (rows_without objects path name) ≡ false → is_gone_without objects path name ≡ false
unfolding is_gone_without
stays_with_rows objects path name h = grind arith

pub is_gone : (objects : Objects) (path name : List ℕ) → is_same path root ≡ false → has_below objects path ≡ false → are_none_but_manager (rows_without objects path name) ≡ true → is_gone_without objects path name ≡ true
unfolding is_gone_without
is_gone objects path name a b c = grind arith

pub kept_object : (objects : Objects) (path name : List ℕ) → is_gone_without objects path name ≡ false → (false ≡ is_gone_without objects path name) × (None ≡ gone_manager objects path name) × (set_value (is_at (text_cmp path)) objects (rows_without objects path name) ≡ removed objects path name)
unfolding removed
kept_object objects path name h = (sym h, sym (cond-false _ _ _ h), sym (cond-false _ _ _ h))

pub gone_object : (objects : Objects) (path name : List ℕ) → is_gone_without objects path name ≡ true → (true ≡ is_gone_without objects path name) × (lookup (is_at (text_cmp manager_name)) (rows_without objects path name) ≡ gone_manager objects path name) × (remove_entry (is_at (text_cmp path)) (set_value (is_at (text_cmp path)) objects (rows_without objects path name)) ≡ removed objects path name)
unfolding removed
gone_object objects path name h = (sym h, sym (cond-true _ _ _ h), remove_set (is_at (text_cmp path)) objects (rows_without objects path name) ∙ sym (cond-true _ _ _ h))

-- an interface that is there stands at a path that is there
pub slot_there : (objects : Objects) (path name : List ℕ) (slot : ℕ) → Some slot ≡ slot_at objects path name → is_some (rows_at objects path) ≡ true
slot_there objects path name slot h = by (rows_at objects path) h
  where
    by : (r : Option Rows) → Some slot ≡ option_and_then (λ (rows : Rows). lookup (is_at (text_cmp name)) rows) r → is_some r ≡ true
    by None k = grind arith
    by (Some rows) k = refl

-- the same at what these are equal to
pub moved : (P : Objects → List ℕ → List ℕ → Type 0) (o o' : Objects) (p p' n n' : List ℕ) → o ≡ o' → p ≡ p' → n ≡ n' → P o p n → P o' p' n'
moved P o o' p p' n n' a b c h = subst (λ (x : Objects). P x p' n') a (subst (λ (x : List ℕ). P o x n') b (subst (λ (x : List ℕ). P o p x) c h))

pub object_kept : (o o' : Objects) (p p' n n' : List ℕ) (new : Objects) → o ≡ o' → p ≡ p' → n ≡ n' → new ≡ set_value (is_at (text_cmp p)) o (rows_without o p n) → is_gone_without o p n ≡ false
    → (false ≡ is_gone_without o' p' n') × (None ≡ gone_manager o' p' n') × (new ≡ removed o' p' n')
object_kept o o' p p' n n' new a b c e gone =
    let facts = kept_object o p n gone in
    moved (λ o p n. (false ≡ is_gone_without o p n) × (None ≡ gone_manager o p n) × (new ≡ removed o p n)) o o' p p' n n' a b c (facts.0, facts.1, e ∙ facts.2)

pub object_gone : (o o' : Objects) (p p' n n' : List ℕ) (new : Objects) (manager : Option ℕ) → o ≡ o' → p ≡ p' → n ≡ n'
    → new ≡ remove_entry (is_at (text_cmp p)) (set_value (is_at (text_cmp p)) o (rows_without o p n)) → manager ≡ lookup (is_at (text_cmp manager_name)) (rows_without o p n) → is_gone_without o p n ≡ true
    → (true ≡ is_gone_without o' p' n') × (manager ≡ gone_manager o' p' n') × (new ≡ removed o' p' n')
object_gone o o' p p' n n' new manager a b c e m gone =
    let facts = gone_object o p n gone in
    moved (λ o p n. (true ≡ is_gone_without o p n) × (manager ≡ gone_manager o p n) × (new ≡ removed o p n)) o o' p p' n n' a b c (facts.0, m ∙ facts.1, e ∙ facts.2)
