-- The tree of a service's objects as plain data (D-Bus Specification, "Valid Object Paths", "Interfaces", "Standard Interfaces").
use Rattle.std.specs.Prelude.{◌≡◌, ℕ, zero, suc, ◌-◌, Bool, false, not, ◌&&◌, ◌||◌, if◌then◌else◌, List, [], ◌∷◌, ◌++◌, length, take, filter, find, codes, Option, None, is_some, option_and_then, unwrap_or, IsTrue}
use Rattle.std.specs.List.{list_all, AllByRecursion}
use Rattle.std.specs.Map.{lookup, remove_entry, set_value}
use Rattle.std.specs.BTreeMap.{insert_entry, is_at}
use Rattle.wire_names.specs.Names.{is_object_path, is_interface_name}
pub use Rattle.object_tree.specs.Texts.{text_cmp, is_same}
pub use Rattle.object_tree.specs.Standard.{manager_name, is_standing}

-- ---- names

-- the path of the root
abbrev pub root : List ℕ
root = codes "/"

-- ---- the tree

-- the interfaces of an object: the name of each, and the slot where it is kept, ascending by the names' bytes
abbrev pub Rows : Type 0
Rows = List (List ℕ × ℕ)

-- the paths of the tree, ascending by their bytes, each with its object's interfaces
abbrev pub Objects : Type 0
Objects = List (List ℕ × Rows)

-- the interfaces at a path, if the tree has it
abbrev pub rows_at : Objects → List ℕ → Option Rows
rows_at objects path = lookup (is_at (text_cmp path)) objects

-- the slot of an interface at a path
abbrev pub slot_at : Objects → List ℕ → List ℕ → Option ℕ
slot_at objects path name = option_and_then (λ rows. lookup (is_at (text_cmp name)) rows) (rows_at objects path)

-- ---- paths below one another

-- what a path below this one begins with
abbrev pub front_of : List ℕ → List ℕ
front_of path = if is_same path root then root else path ++ root

-- the second path is strictly below the first (D-Bus Specification, "Valid Object Paths")
unfoldable pub is_below : List ℕ → List ℕ → Bool
is_below path other = not (is_same path other) && is_same (take (length (front_of path)) other) (front_of path)

-- the fronts of a text but for the empty one and itself, the longest first; so many bytes of it are looked at
abbrev pub fronts : ℕ → List ℕ → List (List ℕ)
fronts zero text = []
fronts (suc n) text = take (suc n) text ∷ fronts n text

-- the paths that a path is strictly below, the longest first: those on the way to it
abbrev pub ancestors : List ℕ → List (List ℕ)
ancestors path = filter (λ front. is_below front path) (fronts (length path - 1) path)

-- the object tells of those below it: the interface for that was added there
abbrev pub is_manager : Objects → List ℕ → Bool
is_manager objects path = is_some (slot_at objects path manager_name)

-- The manager of a path: the longest path that it is strictly below whose object tells of those below it.
abbrev pub manager_of : Objects → List ℕ → Option (List ℕ)
manager_of objects path = find (is_manager objects) (ancestors path)

-- some path of the tree is strictly below
abbrev pub has_below : Objects → List ℕ → Bool
has_below [] path = false
has_below (o ∷ objects) path = is_below path o.0 || has_below objects path

-- the objects strictly below a path, in the tree's order
abbrev pub below : Objects → List ℕ → Objects
below objects path = filter (λ o. is_below path o.0) objects

-- the object at a path, where the tree has it, and those below it, in the tree's order
abbrev pub from_path : Objects → List ℕ → Objects
from_path objects path = filter (λ o. is_same path o.0 || is_below path o.0) objects

-- ---- an interface added

-- the name can't be added there: each object has it by itself, or the object has it already
abbrev pub is_taken : Objects → List ℕ → List ℕ → Bool
is_taken objects path name = is_standing name || is_some (slot_at objects path name)

-- the tree with the path, which has no interfaces where it wasn't there
abbrev pub with_path : Objects → List ℕ → Objects
with_path objects path = if is_some (rows_at objects path) then objects else insert_entry text_cmp objects path []

-- the tree with these paths, one after another
abbrev pub with_paths : Objects → List (List ℕ) → Objects
with_paths objects [] = objects
with_paths objects (path ∷ paths) = with_paths (with_path objects path) paths

-- the tree with these interfaces at the path, which is put in where it wasn't there
abbrev pub with_rows : Objects → List ℕ → Rows → Objects
with_rows objects path rows = if is_some (rows_at objects path) then set_value (is_at (text_cmp path)) objects rows else insert_entry text_cmp objects path rows

-- The tree with the interface at the path, kept in that slot, and with each path that is missing on the way.
unfoldable pub added : Objects → List ℕ → List ℕ → ℕ → Objects
added objects path name slot =
    let rows = unwrap_or (rows_at objects path) [] in
    with_paths (with_rows objects path (insert_entry text_cmp rows name slot)) (ancestors path)

-- What adding an interface gives: whether it was added, which it is exactly where its name isn't taken; else, or without memory, the
-- tree stays.
pub record Adds (old new : Objects) (path name : List ℕ) (slot : ℕ) (done : Bool) : Type 0 where
  pub told : done ≡ not (is_taken old path name)
  pub tree : new ≡ (if is_taken old path name then old else added old path name slot)

-- ---- an interface removed

-- its interfaces without that one
abbrev pub rows_without : Objects → List ℕ → List ℕ → Rows
rows_without objects path name = remove_entry (is_at (text_cmp name)) (unwrap_or (rows_at objects path) [])

-- these interfaces are none but, perhaps, the one that tells of the objects below
abbrev pub are_none_but_manager : Rows → Bool
are_none_but_manager rows = list_all (λ row. is_same row.0 manager_name) rows

-- Without the interface the object is gone: its path isn't the root, no path is below it, and nothing is left there but, perhaps, the
-- interface that tells of the objects below.
unfoldable pub is_gone_without : Objects → List ℕ → List ℕ → Bool
is_gone_without objects path name =
    not (is_same path root) && not (has_below objects path) && are_none_but_manager (rows_without objects path name)

-- The tree without the interface; the path goes with it where the object is gone.
unfoldable pub removed : Objects → List ℕ → List ℕ → Objects
removed objects path name =
    if is_gone_without objects path name
    then remove_entry (is_at (text_cmp path)) objects
    else set_value (is_at (text_cmp path)) objects (rows_without objects path name)

-- the slot of the interface that goes with the object, where there is one
abbrev pub gone_manager : Objects → List ℕ → List ℕ → Option ℕ
gone_manager objects path name =
    if is_gone_without objects path name then lookup (is_at (text_cmp manager_name)) (rows_without objects path name) else None

-- ---- what holds of each tree

-- The object's path is a path, and the names of its interfaces are names (D-Bus Specification, "Valid Object Paths", "Interface names").
pub record IsObject (object : List ℕ × Rows) : Type 0 where
  pub path : IsTrue (is_object_path object.0)
  pub names : AllByRecursion (λ row. IsTrue (is_interface_name row.0)) object.1

-- The root is there, and with each path all paths on the way to it; and each object has a path and names.
pub record IsTree (objects : Objects) : Type 0 where
  pub root_there : IsTrue (is_some (rows_at objects root))
  pub closed : (path : List ℕ) → IsTrue (is_some (rows_at objects path)) → AllByRecursion (λ above. IsTrue (is_some (rows_at objects above))) (ancestors path)
  pub valid : AllByRecursion IsObject objects
