-- The interfaces of a service's objects, by the slots where they are kept (D-Bus Specification, "Interfaces").
use Rattle.std.specs.Prelude.{◌≡◌, ℕ, List, [], ◌∷◌, ◌++◌, length, slice_get, slice_set, Bool, true, false, Option, None, Some, Result, Ok, Err, is_some, if◌then◌else◌}
use Rattle.std.specs.List.{AllByRecursion}
use Rattle.std.specs.List.Sorted.{IsStrictlySortedBy}
use Rattle.std.specs.Map.{keys_of}
use Rattle.object_tree.specs.Objects.{Objects, text_cmp, slot_at, is_taken, added, removed, is_gone_without, gone_manager}
use Rattle.wire_message.specs.declared.error.Error.{Error}
use Rattle.wire_message.specs.declared.error.Error.TheVariants as errors
use Rattle.peer_objects.specs.declared.server.Adding.{Adding}
use Rattle.peer_objects.specs.declared.server.Adding.TheVariants.{Added, Exists}

-- the slots, in the order in which they were given out: the interface that is kept there, or nothing, where it was taken out
abbrev pub Slots : Type 0 → Type 0
Slots B = List (Option B)

-- an interface is kept in the slot
abbrev pub IsKeptAt : {B : Type 0} → Slots B → ℕ → B → Type 0
IsKeptAt slots k b = slice_get slots k ≡ Some (Some b)

-- the slot, if there is one, without what was kept there
abbrev pub emptied : {B : Type 0} → Option ℕ → Slots B → Slots B
emptied None slots = slots
emptied (Some k) slots = slice_set slots k None

-- the paths ascend by their bytes, and so do the names at each
abbrev pub AreSorted : Objects → Type 0
AreSorted objects = IsStrictlySortedBy text_cmp (keys_of objects) × AllByRecursion (λ o. IsStrictlySortedBy text_cmp (keys_of o.1)) objects

module _ {B : Type 0} (title : B → List ℕ) where
  -- Paths and names ascend; each interface of the tree is kept in its slot, under its own name; and no two are kept in one.
  pub record AreKept (objects : Objects) (slots : Slots B) : Type 0 where
    pub sorted : AreSorted objects
    pub kept : (path name : List ℕ) (k : ℕ) → slot_at objects path name ≡ Some k → (b : B) × IsKeptAt slots k b × (title b ≡ name)
    pub apart : (path other name another : List ℕ) (k : ℕ) → slot_at objects path name ≡ Some k → slot_at objects other another ≡ Some k → (path ≡ other) × (name ≡ another)

-- ---- interfaces that are meant

-- a path, a name, and the slot of the interface that is meant
pub record Reference : Type 0 where
  pub path : List ℕ
  pub name : List ℕ
  pub slot : ℕ

-- What looking an interface up gives: where it is kept; or InterfaceNotFound, exactly where it isn't there.
abbrev pub Finds : Objects → List ℕ → List ℕ → Result Reference Error → Type 0
Finds objects path name (Ok r) = (r.path ≡ path) × (r.name ≡ name) × (slot_at objects path name ≡ Some r.slot)
Finds objects path name (Err error) = error ≡ (if is_some (slot_at objects path name) then errors.Memory else errors.InterfaceNotFound)

-- What lending an interface gives that is meant: what is kept in its slot; or InterfaceNotFound, exactly where nothing is.
abbrev pub Lends : {B : Type 0} → Slots B → Reference → Result B Error → Type 0
Lends slots reference (Ok b) = IsKeptAt slots reference.slot b
Lends slots reference (Err error) = (error ≡ errors.InterfaceNotFound) × ((b : _) → IsKeptAt slots reference.slot b → ⊥)
