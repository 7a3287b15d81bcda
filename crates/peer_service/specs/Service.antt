-- The boxes of a service: which interfaces were handed in, which of them stand at objects, and which can be placed (D-Bus Specification,
-- "Interfaces").
use Rattle.std.specs.Prelude.{◌≡◌, ℕ, zero, suc, ◌+◌, Bool, true, false, not, if◌then◌else◌, List, [], ◌∷◌, ◌++◌, length, slice_get, slice_set, Option, None, Some, option_map, option_and_then, Result, Ok, Err, ⊤}
use Rattle.wire_names.specs.Names.{is_object_path, is_interface_name}
use Rattle.wire_names.specs.declared.error.NamesError.TheVariants as names
use Rattle.std.specs.Global.{Vec}
use Rattle.wire_message.specs.Outgoing.{OutgoingMessageView}
use Rattle.wire_message.specs.declared.error.Error.{Error}
use Rattle.wire_message.specs.declared.error.Error.TheVariants as errors
use Rattle.wire_message.specs.declared.fdo.Error.{Error as fdo}
use Rattle.wire_tree.specs.Datum.{Datum}
use Rattle.object_interface.specs.Meaning.{Meaning}
use Rattle.object_tree.specs.Objects.{Objects, root, slot_at, is_taken, added, removed, is_gone_without, gone_manager}
use Rattle.peer_objects.specs.Serving.{emptied}
use Rattle.peer_objects.specs.Notifying.{Notified}
use Rattle.peer_objects.specs.Announcing.{AnnouncesAdded, announces_removed}
use Rattle.peer_objects.specs.declared.server.Adding.{Adding}
use Rattle.peer_objects.specs.declared.server.Adding.TheVariants.{Added, Exists}

-- a box that was handed in: its number, and its state
pub record BoxView : Type 0 where
  pub number : ℕ
  pub state : List ℕ

-- What a service has: the machine's id, where it is known (D-Bus Specification, "UUIDs"); the tree of its objects; the boxes that stand there, by
-- their slots; those that can be placed, by their numbers; and the numbers that answers had, each with whether its reply was put.
pub record ServiceView : Type 0 where
  pub machine : Option (List ℕ)
  pub objects : Objects
  pub slots : List (Option BoxView)
  pub shelf : List (Option BoxView)
  pub notified : Notified

-- each box that can be placed stands at its own number
abbrev pub StandAtTheirNumbers : List (Option BoxView) → Type 0
StandAtTheirNumbers shelf = (n : ℕ) (b : BoxView) → slice_get shelf n ≡ Some (Some b) → b.number ≡ n

-- the number of the box that is kept in a slot, if one is
abbrev pub number_at : List (Option BoxView) → ℕ → Option ℕ
number_at slots k = option_map (λ (b : BoxView). b.number) (option_and_then (λ o. o) (slice_get slots k))

-- ---- what is handed in

-- a meaning that allows nothing
abbrev pub no_meaning : Meaning
no_meaning = record {
  title = [];
  gets = λ s p r. ⊥;
  gets_all = λ s ps. ⊥;
  sets = λ s p v r t. ⊥;
  calls = λ s m n r. ⊥;
  calls_mut = λ s m n r t. ⊥;
  describes = λ s d. ⊥;
}

-- what is said of a state, said of the state behind a number
abbrev pub behind_number : (List ℕ → Type 0) → List ℕ → Type 0
behind_number P [] = ⊥
behind_number P (n ∷ s) = P s

-- what is said of two states, said of those behind one number
abbrev pub behind_one : (List ℕ → List ℕ → Type 0) → List ℕ → List ℕ → Type 0
behind_one P (n ∷ s) (k ∷ t) = (k ≡ n) × P s t
behind_one P s t = ⊥

-- the value of a property, of states that begin with a number; of no state, which no box is in, it says which number that is
abbrev pub gets_numbered : ℕ → Meaning → List ℕ → List ℕ → Option (Result Datum fdo) → Type 0
gets_numbered number m [] p r = p ≡ number ∷ []
gets_numbered number m (n ∷ s) p r = m.gets s p r

-- The meaning of states that begin with the number of their box, which no call changes. Two are the same of one number alone.
abbrev pub numbered : ℕ → Meaning → Meaning
numbered number m = record {
  title = m.title;
  gets = λ s p r. gets_numbered number m s p r;
  gets_all = λ s ps. behind_number (λ x. m.gets_all x ps) s;
  sets = λ s p v r t. behind_one (λ x y. m.sets x p v r y) s t;
  calls = λ s c n r. behind_number (λ x. m.calls x c n r) s;
  calls_mut = λ s c n r t. behind_one (λ x y. m.calls_mut x c n r y) s t;
  describes = λ s d. behind_number (λ x. m.describes x d) s;
}

-- what the box with this number means; past the last one nothing is allowed
abbrev pub meaning_at : {B : Type 0} → (B → Meaning) → List B → ℕ → Meaning
meaning_at meaning [] n = no_meaning
meaning_at meaning (b ∷ bs) zero = meaning b
meaning_at meaning (b ∷ bs) (suc n) = meaning_at meaning bs n

-- the boxes that were handed in, which are numbered from this number on, all of which can be placed
abbrev pub shelf_from : {B : Type 0} → (B → List ℕ) → ℕ → List B → List (Option BoxView)
shelf_from state n [] = []
shelf_from state n (b ∷ bs) = Some (record { number = n; state = state b }) ∷ shelf_from state (n + 1) bs

-- a service at its start: the root alone, all boxes can be placed, and no machine's id is known
abbrev pub first_service : {B : Type 0} → (B → List ℕ) → List B → ServiceView
first_service state boxes = record { machine = None; objects = (root, []) ∷ []; slots = []; shelf = shelf_from state 0 boxes; notified = [] }

-- a service on a machine of that id, where it is known
abbrev pub with_machine : Option (List ℕ) → ServiceView → ServiceView
with_machine machine v = record v { machine = machine }

-- ---- what is asked of it

-- that is the answer, or there is no memory
abbrev pub Answers : {A : Type 0} → Result A Error → Result A Error → Type 0
Answers (Err errors.Memory) said = ⊤
Answers result said = result ≡ said

-- the box with this number, where it can be placed
abbrev pub on_shelf : ServiceView → ℕ → Option BoxView
on_shelf v number = option_and_then (λ o. o) (slice_get v.shelf number)

-- the shelf once a box that was taken out of the tree is back on it, where there is one
abbrev pub put_back : Option BoxView → List (Option BoxView) → List (Option BoxView)
put_back None shelf = shelf
put_back (Some b) shelf = slice_set shelf b.number (Some b)

-- the slot, where there is one
abbrev pub found : Option ℕ → Result ℕ Error
found None = Err errors.InterfaceNotFound
found (Some slot) = Ok slot

-- the slot of an interface that is named by its object's path and its own name; the first that holds: the path is outside its grammar, the
-- name is missing or outside its grammar, or there is no such interface
abbrev pub slot_named : Objects → List ℕ → Option (List ℕ) → Result ℕ Error
slot_named objects path None = if is_object_path path then Err (errors.Names names.Interface) else Err (errors.Names names.Path)
slot_named objects path (Some name) =
    if not (is_object_path path) then Err (errors.Names names.Path)
    else if not (is_interface_name name) then Err (errors.Names names.Interface)
    else found (slot_at objects path name)

-- whether an interface was added
abbrev pub is_added : {U : Type 0} → Adding U → Bool
is_added (Added list) = true
is_added (Exists u) = false

-- what is said of what came of it, or why nothing did
abbrev pub said_of : {A : Type 0} → (A → Bool) → Result A Error → Result Bool Error
said_of told (Ok a) = Ok (told a)
said_of told (Err error) = Err error

-- what is announced of what came of adding an interface
abbrev pub announced_by : {U : Type 0} → Result (Adding U) Error → List OutgoingMessageView
announced_by (Ok (Added list)) = list.items
announced_by other = []

-- and of removing one
abbrev pub announced_with : Result (Bool × Vec OutgoingMessageView) Error → List OutgoingMessageView
announced_with (Ok r) = r.1.items
announced_with (Err error) = []

-- What object managers announce where that is said of placing the box with this number at the path, by what the boxes mean.
abbrev pub Announces : (ℕ → Meaning) → ServiceView → List ℕ → ℕ → Result Bool Error → List OutgoingMessageView → Type 0
Announces meanings v path number (Ok true) list =
    (b : BoxView) × (on_shelf v number ≡ Some b) × AnnouncesAdded (λ (b : BoxView). meanings b.number) (λ (b : BoxView). b.state) v.objects path b v.slots list
Announces meanings v path number other list = list ≡ []

-- and where that is said of removing an interface
abbrev pub announces_removing : Objects → List ℕ → Option (List ℕ) → Result Bool Error → List OutgoingMessageView
announces_removing objects path (Some name) (Ok destroyed) = announces_removed objects path name
announces_removing objects path interface other = []

module _ (title : ℕ → List ℕ) where
  -- What placing a box says: whether it was added, which it is exactly where its name isn't taken at the object; the first that holds: it
  -- can't be placed, since there is none of that number, it stands in the tree, or it went with its object; or the path is outside its grammar.
  abbrev pub placing : Objects → List ℕ → Option BoxView → Result Bool Error
  placing objects path None = Err errors.UnknownHandle
  placing objects path (Some b) = if is_object_path path then Ok (not (is_taken objects path (title b.number))) else Err (errors.Names names.Path)

  -- the service once the box was added
  abbrev pub with_box : ServiceView → List ℕ → ℕ → ServiceView
  with_box v path number = record v {
    objects = added v.objects path (title number) (length v.slots);
    slots = v.slots ++ on_shelf v number ∷ [];
    shelf = slice_set v.shelf number None;
  }

  -- what the service is once it answered so
  abbrev pub after_placing : ServiceView → List ℕ → ℕ → Result Bool Error → ServiceView
  after_placing v path number (Ok true) = with_box v path number
  after_placing v path number other = v

-- ---- an interface removed

-- what is told where there is a slot
abbrev pub told_of : Bool → Result ℕ Error → Result Bool Error
told_of gone (Ok slot) = Ok gone
told_of gone (Err error) = Err error

-- what removing says: whether the object is gone with it
abbrev pub removing : Objects → List ℕ → Option (List ℕ) → Result Bool Error
removing objects path (Some name) = told_of (is_gone_without objects path name) (slot_named objects path (Some name))
removing objects path None = told_of false (slot_named objects path None)

-- what the service is once it was taken out: the box can be placed again, with its state; one that goes with its object can't
abbrev pub without_box : ServiceView → List ℕ → List ℕ → Option ℕ → ServiceView
without_box v path name None = v
without_box v path name (Some slot) = record v {
  objects = removed v.objects path name;
  slots = emptied (gone_manager v.objects path name) (slice_set v.slots slot None);
  shelf = put_back (option_and_then (λ o. o) (slice_get v.slots slot)) v.shelf;
}

-- what the service is once it answered so
abbrev pub after_removing : ServiceView → List ℕ → Option (List ℕ) → Result Bool Error → ServiceView
after_removing v path (Some name) (Ok destroyed) = without_box v path name (slot_at v.objects path name)
after_removing v path name other = v
