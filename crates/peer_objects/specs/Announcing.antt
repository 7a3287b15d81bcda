-- What object managers announce where an interface is added to an object or removed from one (D-Bus Specification, "Standard Interfaces",
-- "org.freedesktop.DBus.ObjectManager").
use Rattle.std.specs.Prelude.{◌≡◌, ℕ, List, [], ◌∷◌, map, Option, None, Some, option_map, option_to_list}
use Rattle.std.specs.Bool.{MatchBool}
use Rattle.std.specs.List.{AllZip}
use Rattle.wire_tree.specs.Datum.{Datum}
use Rattle.wire_message.specs.Outgoing.{OutgoingMessageView}
use Rattle.object_interface.specs.Meaning.{Meaning}
use Rattle.object_interface.specs.Sending.{AreSendable}
use Rattle.object_tree.specs.Objects.{Objects, is_same, manager_of, below}
use Rattle.object_tree.specs.Standard.{manager_name}
use Rattle.object_standard.specs.declared.object_manager.ManagedObject.{ManagedObject}
use Rattle.object_signals.specs.Announcing.{tells_added, tells_removed}
use Rattle.peer_objects.specs.Serving.{Slots}
use Rattle.peer_objects.specs.Standard.{ManagesObject}

-- An interface is removed from the object at the path: its manager tells, where it has one.
abbrev pub announces_removed : Objects → List ℕ → List ℕ → List OutgoingMessageView
announces_removed objects path name = option_to_list (option_map (λ manager. tells_removed manager path name) (manager_of objects path))

module _ {B : Type 0} (meaning : B → Meaning) (state : B → List ℕ) where
  -- the object at the path with that interface alone, and its properties, which can be sent
  pub record ManagesAlone (path : List ℕ) (b : B) (told : ManagedObject) : Type 0 where
    pub properties : List (List ℕ × Datum)
    pub got : (meaning b).gets_all (state b) properties
    pub sendable : AreSendable properties
    pub is : told ≡ record { path = path; interfaces = record { name = (meaning b).title; properties = properties } ∷ [] }

  -- The manager tells of the interface with its properties; nobody tells of it where the object has no manager.
  abbrev pub AnnouncesOne : Option (List ℕ) → List ℕ → B → List OutgoingMessageView → Type 0
  AnnouncesOne None path b list = list ≡ []
  AnnouncesOne (Some manager) path b list = (told : ManagedObject) × ManagesAlone path b told × (list ≡ tells_added manager told ∷ [])

  -- A manager that is added tells of each object below its own, in order, with each of its interfaces but the standard ones.
  abbrev pub AnnouncesAll : Objects → List ℕ → Slots B → List OutgoingMessageView → Type 0
  AnnouncesAll objects path slots list = (told : List ManagedObject) × AllZip (ManagesObject meaning state slots) (below objects path) told × (list ≡ map (tells_added path) told)

  -- An interface is added to the object at the path: a manager tells of the objects below its own, and isn't told of itself; every other
  -- interface is told by the object's manager.
  abbrev pub AnnouncesAdded : Objects → List ℕ → B → Slots B → List OutgoingMessageView → Type 0
  AnnouncesAdded objects path b slots list =
      MatchBool (is_same (meaning b).title manager_name) (AnnouncesAll objects path slots list) (AnnouncesOne (manager_of objects path) path b list)
