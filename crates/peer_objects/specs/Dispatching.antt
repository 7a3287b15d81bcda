-- How the method calls of a service's objects are answered (D-Bus Specification, "Message Protocol", "Types of messages", "Standard Interfaces").
use Rattle.std.specs.Prelude.{◌≡◌, ◌≢◌, ℕ, if◌then◌else◌, List, [], codes, Option, None, Some, is_some, slice_set, unwrap_or}
use Rattle.wire_tree.specs.Datum.{Datum}
use Rattle.wire_message.specs.Front.{MessageView}
use Rattle.wire_message.specs.declared.fdo.Error.{Error}
use Rattle.object_interface.specs.Meaning.{Meaning, Same}
use Rattle.object_interface.specs.Sending.{IsSendable}
use Rattle.object_interface.specs.declared.answer.DispatchResult2.{DispatchResult2}
use Rattle.object_interface.specs.declared.answer.DispatchResult2.TheVariants.{RequiresMut}
use Rattle.object_interface.specs.Errors.{missing, unknown_object, unknown_interface}
use Rattle.object_tree.specs.Objects.{Objects, rows_at, slot_at}
use Rattle.object_tree.specs.Standard.{standard_named}
use Rattle.object_tree.specs.declared.standard.StandardInterface.{StandardInterface}
use Rattle.peer_objects.specs.Serving.{Slots, IsKeptAt}

-- ---- what a path and an interface's name reach

-- nothing, for that reason; a standard interface; or the interface that is kept in that slot
pub data Target : Type 0 where
  Nothing : (error : Error) → Target
  Standard : (interface : StandardInterface) → Target
  Slot : (slot : ℕ) → Target

-- what the name reaches at an object that is there: `org.freedesktop.DBus.ObjectManager` is an object's only where it was added
abbrev pub at_object : List ℕ → Option StandardInterface → Option ℕ → Target
at_object interface (Some StandardInterface.ObjectManager) None = Nothing (unknown_interface interface)
at_object interface (Some standard) slot = Standard standard
at_object interface None None = Nothing (unknown_interface interface)
at_object interface None (Some slot) = Slot slot

-- what it reaches at a path: `org.freedesktop.DBus.Peer` is reached whatever the path is, since it is the whole service's, and so the root's
abbrev pub at_path : Objects → List ℕ → List ℕ → Option StandardInterface → Target
at_path objects path interface (Some StandardInterface.Peer) = Standard StandardInterface.Peer
at_path objects path interface standard =
    if is_some (rows_at objects path) then at_object interface standard (slot_at objects path interface) else Nothing (unknown_object path)

unfoldable pub reached : Objects → List ℕ → List ℕ → Target
reached objects path interface = at_path objects path interface (standard_named interface)

-- ---- what a call reaches

-- The first that holds: the path, the interface or the member is missing; else what the path and the interface reach.
abbrev pub with_names : Objects → Option (List ℕ) → Option (List ℕ) → Option (List ℕ) → Target
with_names objects None interface member = Nothing (missing (codes "object path"))
with_names objects (Some path) None member = Nothing (missing (codes "interface"))
with_names objects (Some path) (Some interface) None = Nothing (missing (codes "member"))
with_names objects (Some path) (Some interface) (Some member) = reached objects path interface

-- what a message reaches
unfoldable pub target : Objects → MessageView → Target
target objects m = with_names objects m.path m.interface m.member

-- the method that a message names
abbrev pub member_in : MessageView → List ℕ
member_in m = unwrap_or m.member []

-- ---- a call that is answered

-- the answer isn't that the call which may change the interface is to be asked
abbrev pub IsSettled : DispatchResult2 → Type 0
IsSettled answer = answer ≢ RequiresMut

-- How an interface comes to its answer: by the call that may change nothing; or, where that asks for it, by the one that may.
pub data ComesTo (meaning : Meaning) (state : List ℕ) (m : MessageView) (member : List ℕ) (answer : DispatchResult2) (later : List ℕ) : Type 0 where
  AtOnce : meaning.calls state m member answer → IsSettled answer → later ≡ state → ComesTo meaning state m member answer later
  Changing : meaning.calls state m member RequiresMut → meaning.calls_mut state m member answer later → ComesTo meaning state m member answer later

module _ {B : Type 0} (meaning : B → Meaning) (state : B → List ℕ) where
  -- One interface was called, which is kept in the slot, and is what it was but for its state; every other one is as before.
  pub record Reaches (slot : ℕ) (old new : Slots B) : Type 0 where
    pub before : B
    pub after : B
    pub kept : IsKeptAt old slot before
    pub others : new ≡ slice_set old slot (Some after)
    pub same : Same (meaning after) (meaning before)

  -- The interface in the slot was called, and came to this answer, which can be sent.
  pub record Called (slot : ℕ) (m : MessageView) (member : List ℕ) (old new : Slots B) (answer : DispatchResult2) : Type 0 where
    pub reached : Reaches slot old new
    pub comes : ComesTo (meaning reached.before) (state reached.before) m member answer (state reached.after)
    pub law : IsSendable answer

  -- The interface in the slot was asked by the call that may change it, and answered so, which can be sent.
  pub record CallsMut (slot : ℕ) (m : MessageView) (member : List ℕ) (old new : Slots B) (answer : DispatchResult2) : Type 0 where
    pub reached : Reaches slot old new
    pub told : (meaning reached.before).calls_mut (state reached.before) m member answer (state reached.after)
    pub law : IsSendable answer

  -- A property of the interface in the slot was set by the call that may change it, and that answered so, which can be sent.
  pub record SetsMut (slot : ℕ) (property : List ℕ) (value : Datum) (old new : Slots B) (answer : DispatchResult2) : Type 0 where
    pub reached : Reaches slot old new
    pub told : (meaning reached.before).sets (state reached.before) property value answer (state reached.after)
    pub law : IsSendable answer
