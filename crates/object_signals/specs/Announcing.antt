-- The signals of object managers, which report the objects below their own (D-Bus Specification, "Standard Interfaces",
-- "org.freedesktop.DBus.ObjectManager").
use Rattle.std.specs.Prelude.{ℕ, List, [], ◌∷◌, codes}
use Rattle.wire_tree.specs.Datum.{Datum}
use Rattle.wire_message.specs.NewBuilders.{signal_builder}
use Rattle.wire_message.specs.Outgoing.{OutgoingMessageView}
use Rattle.object_tree.specs.Standard.{manager_name}
use Rattle.object_standard.specs.ObjectManager.{added_values, removed_values}
use Rattle.object_standard.specs.declared.object_manager.ManagedObject.{ManagedObject}
use Rattle.object_signals.specs.declared.announced.ManagerSignal.{ManagerSignal}
use Rattle.object_signals.specs.declared.announced.ManagerSignal.TheVariants as signals

-- the name of the signal
abbrev pub member_of : ManagerSignal → List ℕ
member_of signals.InterfacesAdded = codes "InterfacesAdded"
member_of signals.InterfacesRemoved = codes "InterfacesRemoved"

-- that signal of the manager at the path, with these values
abbrev pub announcement : List ℕ → ManagerSignal → List Datum → OutgoingMessageView
announcement manager signal values = record { builder = signal_builder manager manager_name (member_of signal); values = values; fds = [] }

-- the manager reports that the object has these interfaces more
abbrev pub tells_added : List ℕ → ManagedObject → OutgoingMessageView
tells_added manager object = announcement manager signals.InterfacesAdded (added_values object)

-- it reports that the object has the interface no more
abbrev pub tells_removed : List ℕ → List ℕ → List ℕ → OutgoingMessageView
tells_removed manager path name = announcement manager signals.InterfacesRemoved (removed_values path (name ∷ []))
