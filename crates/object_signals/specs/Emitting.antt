-- Signals that are put at once (D-Bus Specification, "Message Protocol", "Types of messages", "Signal Emission").
use Rattle.std.specs.Prelude.{◌≡◌, ◌⊎◌, ℕ, List, [], codes, Option, option_map, Result, Err}
use Rattle.wire_tree.specs.Datum.{Datum}
use Rattle.wire_names.specs.BusName.{text_of}
use Rattle.wire_names.specs.declared.bus.BusName.{BusName}
use Rattle.wire_message.specs.declared.error.Error.{Error}
use Rattle.wire_message.specs.declared.error.Error.TheVariants as errors
use Rattle.wire_message.specs.NewBuilders.{signal_builder}
use Rattle.wire_message.specs.Outgoing.{OutgoingMessageView}
use Rattle.object_interface.specs.Answering.{sent_to}
use Rattle.object_tree.specs.Standard.{manager_name, standard_name}
use Rattle.object_tree.specs.declared.standard.StandardInterface.{StandardInterface}
use Rattle.object_standard.specs.ObjectManager.{added_values, removed_values}
use Rattle.object_standard.specs.Properties.{changed_values}
use Rattle.object_standard.specs.declared.object_manager.ManagedObject.{ManagedObject}
use Rattle.object_signals.specs.Announcing.{member_of}
use Rattle.object_signals.specs.declared.announced.ManagerSignal.TheVariants as signals

-- where signals come from: the path of an object; and the connection that they are for, where one is named
pub record EmitterView : Type 0 where
  pub path : List ℕ
  pub destination : Option (List ℕ)

-- the connection that is named
abbrev pub named : Option BusName → Option (List ℕ)
named destination = option_map text_of destination

-- the signal of that interface from there, with these values
abbrev pub signal_from : EmitterView → List ℕ → List ℕ → List Datum → OutgoingMessageView
signal_from from interface member values = record { builder = sent_to from.destination (signal_builder from.path interface member); values = values; fds = [] }

-- The message was put, by what putting one means; or there was no memory to make it, and nothing was done.
abbrev pub PutsOrNot : {P : Type 0} → (P → OutgoingMessageView → Result ℕ Error → P → Type 0) → P → OutgoingMessageView → Result ℕ Error → P → Type 0
PutsOrNot puts old m result new = puts old m result new ⊎ ((result ≡ Err errors.Memory) × (new ≡ old))

-- ---- the signals of the standard interfaces

-- PropertiesChanged (D-Bus Specification, "Standard Interfaces", "org.freedesktop.DBus.Properties")
abbrev pub changed_from : EmitterView → List ℕ → List (List ℕ × Datum) → List (List ℕ) → OutgoingMessageView
changed_from from interface changed invalidated =
    signal_from from (standard_name StandardInterface.Properties) (codes "PropertiesChanged") (changed_values interface changed invalidated)

-- InterfacesAdded (D-Bus Specification, "Standard Interfaces", "org.freedesktop.DBus.ObjectManager")
abbrev pub added_from : EmitterView → ManagedObject → OutgoingMessageView
added_from from object = signal_from from manager_name (member_of signals.InterfacesAdded) (added_values object)

-- InterfacesRemoved (the same section)
abbrev pub removed_from : EmitterView → List ℕ → List (List ℕ) → OutgoingMessageView
removed_from from path names = signal_from from manager_name (member_of signals.InterfacesRemoved) (removed_values path names)
