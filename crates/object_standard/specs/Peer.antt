-- `org.freedesktop.DBus.Peer` (D-Bus Specification, "Standard Interfaces", "org.freedesktop.DBus.Peer").
use Rattle.std.specs.Prelude.{ℕ, if◌then◌else◌, List, [], ◌∷◌, codes, Option, None, Some, Ok}
use Rattle.wire_signature.specs.SingleType.{basic}
use Rattle.wire_signature.specs.declared.basic.BasicType.TheVariants as basics
use Rattle.wire_tree.specs.Datum.{text, string}
use Rattle.wire_message.specs.declared.fdo_kind.Kind.{Kind}
use Rattle.object_interface.specs.Describing.{argument, method, described}
use Rattle.object_interface.specs.Errors.{alone, fails}
use Rattle.object_interface.specs.declared.answer.DispatchResult2.{DispatchResult2}
use Rattle.object_interface.specs.declared.description.DescribedMethod.{DescribedMethod}
use Rattle.object_interface.specs.declared.description.Description.{Description}
use Rattle.object_tree.specs.Texts.{is_same}
use Rattle.object_standard.specs.declared.peer.PeerMethod.{PeerMethod}
use Rattle.object_standard.specs.declared.peer.PeerMethod.TheVariants as methods

-- the method of that name
abbrev pub peer_method_named : List ℕ → Option PeerMethod
peer_method_named member =
    if is_same member (codes "Ping") then Some methods.Ping
    else if is_same member (codes "GetMachineId") then Some methods.GetMachineId
    else None

-- the machine's id, where the service knows it
abbrev pub machine_answer : Option (List ℕ) → DispatchResult2
machine_answer None = fails Kind.NotSupported (codes "No machine id")
machine_answer (Some id) = alone (Ok (text string id ∷ []))

-- What a method answers, none of which takes arguments: `Ping` an empty reply, `GetMachineId` the machine's id.
abbrev pub peer_answer : Option (List ℕ) → PeerMethod → DispatchResult2
peer_answer machine methods.Ping = alone (Ok [])
peer_answer machine methods.GetMachineId = machine_answer machine

-- what introspection tells of the interface
abbrev pub ping : DescribedMethod
ping = method (codes "Ping") [] []

abbrev pub get_machine_id : DescribedMethod
get_machine_id = method (codes "GetMachineId") [] (argument (codes "machine_uuid") (basic basics.String) ∷ [])

unfoldable pub peer_description : Description
peer_description = described (ping ∷ get_machine_id ∷ []) []
