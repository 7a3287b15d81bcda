-- The messages by which a peer asks the bus, to be sent.
use Rattle.std.proofs.Common.{◌≡◌, ℕ, refl, codes, true, false, List, Option, None}
use Rattle.peer_core.specs.{Names.{IsBusName, IsInterfaceName, IsObjectPath, Rule}, BusCall.match_call}
use Rattle.peer_calls.specs.{History.RemoveMatch, Issuing.posted}
use Rattle.wire_message.specs.Outgoing.{expects_reply, OutgoingMessageView, sent_by}
use Rattle.wire_names.specs.Names.{is_element, is_dotted, is_unique_name, is_bus_name, is_interface_name, is_member_name, is_object_path}

-- the names of what is asked
pub path_is : IsObjectPath (codes "/org/freedesktop/DBus")
unfolding is_object_path is_element
path_is = refl

pub interface_is : IsInterfaceName (codes "org.freedesktop.DBus")
unfolding is_interface_name is_dotted is_element
interface_is = refl

pub bus_is : IsBusName (codes "org.freedesktop.DBus")
unfolding is_bus_name is_unique_name
bus_is = refl

pub add_is : is_member_name (codes "AddMatch") ≡ true
unfolding is_member_name is_element
add_is = refl

pub remove_is : is_member_name (codes "RemoveMatch") ≡ true
unfolding is_member_name is_element
remove_is = refl

-- the call that asks the bus for what the rule accepts, and the one that tells it that this isn't wanted any more
abbrev pub add_match : Option (List ℕ) → Rule → OutgoingMessageView
add_match name rule = match_call (codes "AddMatch") name rule

abbrev pub remove_match : Option (List ℕ) → Rule → OutgoingMessageView
remove_match name rule = match_call (codes "RemoveMatch") name rule

-- such a call, put as the peer's own
pub match_posted : (member : List ℕ) (name : Option (List ℕ)) (rule : Rule) → posted true (sent_by name false (match_call member None rule)) ≡ record { outgoing = match_call member name rule; purpose = RemoveMatch }
unfolding expects_reply
match_posted member name rule = refl
