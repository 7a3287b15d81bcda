-- The calls by which a peer asks the bus for what a rule accepts, and tells it that this isn't wanted any more (D-Bus
-- Specification, "Message Bus Messages", `org.freedesktop.DBus.AddMatch` and `org.freedesktop.DBus.RemoveMatch`).
use Rattle.std.specs.Prelude.{ℕ, List, [], ◌∷◌, map, Option, Some, None, codes}
use Rattle.peer_core.specs.{Names.{Little, text, string, no_fields, BuilderView, Rule, MessageType}, History.Past}
use Rattle.peer_calls.specs.{History.{AddMatch, RemoveMatch}, Issuing.Posting}
use Rattle.wire_message.specs.Outgoing.{OutgoingMessageView}
use Rattle.rule_match.specs.Text.{rule_text}

-- the bus's name, which is its interface's name too
abbrev pub bus_name : List ℕ
bus_name = codes "org.freedesktop.DBus"

-- the call of a method of the bus, by the peer of this name
abbrev pub bus_builder : Option (List ℕ) → List ℕ → BuilderView
bus_builder name member = record {
  kind = MessageType.MethodCall;
  order = Little;
  flags = 0;
  serial = None;
  fields = record no_fields {
    path = Some (codes "/org/freedesktop/DBus");
    interface = Some bus_name;
    member = Some member;
    destination = Some bus_name;
    sender = name;
  };
}

-- that call with a rule's text
abbrev pub match_call : List ℕ → Option (List ℕ) → Rule → OutgoingMessageView
match_call member name rule = record { builder = bus_builder name member; values = text string (rule_text rule) ∷ []; fds = [] }

-- AddMatch of a rule, by which the bus is asked for what it accepts, for whose stream this capacity is asked, if one is
abbrev pub asking_of : Past → Rule → Option ℕ → Posting
asking_of h rule asked = record { outgoing = match_call (codes "AddMatch") h.name rule; purpose = AddMatch rule asked }

-- RemoveMatch of each of these rules, by which the bus is told that what they accept isn't wanted any more
abbrev pub tellings_of : Past → List Rule → List Posting
tellings_of h rules = map (λ rule. record { outgoing = match_call (codes "RemoveMatch") h.name rule; purpose = RemoveMatch }) rules

-- ---- serials

-- the first of some serials
abbrev pub first_of : List ℕ → ℕ
first_of [] = 0
first_of (serial ∷ serials) = serial

-- and the last
abbrev pub last_of : List ℕ → Option ℕ
last_of [] = None
last_of (serial ∷ []) = Some serial
last_of (serial ∷ more ∷ serials) = last_of (more ∷ serials)
