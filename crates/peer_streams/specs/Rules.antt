-- Rules as subscriptions: when two are one, and how many messages a rule's streams may hold where nothing else is asked for
-- (D-Bus Specification, "Match Rules").
use Rattle.std.specs.{Prelude.{ℕ, Bool, false, ◌&&◌, ◌==◌, if◌then◌else◌, List, [], ◌∷◌, Some, codes}, Cmp.Lexicographic.pointwise, Option.option_eq}
use Rattle.peer_streams.specs.Names.{OwnedBusName, Unique, WellKnown, kind_code, MessageType, PathSpec, Path, PathNamespace, Rule, bus_signal}
use Rattle.rule_match.specs.{declared.arguments.Argument.Argument, ArgumentTests.same, SameArgument.same_argument}

-- ---- when two rules are one

-- the same message type, told by its byte (D-Bus Specification, "Message Format")
abbrev pub same_kind : MessageType → MessageType → Bool
same_kind kind other = kind_code kind == kind_code other

-- The same bus name: both unique or both well-known, with one text (D-Bus Specification, "Valid Names", "Bus names"). The bus's
-- own name as a unique name isn't it as a well-known one.
abbrev pub same_name : OwnedBusName → OwnedBusName → Bool
same_name (Unique name) (Unique other) = same name other
same_name (WellKnown name) (WellKnown other) = same name other
same_name name other = false

-- the same path, wanted alone by both or with all below it by both (D-Bus Specification, "Match Rules", `path` and
-- `path_namespace`)
abbrev pub same_place : PathSpec → PathSpec → Bool
same_place (Path path) (Path other) = same path other
same_place (PathNamespace path) (PathNamespace other) = same path other
same_place place other = false

-- Two rules are one where each part is the same: neither has it, or both have it and it is the same.
unfoldable pub is_same : Rule → Rule → Bool
is_same r s =
    option_eq same_kind r.kind s.kind
    && (option_eq same_name r.sender s.sender
    && (option_eq same r.interface s.interface
    && (option_eq same r.member s.member
    && (option_eq same_place r.path s.path
    && (option_eq same r.destination s.destination
    && (pointwise same_argument r.args s.args && (pointwise same_argument r.arg_paths s.arg_paths && option_eq same r.arg0ns s.arg0ns)))))))

-- ---- a rule's default capacity

-- one argument is wanted, the first
abbrev pub is_first_alone : List Argument → Bool
is_first_alone (a ∷ []) = a.index == 0
is_first_alone others = false

-- the bus's signal NameOwnerChanged, of any name
abbrev pub owner_changes : Rule
owner_changes = record (bus_signal (codes "NameOwnerChanged")) { path = Some (Path (codes "/org/freedesktop/DBus")) }

-- How many messages a rule's streams may hold where nothing else is asked for: few where the rule is one of an owner's changes, which is
-- that one, of one name, and has no other part.
unfoldable pub default_capacity : Rule → ℕ
default_capacity r = if is_first_alone r.args && is_same (record r { args = [] }) owner_changes then 8 else 64
