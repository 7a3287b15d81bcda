-- A match rule as plain data: each part is there or not (D-Bus Specification, "Match Rules").
use Rattle.std.specs.Prelude.{ℕ, List, [], Option, Some, None, codes, IfSome, IsTrue}
use Rattle.std.specs.List.{list_all}
use Rattle.wire_message.specs.declared.kind.MessageType.{MessageType}
use Rattle.wire_message.specs.declared.kind.MessageType.TheVariants as types
use Rattle.wire_names.specs.Names.{IsUniqueName, IsWellKnownName, IsInterfaceName, IsMemberName, IsObjectPath}
use Rattle.wire_names.specs.declared.bus.OwnedBusName.{OwnedBusName}
use Rattle.wire_names.specs.declared.bus.OwnedBusName.TheVariants.{Unique, WellKnown}
use Rattle.rule_match.specs.declared.place.PathSpec.{PathSpec}
use Rattle.rule_match.specs.declared.place.PathSpec.TheVariants.{Path, PathNamespace}
use Rattle.rule_match.specs.declared.arguments.Argument.{Argument}
use Rattle.rule_match.specs.Arguments.{is_ascending, is_argument}
use Rattle.rule_match.specs.Namespace.{IsNamespace}

-- a match rule: what it wants of a message's header and arguments; of a part that is absent nothing is wanted
pub record Rule : Type 0 where
  pub kind : Option MessageType
  pub sender : Option OwnedBusName
  pub interface : Option (List ℕ)
  pub member : Option (List ℕ)
  pub path : Option PathSpec
  pub destination : Option (List ℕ)
  pub args : List Argument
  pub arg_paths : List Argument
  pub arg0ns : Option (List ℕ)

-- the rule of no parts, which wants every message
abbrev pub no_parts : Rule
no_parts = record {
  kind = None;
  sender = None;
  interface = None;
  member = None;
  path = None;
  destination = None;
  args = [];
  arg_paths = [];
  arg0ns = None;
}

-- the rule of the bus's own signals of a name
unfoldable pub bus_signal : List ℕ → Rule
bus_signal name = record no_parts {
  kind = Some types.Signal;
  sender = Some (Unique (codes "org.freedesktop.DBus"));
  interface = Some (codes "org.freedesktop.DBus");
  member = Some name;
}

-- the text of the path, which may be that of a namespace
abbrev pub place_text : PathSpec → List ℕ
place_text (Path path) = path
place_text (PathNamespace path) = path

-- The arguments are in range, have ascending indices and texts without a 0 byte, and a namespace is one.
pub record IsRule (r : Rule) : Type 0 where
  pub args : IsTrue (list_all is_argument r.args)
  pub args_ascend : IsTrue (is_ascending r.args)
  pub arg_paths : IsTrue (list_all is_argument r.arg_paths)
  pub arg_paths_ascend : IsTrue (is_ascending r.arg_paths)
  pub arg0ns : IfSome r.arg0ns IsNamespace

-- The sender is in the grammar of unique names or in that of well-known names, as its kind says.
abbrev pub IsSender : OwnedBusName → Type 0
IsSender (Unique name) = IsUniqueName name
IsSender (WellKnown name) = IsWellKnownName name

-- The names and the path are in their grammars.
pub record HasNames (r : Rule) : Type 0 where
  pub sender : IfSome r.sender IsSender
  pub interface : IfSome r.interface IsInterfaceName
  pub member : IfSome r.member IsMemberName
  pub path : IfSome r.path (λ place. IsObjectPath (place_text place))
  pub destination : IfSome r.destination IsUniqueName
