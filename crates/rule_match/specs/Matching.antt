-- Which messages a rule matches (D-Bus Specification, "Match Rules").
use Rattle.std.specs.Prelude.{◌≡◌, ℕ, ◌⊎◌, if◌then◌else◌, List, [], Option, Some, None, option_map, unwrap_or, codes, IfSome, IsSomeAnd}
use Rattle.std.specs.List.{AllByRecursion}
use Rattle.wire_names.specs.Names.{is_unique_name, IsUniqueName}
use Rattle.wire_names.specs.declared.bus.OwnedBusName.{OwnedBusName}
use Rattle.wire_names.specs.declared.bus.OwnedBusName.TheVariants.{Unique, WellKnown}
use Rattle.wire_message.specs.Front.{MessageView, body_bytes}
use Rattle.wire_message.specs.Primary.{Head}
use Rattle.rule_match.specs.Below.{IsAtOrBelow}
use Rattle.rule_match.specs.Wanted.{Wanted, HasString, HasPath, HasNameIn}
use Rattle.rule_match.specs.declared.place.PathSpec.{PathSpec}
use Rattle.rule_match.specs.declared.place.PathSpec.TheVariants.{Path, PathNamespace}
use Rattle.rule_match.specs.Rule.{Rule, no_parts}

-- A unique name is the sender in the header. A well-known name refuses no message: only the bus knows whose it is.
abbrev pub IsSender : Option (List ℕ) → OwnedBusName → Type 0
IsSender sender (Unique name) = sender ≡ Some name
IsSender sender (WellKnown name) = Unit {0}

-- A namespace accepts its path and all below it, by whole elements; `/` accepts every path.
abbrev pub IsPlace : Option (List ℕ) → PathSpec → Type 0
IsPlace path (Path wanted) = path ≡ Some wanted
IsPlace path (PathNamespace wanted) = IsSomeAnd path (λ p. (wanted ≡ codes "/") ⊎ IsAtOrBelow 47 wanted p)

-- A unique name in the header is the destination. A message without one, or with a well-known one, isn't refused.
abbrev pub IsDestination : Option (List ℕ) → List ℕ → Type 0
IsDestination None wanted = Unit {0}
IsDestination (Some name) wanted = IsUniqueName name → name ≡ wanted

-- the text of a body's signature; an absent one is empty
abbrev pub signature_text : MessageView → List ℕ
signature_text m = unwrap_or m.signature []

-- The message matches each part of the rule that is there. Its arguments are the values that a front of its body
-- encodes by its signature; where no front does, it has none.
pub record Matches (r : Rule) (m : MessageView) : Type 0 where
  pub kind : IfSome r.kind (λ kind. m.kind ≡ kind)
  pub sender : IfSome r.sender (IsSender m.sender)
  pub interface : IfSome r.interface (λ name. m.interface ≡ Some name)
  pub member : IfSome r.member (λ name. m.member ≡ Some name)
  pub path : IfSome r.path (IsPlace m.path)
  pub destination : IfSome r.destination (IsDestination m.destination)
  pub args : AllByRecursion (HasString m.order (signature_text m) (body_bytes m.bytes)) r.args
  pub arg_paths : AllByRecursion (HasPath m.order (signature_text m) (body_bytes m.bytes)) r.arg_paths
  pub arg0ns : IfSome r.arg0ns (HasNameIn m.order (signature_text m) (body_bytes m.bytes))

-- a destination, where it is a unique name
abbrev pub unique_only : Option (List ℕ) → Option (List ℕ)
unique_only None = None
unique_only (Some name) = if is_unique_name name then Some name else None

-- the rule of the type, sender, interface, member, path and unique destination of a header
unfoldable pub header_rule : Head → Rule
header_rule head = record no_parts {
  kind = Some head.primary.msg_type;
  sender = option_map Unique head.fields.sender;
  interface = head.fields.interface;
  member = head.fields.member;
  path = option_map Path head.fields.path;
  destination = unique_only head.fields.destination;
}

-- ---- by halves

-- The message's header is as the rule wants it; of the arguments nothing is said.
pub record HeaderMatches (r : Rule) (m : MessageView) : Type 0 where
  pub kind : IfSome r.kind (λ kind. m.kind ≡ kind)
  pub sender : IfSome r.sender (IsSender m.sender)
  pub interface : IfSome r.interface (λ name. m.interface ≡ Some name)
  pub member : IfSome r.member (λ name. m.member ≡ Some name)
  pub path : IfSome r.path (IsPlace m.path)
  pub destination : IfSome r.destination (IsDestination m.destination)

-- what the rule wants of a message's arguments
abbrev pub wanted_of : Rule → Wanted
wanted_of r = record { args = r.args; arg_paths = r.arg_paths; arg0ns = r.arg0ns }
