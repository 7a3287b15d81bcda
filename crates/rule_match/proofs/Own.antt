-- A message matches the rule of its own header.
use Rattle.std.proofs.Common.{◌≡◌, refl, ℕ, true, false, if◌then◌else◌, List, Option, Some, None, option_map, IfSome}
use Rattle.wire_names.specs.Names.{is_unique_name, IsUniqueName}
use Rattle.wire_names.specs.declared.bus.OwnedBusName.TheVariants.{Unique}
use Rattle.wire_message.specs.Front.{MessageView}
use Rattle.wire_message.specs.Primary.{head_of}
use Rattle.rule_match.specs.declared.place.PathSpec.TheVariants.{Path}
use Rattle.rule_match.specs.Matching.{Matches, IsSender, IsPlace, IsDestination, unique_only, header_rule}

own_sender : (o : Option (List ℕ)) → IfSome (option_map Unique o) (IsSender o)
own_sender None = tt
own_sender (Some name) = refl

own_text : (o : Option (List ℕ)) → IfSome o (λ name. o ≡ Some name)
own_text None = tt
own_text (Some name) = refl

own_path : (o : Option (List ℕ)) → IfSome (option_map Path o) (IsPlace o)
own_path None = tt
own_path (Some path) = refl

own_destination : (o : Option (List ℕ)) → IfSome (unique_only o) (IsDestination o)
own_destination None = tt
own_destination (Some name) =
    elim (is_unique_name name) as (λ b. IfSome (if b then Some name else None) (λ wanted. IsUniqueName name → name ≡ wanted)) [ true ↦ λ _. refl | false ↦ tt ]

pub own_header : (m : MessageView) → Matches (header_rule (head_of m)) m
unfolding header_rule
own_header m = record {
  kind = refl;
  sender = own_sender m.sender;
  interface = own_text m.interface;
  member = own_text m.member;
  path = own_path m.path;
  destination = own_destination m.destination;
  args = tt;
  arg_paths = tt;
  arg0ns = tt;
}
