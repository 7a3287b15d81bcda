-- What a builder's calls change.
use Rattle.std.specs.Prelude.{◌≡◌, ◌⊎◌, ◌<◌, Bool, if◌then◌else◌, Some, Result, Ok, Err, IsTrue}
use Rattle.wire_message.specs.declared.error.Error.{Error}
use Rattle.wire_message.specs.declared.error.Error.TheVariants.{InvalidMatchRule, Memory}
use Rattle.rule_match.specs.declared.key.Key.{Key}
use Rattle.rule_match.specs.declared.key.Key.TheVariants as keys
use Rattle.rule_match.specs.declared.part.Part.{Part}
use Rattle.rule_match.specs.declared.part.Part.TheVariants as parts
use Rattle.rule_match.specs.declared.place.PathSpec.TheVariants as places
use Rattle.rule_match.specs.Arguments.{put, is_argument}
use Rattle.rule_match.specs.Namespace.{IsNamespace}
use Rattle.rule_match.specs.Rule.{Rule}

-- the rule with a part more, which stands for an earlier one that sets the same
unfoldable pub with_part : Part → Rule → Rule
with_part (parts.Kind kind) r = record r { kind = Some kind }
with_part (parts.Sender name) r = record r { sender = Some name }
with_part (parts.Interface name) r = record r { interface = Some name }
with_part (parts.Member name) r = record r { member = Some name }
with_part (parts.Path path) r = record r { path = Some (places.Path path) }
with_part (parts.PathNamespace path) r = record r { path = Some (places.PathNamespace path) }
with_part (parts.Destination name) r = record r { destination = Some name }
with_part (parts.Arg a) r = record r { args = put a r.args }
with_part (parts.ArgPath a) r = record r { arg_paths = put a r.arg_paths }
with_part (parts.Arg0Namespace name) r = record r { arg0ns = Some name }

-- what a part's type doesn't say of it: arguments are in range, and a namespace is one
abbrev pub IsPart : Part → Type 0
IsPart (parts.Arg a) = IsTrue (is_argument a)
IsPart (parts.ArgPath a) = IsTrue (is_argument a)
IsPart (parts.Arg0Namespace name) = IsNamespace name
IsPart _ = Unit {0}

-- Where the test holds the call is Ok with that rule, else InvalidMatchRule; but for want of memory.
abbrev pub Sets : Result Rule Error → Bool → Rule → Type 0
Sets result allowed r = (result ≡ Err Memory) ⊎ (result ≡ (if allowed then Ok r else Err InvalidMatchRule))

-- a key's index is below 64
abbrev pub IsKey : Key → Type 0
IsKey (keys.Argument index) = index < 64
IsKey (keys.ArgumentPath index) = index < 64
IsKey _ = Unit {0}

-- A call that takes memory answered what is told, or there was none.
abbrev pub Gives : {A : Type 0} → Result A Error → Result A Error → Type 0
Gives result told = (result ≡ Err Memory) ⊎ (result ≡ told)
