-- The text of a rule (D-Bus Specification, "Match Rules").
use Rattle.std.specs.Prelude.{ℕ, ◌==◌, nat_lt, if◌then◌else◌, List, [], ◌∷◌, ◌++◌, length, map, codes, decimal, Option, Some, None, option_map, Result, Ok, Err}
use Rattle.std.specs.List.{slice_split, position_or_len, before_first, after_first, join_with_byte}
use Rattle.wire_message.specs.declared.kind.MessageType.{MessageType}
use Rattle.wire_message.specs.declared.error.Error.{Error}
use Rattle.wire_message.specs.declared.error.Error.TheVariants.{InvalidMatchRule}
use Rattle.wire_names.specs.BusName.{text_of_owned}
use Rattle.wire_names.specs.declared.bus.OwnedBusName.{OwnedBusName}
use Rattle.rule_match.specs.declared.key.Key.{Key}
use Rattle.rule_match.specs.declared.part.Part.{Part}
use Rattle.rule_match.specs.declared.part.Part.TheVariants as parts
use Rattle.rule_match.specs.declared.place.PathSpec.{PathSpec}
use Rattle.rule_match.specs.declared.place.PathSpec.TheVariants as places
use Rattle.rule_match.specs.declared.arguments.Argument.{Argument}
use Rattle.rule_match.specs.Arguments.{in_order}
use Rattle.rule_match.specs.Rule.{Rule}
use Rattle.rule_match.specs.Key.{key_of}
use Rattle.rule_match.specs.Part.{part_of, kind_word}

-- ---- from a text

-- the components of a text: its parts between commas
abbrev pub components : List ℕ → List (List ℕ)
components text = slice_split (λ b. b == 44) text

-- what stands in front of a quote at the end
abbrev pub before_quote : List ℕ → Option (List ℕ)
before_quote [] = None
before_quote (b ∷ []) = if b == 39 then Some [] else None
before_quote (b ∷ c ∷ rest) = option_map (λ bs. b ∷ bs) (before_quote (c ∷ rest))

-- what stands between a quote in front and a quote at the end; other quotes are a part of it
abbrev pub between_quotes : List ℕ → Option (List ℕ)
between_quotes [] = None
between_quotes (b ∷ rest) = if b == 39 then before_quote rest else None

-- the part of a key and a value; where either is absent, a fault of the rule
abbrev pub keyed : Option Key → Option (List ℕ) → Result Part Error
keyed (Some key) (Some value) = part_of key value
keyed key value = Err InvalidMatchRule

-- What a component says: a key in front of the first `=`, and a value between quotes behind it.
unfoldable pub component : List ℕ → Result Part Error
component text =
    if nat_lt (position_or_len (λ b. b == 61) text) (length text)
    then keyed (key_of (before_first (λ b. b == 61) text)) (between_quotes (after_first (λ b. b == 61) text))
    else Err InvalidMatchRule

-- the parts with one more in front of them, or the fault in their place
abbrev pub with_first : Part → Result (List Part) Error → Result (List Part) Error
with_first part (Ok parts) = Ok (part ∷ parts)
with_first part (Err e) = Err e

-- the parts of a component and of those behind it, or the leftmost fault
abbrev pub first_then : Result Part Error → Result (List Part) Error → Result (List Part) Error
first_then (Ok part) others = with_first part others
first_then (Err e) others = Err e

-- what the components say, or the fault of the leftmost that is outside the grammar
abbrev pub said : List (List ℕ) → Result (List Part) Error
said [] = Ok []
said (c ∷ cs) = first_then (component c) (said cs)

-- ---- the values that count

-- the first value, or the second where the first is absent
abbrev pub or_else : {A : Type 0} → Option A → Option A → Option A
or_else (Some x) other = Some x
or_else None other = other

-- the value of the last part that has one
abbrev pub last_of : {A : Type 0} → (Part → Option A) → List Part → Option A
last_of value [] = None
last_of value (part ∷ rest) = or_else (last_of value rest) (value part)

-- the message type that a part asks for
abbrev pub kind_in : Part → Option MessageType
kind_in (parts.Kind kind) = Some kind
kind_in _ = None

-- the sender that a part asks for
abbrev pub sender_in : Part → Option OwnedBusName
sender_in (parts.Sender name) = Some name
sender_in _ = None

-- the interface that a part asks for
abbrev pub interface_in : Part → Option (List ℕ)
interface_in (parts.Interface name) = Some name
interface_in _ = None

-- the member that a part asks for
abbrev pub member_in : Part → Option (List ℕ)
member_in (parts.Member name) = Some name
member_in _ = None

-- a path and a namespace are one part
abbrev pub place_in : Part → Option PathSpec
place_in (parts.Path path) = Some (places.Path path)
place_in (parts.PathNamespace path) = Some (places.PathNamespace path)
place_in _ = None

-- the destination that a part asks for
abbrev pub destination_in : Part → Option (List ℕ)
destination_in (parts.Destination name) = Some name
destination_in _ = None

-- the text that is wanted of an argument, where it has this index
abbrev pub text_at : ℕ → Argument → Option (List ℕ)
text_at index a = if a.index == index then Some a.text else None

-- each index is a part of its own
abbrev pub arg_in : ℕ → Part → Option (List ℕ)
arg_in index (parts.Arg a) = text_at index a
arg_in index _ = None

-- the argument path that a part asks for of the argument with this index
abbrev pub arg_path_in : ℕ → Part → Option (List ℕ)
arg_path_in index (parts.ArgPath a) = text_at index a
arg_path_in index _ = None

-- the namespace that a part asks for of the first argument
abbrev pub arg0ns_in : Part → Option (List ℕ)
arg0ns_in (parts.Arg0Namespace name) = Some name
arg0ns_in _ = None

-- The rule that parts make: of the parts that set the same, the last counts.
unfoldable pub rule_of : List Part → Rule
rule_of ps = record {
  kind = last_of kind_in ps;
  sender = last_of sender_in ps;
  interface = last_of interface_in ps;
  member = last_of member_in ps;
  path = last_of place_in ps;
  destination = last_of destination_in ps;
  args = in_order (λ i. last_of (arg_in i) ps) 64;
  arg_paths = in_order (λ i. last_of (arg_path_in i) ps) 64;
  arg0ns = last_of arg0ns_in ps;
}

-- the rule of these parts, or the fault in their place
abbrev pub made : Result (List Part) Error → Result Rule Error
made (Ok ps) = Ok (rule_of ps)
made (Err e) = Err e

-- The rule that a text is, or the fault of its leftmost component outside the grammar.
unfoldable pub rule_in : List ℕ → Result Rule Error
rule_in text = made (said (components text))

-- ---- to a text

-- a component: a key, and a value between quotes
abbrev pub component_text : List ℕ → List ℕ → List ℕ
component_text key value = key ++ (codes "='" ++ (value ++ codes "'"))

-- the component of an argument, whose key ends so
abbrev pub argument_text : List ℕ → Argument → List ℕ
argument_text end a = component_text (codes "arg" ++ (decimal a.index ++ end)) a.text

-- the component that a part is: its key, and its value between quotes
abbrev pub part_text : Part → List ℕ
part_text (parts.Kind kind) = component_text (codes "type") (kind_word kind)
part_text (parts.Sender name) = component_text (codes "sender") (text_of_owned name)
part_text (parts.Interface name) = component_text (codes "interface") name
part_text (parts.Member name) = component_text (codes "member") name
part_text (parts.Path path) = component_text (codes "path") path
part_text (parts.PathNamespace path) = component_text (codes "path_namespace") path
part_text (parts.Destination name) = component_text (codes "destination") name
part_text (parts.Arg a) = argument_text [] a
part_text (parts.ArgPath a) = argument_text (codes "path") a
part_text (parts.Arg0Namespace name) = component_text (codes "arg0namespace") name

-- the part of a value, where there is one
abbrev pub one : {A : Type 0} → (A → Part) → Option A → List Part
one part None = []
one part (Some x) = part x ∷ []

-- the part that asks for this path, or for this one and all below it
abbrev pub place_part : PathSpec → Part
place_part (places.Path path) = parts.Path path
place_part (places.PathNamespace path) = parts.PathNamespace path

-- the parts of a rule in the order in which they are printed
unfoldable pub parts_of : Rule → List Part
parts_of r =
    one parts.Kind r.kind ++ (one parts.Sender r.sender ++ (one parts.Interface r.interface
    ++ (one parts.Member r.member ++ (one parts.Destination r.destination ++ (one place_part r.path
    ++ (map parts.Arg r.args ++ (map parts.ArgPath r.arg_paths ++ one parts.Arg0Namespace r.arg0ns)))))))

-- The text of a rule: its parts, joined by commas.
unfoldable pub rule_text : Rule → List ℕ
rule_text r = join_with_byte 44 (map part_text (parts_of r))
