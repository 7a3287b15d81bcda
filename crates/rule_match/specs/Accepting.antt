-- Whether a message matches a rule, as a test (D-Bus Specification, "Match Rules"). The law `accepting_is_matching`
-- ties it to `Matching`, which says the same as a relation.
use Rattle.std.specs.Prelude.{ℕ, Bool, true, false, not, ◌&&◌, ◌||◌, ◌==◌, List, [], Option, Some, None, option_map, option_and_then, unwrap_or, codes}
use Rattle.std.specs.List.{list_all}
use Rattle.wire_number.specs.declared.endian.Endian.{Endian}
use Rattle.wire_names.specs.Names.{is_unique_name}
use Rattle.wire_names.specs.declared.bus.OwnedBusName.{OwnedBusName}
use Rattle.wire_names.specs.declared.bus.OwnedBusName.TheVariants.{Unique, WellKnown}
use Rattle.wire_signature.specs.SingleType.{SingleType, single_types_of}
use Rattle.wire_signature.specs.Parsing.{types_in}
use Rattle.wire_tree.specs.Datum.{Datum}
use Rattle.wire_encoding.specs.Reading.{value_at, fields_at}
use Rattle.wire_message.specs.Front.{MessageView, body_bytes, kind_code}
use Rattle.wire_message.specs.declared.kind.MessageType.{MessageType}
use Rattle.rule_match.specs.declared.arguments.Argument.{Argument}
use Rattle.rule_match.specs.ArgumentTests.{same, is_at_or_below, is_string, is_path, is_name_in, has_at}
use Rattle.rule_match.specs.Wanted.{Wanted}
use Rattle.rule_match.specs.declared.place.PathSpec.{PathSpec}
use Rattle.rule_match.specs.declared.place.PathSpec.TheVariants.{Path, PathNamespace}
use Rattle.rule_match.specs.Rule.{Rule}
use Rattle.rule_match.specs.Matching.{signature_text, wanted_of}

-- a part that a rule hasn't refuses no message
abbrev pub is_none_or : {A : Type 0} → (A → Bool) → Option A → Bool
is_none_or test None = true
is_none_or test (Some wanted) = test wanted

-- ---- the header

-- the message type, told by its byte
abbrev pub is_kind : MessageType → MessageType → Bool
is_kind kind wanted = kind_code kind == kind_code wanted

-- the text is there and is the one that is wanted
abbrev pub is_text : Option (List ℕ) → List ℕ → Bool
is_text None wanted = false
is_text (Some text) wanted = same text wanted

-- A unique name is the sender in the header; a well-known one refuses no message.
abbrev pub accepts_sender : Option (List ℕ) → OwnedBusName → Bool
accepts_sender sender (Unique name) = is_text sender name
accepts_sender sender (WellKnown name) = true

-- the path is the namespace's or below it; `/` accepts every path
abbrev pub is_path_in : Option (List ℕ) → List ℕ → Bool
is_path_in None wanted = false
is_path_in (Some path) wanted = same wanted (codes "/") || is_at_or_below 47 wanted path

-- a message's path is the one that is wanted, or in the namespace that is
abbrev pub accepts_place : Option (List ℕ) → PathSpec → Bool
accepts_place path (Path wanted) = is_text path wanted
accepts_place path (PathNamespace wanted) = is_path_in path wanted

-- Only another unique name is refused as a destination.
abbrev pub accepts_destination : Option (List ℕ) → List ℕ → Bool
accepts_destination None wanted = true
accepts_destination (Some name) wanted = not (is_unique_name name) || same name wanted

-- the header has what the rule wants of it
unfoldable pub accepts_header : Rule → MessageView → Bool
accepts_header r m =
    is_none_or (is_kind m.kind) r.kind
    && (is_none_or (accepts_sender m.sender) r.sender
    && (is_none_or (is_text m.interface) r.interface
    && (is_none_or (is_text m.member) r.member
    && (is_none_or (accepts_place m.path) r.path && is_none_or (accepts_destination m.destination) r.destination))))

-- ---- the arguments

-- The values of these types that stand at the front of a body, whatever stands behind them. They nest at most 64 deep.
abbrev pub values_in : Endian → List SingleType → List ℕ → Option (List Datum)
values_in order types body = option_map (λ found. found.0) (fields_at (value_at 64 order) (single_types_of types) (record { place = 0; rest = body }))

-- the values at the front of a body by its signature; None where there are none
unfoldable pub arguments_in : Endian → List ℕ → List ℕ → Option (List Datum)
arguments_in order signature body = option_and_then (λ types. values_in order types body) (types_in signature)

-- a message's arguments
abbrev pub arguments_of : MessageView → Option (List Datum)
arguments_of m = arguments_in m.order (signature_text m) (body_bytes m.bytes)

-- The arguments have what is wanted: at each index that string, or a text that matches the argument path, and first a
-- name in the namespace.
unfoldable pub accepts_arguments : Wanted → List Datum → Bool
accepts_arguments w ds =
    list_all (λ (a : Argument). has_at (is_string a.text) a.index ds) w.args
    && (list_all (λ (a : Argument). has_at (is_path a.text) a.index ds) w.arg_paths && is_none_or (λ namespace. has_at (is_name_in namespace) 0 ds) w.arg0ns)

-- ---- the whole

-- The rule accepts the message. One whose body can't be read by its signature is tested as one without arguments.
unfoldable pub accepts : Rule → MessageView → Bool
accepts r m = accepts_header r m && accepts_arguments (wanted_of r) (unwrap_or (arguments_of m) [])
