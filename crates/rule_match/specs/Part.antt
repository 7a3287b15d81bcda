-- What one component of a rule's text says (D-Bus Specification, "Match Rules").
use Rattle.std.specs.Prelude.{ℕ, if◌then◌else◌, List, codes, Option, Some, None, Result, Ok, Err}
use Rattle.wire_message.specs.declared.kind.MessageType.{MessageType}
use Rattle.wire_message.specs.declared.kind.MessageType.TheVariants as types
use Rattle.wire_message.specs.declared.error.Error.{Error}
use Rattle.wire_message.specs.declared.error.Error.TheVariants.{InvalidMatchRule, Names}
use Rattle.wire_names.specs.declared.error.NamesError.TheVariants as faults
use Rattle.wire_names.specs.Names.{is_bus_name, is_unique_name, is_interface_name, is_member_name, is_object_path}
use Rattle.wire_names.specs.BusName.{bus_name_of, owned_of}
use Rattle.rule_match.specs.declared.key.Key.{Key}
use Rattle.rule_match.specs.declared.key.Key.TheVariants as keys
use Rattle.rule_match.specs.declared.part.Part.{Part}
use Rattle.rule_match.specs.declared.part.Part.TheVariants as parts
use Rattle.rule_match.specs.declared.arguments.Argument.{Argument}
use Rattle.rule_match.specs.Arguments.{is_plain}
use Rattle.rule_match.specs.Namespace.{is_namespace}
use Rattle.rule_match.specs.Key.{same}

-- the message types by their names
abbrev pub kind_word : MessageType → List ℕ
kind_word types.MethodCall = codes "method_call"
kind_word types.MethodReturn = codes "method_return"
kind_word types.Error = codes "error"
kind_word types.Signal = codes "signal"

-- the message type that a word names
abbrev pub kind_of : List ℕ → Option MessageType
kind_of word =
    if same word (codes "signal") then Some types.Signal
    else if same word (codes "method_call") then Some types.MethodCall
    else if same word (codes "method_return") then Some types.MethodReturn
    else if same word (codes "error") then Some types.Error
    else None

-- the part that asks for this message type; where the word named none, a fault of the rule
abbrev pub kind_part : Option MessageType → Result Part Error
kind_part (Some kind) = Ok (parts.Kind kind)
kind_part None = Err InvalidMatchRule

-- an argument of this index and text
abbrev pub argument : ℕ → List ℕ → Argument
argument index text = record { index = index; text = text }

-- What a value is under its key. A name, or the path of `path` or `path_namespace`, outside its grammar is a fault of
-- its kind; any other value outside is a fault of the rule. The text of `argN` or `argNpath` is any without a 0 byte.
unfoldable pub part_of : Key → List ℕ → Result Part Error
part_of keys.Type value = kind_part (kind_of value)
part_of keys.Sender value = if is_bus_name value then Ok (parts.Sender (owned_of (bus_name_of value))) else Err (Names faults.Bus)
part_of keys.Interface value = if is_interface_name value then Ok (parts.Interface value) else Err (Names faults.Interface)
part_of keys.Member value = if is_member_name value then Ok (parts.Member value) else Err (Names faults.Member)
part_of keys.Path value = if is_object_path value then Ok (parts.Path value) else Err (Names faults.Path)
part_of keys.PathNamespace value = if is_object_path value then Ok (parts.PathNamespace value) else Err (Names faults.Path)
part_of keys.Destination value = if is_unique_name value then Ok (parts.Destination value) else Err (Names faults.Unique)
part_of keys.Arg0Namespace value = if is_namespace value then Ok (parts.Arg0Namespace value) else Err InvalidMatchRule
part_of (keys.Argument index) value = if is_plain value then Ok (parts.Arg (argument index value)) else Err InvalidMatchRule
part_of (keys.ArgumentPath index) value = if is_plain value then Ok (parts.ArgPath (argument index value)) else Err InvalidMatchRule
