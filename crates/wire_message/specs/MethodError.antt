-- The error that a message is (D-Bus Specification, "Types of messages", "Errors").
use Rattle.std.specs.Prelude.{◌≡◌, ℕ, List, Option, Some, None}
use Rattle.wire_message.specs.Front.{MessageView}
use Rattle.wire_message.specs.Texts.{first_argument}
use Rattle.wire_message.specs.declared.kind.MessageType.{MessageType}
use Rattle.wire_message.specs.declared.kind.MessageType.TheVariants as types
use Rattle.wire_message.specs.declared.error.Error.{Error}
use Rattle.wire_message.specs.declared.error.Error.TheVariants as errors

-- the name of an error; none of another message
abbrev pub name_of_error : MessageType → Option (List ℕ) → Option (List ℕ)
name_of_error types.Error name = name
name_of_error kind name = None

-- a method's error where there is a name, with the first argument as its detail where that is a string; else no reply
abbrev pub error_named : Option (List ℕ) → MessageView → Error
error_named (Some name) m = errors.MethodError name (first_argument m) m
error_named None m = errors.InvalidReply

-- What a message is as an error; want of memory may stand in its place.
abbrev pub IsErrorOf : Error → MessageView → Type 0
IsErrorOf errors.Memory m = Unit {0}
IsErrorOf error m = error ≡ error_named (name_of_error m.kind m.error_name) m
