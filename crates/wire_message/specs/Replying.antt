-- Which message replies to which (D-Bus Specification, "Message Protocol", "Types of messages").
use Rattle.std.specs.Prelude.{ℕ, ◌==◌, ◌&&◌, Bool, true, false, Option, option_map, unwrap_or}
use Rattle.wire_message.specs.{Front.MessageView, declared.kind.MessageType.MessageType}

-- a method return or an error
abbrev pub is_reply : MessageType → Bool
is_reply MessageType.MethodReturn = true
is_reply MessageType.Error = true
is_reply other = false

-- a method return, and no error
abbrev pub is_return : MessageType → Bool
is_return MessageType.MethodReturn = true
is_return other = false

-- the number is there and is this
abbrev pub is_serial : Option ℕ → ℕ → Bool
is_serial o serial = unwrap_or (option_map (λ n. n == serial) o) false

-- the message is a return or an error with this reply serial
unfoldable pub replies_to : ℕ → MessageView → Bool
replies_to serial m = is_reply m.kind && is_serial m.reply_serial serial
