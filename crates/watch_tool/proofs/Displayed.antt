-- What is displayed of a message.
use Rattle.std.proofs.Common.{◌≡◌, refl}
use Rattle.wire_message.specs.Texts.{kind_text}
use Rattle.wire_message.specs.declared.kind.MessageType.{MessageType}
use Rattle.wire_message.specs.declared.kind.MessageType.TheVariants as types
use Rattle.peer_script.specs.Transcript.{shown_text}

-- each byte of the words for a message type is shown as itself
pub kind_shown : (kind : MessageType) → shown_text (kind_text kind) ≡ kind_text kind
kind_shown types.MethodCall = refl
kind_shown types.MethodReturn = refl
kind_shown types.Error = refl
kind_shown types.Signal = refl
