-- What is printed of a message.
use Rattle.std.specs.Prelude.{ℕ, Bool, false, ◌==◌, if◌then◌else◌, List, [], ◌∷◌, ◌++◌, codes, Option, Some, None, option_map}
use Rattle.wire_number.specs.declared.endian.Endian.{Endian}
use Rattle.wire_tree.specs.Datum.{string}
use Rattle.wire_encoding.specs.Reading.{text_at}
use Rattle.wire_message.specs.Front.{MessageView, body_bytes}
use Rattle.wire_message.specs.declared.kind.MessageType.{MessageType}
use Rattle.wire_message.specs.declared.kind.MessageType.TheVariants as types

-- the words for a message type
abbrev pub kind_text : MessageType → List ℕ
kind_text types.MethodCall = codes "Method call"
kind_text types.MethodReturn = codes "Method return"
kind_text types.Error = codes "Error"
kind_text types.Signal = codes "Signal"

-- a part that is left out where it is absent
abbrev pub part_text : List ℕ → Option (List ℕ) → List ℕ
part_text before None = []
part_text before (Some text) = before ++ text

-- the member of a call or a signal, the name of an error
abbrev pub name_by : MessageType → MessageView → Option (List ℕ)
name_by types.MethodCall m = m.member
name_by types.MethodReturn m = None
name_by types.Error m = m.error_name
name_by types.Signal m = m.member

-- the string at the front of some bytes
unfoldable pub first_string : Endian → List ℕ → Option (List ℕ)
first_string order bytes = option_map (λ x. x.0) (text_at string order (record { place = 0; rest = bytes }))

-- the first type is `s`
abbrev pub begins_with_string : Option (List ℕ) → Bool
begins_with_string None = false
begins_with_string (Some []) = false
begins_with_string (Some (letter ∷ rest)) = letter == 115

-- The first argument, where it is a string and can be read.
unfoldable pub first_argument : MessageView → Option (List ℕ)
first_argument m = if begins_with_string m.signature then first_string m.order (body_bytes m.bytes) else None

-- what an error says beside its name
abbrev pub detail_by : MessageType → MessageView → Option (List ℕ)
detail_by types.Error m = first_argument m
detail_by kind m = None

-- What is printed of a message, as `Method call M from S`, `Method return from S`, `Error N: D from S`, `Signal M from
-- S`.
unfoldable pub message_line : MessageView → List ℕ
message_line m =
    kind_text m.kind ++ part_text (codes " ") (name_by m.kind m) ++ part_text (codes ": ") (detail_by m.kind m) ++ part_text (codes " from ") m.sender
