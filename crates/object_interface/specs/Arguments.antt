-- The arguments of calls (D-Bus Specification, "Message Format").
use Rattle.std.specs.Prelude.{List}
use Rattle.wire_signature.specs.SingleType.{SingleType}
use Rattle.wire_tree.specs.Datum.{Datum}
use Rattle.wire_message.specs.Front.{MessageView, body_bytes}
use Rattle.wire_message.specs.BodyReading.{HasTypes, BeginsBody}

-- The body of a message is of these types, and a front of its bytes encodes these values.
pub record IsBody (m : MessageView) (types : List SingleType) (values : List Datum) : Type 0 where
  pub types_there : HasTypes m types
  pub front : BeginsBody m.order types (body_bytes m.bytes) values

-- its body is of no values of these types
abbrev pub IsNoBody : MessageView → List SingleType → Type 0
IsNoBody m types = (values : List Datum) → IsBody m types values → ⊥
