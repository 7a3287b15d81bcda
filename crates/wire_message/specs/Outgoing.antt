-- A message to be sent, and what it becomes with a serial (D-Bus Specification, "Message Format").
use Rattle.std.specs.{Prelude.{◌||◌, length, ⊤, true, Err, ◌==◌, false, ◌≡◌, bit_and, not, nat_lt, Ok, ℕ, Bool, if◌then◌else◌, List, [], ◌∷◌, map, Option, None, Result, refl}, Coded.{Coded, code_by, coded×, coded_list, coded_ℕ}}
use Rattle.wire_tree.specs.{Datum.{Datum, text, string, type_of, data_of}, DatumCode.datum_code}
use Rattle.wire_encoding.specs.Encoding.{depths}
use Rattle.wire_number.specs.Limits.{message_limit}
use Rattle.wire_message.specs.{Fitting.all_fit, BuilderView.{BuilderView, built}, Bodies.body_text, Signed.{signed, counted}, Front.MessageView, declared.kind.MessageType.MessageType, declared.error.Error.Error, declared.outgoing_body.OutgoingBody.OutgoingBody}

-- a message to be sent: what its header says, the values of its body, and the file descriptors that go with it
pub record OutgoingMessageView : Type 0 where
  pub builder : BuilderView
  pub values : List Datum
  pub fds : List ℕ

-- the code of it, by which a proof tells its values apart: it is stored as its parts
abbrev pub parcel_code : Coded BuilderView → Coded OutgoingMessageView
parcel_code builder =
    code_by (BuilderView × (List Datum × List ℕ)) (coded× builder (coded× (coded_list datum_code) (coded_list coded_ℕ)))
    (λ p. (p.builder, (p.values, p.fds))) (λ t. record { builder = t.0; values = t.1.0; fds = t.1.1 }) (λ _. refl)

-- the values of a body that is to be sent: one text, where it is too long for a string
abbrev pub values_of : OutgoingBody → List Datum
values_of (OutgoingBody.Values values) = values
values_of (OutgoingBody.Long bytes) = text string bytes ∷ []

-- The message with this serial: its header has the signature of the values and the count of the descriptors, and its
-- body is the encoding of the values in the message's own byte order.
unfoldable pub message_of : OutgoingMessageView → ℕ → MessageView
message_of outgoing serial =
    let builder = signed (counted outgoing.builder outgoing.fds) (map type_of outgoing.values) in
    record (built builder serial (body_text outgoing.builder.order outgoing.values)) { fds = outgoing.fds }

-- Who sends a message: the peer of this name, if it has one; of an error that serves a call nobody is named (D-Bus
-- Specification, "Header Fields", `SENDER`).
abbrev pub sender_of : Option (List ℕ) → Bool → MessageType → Option (List ℕ)
sender_of name served MessageType.Error = if served then None else name
sender_of name served other = name

-- what is sent, with that sender, whatever sender it had
abbrev pub sent_by : Option (List ℕ) → Bool → OutgoingMessageView → OutgoingMessageView
sent_by name served outgoing =
    record outgoing { builder = record outgoing.builder { fields = record outgoing.builder.fields { sender = sender_of name served outgoing.builder.kind } } }

-- ---- what is asked of it

-- A message of this type and these flags is answered: it is a method call, and NoReplyExpected isn't among its flags.
unfoldable pub expects_reply : MessageType → ℕ → Bool
expects_reply MessageType.MethodCall flags = not (bit_and flags 1 == 1)
expects_reply kind flags = false

-- it is a call that waits for a reply
abbrev pub expects : OutgoingMessageView → Bool
expects outgoing = expects_reply outgoing.builder.kind outgoing.builder.flags

-- a value opens more than 64 containers at once
abbrev pub is_deep : OutgoingMessageView → Bool
is_deep outgoing = nat_lt 64 (depths (data_of outgoing.values))

-- with this serial, an array passes its limit, or the message does
unfoldable pub is_long : OutgoingMessageView → ℕ → Bool
is_long outgoing serial = not (all_fit outgoing.builder.order 0 (data_of outgoing.values)) || nat_lt message_limit (length (message_of outgoing serial).bytes)

-- What building a message with this serial gives: it, within its limits; or a limit is passed.
abbrev pub MakesAt : OutgoingMessageView → ℕ → Result MessageView Error → Type 0
MakesAt outgoing serial (Ok m) = (m ≡ message_of outgoing serial) × (is_long outgoing serial ≡ false)
MakesAt outgoing serial (Err Error.ExcessData) = is_long outgoing serial ≡ true
MakesAt outgoing serial (Err Error.Memory) = ⊤
MakesAt outgoing serial (Err error) = ⊥
