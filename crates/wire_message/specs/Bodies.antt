-- Messages with bodies (D-Bus Specification, "Message Format", "Marshaling (Wire Format)").
use Rattle.std.specs.Prelude.{◌≡◌, ◌<◌, ◌≤◌, ◌⊎◌, ℕ, Bool, List, [], length, map, Option, Result, Ok, Err}
use Rattle.wire_number.specs.Limits.{message_limit}
use Rattle.wire_number.specs.declared.endian.Endian.{Endian}
use Rattle.wire_signature.specs.SingleType.{SingleType, IsSignature, SignatureText}
use Rattle.wire_signature.specs.declared.error.VariantError.{VariantError}
use Rattle.wire_signature.specs.declared.error.VariantError.TheVariants as faults
use Rattle.wire_tree.specs.Datum.{Datum, data_of, type_of}
use Rattle.wire_encoding.specs.Encoding.{AllFit, depths, encodings}
use Rattle.wire_body.specs.Arguments.{AreAllWellTyped}
use Rattle.wire_message.specs.SerialOrder.{IsSerial, NoSerial}
use Rattle.wire_message.specs.BuilderView.{BuilderView, built, message_text, BuildsWith}
use Rattle.wire_message.specs.Front.{MessageView, bare}
use Rattle.wire_message.specs.Signed.{signed}
use Rattle.wire_message.specs.declared.error.Error.{Error}
use Rattle.wire_message.specs.declared.error.Error.TheVariants as errors
use Rattle.wire_message.specs.ErrorKinds.{error_of_variant}

-- A body's bytes: its values one behind the other. A body begins at a multiple of 8, so places are counted from its
-- first byte.
abbrev pub body_text : Endian → List Datum → List ℕ
body_text order values = encodings order 0 (data_of values)

-- there is a serial for the message
abbrev pub HasSerial : (ℕ → Bool) → Option ℕ → ℕ → Type 0
HasSerial taken set last = (serial : ℕ) × IsSerial taken set last serial

-- An array passes its limit, or else a text passes that of a message.
abbrev pub IsExcess : Type 0 → List ℕ → Type 0
IsExcess fits text = (fits → ⊥) ⊎ (fits × (message_limit < length text))

-- ---- a body of these bytes: whether it is shallow, with at most 64 containers open at once, and whether each array fits

-- The message of a builder with this serial, this body and these descriptors was made; or a value opens too many
-- containers, or else an array or the message passes its limit.
abbrev pub MakesOf : BuilderView → ℕ → List ℕ → Type 0 → Type 0 → List ℕ → Result MessageView Error → Type 0
MakesOf builder serial text shallow fits fds (Ok m) =
    shallow × fits × (bare m ≡ built builder serial text) × (length m.bytes ≤ message_limit) × (m.fds ≡ fds)
MakesOf builder serial text shallow fits fds (Err (errors.Variant faults.Depth)) = shallow → ⊥
MakesOf builder serial text shallow fits fds (Err errors.ExcessData) = shallow × IsExcess fits (message_text builder serial text)
MakesOf builder serial text shallow fits fds (Err errors.Memory) = Unit {0}
MakesOf builder serial text shallow fits fds (Err error) = ⊥

-- A message that is built of a builder and a text, with the serial that was set, else with the next, which is drawn
-- then alone; SerialsSpent where none was set and each is taken. A refusal draws nothing.
abbrev pub BuildsOf : (ℕ → Bool) → BuilderView → List ℕ → Type 0 → Type 0 → List ℕ → ℕ → ℕ → Result MessageView Error → Type 0
BuildsOf taken builder text shallow fits fds old new (Ok m) = shallow × fits × BuildsWith taken builder text fds old new (Ok m)
BuildsOf taken builder text shallow fits fds old new (Err errors.SerialsSpent) = NoSerial taken builder.serial × (new ≡ old)
BuildsOf taken builder text shallow fits fds old new (Err (errors.Variant faults.Depth)) =
    HasSerial taken builder.serial old × (shallow → ⊥) × (new ≡ old)
BuildsOf taken builder text shallow fits fds old new (Err errors.ExcessData) =
    (serial : ℕ) × IsSerial taken builder.serial old serial × shallow × IsExcess fits (message_text builder serial text) × (new ≡ old)
BuildsOf taken builder text shallow fits fds old new (Err errors.Memory) = new ≡ old
BuildsOf taken builder text shallow fits fds old new (Err error) = ⊥

-- ---- a body of values

-- What building with these values as the body gives: the message of the builder with their signature, their bytes and
-- these descriptors. Refused, in this order: SerialsSpent where no serial was set and each is taken, Depth where a
-- value opens more than 64 containers at once, ExcessData where the elements of an array take more than 67,108,864
-- bytes, or the message passes its limit. A refusal draws nothing.
abbrev pub BuildsValues : (ℕ → Bool) → BuilderView → List Datum → List ℕ → ℕ → ℕ → Result MessageView Error → Type 0
BuildsValues taken builder values fds old new result =
    BuildsOf taken (signed builder (map type_of values)) (body_text builder.order values) (depths (data_of values) ≤ 64)
    (AllFit builder.order 0 (data_of values)) fds old new result

-- A message that is built of the values of arguments, without descriptors. They are refused, once there is a serial,
-- with Signature where their types together are no signature, then with Malformed where a text can't be one of its
-- type, then as values are.
abbrev pub BuildsBody : (ℕ → Bool) → BuilderView → List Datum → ℕ → ℕ → Result MessageView Error → Type 0
BuildsBody taken builder values old new (Err errors.SerialsSpent) = NoSerial taken builder.serial × (new ≡ old)
BuildsBody taken builder values old new (Err (errors.Variant faults.Signature)) =
    HasSerial taken builder.serial old × (IsSignature (map type_of values) → ⊥) × (new ≡ old)
BuildsBody taken builder values old new (Err (errors.Variant faults.Malformed)) =
    HasSerial taken builder.serial old × IsSignature (map type_of values) × (AreAllWellTyped values → ⊥) × (new ≡ old)
BuildsBody taken builder values old new (Err errors.Memory) = new ≡ old
BuildsBody taken builder values old new result =
    IsSignature (map type_of values) × AreAllWellTyped values × BuildsValues taken builder values [] old new result

-- ---- on the way

-- Whether arguments may be a body, and then the text of their signature: Signature exactly where their types together
-- are none; else Malformed exactly where a text can't be one of its type; else Depth exactly where a value opens too
-- many containers.
abbrev pub IsReady : {A : Type 0} → Result A VariantError → List SingleType → List Datum → List ℕ → Type 0
IsReady (Ok done) kinds values text = SignatureText kinds text × AreAllWellTyped values × (depths (data_of values) ≤ 64)
IsReady (Err faults.Signature) kinds values text = IsSignature kinds → ⊥
IsReady (Err faults.Malformed) kinds values text = IsSignature kinds × (AreAllWellTyped values → ⊥)
IsReady (Err faults.Depth) kinds values text = IsSignature kinds × AreAllWellTyped values × (64 < depths (data_of values))
IsReady (Err error) kinds values text = ⊥

-- Refused: SerialsSpent where no serial was set and each is taken, else for this reason.
abbrev pub IsRefusedAs : {A : Type 0} → (ℕ → Bool) → Option ℕ → ℕ → VariantError → Result A Error → Type 0
IsRefusedAs taken set last kind (Ok done) = ⊥
IsRefusedAs taken set last kind (Err errors.SerialsSpent) = NoSerial taken set
IsRefusedAs taken set last kind (Err error) = HasSerial taken set last × (error ≡ error_of_variant kind)
