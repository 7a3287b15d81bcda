-- What writing does.
use Rattle.std.specs.Prelude.{◌≡◌, ℕ, ◌+◌, ◌-◌, ◌<◌, ◌≤◌, List, ◌++◌, length, take, drop, replicate, Some, Result, Ok, Err}
use Rattle.std.specs.Int.{w32}
use Rattle.wire_number.specs.Limits.{array_limit}
use Rattle.wire_number.specs.declared.endian.Endian.{Endian}
use Rattle.wire_signature.specs.declared.error.VariantError.TheVariants as errors
use Rattle.wire_tree.specs.Datum.{Datum, Data, data_of, type_of}
use Rattle.wire_number.specs.Number.{number_text, pad, padding}
use Rattle.wire_encoding.specs.Encoding.{aligned, AllFit, ArraysFit, Encodes, depth, depths, encoding, encodings}
use Rattle.wire_codec.specs.Encoder.{EncoderView, place_of, behind, Within, nearest}
use Rattle.wire_codec.specs.declared.opening.OpenArray.{OpenArray}
use Rattle.wire_codec.specs.declared.error.EncodeError.{EncodeError}
use Rattle.wire_codec.specs.declared.error.EncodeError.TheVariants.{Variant, ExcessData, Memory}

-- A writing is refused for an excess where what was to be written does not fit. Want of memory tells nothing.
abbrev pub Refused : EncodeError → Type 0 → Type 0
Refused (Variant e) fits = ⊥
Refused ExcessData fits = fits → ⊥
Refused Memory fits = Unit {0}

-- What stood there still stands first, and more may stand after it; nothing else changed.
abbrev pub Grown : EncoderView → EncoderView → Type 0
Grown old new = (more : List ℕ) × (new ≡ behind old more)

-- A writing appended a text, and what it wrote fits; or it was refused on its way, since the text doesn't fit or would pass
-- the output's end. (No output passes its end: that is an encoder's invariant.)
abbrev pub Writes : {A : Type 0} → Result A EncodeError → List ℕ → Type 0 → EncoderView → EncoderView → Type 0
Writes (Ok done) body fits old new = (new ≡ behind old body) × fits
Writes (Err e) body fits old new = Refused e (fits × Within old.end (length old.items + length body)) × Grown old new

-- A writing of a text in which no array is limited.
abbrev pub WritesText : {A : Type 0} → Result A EncodeError → List ℕ → EncoderView → EncoderView → Type 0
WritesText result text old new = Writes result text (Unit {0}) old new

-- A writing of a value where the output ends; its arrays fit their limits (D-Bus Specification, "Marshaling (Wire Format)").
abbrev pub WritesValue : {A : Type 0} → Result A EncodeError → Datum → EncoderView → EncoderView → Type 0
WritesValue result d old new = Writes result (encoding old.order (place_of old) d) (ArraysFit old.order (place_of old) d) old new

-- The same of values one after the other.
abbrev pub WritesAll : {A : Type 0} → Result A EncodeError → Data → EncoderView → EncoderView → Type 0
WritesAll result ds old new = Writes result (encodings old.order (place_of old) ds) (AllFit old.order (place_of old) ds) old new

-- A writing of bytes behind an output, all of them or, where it is refused, none.
abbrev pub WroteWhole : {A : Type 0} → Result A EncodeError → List ℕ → Type 0 → List ℕ → List ℕ → Type 0
WroteWhole (Ok done) body fits old new = (new ≡ old ++ body) × fits
WroteWhole (Err e) body fits old new = Refused e fits × (new ≡ old)

-- Why encoding was refused: `Depth` exactly where more than 64 containers are open at once, `ExcessData` exactly where no
-- such depth is there and the elements of an array take too many bytes. Each leaves the output as before.
abbrev pub NotEncoded : EncodeError → Endian → ℕ → Datum → List ℕ → List ℕ → Type 0
NotEncoded (Variant errors.Signature) order place d old new = ⊥
NotEncoded (Variant errors.Depth) order place d old new = (64 < depth d) × (new ≡ old)
NotEncoded (Variant errors.Malformed) order place d old new = ⊥
NotEncoded (Variant errors.SignatureMismatch) order place d old new = ⊥
NotEncoded (Variant errors.Memory) order place d old new = ⊥
NotEncoded ExcessData order place d old new = (depth d ≤ 64) × (ArraysFit order place d → ⊥) × (new ≡ old)
NotEncoded Memory order place d old new = new ≡ old

-- What encoding did: an encoding of the value was appended, or it was refused.
abbrev pub Encoded : {A : Type 0} → Result A EncodeError → Endian → ℕ → Datum → List ℕ → List ℕ → Type 0
Encoded (Ok done) order place d old new = (bytes : List ℕ) × Encodes order place (type_of d) d bytes × (new ≡ old ++ bytes)
Encoded (Err e) order place d old new = NotEncoded e order place d old new

-- Why values are not encoded one behind the other from place 0 on: `Depth` exactly where one opens more than 64 containers at
-- once, `ExcessData` exactly where none does and the elements of an array take too many bytes.
abbrev pub AreNotEncoded : EncodeError → Endian → List Datum → Type 0
AreNotEncoded (Variant errors.Depth) order ds = 64 < depths (data_of ds)
AreNotEncoded (Variant error) order ds = ⊥
AreNotEncoded ExcessData order ds = (depths (data_of ds) ≤ 64) × (AllFit order 0 (data_of ds) → ⊥)
AreNotEncoded Memory order ds = Unit {0}

-- A body's bytes, the encodings of its values from place 0 on, or why there are none.
abbrev pub EncodedAll : {A : Type 0} → (A → List ℕ) → Result A EncodeError → Endian → List Datum → Type 0
EncodedAll bytes (Ok text) order ds = (bytes text ≡ encodings order 0 (data_of ds)) × (depths (data_of ds) ≤ 64) × AllFit order 0 (data_of ds)
EncodedAll bytes (Err e) order ds = AreNotEncoded e order ds

-- The bytes before an array's first element, with zeros where its length belongs (D-Bus Specification, "Marshaling", `ARRAY`).
abbrev pub opening : ℕ → ℕ → List ℕ
opening place boundary = padding place 4 ++ (replicate 4 0 ++ padding (aligned place 4 + 4) boundary)

-- An array was opened: its elements are to be written where the output ends, which may reach as far as an array may and as the
-- output's own end goes, and no less far.
pub record Opened (array : OpenArray) (boundary : ℕ) (old new : EncoderView) : Type 0 where
  pub front : new ≡ record { order = old.order; shift = old.shift; end = Some (nearest old.end (array.start + array_limit)); items = old.items ++ opening (place_of old) boundary }
  pub place : array.place ≡ length old.items + pad (place_of old) 4
  pub start : array.start ≡ length new.items
  pub outer : array.outer_end ≡ old.end

-- The same, or it was refused, since what opens the array would pass the output's end.
abbrev pub Opens : Result OpenArray EncodeError → ℕ → EncoderView → EncoderView → Type 0
Opens (Ok array) boundary old new = Opened array boundary old new
Opens (Err e) boundary old new = WritesText {A = OpenArray} (Err e) (opening (place_of old) boundary) old new

-- Elements may still be written to the array.
pub record IsOpen (array : OpenArray) (w : EncoderView) : Type 0 where
  pub place : array.place + 4 ≤ array.start
  pub start : array.start ≤ length w.items
  pub end : w.end ≡ Some (nearest array.outer_end (array.start + array_limit))

-- An array was closed: its elements' length stands at its place, and the output may reach as far as before it.
pub record Closed (array : OpenArray) (old new : EncoderView) : Type 0 where
  pub text : new ≡ record { order = old.order; shift = old.shift; end = array.outer_end; items = take array.place old.items ++ (number_text w32 old.order (length old.items - array.start) ++ drop (array.place + 4) old.items) }
  pub long : length old.items ≤ array.start + array_limit
