-- The word of a body: the text of its signature, a colon, and its values in hexadecimal.
use Rattle.std.specs.{Prelude.{ℕ, ◌≡◌, ◌+◌, ◌<◌, ◌==◌, List, [], ◌∷◌, ◌++◌, length, take, drop, Option, Some, None, option_map, option_and_then, Result, Ok, Err}, List.{position, All}}
use Rattle.peer_words.specs.{Names.{Little, SingleType, single_types_of, SignatureText, types_in, Datum, EncodeEach, Cursor, value_at, fields_at, Error, VariantError}, Hex.{hex_word, bytes_of}}

-- The word of a body with these values: the signature of their types, a colon, and two digits for each byte of their
-- encodings in little order, of which there is at least one (D-Bus Specification, "Message Format", "Marshaling (Wire
-- Format)").
pub record IsBodyWord (word : List ℕ) (values : List Datum) : Type 0 where
  pub types : List SingleType
  pub signature : List ℕ
  pub bytes : List ℕ
  pub text : SignatureText types signature
  pub encoded : EncodeEach Little 0 types values bytes
  pub some : 0 < length bytes
  pub low : All (λ b. b < 256) bytes
  pub whole : word ≡ signature ++ 58 ∷ hex_word bytes

-- what stands before the first colon, and what stands behind it
abbrev pub at_colon : List ℕ → Option (List ℕ × List ℕ)
at_colon word = option_map (λ i. (take i word, drop (i + 1) word)) (position (λ b. b == 58) word)

-- the values, where nothing stands behind them
abbrev pub with_nothing_behind : List Datum × Cursor → List ℕ → Option (List Datum)
with_nothing_behind found [] = Some found.0
with_nothing_behind found (b ∷ bs) = None

-- the values that bytes are in little order, one of each type
unfoldable pub encoded_values : List SingleType → List ℕ → Option (List Datum)
encoded_values types bytes =
    option_and_then (λ found. with_nothing_behind found found.1.rest) (fields_at (value_at 64 Little) (single_types_of types) (record { place = 0; rest = bytes }))

-- The values of a body's word; None where a word is none of a body. The law beside `read_body` says which they are.
unfoldable pub body_values : List ℕ → Option (List Datum)
body_values word =
    option_and_then (λ parts. option_and_then (λ types. option_and_then (encoded_values types) (bytes_of parts.1)) (types_in parts.0)) (at_colon word)

-- What reading a body's word promises: the values of the word; Malformed exactly where it is none of a body. Want of memory
-- tells nothing.
abbrev pub ReadsBody : Result (List Datum) Error → Option (List Datum) → Type 0
ReadsBody (Ok body) found = found ≡ Some body
ReadsBody (Err (Error.Variant VariantError.Malformed)) found = found ≡ None
ReadsBody (Err Error.Memory) found = Unit {0}
ReadsBody (Err error) found = ⊥
