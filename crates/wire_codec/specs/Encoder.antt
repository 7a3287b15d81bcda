-- Where values are written, as contracts see it.
use Rattle.std.specs.Prelude.{◌≡◌, ℕ, ◌+◌, ◌≤◌, min, List, ◌++◌, length, Option, Some, None}
use Rattle.wire_number.specs.declared.endian.Endian.{Endian}

-- An output: the byte order, the place of its first byte counted from a multiple of 8, how many bytes it may have at most where
-- there is such an end, and its bytes.
pub record EncoderView : Type 0 where
  pub order : Endian
  pub shift : ℕ
  pub end : Option ℕ
  pub items : List ℕ

-- the place of the next byte
abbrev pub place_of : EncoderView → ℕ
place_of w = w.shift + length w.items

-- an output with a text after its bytes
abbrev pub behind : EncoderView → List ℕ → EncoderView
behind w text = record { order = w.order; shift = w.shift; end = w.end; items = w.items ++ text }

-- An output that may have so many bytes at most, where there is such an end, has no more.
abbrev pub Within : Option ℕ → ℕ → Type 0
Within None n = Unit {0}
Within (Some end) n = n ≤ end

-- the farthest place up to `far` that does not pass an output's end
abbrev pub nearest : Option ℕ → ℕ → ℕ
nearest None far = far
nearest (Some end) far = min end far
