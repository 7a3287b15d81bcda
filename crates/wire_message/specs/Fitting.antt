-- Whether the arrays of values are within their limit (D-Bus Specification, "Marshaling", `ARRAY`).
use Rattle.std.specs.{Prelude.{ℕ, ◌+◌, ◌&&◌, nat_le, Bool, true, length}, Int.w8}
use Rattle.wire_number.specs.{declared.endian.Endian.Endian, Number.counted_text, Limits.array_limit}
use Rattle.wire_signature.specs.SingleType.{alignment, type_text}
use Rattle.wire_tree.specs.Datum.{Datum, num, text, array, dict, struct, variant, Data, no_data, items, type_of}
use Rattle.wire_encoding.specs.Encoding.{aligned, first_place, encoding, encodings}

-- The elements of each array of a value that begins at this place take at most so many bytes.
unfoldable mutual
  pub fits : Endian → ℕ → Datum → Bool
  fits order place (num n v) = true
  fits order place (text t bytes) = true
  fits order place (array t ds) =
      nat_le (length (encodings order (first_place place (alignment t)) ds)) array_limit && all_fit order (first_place place (alignment t)) ds
  fits order place (dict k v es) = nat_le (length (encodings order (first_place place 8) es)) array_limit && all_fit order (first_place place 8) es
  fits order place (struct ds) = all_fit order (aligned place 8) ds
  fits order place (variant d) = fits order (place + length (counted_text w8 order (type_text (type_of d)))) d

  -- of values that stand one behind the other
  pub all_fit : Endian → ℕ → Data → Bool
  all_fit order place no_data = true
  all_fit order place (items d ds) = fits order place d && all_fit order (place + length (encoding order place d)) ds
