-- Reading bytes from left to right: the value that stands at the front, and what stands behind it. The laws in
-- proofs/Exact.antt tie it to the encodings of values.
use Rattle.std.specs.Prelude.{ℕ, zero, suc, ◌&&◌, nat_le, nat_lt, if◌then◌else◌, Bool, List, [], ◌∷◌, length, Option, Some, None, is_some}
use Rattle.wire_number.specs.Limits.{array_limit}
use Rattle.std.specs.List.{list_all}
use Rattle.std.specs.Int.{w8, w32}
use Rattle.std.specs.Str.{is_utf8}
use Rattle.wire_number.specs.declared.endian.Endian.{Endian}
use Rattle.wire_names.specs.Names.{is_object_path}
use Rattle.wire_signature.specs.declared.basic.BasicType.{BasicType}
use Rattle.wire_signature.specs.declared.basic.BasicType.TheVariants as basics
use Rattle.wire_signature.specs.SingleType.{SingleType, basic, variant as any, array as array_of, dict as dict_of, struct as struct_of, SingleTypes, no_single_types, single_types, alignment, basic_alignment}
use Rattle.wire_signature.specs.Parsing.{type_in, types_in}
use Rattle.wire_tree.specs.Datum.{FixedType, byte, boolean, int16, uint16, int32, uint32, int64, uint64, double, unix_fd, StringLike, string, object_path, signature, Datum, num, text, array, dict, struct, variant, data_of, entry_type, bound, num_type}
use Rattle.wire_encoding.specs.Encoding.{width_of, length_width}
use Rattle.wire_number.specs.Reading.{Cursor, Parse, ◌>>=◌, made, bytes_at, align_at, number_at, counted_at}

-- a number of the type, behind its padding
unfoldable pub num_at : FixedType → Endian → Cursor → Parse ℕ
num_at n order c = do
  p ← align_at (basic_alignment (num_type n)) c
  x ← number_at (width_of n) order p
  if nat_lt x.0 (bound n) then Some x else None

-- whether bytes are a text of the type
abbrev pub is_text_of : StringLike → List ℕ → Bool
is_text_of string bytes = is_utf8 bytes && list_all (λ b. nat_lt 0 b) bytes
is_text_of object_path bytes = is_object_path bytes
is_text_of signature bytes = is_some (types_in bytes)

-- a text of the type
unfoldable pub text_at : StringLike → Endian → Cursor → Parse (List ℕ)
text_at t order c = do
  x ← counted_at (length_width t) order c
  if is_text_of t x.0 then Some x else None

-- a value of a fixed type
abbrev pub num_value_at : FixedType → Endian → Cursor → Parse Datum
num_value_at n order c = made (num n) (num_at n order c)

-- a value of a string-like type
abbrev pub text_value_at : StringLike → Endian → Cursor → Parse Datum
text_value_at t order c = made (text t) (text_at t order c)

-- a value of a basic type
abbrev pub basic_at : BasicType → Endian → Cursor → Parse Datum
basic_at basics.Byte order c = num_value_at byte order c
basic_at basics.Boolean order c = num_value_at boolean order c
basic_at basics.Int16 order c = num_value_at int16 order c
basic_at basics.Uint16 order c = num_value_at uint16 order c
basic_at basics.Int32 order c = num_value_at int32 order c
basic_at basics.Uint32 order c = num_value_at uint32 order c
basic_at basics.Int64 order c = num_value_at int64 order c
basic_at basics.Uint64 order c = num_value_at uint64 order c
basic_at basics.Double order c = num_value_at double order c
basic_at basics.String order c = text_value_at string order c
basic_at basics.ObjectPath order c = text_value_at object_path order c
basic_at basics.Signature order c = text_value_at signature order c
basic_at basics.UnixFd order c = num_value_at unix_fd order c

-- nothing, where no bytes are left
abbrev pub none_at : {A : Type 0} → List ℕ → Option (List A)
none_at [] = Some []
none_at (b ∷ bs) = None

-- one more before the others, unless no bytes are left
abbrev pub more_at : {A : Type 0} → (Cursor → Option (List A)) → (Cursor → Parse A) → Cursor → List ℕ → Option (List A)
more_at others read c [] = Some []
more_at others read c (b ∷ bs) = do
  x ← read c
  xs ← others x.1
  Some (x.0 ∷ xs)

-- what stands up to the end of the bytes, at most so many
unfoldable pub many_at : {A : Type 0} → ℕ → (Cursor → Parse A) → Cursor → Option (List A)
many_at zero read c = none_at c.rest
many_at (suc count) read c = more_at (many_at count read) read c c.rest

-- the bytes of an array's elements, at their place, and the cursor behind them
unfoldable pub elements_at : Endian → ℕ → Cursor → Option (Cursor × Cursor)
elements_at order boundary c = do
  p ← align_at 4 c
  n ← number_at w32 order p
  first ← if nat_le n.0 array_limit then align_at boundary n.1 else None
  x ← bytes_at n.0 first
  Some (record { place = first.place; rest = x.0 }, x.1)

-- an array of elements that begin on a boundary
unfoldable pub array_at : {A : Type 0} → ℕ → (Cursor → Parse A) → Endian → Cursor → Parse (List A)
array_at boundary read order c = do
  x ← elements_at order boundary c
  xs ← many_at (length x.0.rest) read x.0
  Some (xs, x.1)

-- a variant: the signature of one type, and a value of it
unfoldable pub variant_at : (SingleType → Cursor → Parse Datum) → Endian → Cursor → Parse Datum
variant_at read order c = do
  s ← counted_at w8 order c
  t ← type_in s.0
  made variant (read t s.1)

-- values of these types, one behind the other
unfoldable pub fields_at : (SingleType → Cursor → Parse Datum) → SingleTypes → Cursor → Parse (List Datum)
fields_at read no_single_types c = Some ([], c)
fields_at read (single_types t ts) c = do
  x ← read t c
  made (λ ds. x.0 ∷ ds) (fields_at read ts x.1)

-- the fields of a struct, which begins on a multiple of 8
unfoldable pub struct_at : (SingleType → Cursor → Parse Datum) → SingleTypes → Cursor → Parse (List Datum)
struct_at read ts c = align_at 8 c >>= fields_at read ts

-- a value where no container may be opened any more
abbrev pub leaf_at : Endian → SingleType → Cursor → Parse Datum
leaf_at order (basic b) c = basic_at b order c
leaf_at order t c = None

-- a value; `read` reads the values inside
abbrev pub value_step : (SingleType → Cursor → Parse Datum) → Endian → SingleType → Cursor → Parse Datum
value_step read order (basic b) c = basic_at b order c
value_step read order any c = variant_at read order c
value_step read order (array_of t) c = made (λ ds. array t (data_of ds)) (array_at (alignment t) (read t) order c)
value_step read order (dict_of k v) c = made (λ ds. dict k v (data_of ds)) (array_at 8 (read (entry_type k v)) order c)
value_step read order (struct_of ts) c = made (λ ds. struct (data_of ds)) (struct_at read ts c)

-- A value of a type, where so many containers may still be opened.
unfoldable pub value_at : ℕ → Endian → SingleType → Cursor → Parse Datum
value_at zero order t c = leaf_at order t c
value_at (suc room) order t c = value_step (value_at room order) order t c
