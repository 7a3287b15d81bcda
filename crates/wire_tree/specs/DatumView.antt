-- What contracts see of a tree.
use Rattle.std.specs.Prelude.{cond}
use Rattle.std.specs.Int.{w16, w32, w64, cast_unsigned}
use Rattle.wire_tree.specs.Datum.{byte, boolean, int16, uint16, int32, uint32, int64, uint64, double, unix_fd, string, object_path, signature}
use Rattle.wire_tree.specs.Datum.{Datum, num, text, array, dict, struct, variant, data_of, entry, entries_of}
use Rattle.wire_tree.specs.Packed.{numbers_array}
use Rattle.wire_tree.specs.declared.tree.Tree.{Tree}
use Rattle.wire_tree.specs.declared.tree.Tree.TheVariants.{U8, Bool, I16, U16, I32, U32, I64, U64, F64, Str, Path, Sig, Fd, Array, Numbers, Dict, Struct, Variant}

-- the value that a tree holds: signed numbers by their bits in two's complement, a packed array as the array that it is
abbrev pub datum_of : Tree → Datum
datum_of (U8 x) = num byte x
datum_of (Bool x) = num boolean (cond x 1 0)
datum_of (I16 x) = num int16 (cast_unsigned w16 x)
datum_of (U16 x) = num uint16 x
datum_of (I32 x) = num int32 (cast_unsigned w32 x)
datum_of (U32 x) = num uint32 x
datum_of (I64 x) = num int64 (cast_unsigned w64 x)
datum_of (U64 x) = num uint64 x
datum_of (F64 x) = num double x
datum_of (Str x) = text string x
datum_of (Path x) = text object_path x
datum_of (Sig x) = text signature x
datum_of (Fd x) = num unix_fd x
datum_of (Array t ts) = array t (data_of ts)
datum_of (Numbers ns) = numbers_array ns
datum_of (Dict k v es) = dict k v (entries_of es)
datum_of (Struct ts) = struct (data_of ts)
datum_of (Variant t) = variant t

-- a key and its value
abbrev pub pair_of : Tree × Tree → Datum × Datum
pair_of e = (datum_of e.0, datum_of e.1)

-- the dict entry that they are
abbrev pub entry_of : Tree × Tree → Datum
entry_of e = entry (pair_of e)
