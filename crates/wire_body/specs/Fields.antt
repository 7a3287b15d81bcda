-- The fields of a struct.
use Rattle.std.specs.Prelude.{◌≡◌, List, [], ◌∷◌, map, refl}
use Rattle.std.proofs.Common.{ap, ◌∙◌}
use Rattle.wire_signature.specs.SingleType.{SingleType, single_types, single_types_of, struct as struct_of}
use Rattle.wire_tree.specs.Datum.{Datum, struct, list_of, data_of, type_of, types_of}

-- the values that a struct has as its fields
abbrev pub fields_in : Datum → List Datum
fields_in (struct ds) = list_of ds
fields_in d = []

types_are : (ds : List Datum) → types_of (data_of ds) ≡ single_types_of (map type_of ds)
types_are [] = refl
types_are (d ∷ ds) = ap (single_types (type_of d)) (types_are ds)

-- A struct is of the type of its fields' types.
pub struct_is : (ds : List Datum) (ts : List SingleType) → map type_of ds ≡ ts → type_of (struct (data_of ds)) ≡ struct_of (single_types_of ts)
struct_is ds ts e = ap struct_of (types_are ds ∙ ap single_types_of e)
