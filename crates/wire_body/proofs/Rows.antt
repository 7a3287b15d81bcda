-- Each type of a signature is a type by itself.
use Rattle.std.proofs.Common.{◌≤◌, List, [], ◌∷◌, length, arith, length-append}
use Rattle.wire_signature.specs.SingleType.{SingleType, single_types_of, types_text, type_text, array_depths, struct_depths, AllHaveFields, IsSignature}
use Rattle.wire_body.specs.Arguments.{AllAreTypes}

pub each_is_type : (ts : List SingleType) → array_depths (single_types_of ts) ≤ 32 → struct_depths (single_types_of ts) ≤ 32 → AllHaveFields (single_types_of ts)
    → length (types_text (single_types_of ts)) ≤ 255 → AllAreTypes ts
each_is_type [] a s f w = tt
each_is_type (t ∷ ts) a s f w =
    let long = length-append (type_text t) (types_text (single_types_of ts)) in (
      record { arrays = omega arith; structs = omega arith; fields = f.0; within = omega arith },
      each_is_type ts (omega arith) (omega arith) f.1 (omega arith),
    )

pub IsSignature-each : (ts : List SingleType) → IsSignature ts → AllAreTypes ts
IsSignature-each ts h = each_is_type ts h.arrays h.structs h.fields h.within
