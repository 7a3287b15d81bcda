-- Each type within a type holds fewer types than it.
use Rattle.std.specs.Prelude.{◌+◌, ◌≤◌, max, List, [], ◌∷◌}
use Rattle.std.proofs.Common.{arith}
use denote.Param.Weighed.{most}
use Rattle.wire_signature.specs.SingleType.{SingleType, single_types_of, type_count, types_count}
use Rattle.wire_signature.specs.declared.value_type.TypeNode.{TypeNode}
use Rattle.wire_signature.specs.declared.value_type.TypeNode.TheVariants.{Basic, Variant, Array, Dict, Struct}
use Rattle.wire_signature.specs.declared.value_type.ValueType.TheDeep.{deep-TypeNode}
use Rattle.wire_signature.specs.TypeView.{single_type_of}

-- no type of a list holds more than all of them together
pub most_le-types_count : (ts : List SingleType) → most (λ t. type_count t + 1) ts ≤ types_count (single_types_of ts) + 1
most_le-types_count [] = omega arith
most_le-types_count (t ∷ ts) = omega (arith, most_le-types_count ts)

-- No type is nested deeper than it has types in it.
pub depth_le-type_count : (n : TypeNode) → max (deep-TypeNode n) 0 ≤ type_count (single_type_of n)
depth_le-type_count (Basic b) = omega arith
depth_le-type_count Variant = omega arith
depth_le-type_count (Array t) = omega arith
depth_le-type_count (Dict k v) = omega arith
depth_le-type_count (Struct ts) = omega (arith, most_le-types_count ts.items)
