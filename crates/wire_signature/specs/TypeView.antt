-- What contracts see of a type.
use Rattle.wire_signature.specs.SingleType.{SingleType, basic, variant, array, dict, struct, single_types_of}
use Rattle.wire_signature.specs.declared.value_type.TypeNode.{TypeNode}
use Rattle.wire_signature.specs.declared.value_type.TypeNode.TheVariants.{Basic, Variant, Array, Dict, Struct}

-- the single complete type that a value type stands for
abbrev pub single_type_of : TypeNode → SingleType
single_type_of (Basic b) = basic b
single_type_of Variant = variant
single_type_of (Array t) = array t.value
single_type_of (Dict k v) = dict k v.value
single_type_of (Struct ts) = struct (single_types_of ts.items)
