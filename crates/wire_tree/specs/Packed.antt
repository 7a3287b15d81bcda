-- Numbers of a fixed type that lie packed, as the values that they are (D-Bus Specification, "Fixed types").
use Rattle.std.specs.Prelude.{ℕ, Bool, cond, List, map, Option, Some, None}
use Rattle.wire_signature.specs.declared.basic.BasicType.{BasicType}
use Rattle.wire_signature.specs.SingleType.{basic}
use Rattle.wire_tree.specs.Datum.{FixedType, byte, boolean, int16, uint16, int32, uint32, int64, uint64, double, unix_fd, Datum, num, array, data_of, num_type}
use Rattle.wire_tree.specs.declared.numbers.Fixed16.{Fixed16}
use Rattle.wire_tree.specs.declared.numbers.Fixed16.TheVariants as of16
use Rattle.wire_tree.specs.declared.numbers.Fixed32.{Fixed32}
use Rattle.wire_tree.specs.declared.numbers.Fixed32.TheVariants as of32
use Rattle.wire_tree.specs.declared.numbers.Fixed64.{Fixed64}
use Rattle.wire_tree.specs.declared.numbers.Fixed64.TheVariants as of64
use Rattle.wire_tree.specs.declared.numbers.Fixed.{Fixed}
use Rattle.wire_tree.specs.declared.numbers.Fixed.TheVariants as fixed
use Rattle.wire_tree.specs.declared.numbers.Numbers.{Numbers}
use Rattle.wire_tree.specs.declared.numbers.Numbers.TheVariants.{Bytes, Booleans, Of16, Of32, Of64}

-- the fixed type of two bytes that it stands for
abbrev pub type16 : Fixed16 → FixedType
type16 of16.Int16 = int16
type16 of16.Uint16 = uint16

-- the fixed type of four bytes, boolean aside, that it stands for
abbrev pub type32 : Fixed32 → FixedType
type32 of32.Int32 = int32
type32 of32.Uint32 = uint32
type32 of32.UnixFd = unix_fd

-- the fixed type of eight bytes that it stands for
abbrev pub type64 : Fixed64 → FixedType
type64 of64.Int64 = int64
type64 of64.Uint64 = uint64
type64 of64.Double = double

-- the fixed type that it stands for
abbrev pub fixed_type : Fixed → FixedType
fixed_type fixed.Byte = byte
fixed_type fixed.Boolean = boolean
fixed_type (fixed.Of16 t) = type16 t
fixed_type (fixed.Of32 t) = type32 t
fixed_type (fixed.Of64 t) = type64 t

-- a boolean as a number: 1 is true, 0 is false (D-Bus Specification, "Marshaling", `BOOLEAN`)
abbrev pub bit : Bool → ℕ
bit b = cond b 1 0

-- the type of all the numbers
abbrev pub numbers_type : Numbers → FixedType
numbers_type (Bytes v) = byte
numbers_type (Booleans v) = boolean
numbers_type (Of16 t v) = type16 t
numbers_type (Of32 t v) = type32 t
numbers_type (Of64 t v) = type64 t

-- their bits, in their order
abbrev pub numbers_bits : Numbers → List ℕ
numbers_bits (Bytes v) = v.items
numbers_bits (Booleans v) = map bit v.items
numbers_bits (Of16 t v) = v.items
numbers_bits (Of32 t v) = v.items
numbers_bits (Of64 t v) = v.items

-- the values that they are
abbrev pub numbers_data : Numbers → List Datum
numbers_data n = map (num (numbers_type n)) (numbers_bits n)

-- the array that they are
abbrev pub numbers_array : Numbers → Datum
numbers_array n = array (basic (num_type (numbers_type n))) (data_of (numbers_data n))

-- the type and the bits of a value that is a number
abbrev pub number_in : Datum → Option (BasicType × ℕ)
number_in (num n v) = Some (num_type n, v)
number_in d = None
