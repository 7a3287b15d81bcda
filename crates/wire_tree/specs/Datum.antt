-- Values of D-Bus as plain data (D-Bus Specification, "Type System").
use Rattle.std.specs.Prelude.{◌≡◌, ℕ, ◌+◌, ◌<◌, ◌≤◌, List, [], ◌∷◌, length, map, All, IsUtf8}
use Rattle.wire_names.specs.Names.{IsObjectPath}
use Rattle.wire_signature.specs.declared.basic.BasicType.{BasicType}
use Rattle.wire_signature.specs.declared.basic.BasicType.TheVariants as basics
use Rattle.wire_signature.specs.SingleType.{SingleType, basic, array as array_of, dict as dict_of, struct as struct_of, variant as any, SingleTypes, no_single_types, single_types, IsType, SignatureText}

-- the types whose values are numbers of a fixed width (D-Bus Specification, "Basic types", "Fixed types")
pub data FixedType : Type 0 where
  byte : FixedType
  boolean : FixedType
  int16 : FixedType
  uint16 : FixedType
  int32 : FixedType
  uint32 : FixedType
  int64 : FixedType
  uint64 : FixedType
  double : FixedType
  unix_fd : FixedType

-- the types whose values are texts (D-Bus Specification, "Basic types", "String-like types")
pub data StringLike : Type 0 where
  string : StringLike
  object_path : StringLike
  signature : StringLike

-- A value: a number by its bits, signed ones in two's complement and a double by its 64 raw bits; a text by its bytes; an
-- array by its elements' type and its elements; a dict by its keys' type, its values' type and its entries, each of them a
-- struct of a key and its value; a struct by its fields; a variant by the value that it holds.
mutual
  pub data Datum : Type 0 where
    num : FixedType → ℕ → Datum
    text : StringLike → List ℕ → Datum
    array : SingleType → Data → Datum
    dict : BasicType → SingleType → Data → Datum
    struct : Data → Datum
    variant : Datum → Datum

  pub data Data : Type 0 where
    no_data : Data
    items : Datum → Data → Data

-- values in their order, as the elements of an array or the fields of a struct
abbrev pub data_of : List Datum → Data
data_of [] = no_data
data_of (d ∷ ds) = items d (data_of ds)

-- the elements of an array or the fields of a struct as a list, in their order
abbrev pub list_of : Data → List Datum
list_of no_data = []
list_of (items d ds) = d ∷ list_of ds

-- a dict entry, which is a struct of a key and its value (D-Bus Specification, "Container types")
abbrev pub entry : Datum × Datum → Datum
entry e = struct (items e.0 (items e.1 no_data))

-- the type of a dict entry, as that of a struct of a key and its value
abbrev pub entry_type : BasicType → SingleType → SingleType
entry_type k v = struct_of (single_types (basic k) (single_types v no_single_types))

-- the dict entries of these keys and values, in their order
abbrev pub entries_of : List (Datum × Datum) → Data
entries_of es = data_of (map entry es)

-- the keys and values of dict entries, in their order; what is no entry is left out
abbrev pub pairs_of : Data → List (Datum × Datum)
pairs_of no_data = []
pairs_of (items (struct (items k (items v ds))) es) = (k, v) ∷ pairs_of es
pairs_of (items d es) = pairs_of es

-- the basic type that a fixed type is
abbrev pub num_type : FixedType → BasicType
num_type byte = basics.Byte
num_type boolean = basics.Boolean
num_type int16 = basics.Int16
num_type uint16 = basics.Uint16
num_type int32 = basics.Int32
num_type uint32 = basics.Uint32
num_type int64 = basics.Int64
num_type uint64 = basics.Uint64
num_type double = basics.Double
num_type unix_fd = basics.UnixFd

-- the basic type that a string-like type is
abbrev pub text_type : StringLike → BasicType
text_type string = basics.String
text_type object_path = basics.ObjectPath
text_type signature = basics.Signature

-- how many bytes a number of the type takes (D-Bus Specification, "Summary of D-Bus marshaling")
abbrev pub width : FixedType → ℕ
width byte = 1
width boolean = 4
width int16 = 2
width uint16 = 2
width int32 = 4
width uint32 = 4
width int64 = 8
width uint64 = 8
width double = 8
width unix_fd = 4

-- the type of a value
abbrev mutual
  pub type_of : Datum → SingleType
  type_of (num n v) = basic (num_type n)
  type_of (text t bytes) = basic (text_type t)
  type_of (array t ds) = array_of t
  type_of (dict k v es) = dict_of k v
  type_of (struct ds) = struct_of (types_of ds)
  type_of (variant d) = any

  pub types_of : Data → SingleTypes
  types_of no_data = no_single_types
  types_of (items d ds) = single_types (type_of d) (types_of ds)

-- the first number that a type hasn't: a boolean is 0 or 1
abbrev pub bound : FixedType → ℕ
bound byte = 256
bound boolean = 2
bound int16 = 65536
bound uint16 = 65536
bound int32 = 4294967296
bound uint32 = 4294967296
bound int64 = 18446744073709551616
bound uint64 = 18446744073709551616
bound double = 18446744073709551616
bound unix_fd = 4294967296

-- no byte of the text is 0 (D-Bus Specification, "String-like types")
abbrev pub HasNoZero : List ℕ → Type 0
HasNoZero bytes = All (λ b. 0 < b) bytes

-- how many bytes a string may take: its length has 32 bits (D-Bus Specification, "Marshaling (Wire Format)")
abbrev pub string_limit : ℕ
string_limit = 4294967295

-- A text of the type: UTF-8 without a 0 byte; a path and a signature in their grammars; a length that 32 bits hold
-- (D-Bus Specification, "String-like types", "Valid Object Paths", "Valid Signatures").
abbrev pub IsTextOf : StringLike → List ℕ → Type 0
IsTextOf string bytes = IsUtf8 bytes × HasNoZero bytes × (length bytes ≤ string_limit)
IsTextOf object_path bytes = IsObjectPath bytes × (length bytes ≤ string_limit)
IsTextOf signature bytes = (ts : List SingleType) × SignatureText ts bytes

-- Each number is in its type's range, each text is one of its type, each element has its array's type, each entry that of
-- its dict, and what each variant holds is of a type that a signature may hold.
abbrev mutual
  pub WellTyped : Datum → Type 0
  WellTyped (num n v) = v < bound n
  WellTyped (text t bytes) = IsTextOf t bytes
  WellTyped (array t ds) = AreElements t ds
  WellTyped (dict k v es) = AreElements (entry_type k v) es
  WellTyped (struct ds) = AreWellTyped ds
  WellTyped (variant d) = WellTyped d × IsType (type_of d)

  -- the fields of a struct
  pub AreWellTyped : Data → Type 0
  AreWellTyped no_data = Unit {0}
  AreWellTyped (items d ds) = WellTyped d × AreWellTyped ds

  -- the elements of an array, or the entries of a dict
  pub AreElements : SingleType → Data → Type 0
  AreElements t no_data = Unit {0}
  AreElements t (items d ds) = (WellTyped d × (type_of d ≡ t)) × AreElements t ds

-- one number
abbrev pub IsNumber : Datum → Type 0
IsNumber (num n v) = Unit {0}
IsNumber d = ⊥

-- A value that a message may hold: well typed, and of a type that a signature may hold, so without an empty struct.
pub record IsValid (d : Datum) : Type 0 where
  pub type : IsType (type_of d)
  pub well_typed : WellTyped d

-- how many values stand in a value, itself among them; a list of them counts one
abbrev mutual
  pub size_of : Datum → ℕ
  size_of (num n v) = 1
  size_of (text t bytes) = 1
  size_of (array t ds) = sizes_of ds + 1
  size_of (dict k v es) = sizes_of es + 1
  size_of (struct ds) = sizes_of ds + 1
  size_of (variant d) = size_of d + 1

  pub sizes_of : Data → ℕ
  sizes_of no_data = 1
  sizes_of (items d ds) = size_of d + sizes_of ds
