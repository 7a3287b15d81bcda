-- The types of D-Bus as plain data (D-Bus Specification, "Type System").
use Rattle.std.specs.Prelude.{◌≡◌, ℕ, ◌+◌, ◌≤◌, ◌==◌, if◌then◌else◌, max, List, [], ◌∷◌, ◌++◌, length, Option, Some, None}
use Rattle.wire_signature.specs.declared.basic.BasicType.{BasicType}
use Rattle.wire_signature.specs.declared.basic.BasicType.TheVariants.{Byte, Boolean, Int16, Uint16, Int32, Uint32, Int64, Uint64, Double, String, ObjectPath, Signature, UnixFd}

-- A single complete type; `dict` is an array of dict entries, the one place where a dict entry may stand.
mutual
  pub data SingleType : Type 0 where
    basic : BasicType → SingleType
    variant : SingleType
    array : SingleType → SingleType
    dict : BasicType → SingleType → SingleType
    struct : SingleTypes → SingleType

  pub data SingleTypes : Type 0 where
    no_single_types : SingleTypes
    single_types : SingleType → SingleTypes → SingleTypes

-- types in their order, as the fields of a struct or as those of a signature
abbrev pub single_types_of : List SingleType → SingleTypes
single_types_of [] = no_single_types
single_types_of (t ∷ ts) = single_types t (single_types_of ts)

-- the types of a struct's fields as a list, in their order
abbrev pub list_of : SingleTypes → List SingleType
list_of no_single_types = []
list_of (single_types t ts) = t ∷ list_of ts

-- the ASCII code of a basic type (D-Bus Specification, "Summary of types")
abbrev pub letter : BasicType → ℕ
letter Byte = 121
letter Boolean = 98
letter Int16 = 110
letter Uint16 = 113
letter Int32 = 105
letter Uint32 = 117
letter Int64 = 120
letter Uint64 = 116
letter Double = 100
letter String = 115
letter ObjectPath = 111
letter Signature = 103
letter UnixFd = 104

-- the basic type of an ASCII code
abbrev pub basic_of : ℕ → Option BasicType
basic_of c =
    if c == 121 then Some Byte else if c == 98 then Some Boolean else if c == 110 then Some Int16
    else if c == 113 then Some Uint16 else if c == 105 then Some Int32 else if c == 117 then Some Uint32
    else if c == 120 then Some Int64 else if c == 116 then Some Uint64 else if c == 100 then Some Double
    else if c == 115 then Some String else if c == 111 then Some ObjectPath else if c == 103 then Some Signature
    else if c == 104 then Some UnixFd else None

-- the boundary on which a value of the type begins (D-Bus Specification, "Summary of D-Bus marshaling")
abbrev pub basic_alignment : BasicType → ℕ
basic_alignment Byte = 1
basic_alignment Boolean = 4
basic_alignment Int16 = 2
basic_alignment Uint16 = 2
basic_alignment Int32 = 4
basic_alignment Uint32 = 4
basic_alignment Int64 = 8
basic_alignment Uint64 = 8
basic_alignment Double = 8
basic_alignment String = 4
basic_alignment ObjectPath = 4
basic_alignment Signature = 1
basic_alignment UnixFd = 4

-- the boundary of every type, in bytes; a dict entry, which is no type by itself, has that of a struct
abbrev pub alignment : SingleType → ℕ
alignment (basic b) = basic_alignment b
alignment variant = 1
alignment (array t) = 4
alignment (dict k v) = 4
alignment (struct ts) = 8

-- `v` is a variant, `a` an array, `a{` .. `}` an array of dict entries, `(` .. `)` a struct (D-Bus Specification, "Container types")
abbrev mutual
  pub type_text : SingleType → List ℕ
  type_text (basic b) = letter b ∷ []
  type_text variant = 118 ∷ []
  type_text (array t) = 97 ∷ type_text t
  type_text (dict k v) = 97 ∷ 123 ∷ letter k ∷ (type_text v ++ 125 ∷ [])
  type_text (struct ts) = 40 ∷ (types_text ts ++ 41 ∷ [])

  pub types_text : SingleTypes → List ℕ
  types_text no_single_types = []
  types_text (single_types t ts) = type_text t ++ types_text ts

-- the text of a signature: those of its types, one behind the other
abbrev pub signature_text : List SingleType → List ℕ
signature_text ts = types_text (single_types_of ts)

-- how many arrays stand in one another, along the deepest way; a dict counts as the array that it is
abbrev mutual
  pub array_depth : SingleType → ℕ
  array_depth (basic b) = 0
  array_depth variant = 0
  array_depth (array t) = array_depth t + 1
  array_depth (dict k v) = array_depth v + 1
  array_depth (struct ts) = array_depths ts

  pub array_depths : SingleTypes → ℕ
  array_depths no_single_types = 0
  array_depths (single_types t ts) = max (array_depth t) (array_depths ts)

-- how many structs stand in one another, along the deepest way; dict entries do not count
abbrev mutual
  pub struct_depth : SingleType → ℕ
  struct_depth (basic b) = 0
  struct_depth variant = 0
  struct_depth (array t) = struct_depth t
  struct_depth (dict k v) = struct_depth v
  struct_depth (struct ts) = struct_depths ts + 1

  pub struct_depths : SingleTypes → ℕ
  struct_depths no_single_types = 0
  struct_depths (single_types t ts) = max (struct_depth t) (struct_depths ts)

-- every struct in it has at least one field (D-Bus Specification, "Container types")
abbrev mutual
  pub HasFields : SingleType → Type 0
  HasFields (basic b) = Unit {0}
  HasFields variant = Unit {0}
  HasFields (array t) = HasFields t
  HasFields (dict k v) = HasFields v
  HasFields (struct ts) = AreFields ts × AllHaveFields ts

  pub AllHaveFields : SingleTypes → Type 0
  AllHaveFields no_single_types = Unit {0}
  AllHaveFields (single_types t ts) = HasFields t × AllHaveFields ts

  pub AreFields : SingleTypes → Type 0
  AreFields no_single_types = ⊥
  AreFields (single_types t ts) = Unit {0}

-- a type that a signature may hold (D-Bus Specification, "Valid Signatures")
pub record IsType (t : SingleType) : Type 0 where
  pub arrays : array_depth t ≤ 32
  pub structs : struct_depth t ≤ 32
  pub fields : HasFields t
  pub within : length (type_text t) ≤ 255

-- types that together make a signature (D-Bus Specification, "Valid Signatures")
pub record IsSignature (ts : List SingleType) : Type 0 where
  pub arrays : array_depths (single_types_of ts) ≤ 32
  pub structs : struct_depths (single_types_of ts) ≤ 32
  pub fields : AllHaveFields (single_types_of ts)
  pub within : length (types_text (single_types_of ts)) ≤ 255

-- The first bytes of a text, so many, are the text of a type whose nesting is within the limits.
pub record BeginsWithType (bytes : List ℕ) (count : ℕ) : Type 0 where
  pub first : SingleType
  pub rest : List ℕ
  pub text : bytes ≡ type_text first ++ rest
  pub long : count ≡ length (type_text first)
  pub arrays : array_depth first ≤ 32
  pub structs : struct_depth first ≤ 32
  pub fields : HasFields first

-- The one text of these types (D-Bus Specification, "Type System"; "Valid Signatures").
pub record SignatureText (ts : List SingleType) (bytes : List ℕ) : Type 0 where
  pub valid : IsSignature ts
  pub text : bytes ≡ types_text (single_types_of ts)

-- The one text of a single complete type.
pub record TypeText (t : SingleType) (bytes : List ℕ) : Type 0 where
  pub valid : IsType t
  pub text : bytes ≡ type_text t

-- how many types stand in a type, itself among them
abbrev mutual
  pub type_count : SingleType → ℕ
  type_count (basic b) = 1
  type_count variant = 1
  type_count (array t) = type_count t + 1
  type_count (dict k v) = type_count v + 1
  type_count (struct ts) = types_count ts + 1

  pub types_count : SingleTypes → ℕ
  types_count no_single_types = 0
  types_count (single_types t ts) = type_count t + types_count ts
