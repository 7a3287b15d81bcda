-- Limits of the D-Bus Specification.
use Rattle.std.specs.Prelude.{ℕ}

-- how many bytes a message may take ("Message Format")
abbrev pub message_limit : ℕ
message_limit = 134217728

-- how many bytes the elements of an array may take ("Marshaling", `ARRAY`)
abbrev pub array_limit : ℕ
array_limit = 67108864

-- the greatest serial: it has 32 bits, and 0 is none ("Message Format")
abbrev pub greatest_serial : ℕ
greatest_serial = 4294967295

-- how many bytes a string may take: its length has 32 bits ("Marshaling (Wire Format)")
abbrev pub string_limit : ℕ
string_limit = 4294967295
