-- A byte of an element, as a pass over a text meets it.
use Rattle.std.specs.Prelude.{ℕ, Bool, ◌&&◌, ◌||◌, not}
use Rattle.std.specs.Char.{is_ascii_digit}
use Rattle.wire_names.specs.Names.{is_element_byte}

-- a byte that an element may have, as its first byte where `begins` says so
abbrev pub may_stand : Bool → Bool → Bool → ℕ → Bool
may_stand hyphen digit begins b = is_element_byte hyphen b && (digit || not begins || not (is_ascii_digit b))
