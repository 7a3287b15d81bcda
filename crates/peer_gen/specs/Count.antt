-- How many calls a generated script has, by the word that says so.
use Rattle.std.specs.Prelude.{ℕ, ◌&&◌, nat_le, if◌then◌else◌, List, Option, Some, None}
use Rattle.std.specs.Option.{option_and_then}
use Rattle.peer_script.specs.Word.{number_of}

-- a number from 1 to 100,000
abbrev pub in_range : ℕ → Option ℕ
in_range n = if nat_le 1 n && nat_le n 100000 then Some n else None

-- the number that a word says in decimal digits, without leading zeros, if it is from 1 to 100,000
abbrev pub gen_number : List ℕ → Option ℕ
gen_number word = option_and_then in_range (number_of word)
