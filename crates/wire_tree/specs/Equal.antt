-- When two values are one, as a test, and what a value feeds a hasher.
use Rattle.std.specs.Prelude.{Bool, true, false, ◌==◌, ◌&&◌, [], ◌++◌, length}
use Rattle.std.specs.Hash as fed
use base.Stored.{Gv, gnil, gnum, gcons}
use Rattle.wire_signature.specs.SingleType.{letter}
use Rattle.wire_tree.specs.Datum.{Datum, num, text, array, dict, struct, variant, Data, no_data, items, num_type, text_type, list_of}
use Rattle.wire_tree.specs.DatumCode.{code}

-- trees of numbers, number by number
abbrev pub alike : Gv → Gv → Bool
alike gnil gnil = true
alike (gnum m) (gnum n) = m == n
alike (gcons a b) (gcons c d) = alike a c && alike b d
alike g h = false

-- values of one type and of one form
unfoldable pub same : Datum → Datum → Bool
same d e = alike (code d) (code e)

-- A leaf feeds its type's letter and then itself; a container its own letter, the number of its elements, and each of them;
-- a dict entry its key and its value alone.
abbrev mutual
  pub writes : Datum → fed.HashWrites
  writes (num n v) = fed.u8 (letter (num_type n)) ++ fed.u64 v
  writes (text t bytes) = fed.u8 (letter (text_type t)) ++ fed.str bytes
  writes (array t ds) = fed.u8 97 ++ fed.usize (length (list_of ds)) ++ writes_of ds
  writes (dict k v es) = fed.u8 123 ++ fed.usize (length (list_of es)) ++ writes_in es
  writes (struct ds) = fed.u8 40 ++ writes_of ds
  writes (variant d) = fed.u8 118 ++ writes d

  pub writes_of : Data → fed.HashWrites
  writes_of no_data = []
  writes_of (items d ds) = writes d ++ writes_of ds

  pub writes_in : Data → fed.HashWrites
  writes_in no_data = []
  writes_in (items (struct ds) es) = writes_of ds ++ writes_in es
  writes_in (items d es) = writes d ++ writes_in es
