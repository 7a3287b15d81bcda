-- Whether replies were put, asked by the numbers that answers had.
use Rattle.std.specs.Prelude.{ℕ, Bool, true, false, if◌then◌else◌, List, Option, None, Some, is_some, unwrap_or}
use Rattle.std.specs.Map.{lookup, set_value}
use Rattle.std.specs.BTreeMap.{insert_entry, is_at}
use Rattle.std.specs.Ordering.{nat_cmp}

-- the numbers that answers had, each with whether the reply of such an answer was put
abbrev pub Notified : Type 0
Notified = List (ℕ × Bool)

-- an answer had the number
abbrev pub is_known : Notified → ℕ → Bool
is_known notified number = is_some (lookup (is_at (nat_cmp number)) notified)

-- the reply of an answer that had it was put
abbrev pub is_dispatched : Notified → ℕ → Bool
is_dispatched notified number = unwrap_or (lookup (is_at (nat_cmp number)) notified) false

-- An answer with that number, if it has one, was given: a number that no answer had is there with no reply put; one that an
-- answer had stays as it is, also where its reply was put.
abbrev pub awaiting : Option ℕ → Notified → Notified
awaiting None notified = notified
awaiting (Some number) notified = if is_known notified number then notified else insert_entry nat_cmp notified number false

-- the reply of an answer with the number was put
abbrev pub put_for : ℕ → Notified → Notified
put_for number notified = set_value (is_at (nat_cmp number)) notified true
