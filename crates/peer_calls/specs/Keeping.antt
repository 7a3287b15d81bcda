-- How calls are kept: of one that is over nothing is stored.
use Rattle.std.specs.{Prelude.{ℕ, ◌≡◌, ◌≢◌, ◌<◌, List, map, unwrap_or, Some, IsSome}, List.{count_by, range_with_len}, Ordering.nat_cmp, BTreeMap.{BTreeMap, get}}
use Rattle.peer_calls.specs.{Names.Slot, Refinement.is_internal_slot}

-- what is kept of the call with this number, by what is stored
abbrev pub slot_at : BTreeMap ℕ Slot → ℕ → Slot
slot_at kept call = unwrap_or (get nat_cmp kept call) Slot.Gone

-- what is kept of each call, where so many were made
unfoldable pub slots_of : ℕ → BTreeMap ℕ Slot → List Slot
slots_of made kept = map (slot_at kept) (range_with_len 0 made)

-- Each call of which something is stored was made, none of these is over, and so many of the peer's own wait.
pub record IsKept (made : ℕ) (kept : BTreeMap ℕ Slot) (internal : ℕ) : Type 0 where
  pub below : (call : ℕ) → IsSome (get nat_cmp kept call) → call < made
  pub live : (call : ℕ) → get nat_cmp kept call ≢ Some Slot.Gone
  pub counted : internal ≡ count_by is_internal_slot (slots_of made kept)
