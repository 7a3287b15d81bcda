-- One list for several streams: which copies of a message it keeps, and what its cursors say that each stream holds.
use Rattle.std.specs.{Prelude.{ℕ, ◌≡◌, ◌+◌, ◌-◌, ◌^◌, ◌<◌, ◌≤◌, nat_le, Bool, false, is_some, List, map, drop, length, slice_get, option_map, Option, Some, None, IfSome}, List.{count_by, All}, Ordering.nat_cmp, BTreeMap.{BTreeMap, values, IsOrdered}}
use Rattle.wire_message.specs.Front.{MessageView}
use Rattle.peer_lists.specs.{Entries.Kept, Holdings.Holdings}

-- the list's messages, each once
abbrev pub messages : List Kept → List MessageView
messages entries = map (λ (e : Kept). e.message) entries

-- the messages behind a cursor, where so many went before the first of these; none without one
abbrev pub behind : ℕ → List MessageView → Option ℕ → Option (List MessageView)
behind passed ms cursor = option_map (λ c. drop (c - passed) ms) cursor

-- What each stream holds: what is behind its cursor. A stream without a cursor waits to begin. So many messages went before the list's first.
abbrev pub holdings : ℕ → List Kept → BTreeMap ℕ (Option ℕ) → Holdings
holdings passed entries cursors = map (λ (e : ℕ × Option ℕ). (e.0, behind passed (messages entries) e.1)) cursors.entries

-- a stream that has begun has not passed the message at this position
abbrev pub has_not_passed : ℕ → Option ℕ → Bool
has_not_passed position None = false
has_not_passed position (Some c) = nat_le c position

-- a cursor stands in the list
abbrev pub StandsIn : ℕ → ℕ → Option ℕ → Type 0
StandsIn first end cursor = IfSome cursor (λ c. (first ≤ c) × (c ≤ end))

-- Each cursor stands in the list, and each message is kept in one copy for each stream that has not passed it: so the first has one
-- that holds it, and what all have passed is gone.
pub record AreShared (passed : ℕ) (entries : List Kept) (cursors : BTreeMap ℕ (Option ℕ)) (begun : ℕ) : Type 0 where
  pub inside : All (StandsIn passed (passed + length entries)) (values cursors)
  pub counted : (i : ℕ) (e : Kept) → slice_get entries i ≡ Some e → e.others + 1 ≡ count_by (has_not_passed (passed + i)) (values cursors)
  pub begins : begun ≡ count_by (λ (o : Option ℕ). is_some o) (values cursors)
  pub ordered : IsOrdered nat_cmp cursors
  pub fits : passed + length entries < 2 ^ 64
