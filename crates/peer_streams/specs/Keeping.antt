-- How streams are kept: of one that was closed nothing is stored. What each holds stands in the list of its rule, or in that of the
-- streams without one.
use Rattle.std.specs.{Prelude.{ℕ, nat_eq, ◌≡◌, ◌<◌, ◌==◌, ◌&&◌, Bool, true, false, is_some, if◌then◌else◌, List, [], ◌∷◌, map, option_map, unwrap_or, Option, Some, None, IsSome}, List.{range_with_len, list_any}, Map.lookup, Option.{option_eq, option_and_then}}
use Rattle.peer_lists.specs.Holdings.{held_by}
use Rattle.peer_streams.specs.{declared.lists.Lists.Lists, Names.{MessageView, Error, Rule, StreamState, Progress, OpenState, accepts}, Rules.is_same, Subscriptions.{limit_in, held_in, first_held}, Refinement.{StreamView, Wants, Awaits, WasDenied, Active, gone_view}}

-- What is stored: how many streams were made, what is known of those that were not closed, and what they hold: those without a
-- rule, and those of each rule.
pub record Parts : Type 0 where
  pub made : ℕ
  pub states : List (ℕ × StreamState)
  pub lists : Lists

-- what is known of the stream with this number, where it was not closed
abbrev pub state_at : Parts → ℕ → Option StreamState
state_at p k = lookup (nat_eq k) p.states

-- the messages, where the stream has begun
abbrev pub messages_of : Option (Option (List MessageView)) → List MessageView
messages_of o = unwrap_or (unwrap_or o None) []

-- what the list of this rule, or of the streams without one, knows of the stream with this number
abbrev pub held_of : Lists → Option Rule → ℕ → Option (Option (List MessageView))
held_of l None k = held_by l.plain k
held_of l (Some rule) k = held_in l.rules rule k

-- the first message that this stream holds
abbrev pub first_of : Lists → Option Rule → ℕ → Option MessageView
first_of l o k = first_held (held_of l o k)

-- how many messages a stream of this rule may hold, where one without a rule may hold so many
abbrev pub limit_at : Lists → ℕ → Option Rule → ℕ
limit_at l main None = main
limit_at l main (Some rule) = unwrap_or (limit_in l.rules rule) 0

-- the message is one of the rule's; without a rule each one is
abbrev pub takes : Option Rule → MessageView → Bool
takes None m = true
takes (Some rule) m = accepts rule m

-- the rule, with how many messages each of its streams may hold
abbrev pub wants_of : Parts → Option Rule → Option Wants
wants_of p o = option_map (λ rule. record { rule = rule; limit = unwrap_or (limit_in p.lists.rules rule) 0 }) o

-- what is kept of a stream that was not closed, by how far it is opened
abbrev pub shown_by : Parts → ℕ → StreamState → Progress → StreamView
shown_by p k st (Progress.AwaitingReply serial index denial) =
    record { wants = wants_of p st.rule; standing = Awaits serial index; items = []; closing_delivered = st.closing_delivered; open_reported = st.open_reported }
shown_by p k st (Progress.Denied m) =
    record { wants = None; standing = WasDenied; items = m ∷ []; closing_delivered = st.closing_delivered; open_reported = st.open_reported }
shown_by p k st Progress.Active =
    record { wants = wants_of p st.rule; standing = Active; items = messages_of (held_of p.lists st.rule k); closing_delivered = st.closing_delivered; open_reported = st.open_reported }

-- what is kept of the stream with this number, by what is known of it
abbrev pub shown : Parts → ℕ → Option StreamState → StreamView
shown p k None = gone_view
shown p k (Some st) = shown_by p k st st.progress

-- what is kept of the stream with this number
abbrev pub view_at : Parts → ℕ → StreamView
view_at p k = shown p k (state_at p k)

-- what is kept of each stream, by number
unfoldable pub views : Parts → List StreamView
views p = map (view_at p) (range_with_len 0 p.made)

-- whether the stream has begun to take messages; none where it doesn't stand in a list: it was denied
abbrev pub begun_by : Progress → Option Bool
begun_by (Progress.AwaitingReply serial index denial) = Some false
begun_by (Progress.Denied m) = None
begun_by Progress.Active = Some true

-- the stream takes messages
abbrev pub is_active : Progress → Bool
is_active Progress.Active = true
is_active other = false

-- whether it stands in the list of this rule, or in that of the streams without one, and has begun
abbrev pub stands_in : Option Rule → Option StreamState → Option Bool
stands_in o None = None
stands_in o (Some st) = if option_eq is_same o st.rule then begun_by st.progress else None

-- it waits for the return to its AddMatch
abbrev pub waits : Progress → Bool
waits (Progress.AwaitingReply serial index denial) = true
waits other = false

-- something is known of the stream, and it waits for the return to its AddMatch
abbrev pub is_waiting : Option StreamState → Bool
is_waiting None = false
is_waiting (Some st) = waits st.progress

-- Each stream of which something is known was made. It stands in the list of its rule, or in that of the streams without one, and in
-- no other, has begun there exactly where it takes messages, and stands in none once it was denied. Those that wait for a return are
-- among these numbers.
pub record AreKept (p : Parts) (waiting : List ℕ) : Type 0 where
  pub below : (k : ℕ) → IsSome (state_at p k) → k < p.made
  pub lists : (o : Option Rule) (k : ℕ) → option_map is_some (held_of p.lists o k) ≡ stands_in o (state_at p k)
  pub listed : (k : ℕ) → is_waiting (state_at p k) ≡ true → list_any (λ n. n == k) waiting ≡ true

-- what is known of the stream with this number, where it is open
abbrev pub usable_in : Option StreamState → Option StreamState
usable_in o = option_and_then (λ (st : StreamState). if st.open_reported && is_active st.progress then Some st else None) o

-- what who asked for it is told of a stream that was denied; any other is unknown
abbrev pub refusal_of : Progress → OpenState
refusal_of (Progress.Denied m) = OpenState.Refused m
refusal_of other = OpenState.Unknown

-- what is known of a stream that held nothing once it was taken from: on a closed peer it was told the closing error
abbrev pub once_told : Option Error → StreamState → StreamState
once_told None st = st
once_told (Some error) st = record st { closing_delivered = true }
