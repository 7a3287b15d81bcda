-- What the streams of one list hold. A stream is named by its number.
use Rattle.std.specs.{Prelude.{ℕ, max, List, [], ◌∷◌, ◌++◌, length, drop, slice_get, option_map, Option, Some, None}, Option.option_and_then, Ordering.nat_cmp, BTreeMap.is_at, Map.lookup}
use Rattle.wire_message.specs.Front.{MessageView}

-- For each stream its number, and the messages that it holds, oldest first; none for one that waits to begin.
abbrev pub Holdings : Type 0
Holdings = List (ℕ × Option (List MessageView))

-- what is known of the stream with this number, if it is one of these
abbrev pub held_by : Holdings → ℕ → Option (Option (List MessageView))
held_by v k = lookup (is_at (nat_cmp k)) v

-- a message more, for a stream that has begun
abbrev pub with_message : MessageView → Option (List MessageView) → Option (List MessageView)
with_message m o = option_map (λ (ms : List MessageView). ms ++ m ∷ []) o

-- without the first message
abbrev pub without_first : Option (List MessageView) → Option (List MessageView)
without_first o = option_map (λ (ms : List MessageView). drop 1 ms) o

-- a stream that waited begins, and holds nothing yet
abbrev pub begun : Option (List MessageView) → Option (List MessageView)
begun None = Some []
begun (Some ms) = Some ms

-- the first message that the stream with this number holds
abbrev pub first_by : Holdings → ℕ → Option MessageView
first_by v k = option_and_then (λ (o : Option (List MessageView)). option_and_then (λ (ms : List MessageView). slice_get ms 0) o) (held_by v k)

-- how many messages it is
abbrev pub count_of : Option (List MessageView) → ℕ
count_of None = 0
count_of (Some ms) = length ms

-- the most that one stream holds, 0 without one
abbrev pub most_of : Holdings → ℕ
most_of [] = 0
most_of (e ∷ es) = max (count_of e.1) (most_of es)
