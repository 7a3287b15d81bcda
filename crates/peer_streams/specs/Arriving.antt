-- What a message that arrives, and a write that fails, change of what is stored.
use Rattle.std.specs.{Prelude.{ℕ, ◌≡◌, ◌≢◌, ◌==◌, ◌&&◌, Bool, true, false, not, if◌then◌else◌, List, Option, Some, None}, List.list_any}
use Rattle.peer_streams.specs.{declared.lists.Lists.Lists, Names.{MessageView, StreamState, Progress, replies_to, is_return}, Refinement.StreamView, Keeping.{Parts, AreKept, view_at}}

-- so many streams, with what is known of those that were not closed, and what they hold
abbrev pub parts : ℕ → List (ℕ × StreamState) → Lists → Parts
parts made states lists = record { made = made; states = states; lists = lists }

-- how far a stream is opened, but for the copy of the error that is about to deny it
abbrev pub quiet_by : Progress → Progress
quiet_by (Progress.AwaitingReply serial index denial) = Progress.AwaitingReply serial index None
quiet_by other = other

-- what is known of a stream, but for its copy of the error that is about to deny it
abbrev pub quiet : StreamState → StreamState
quiet st = record st { progress = quiet_by st.progress }

-- the message answers the AddMatch whose return it waits for
abbrev pub is_answered : MessageView → Progress → Bool
is_answered m (Progress.AwaitingReply serial index denial) = replies_to serial m
is_answered m other = false

-- the copy that it has of the error that is about to deny it
abbrev pub copy_in : Progress → Option MessageView
copy_in (Progress.AwaitingReply serial index denial) = denial
copy_in other = None

-- it waits for the return to the AddMatch that has this place in the outbox
abbrev pub is_put_at : ℕ → Progress → Bool
is_put_at index (Progress.AwaitingReply serial n denial) = n == index
is_put_at index other = false

-- Where the message denies the stream, its copy is there.
abbrev pub IsReady : MessageView → Option StreamState → Type 0
IsReady m None = Unit {0}
IsReady m (Some st) = (is_answered m st.progress && not (is_return m.kind)) ≡ true → copy_in st.progress ≡ Some m

-- What is kept of one stream changed so, and of no other.
pub record Changes (f : StreamView → StreamView) (k : ℕ) (waiting : List ℕ) (p q : Parts) : Type 0 where
  pub kept : AreKept q waiting
  pub one : view_at q k ≡ f (view_at p k)
  pub others : (j : ℕ) → k ≢ j → view_at q j ≡ view_at p j

-- What is kept of these streams changed so, and of no other.
pub record ChangesEach (f : StreamView → StreamView) (ks waiting : List ℕ) (p q : Parts) : Type 0 where
  pub kept : AreKept q waiting
  pub each : (j : ℕ) → view_at q j ≡ (if list_any (λ n. n == j) ks then f (view_at p j) else view_at p j)
