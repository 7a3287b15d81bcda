-- What is asked of the calls of a past: their answers, which are first-such, and which of them wait.
use Rattle.std.specs.{Prelude.{ℕ, Bool, not, ◌&&◌, ◌||◌, ◌==◌, if◌then◌else◌, is_none, List, [], ◌∷◌, map, find, slice_get, option_map, unwrap_or, Option, Some, None, Result, Ok, Err, drop}, List.list_any}
use Rattle.peer_calls.specs.{Names.{MessageView, Error, Polled, replies_to}, History.{Call, CallsEvent, CallFinished, CallsPast}}

-- the first message read after the call was put that bears its serial
unfoldable pub reply : List MessageView → Call → Option MessageView
reply ms c = find (replies_to c.serial) (drop c.from ms)

-- its answer was given, or it was dropped, or its message failed
abbrev pub is_gone : Call → Bool
is_gone c = c.spent || c.failed

-- it is over, or the peer's own, so that a poll of it is refused
abbrev pub is_nobodys : Call → Bool
is_nobodys c = is_gone c || c.internal

-- what a poll gives, by the reply, if it came, and what closed the peer
abbrev pub polled_by : Option MessageView → Option Error → Result (Polled MessageView) Error
polled_by (Some m) error = Ok (Polled.Now m)
polled_by None (Some error) = Ok (Polled.Closed error)
polled_by None None = Ok Polled.NotYet

-- What a poll of the call with this number gives: its reply, which is the first message read after it that bears its
-- serial; else the closing error; else nothing yet. A call that wasn't made, or whose answer was given, or that was dropped,
-- is unknown, and so is one of the peer's own.
unfoldable pub poll_answer : CallsPast → ℕ → Result (Polled MessageView) Error
poll_answer h k = unwrap_or (option_map (λ c. if is_nobodys c then Err Error.UnknownHandle else polled_by (reply h.read c) h.closing) (slice_get h.calls k)) (Err Error.UnknownHandle)

-- the call waits for a reply
abbrev pub is_awaited : List MessageView → Call → Bool
is_awaited ms c = not (is_gone c) && is_none (reply ms c)

-- a call waits for a reply of this serial; after the closing error none waits
unfoldable pub pending : CallsPast → ℕ → Bool
pending h serial = is_none h.closing && list_any (λ c. is_awaited h.read c && (c.serial == serial)) h.calls

-- An AddMatch or a RemoveMatch of the peer is on its way: its message was put, its write didn't fail, its reply wasn't read, and
-- the peer is open.
unfoldable pub match_call_pending : CallsPast → Bool
match_call_pending h = is_none h.closing && list_any (λ c. c.internal && is_awaited h.read c) h.calls

-- What dropping the call with this number gives: a call that still waits for its answer, or has one, is dropped. One that
-- wasn't made, or is over, is unknown.
unfoldable pub drop_answer : CallsPast → ℕ → Result (Unit {0}) Error
drop_answer h k = unwrap_or (option_map (λ c. if is_nobodys c then Err Error.UnknownHandle else Ok tt) (slice_get h.calls k)) (Err Error.UnknownHandle)

-- the calls that are over by a poll of the call with this number, by its answer
abbrev pub poll_spends : ℕ → Result (Polled MessageView) Error → List ℕ
poll_spends k (Ok (Polled.Now m)) = k ∷ []
poll_spends k (Ok (Polled.Closed error)) = k ∷ []
poll_spends k other = []

-- the calls that are over by a drop of the call with this number, by its answer
abbrev pub drop_spends : {A E : Type 0} → ℕ → Result A E → List ℕ
drop_spends k (Ok done) = k ∷ []
drop_spends k (Err error) = []

-- what a poll is, by its answer
abbrev pub poll_events : ℕ → Result (Polled MessageView) Error → List CallsEvent
poll_events k r = map CallFinished (poll_spends k r)

-- what a drop is, by its answer
abbrev pub drop_events : {A E : Type 0} → ℕ → Result A E → List CallsEvent
drop_events k r = map CallFinished (drop_spends k r)
