-- What a past leaves of its streams: all that the answers to come depend on.
use Rattle.std.specs.{Prelude.{ℕ, ◌≡◌, ◌+◌, ◌≤◌, nat_lt, Bool, true, false, ◌&&◌, ◌==◌, if◌then◌else◌, List, [], ◌∷◌, ◌++◌, length, map, option_map, unwrap_or, Option, Some, None, Result, Ok, Err, drop}, List.AllByRecursion}
use Rattle.peer_streams.specs.{Names.{MessageView, Error, Rule, accepts, OpenState, replies_to, is_return}, Rules.is_same, History.{Stream, Start, Behind, OnReturn, Phase, Asking, Denied, Since, phase, raised, StreamsPast}, Streams.{accepted, matched, is_open}}

-- How a stream stands: it waits for the return to the AddMatch with this serial and this place in the outbox; it was denied; it
-- takes messages; or it was closed, or its AddMatch could not be written.
pub data Standing : Type 0 where
  Awaits : (serial index : ℕ) → Standing
  WasDenied : Standing
  Active : Standing
  Closed : Standing

-- a rule, and how many messages each of its streams may hold
pub record Wants : Type 0 where
  pub rule : Rule
  pub limit : ℕ

-- What is kept of a stream: its rule, where it has one, with how many messages it may hold; how it stands; the messages
-- that it holds; whether it gave the closing error; and whether who asked for it was told that it is open.
pub record StreamView : Type 0 where
  pub wants : Option Wants
  pub standing : Standing
  pub items : List MessageView
  pub closing_delivered : Bool
  pub open_reported : Bool

-- Of a stream that was closed nothing is kept.
abbrev pub gone_view : StreamView
gone_view = record { wants = None; standing = Closed; items = []; closing_delivered = false; open_reported = false }

-- a rule, with how many messages each of its streams may hold
abbrev pub wanted : (Rule → ℕ) → Rule → Wants
wanted limits rule = record { rule = rule; limit = limits rule }

-- What is kept of a stream by whether it was closed and how far it is opened: its items, where it is; the serial and the place of
-- its AddMatch, where it waits; the error that denied it, and no rule any more; nothing of one that was closed.
abbrev pub kept_by : (Rule → ℕ) → Stream → Bool → Phase → StreamView
kept_by limits s true p = gone_view
kept_by limits s false (Denied m) = record { wants = None; standing = WasDenied; items = m ∷ []; closing_delivered = s.closing_delivered; open_reported = s.open_reported }
kept_by limits s false (Asking add) =
    record { wants = option_map (wanted limits) s.rule; standing = Awaits add.serial add.index; items = []; closing_delivered = s.closing_delivered; open_reported = s.open_reported }
kept_by limits s false (Since ms) =
    record { wants = option_map (wanted limits) s.rule; standing = Active; items = drop s.taken (drop s.skip (accepted s.rule ms)); closing_delivered = s.closing_delivered; open_reported = s.open_reported }

-- what is kept of a stream, by the capacities of rules and the messages that were read
unfoldable pub kept : (Rule → ℕ) → List MessageView → Stream → StreamView
kept limits ms s = kept_by limits s s.gone (phase ms s)

-- the stream takes messages
abbrev pub is_running : Standing → Bool
is_running Active = true
is_running other = false

-- a stream takes messages, and this is one of its own
abbrev pub keeps_by : Standing → Option Wants → MessageView → Bool
keeps_by Active None m = true
keeps_by Active (Some s) m = accepts s.rule m
keeps_by other wants m = false

-- a stream with the message, if it keeps it
abbrev pub pushed : MessageView → StreamView → StreamView
pushed m q = if keeps_by q.standing q.wants m then record q { items = q.items ++ m ∷ [] } else q

-- a stream that has the message once that is known, which may be the reply to its AddMatch: its return opens it, an error denies it
abbrev pub settled_by : Standing → MessageView → StreamView → StreamView
settled_by (Awaits serial index) m q =
    if replies_to serial m then (if is_return m.kind then record q { standing = Active } else record q { wants = None; standing = WasDenied; items = m ∷ [] }) else q
settled_by other m q = q

-- a stream is gone once the write of the AddMatch that has this place in the outbox failed, and it waited for its return
abbrev pub lost_by : Standing → ℕ → StreamView → StreamView
lost_by (Awaits serial n) index q = if n == index then gone_view else q
lost_by other index q = q

-- a stream once the message is known, by how it stands: open or denied, where that is the reply to its AddMatch; else as it was
abbrev pub settled : MessageView → StreamView → StreamView
settled m q = settled_by q.standing m q

-- a stream once the write of the message at this place in the outbox failed: gone, if that is the AddMatch for whose return it waits
abbrev pub lost : ℕ → StreamView → StreamView
lost index q = lost_by q.standing index q

-- a stream that runs holds more than it may: than its rule's streams may, or without a rule so many
abbrev pub is_over : ℕ → StreamView → Bool
is_over main q = is_running q.standing && nat_lt (unwrap_or (option_map (λ (s : Wants). s.limit) q.wants) main) (length q.items)

-- a stream after a take: without its first message, or with the closing error told
abbrev pub after_by : List MessageView → Option Error → StreamView → StreamView
after_by (m ∷ ms) closing q = record q { items = ms }
after_by [] None q = q
after_by [] (Some error) q = record q { closing_delivered = true }

-- what asking gives whether a stream is open: whether who asked for it was told so before, how far it is opened, and the error that
-- denied it
abbrev pub asked_by : Bool → Standing → List MessageView → Option Error → OpenState
asked_by false Active items closing = OpenState.Open
asked_by false (Awaits serial index) items None = OpenState.NotYet
asked_by false (Awaits serial index) items (Some error) = OpenState.Over error
asked_by false WasDenied (m ∷ items) closing = OpenState.Refused m
asked_by open_reported standing items closing = OpenState.Unknown

-- a stream once it was asked whether it is open, by what it was told: one that will not be is gone
abbrev pub after_ask : OpenState → StreamView → StreamView
after_ask OpenState.Open q = record q { open_reported = true }
after_ask (OpenState.Refused m) q = gone_view
after_ask (OpenState.Over error) q = gone_view
after_ask other q = q

-- the capacity of a rule, where a stream of it asks for more
abbrev pub raise : Rule → Option ℕ → Wants → Wants
raise rule asked s = record s { limit = if is_same s.rule rule then raised asked s.limit else s.limit }

-- the number of messages behind which a stream begins, or its AddMatch was put
abbrev pub start_count : Start → ℕ
start_count (Behind count) = count
start_count (OnReturn add) = add.from

-- no stream starts above what was read, or passed more than was its own
pub record IsWithin (ms : List MessageView) (s : Stream) : Type 0 where
  pub start : start_count s.start ≤ length ms
  pub passed : s.skip + s.taken ≤ length (matched ms s)

-- These streams are left of those that were made, by the messages that were read and the capacities of rules: each with what it holds.
pub record AreStreams (v : List StreamView) (limits : Rule → ℕ) (ms : List MessageView) (ss : List Stream) : Type 0 where
  pub shown : v ≡ map (kept limits ms) ss
  pub within : AllByRecursion (IsWithin ms) ss

-- The past leaves these streams.
abbrev pub RefinesStreams : List StreamView → StreamsPast → Type 0
RefinesStreams v h = AreStreams v h.capacities.rules h.read h.streams

-- What cloning the stream with this number gives: one more that goes on where it is, with the next number; a stream that isn't
-- open is unknown. An error changes nothing. `leaves` is what holds then.
abbrev pub ClonesBy : {V : Type 0} → Type 0 → V → V → ℕ → StreamsPast → Result ℕ Error → Type 0
ClonesBy leaves old new k h (Ok stream) = (is_open h k ≡ true) × (stream ≡ length h.streams) × leaves
ClonesBy leaves old new k h (Err Error.UnknownHandle) = (is_open h k ≡ false) × (new ≡ old)
ClonesBy leaves old new k h (Err Error.Memory) = new ≡ old
ClonesBy leaves old new k h (Err error) = ⊥
