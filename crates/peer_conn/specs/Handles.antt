-- What lanes hold of the streams of a peer: the handles that the core made for them.
use Rattle.std.specs.Prelude.{ℕ, ◌≡◌, ◌+◌, true, false, List, [], ◌∷◌, slice_get, slice_set, Option, Some, None, option_and_then}
use Rattle.peer_conn.specs.Names.{MessageView, StreamHandle, OpenState}
use Rattle.peer_core.specs.{History.Past, Handles.OpeningView}
use Rattle.peer_streams.specs.{History.{Stream, StreamEvent, done_by}, Streams.runs}

-- the stream that is held open
abbrev pub open_in : StreamHandle → Option ℕ
open_in (StreamHandle.Open stream) = Some stream
open_in other = None

-- the one that is held open of the stream with this number
abbrev pub open_at : List StreamHandle → ℕ → Option ℕ
open_at hs k = option_and_then open_in (slice_get hs k)

-- once a stream that was held open is handed in
abbrev pub without_open : StreamHandle → StreamHandle
without_open (StreamHandle.Open stream) = StreamHandle.Spent
without_open other = other

-- what is held of a stream for which the bus was asked, once it was asked whether it is open
abbrev pub held_after : OpenState → OpeningView → StreamHandle
held_after OpenState.Open o = StreamHandle.Open o.stream
held_after OpenState.NotYet o = StreamHandle.Opening o
held_after other o = StreamHandle.Spent

-- the handles once these streams, one or two, are held open again
abbrev pub handed_back : ℕ → Option ℕ → List StreamHandle → List StreamHandle
handed_back k None hs = slice_set hs k (StreamHandle.Open k)
handed_back k (Some j) hs = slice_set (slice_set hs j (StreamHandle.Open j)) k (StreamHandle.Open k)

-- a stream once it did these, in order
abbrev pub did_all : List StreamEvent → Stream → Stream
did_all [] s = s
did_all (deed ∷ deeds) s = did_all deeds (done_by deed s)

-- That is what a lane holds of this stream, which has that number: the stream, where it is open; the opening, until the lane is told that it
-- is; nothing of one that is gone.
abbrev pub IsHandleOf : List MessageView → ℕ → Stream → StreamHandle → Type 0
IsHandleOf ms k s (StreamHandle.Open stream) = (stream ≡ k) × (runs ms s ≡ true)
IsHandleOf ms k s (StreamHandle.Opening o) = (o.stream ≡ k) × (s.open_reported ≡ false)
IsHandleOf ms k s StreamHandle.Spent = s.gone ≡ true

-- These are what lanes hold of these streams, one handle for each, in order; the first stream has that number.
abbrev pub AreHandles : List MessageView → ℕ → List Stream → List StreamHandle → Type 0
AreHandles ms k [] [] = Unit {0}
AreHandles ms k (s ∷ ss) (h ∷ hs) = IsHandleOf ms k s h × AreHandles ms (k + 1) ss hs
AreHandles ms k ss hs = ⊥

-- these are what lanes hold of all streams of a past, by number
abbrev pub HasHandles : Past → List StreamHandle → Type 0
HasHandles h hs = AreHandles h.read 0 h.streams hs
