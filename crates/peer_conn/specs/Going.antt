-- A peer's state while a command goes on: it was begun, and some of its messages may be written.
use Rattle.std.specs.{Prelude.{ℕ, ⊤, ◌≡◌, ◌+◌, ◌-◌, ◌^◌, ◌<◌, false, [], length, Option, Some, None, Result, Ok, Err}}
use Rattle.peer_conn.specs.{Names.{MessageView, Front, IgnoredFront, Received, IsReadRefusal, Error, Words, Answer, Entry}, Invariant.{PeerStateView, Keeps, OwnsBy, server_of, AreTaken}}
use Rattle.peer_core.specs.{History.Past, Refinement.{RouteView, is_busy}}
use Rattle.peer_route.specs.{StreamLaws.is_serve, Replay.Replay, Plan.{Plan, Says, Sends, Serves, Dispatches, plan}, Entries.{IsMeant, deeds, maker, server_after, postings, past_after}}

-- ---- a command that is no read and no closing

-- it is no read and no `close`, which are steps of their own, and asks nothing of objects, whose answer others give
abbrev pub IsBegun : Words → Type 0
IsBegun Words.Read = ⊥
IsBegun Words.Close = ⊥
IsBegun (Words.Objects op) = ⊥
IsBegun w = ⊤

-- it asks something of the peer's objects, and not for the next call that came for them
abbrev pub IsOnObjects : Words → Type 0
IsOnObjects (Words.Objects op) = is_serve op ≡ false
IsOnObjects w = ⊥

-- The entry is what its plan says, and the plan says something, wants messages sent, asks whoever keeps the objects, or hands these a call.
abbrev pub IsActing : Past → Plan → Entry → Type 0
IsActing h (Says answer done) e = IsMeant h (Says answer done) e
IsActing h (Serves said done) e = IsMeant h (Serves said done) e
IsActing h (Dispatches k m) e = IsMeant h (Dispatches k m) e
IsActing h (Sends done ds sent) e = IsMeant h (Sends done ds sent) e
IsActing h other e = ⊥

-- The command of this entry goes on, after this replay: its messages are put, and as many of them are written as the entry says; whose its
-- calls and streams are, and whether one is the object server's, isn't kept yet.
pub record GoingBy (v : PeerStateView) (t : Replay) (pl : Plan) (e : Entry) : Type 0 where
  pub acting : IsActing t.past pl e
  pub keeps : Keeps v (past_after pl e t.past)
  pub calls : v.calls ≡ t.calls
  pub streams : v.streams ≡ t.streams
  pub server : v.server ≡ t.server
  pub owns : OwnsBy (maker pl e.lane) e.lane v.makes (postings pl) e.put (deeds pl e)
  pub serves : server_of (length t.streams) t.server v.makes ≡ server_after pl e.answer (length t.streams) t.server
  pub taken : AreTaken t.setting.takes_fds e.put

-- the command of this entry goes on, after this replay, by the plan that its words mean in its lane
abbrev pub Going : PeerStateView → Replay → Entry → Type 0
Going v t e = GoingBy v t (plan t e.lane e.words) e

-- no message waits that was put before
abbrev pub NoneWaits : Past → Type 0
NoneWaits h = h.outbox.done ≡ length h.outbox.put

-- The next message of the entry may be written: there is one, none before it failed, and it is the first that waits.
abbrev pub MayWrite : PeerStateView → Entry → Type 0
MayWrite v e = (e.failed ≡ false) × (e.written < length e.put) × ((t : Replay) × Going v t e × NoneWaits t.past)

-- ---- reads

-- an entry that puts nothing, its answer, and what it read
abbrev pub quiet : ℕ → Words → Answer → Option MessageView → Entry
quiet lane w answer read = record { lane = lane; words = w; answer = answer; read = read; put = []; written = 0; failed = false }

-- the peer is open, and no stream is full
abbrev pub MayRead : RouteView → Type 0
MayRead v = (v.calls.closing ≡ None) × (is_busy v ≡ false)

-- What a read found: the next message, which stands on its own bytes, one position above those before it; a front that is ignored, which
-- fills its bytes; or why there is neither.
abbrev pub IsFound : ℕ → Result Received Error → Type 0
IsFound count (Ok (Received.Message m)) = Front m.bytes m (length m.bytes) × (m.position ≡ count + 1) × (count < 2 ^ 64 - 2)
IsFound count (Ok (Received.Passed bytes)) = IgnoredFront bytes (length bytes) × (count < 2 ^ 64 - 2)
IsFound count (Err error) = IsReadRefusal error

-- the entry of a read that found this
abbrev pub read_entry : ℕ → Result Received Error → Entry
read_entry lane (Ok (Received.Message m)) = quiet lane Words.Read Answer.Got (Some m)
read_entry lane (Ok (Received.Passed bytes)) = quiet lane Words.Read (Answer.Passed bytes) None
read_entry lane (Err error) = quiet lane Words.Read (Answer.Closed error) None

-- the answer of a read that takes nothing: what closed the peer, again; else that a stream is full
abbrev pub read_answer : Option Error → Answer
read_answer None = Answer.Busy
read_answer (Some error) = Answer.Closed error
