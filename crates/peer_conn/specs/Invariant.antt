-- How a peer stands to what its entries leave, and what a command does to it before anything of it is written.
use Rattle.std.specs.{Prelude.{ℕ, ◌≡◌, Bool, false, List, [], ◌∷◌, ◌++◌, replicate, slice_set, Option, Some, None, Result, Ok, Err, ◌+◌, ◌==◌, if◌then◌else◌, ◌⊎◌, true}, List.AllByRecursion, Option.option_map_or, Ordering.nat_cmp, BTreeMap.{BTreeMap, get}, Global.Vec}
use Rattle.peer_conn.specs.Names.{MessageView, Error, Polled, Answer, Acted, Makes, IoKind, StreamHandle}
use Rattle.peer_conn.specs.Handles.{HasHandles, handed_back}
use Rattle.peer_core.specs.{History.{Event, Past, after_all}, Asked.{all_given, are_open, gone_events}, Refinement.{RouteView, Refines}, Issuing.put_each}
use Rattle.peer_calls.specs.Issuing.{Posting, outgoings, messages_of}
use Rattle.peer_core.specs.Issuing.{issued}
use Rattle.peer_route.specs.{Replay.{Replay, Owners, owner, new_owners, asked_owners, made_owners}, Plan.{Plan, Says, Sends, next_call}, Entries.unsent}
use Rattle.wire_message.specs.Outgoing.{sent_by}
use Rattle.peer_words.specs.CallMessage.{PreparedSend}

-- What contracts see of a peer's state: its core, whose its calls and its streams are, which stream the object server's is, if there is one,
-- for each stream what its lane holds of it and the message that it gave last, and what the command made that was begun last.
pub record PeerStateView : Type 0 where
  pub core : RouteView
  pub calls : Owners
  pub streams : Owners
  pub server : Option ℕ
  pub handles : List StreamHandle
  pub given : List (Option MessageView)
  pub makes : Makes

-- The past leaves the peer's core, what lanes hold of its streams, and the messages that these gave last.
pub record Keeps (v : PeerStateView) (h : Past) : Type 0 where
  pub left : Refines v.core h
  pub held : HasHandles h v.handles
  pub given : v.given ≡ all_given h

-- The peer is what this replay leaves.
pub record StateInvariant (v : PeerStateView) (t : Replay) : Type 0 where
  pub keeps : Keeps v t.past
  pub calls : v.calls ≡ t.calls
  pub streams : v.streams ≡ t.streams
  pub server : v.server ≡ t.server

-- whose calls and streams are whose, and which is the object server's, is the same
abbrev pub SameOwners : PeerStateView → PeerStateView → Type 0
SameOwners old new = (new.calls ≡ old.calls) × (new.streams ≡ old.streams) × (new.server ≡ old.server)

-- The call that the object server's stream gives next wasn't taken: what is next is the same.
abbrev pub Untaken : PeerStateView → PeerStateView → Type 0
Untaken old new = (p : Past) → Keeps old p → (q : Past) × Refines new.core q × (next_call q old.server ≡ next_call p old.server)

-- ---- whose what a command made is

-- whose the calls are that it made, by whether the write of a message failed
abbrev pub call_owners : ℕ → Bool → Makes → Owners
call_owners lane failed Makes.Call = owner lane failed ∷ []
call_owners lane failed Makes.Opening = None ∷ []
call_owners lane failed (Makes.Own count) = replicate count None
call_owners lane failed other = []

-- and whose the streams are
abbrev pub stream_owners : ℕ → Bool → Makes → Owners
stream_owners lane failed Makes.Stream = Some lane ∷ []
stream_owners lane failed Makes.Server = None ∷ []
stream_owners lane failed Makes.Opening = owner lane failed ∷ []
stream_owners lane failed other = []

-- which stream the object server's is then; so many were made before
abbrev pub server_of : ℕ → Option ℕ → Makes → Option ℕ
server_of streams server Makes.Server = Some streams
server_of streams server other = server

-- what beginning to serve makes: the object server's stream, where there is none yet
abbrev pub made_by : Option ℕ → Makes
made_by None = Makes.Server
made_by (Some k) = Makes.Nothing

-- what a command on objects makes, by whether it is refused
abbrev pub makes_by : Bool → Option ℕ → Makes
makes_by refused server = if refused then Makes.Nothing else made_by server

-- That is what its plan says of them, whose streams that it makes by itself are this lane's, or nobody's.
abbrev pub OwnsBy : Option ℕ → ℕ → Makes → List Posting → List MessageView → List Event → Type 0
OwnsBy maker lane made ds ms done =
    (failed : Bool) → (call_owners lane failed made ≡ new_owners lane failed ds ms) × (stream_owners lane failed made ≡ made_owners maker done ++ asked_owners lane failed ds ms)

-- What a command makes is what its plan says of it, where all its streams are its lane's.
abbrev pub Owns : ℕ → Makes → List Posting → List MessageView → List Event → Type 0
Owns lane made ds ms done = OwnsBy (Some lane) lane made ds ms done

-- ---- what a command does

-- none of these has descriptors, or the sink takes them
abbrev pub AreTaken : Bool → List MessageView → Type 0
AreTaken takes ms = AllByRecursion (λ m. (m.unix_fds ≡ None) ⊎ (takes ≡ true)) ms

-- Messages were put after these deeds, and wait to be written; or why none was.
abbrev pub DidSend : PeerStateView → Replay → ℕ → List Event → List Posting → (List ℕ → Answer) → Acted → Result (List ℕ) Error → Type 0
DidSend v t lane done ds sent a (Ok serials) =
    (a.answer ≡ sent serials) × Keeps v (put_each ds serials (after_all done t.past))
    × AreTaken t.setting.takes_fds (messages_of (outgoings ds) serials) × Owns lane a.makes ds (messages_of (outgoings ds) serials) done
DidSend v t lane done ds sent a (Err error) = (a.answer ≡ unsent error) × Keeps v (after_all done t.past) × Owns lane a.makes [] [] done

-- What a lane's command did by its plan, before anything of it is written: its answer is that of one that is written whole.
abbrev pub Did : PeerStateView → Replay → ℕ → Plan → Acted → Type 0
Did v t lane (Says answer done) a = (a.answer ≡ answer) × Keeps v (after_all done t.past) × Owns lane a.makes [] [] done
Did v t lane (Sends done ds sent) a = DidSend v t lane done ds sent a (issued (after_all done t.past) ds)
Did v t lane other a = ⊥

-- a command that made nothing, and has this answer
abbrev pub plain : Answer → Acted
plain answer = record { answer = answer; makes = Makes.Nothing }

-- a command that made nothing is answered so by this error, or there was no memory, which is no answer
abbrev pub Answers : {E : Type 0} → (Error → Answer) → Error → Result Acted E → Type 0
Answers answer Error.Memory (Ok a) = ⊥
Answers answer error (Ok a) = a ≡ plain (answer error)
Answers answer error (Err e) = error ≡ Error.Memory

-- What is answered where messages of whoever keeps the objects were put; else by what refused them, and for want of memory nothing.
abbrev pub IsToldOf : {A E : Type 0} → Result A Error → Answer → Result Answer E → Type 0
IsToldOf (Ok issued) said (Ok answer) = answer ≡ said
IsToldOf (Ok issued) said (Err e) = ⊥
IsToldOf (Err Error.Memory) said (Ok answer) = ⊥
IsToldOf (Err error) said (Ok answer) = answer ≡ unsent error
IsToldOf (Err error) said (Err e) = error ≡ Error.Memory

-- what is answered where the core did nothing, or couldn't put a message
abbrev pub undone_answer : Error → Answer
undone_answer Error.Busy = Answer.Busy
undone_answer error = unsent error

-- what is answered where the core opened no stream of a rule, or couldn't put its AddMatch: a closed peer opens none
abbrev pub unopened_answer : Error → Answer
unopened_answer (Error.InputOutput IoKind.Closed) = Answer.Refused (Error.InputOutput IoKind.Closed)
unopened_answer error = undone_answer error

-- ---- streams that are closed

-- The peer is what this replay leaves, but that a lane handed in these streams, which are open, to have them closed.
pub record HandedIn (v : PeerStateView) (t : Replay) (k : ℕ) (j : Option ℕ) : Type 0 where
  pub stands : StateInvariant (record v { handles = handed_back k j v.handles }) t
  pub there : are_open t.past k j ≡ true
  pub spent : HasHandles (after_all (gone_events k j) t.past) v.handles

-- ---- what streams gave last

-- after a take
abbrev pub given_after : ℕ → Result (Polled MessageView) Error → List (Option MessageView) → List (Option MessageView)
given_after k (Ok (Polled.Now m)) gs = slice_set gs k (Some m)
given_after k other gs = gs

-- once these are closed
abbrev pub forgotten : ℕ → Option ℕ → List (Option MessageView) → List (Option MessageView)
forgotten k None gs = slice_set gs k None
forgotten k (Some j) gs = slice_set (slice_set gs k None) j None

-- ---- what a lane's numbers name, where it is kept for each lane

-- whether what has this owner belongs to the lane
abbrev pub is_of : Option ℕ → ℕ → Bool
is_of None lane = false
is_of (Some l) lane = l == lane

-- The numbers among all of what belongs to the lane, in order; `at` is the first owner's.
abbrev pub places : ℕ → ℕ → Owners → List ℕ
places at lane [] = []
places at lane (owner ∷ owners) = (if is_of owner lane then at ∷ [] else []) ++ places (at + 1) lane owners

-- what is kept for a lane: nothing, where the map lacks it
abbrev pub kept_for : BTreeMap ℕ (Vec ℕ) → ℕ → List ℕ
kept_for lanes lane = option_map_or (λ v. v.items) (get nat_cmp lanes lane) []

-- ---- what the words of a command make: a message to be sent, or why none is

-- what is asked for, sent by the peer of that name
abbrev pub named_send : Option (List ℕ) → PreparedSend → PreparedSend
named_send name (Ok outgoing) = Ok (sent_by name false outgoing)
named_send name (Err error) = Err error
