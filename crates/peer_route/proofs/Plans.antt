-- What is known of each command's plan: what is said at once, what is done beside messages, and what is told of these; and what holds along
-- the events of an entry.
use Rattle.peer_calls.specs.Calls.{poll_answer as calls_poll_answer}
use Rattle.peer_streams.specs.Streams.{take_answer as streams_take_answer}
use Rattle.std.proofs.Common.{◌≡◌, ◌⊎◌, inl, inr, is_none, ℕ, ◌-◌, zero, suc, refl, subst, ◌&&◌, not, Bool, true, false, if◌then◌else◌, List, ◌∷◌, ◌++◌, length, Option, Some, None, Result, Ok, Err, ◌∙◌, ap, [], arith, ◌<◌, ◌^◌, sym}
use Rattle.std.specs.{List.{AllByRecursion, slice_get}, Option.option_and_then}
use Rattle.peer_route.specs.{Names.{Datum, BuilderView, are_misplaced, reply_builder, error_builder, head_of, MessageView, MessageType, Error, Rule, rule_in_bytes, Polled, OpenState, Words, CallOp, StreamOp, Live, ObjectOp, Outgoing, OutgoingKind, Answer, Entry}, Replay.{Setting, Replay, handle_index, count}, Answers.{error_answer, reply_by, answer_of_poll, answer_of_drop, answer_of_take, answer_of_opening}, Plan.{Plan, Says, Reads, Serves, Dispatches, Closes, Writes, Never, server_events, no_call, gives_call, serves_next, on_objects, refuses, where_named, where_open, unless_waits, sends, on_call, makes, leaves, ends, second_index, given_last, on_stream, opens_new, opens, reads_by, is_due, lives, plan, Sends, sent_answer}, StreamLaws.{is_take_op, does_beside, is_serve, is_serving}, Entries.{Legal, IsSaid, object_events, put_events, repeat, writes, deeds, postings, past_after}, Laws.{told_serial, is_by_position}}
use Rattle.peer_words.specs.CallMessage.{PreparedSend, prepared_of, outgoing_builder, prepared_outgoing, sent_from, prepared_reply, prepared_error, words_refusal, values_in, name_refusal}
use Rattle.wire_message.specs.{Outgoing.{OutgoingMessageView, expects}, Polls.by_position}
use Rattle.peer_core.specs.{History.{Event, Wrote, WriteFailed, CallFinished, Made, Did, Main, Named, Past, after, after_all}, Asked.{match_call_pending, poll_answer, poll_events, drop_answer, drop_events, busy, take_answer, take_events, is_open, are_open, asks_bus, close_waits, gone_events, opening_answer, opening_events, leaving, next_message}, Issuing.puts, BusCall.{first_of, last_of, asking_of, tellings_of}}
use Rattle.peer_streams.specs.{History.{StreamOrigin, Gave, Gone, Stream, Plain, Ruled, Cloned}, Streams.{held, runs, take_by}}
use Rattle.peer_calls.specs.{History.Call, Calls.{reply, is_nobodys, polled_by}, Issuing.{Posting, posted}}
use Rattle.peer_core.specs.Issuing.{drawn, next_serial}
use Rattle.wire_message.proofs.Edits.{all_weaker}
use Rattle.peer_calls.proofs.Looks.{polled_at}
use Rattle.peer_streams.proofs.Looks.{take_at}

-- ---- deeds

-- a call's answer is given or it is dropped, a stream is made or does something, the main capacity is set, or the peer gets its name
abbrev pub IsDeed : Event → Type 0
IsDeed (CallFinished k) = Unit {0}
IsDeed (Made making) = Unit {0}
IsDeed (Did k deed) = Unit {0}
IsDeed (Main limit) = Unit {0}
IsDeed (Named name) = Unit {0}
IsDeed e = ⊥

abbrev pub AreDeeds : List Event → Type 0
AreDeeds es = AllByRecursion IsDeed es

-- the command takes from a stream
abbrev pub takes : Words → Bool
takes (Words.OfStream n op) = is_take_op op
takes (Words.Objects op) = is_serve op
takes w = false

-- only lanes have it that run at once
abbrev pub is_live : Words → Bool
is_live (Words.Live line) = true
is_live w = false

-- only a take gives an item, and only a line of lanes that run at once gives the name
abbrev pub Gives : Words → Event → Type 0
Gives w (Did k Gave) = takes w ≡ true
Gives w (Named name) = is_live w ≡ true
Gives w e = Unit {0}

-- what the command may do by itself
abbrev pub IsOwn : Words → Event → Type 0
IsOwn w e = IsDeed e × Gives w e

pub are_deeds : (w : Words) (es : List Event) → AllByRecursion (IsOwn w) es → AreDeeds es
are_deeds w = all_weaker (IsOwn w) IsDeed (λ e is. is.0)

-- ---- answers

-- the answer says that nothing is done
abbrev pub is_idle : Answer → Bool
is_idle (Answer.Refused error) = true
is_idle Answer.Busy = true
is_idle other = false

-- where an answer fits a command by position alone, and where none by position alone
abbrev pub place_of : Answer → Option Bool
place_of Answer.NoneBefore = Some true
place_of Answer.NotYet = Some false
place_of Answer.Empty = Some false
place_of other = None

abbrev pub fits : Bool → Option Bool → Bool
fits by None = true
fits by (Some place) = if by then place else not place

-- it says that something is done, tells no serial, and fits every command
abbrev pub IsBland : Answer → Type 0
IsBland a = (is_idle a ≡ false) × (told_serial a ≡ None) × (place_of a ≡ None)

error_bland : (m : MessageView) (name : Option (List ℕ)) → IsBland (error_answer m name)
error_bland m (Some name) = (refl, refl, refl)
error_bland m None = (refl, refl, refl)

reply_bland : (m : MessageView) (kind : MessageType) → IsBland (reply_by m kind)
reply_bland m MessageType.Error = error_bland m m.error_name
reply_bland m kind = (refl, refl, refl)

sent_told : (waits : Bool) (call serial : ℕ) → (told_serial (sent_answer waits call serial) ≡ Some serial) × (is_idle (sent_answer waits call serial) ≡ false) × (place_of (sent_answer waits call serial) ≡ None)
sent_told true call serial = (refl, refl, refl)
sent_told false call serial = (refl, refl, refl)

-- one message draws one serial
pub one_drawn : (h : Past) (d : Posting) (serials : List ℕ) → drawn h (d ∷ []) ≡ Some serials → (n : ℕ) × (serials ≡ n ∷ [])
one_drawn h d serials e = by (next_serial h) e
  where
    by : (o : Option ℕ) → option_and_then (λ n. Some (n ∷ [])) o ≡ Some serials → (n : ℕ) × (serials ≡ n ∷ [])
    by None q = cc
    by (Some n) q = (n, cc)

-- so that the first is the last
one_drew : (d : Posting) (h : Past) (serials : List ℕ) → drawn h (d ∷ []) ≡ Some serials → Some (first_of serials) ≡ last_of serials
one_drew d h serials e = let one = one_drawn h d serials e in subst (λ xs. Some (first_of xs) ≡ last_of xs) (sym one.1) refl

-- ---- what is known of a command's plan

-- What is said at once goes with what is done: a refusal, or to have to wait, with nothing. It tells no serial, and that there is none
-- before it is said by position alone.
pub record Fair (w : Words) (answer : Answer) (done : List Event) : Type 0 where
  pub only : AllByRecursion (IsOwn w) done
  pub idle : is_idle answer ≡ true → done ≡ []
  pub untold : told_serial answer ≡ None
  pub fit : fits (is_by_position w) (place_of answer) ≡ true

-- the messages have this name as their sender
abbrev pub AreFrom : Option (List ℕ) → List Posting → Type 0
AreFrom name ds = AllByRecursion (λ (d : Posting). d.outgoing.builder.fields.sender ≡ name) ds

-- Where messages are wanted, only a command that closes streams or takes a call does anything beside them; and what is answered once they
-- are sent tells no serial, or the last that they draw.
pub record FairSends (t : Replay) (w : Words) (done : List Event) (ds : List Posting) (sent : List ℕ → Answer) : Type 0 where
  pub only : AllByRecursion (IsOwn w) done
  pub idle : does_beside w ≡ false → done ≡ []
  pub loud : (serials : List ℕ) → (is_idle (sent serials) ≡ false) × (place_of (sent serials) ≡ None)
  pub told : (serials : List ℕ) → drawn (after_all done t.past) ds ≡ Some serials → (told_serial (sent serials) ≡ None) ⊎ (told_serial (sent serials) ≡ last_of serials)

-- where it is known what is said of objects, it is that there is no call; where it isn't, the command asks for none
abbrev pub AreUncalled : Past → Words → Option Answer → Type 0
AreUncalled h w None = is_serving w ≡ false
AreUncalled h w (Some said) = said ≡ no_call h.closing

-- Whoever keeps the peer's objects is asked only by a command on them, and what it does is to make the object server's stream where there is
-- none.
pub record FairServes (t : Replay) (w : Words) (said : Option Answer) (done : List Event) : Type 0 where
  pub asked : (op : ObjectOp) × (w ≡ Words.Objects op)
  pub only : AllByRecursion (IsOwn w) done
  pub makes : done ≡ server_events t.past.name t.server
  pub uncalled : AreUncalled t.past w said

-- A call is handed on only by the command that asks for the next one, and is what the object server's stream holds first.
pub record FairDispatches (t : Replay) (w : Words) (k : ℕ) (m : MessageView) : Type 0 where
  pub asked : w ≡ Words.Objects ObjectOp.Serve
  pub server : t.server ≡ Some k
  pub next : next_message t.past k ≡ Some m

-- what is known of each kind of plan that a command has
abbrev pub IsFair : Replay → Words → Plan → Type 0
IsFair t w (Says answer done) = Fair w answer done
IsFair t w (Sends done ds sent) = FairSends t w done ds sent × AreFrom t.past.name ds × (is_serving w ≡ false)
IsFair t w Reads = t.past.closing ≡ None
IsFair t w (Serves said done) = FairServes t w said done
IsFair t w (Dispatches k m) = FairDispatches t w k m
IsFair t w Closes = w ≡ Words.Close
IsFair t w (Writes fails) = (is_live w ≡ true) × (fails ≡ false → t.past.outbox.failed ≡ false)
IsFair t w Never = Unit {0}

-- ---- what is said at once

none : (w : Words) (a : Answer) → told_serial a ≡ None → fits (is_by_position w) (place_of a) ≡ true → Fair w a []
none w a untold fit = record { only = tt; idle = λ e. refl; untold = untold; fit = fit }

does : (w : Words) (a : Answer) (es : List Event) → AllByRecursion (IsOwn w) es → IsBland a → Fair w a es
does w a es only is = let loud = is.0 in record { only = only; idle = λ e. cc; untold = is.1; fit = ap (fits (is_by_position w)) is.2 }

-- neither a poll nor a take says by itself that there is none before a position
not_before : (b : Bool) (f : Option MessageView) (o : Option Error) → (if b then Err Error.UnknownHandle else polled_by f o) ≡ Ok Polled.NoneBefore → ⊥
not_before true f o e = cc
not_before false (Some m) o e = cc
not_before false None (Some error) e = cc
not_before false None None e = cc

poll_at : (ms : List MessageView) (closing : Option Error) (c : Option Call) → polled_at ms closing c ≡ Ok Polled.NoneBefore → ⊥
poll_at ms closing None e = cc
poll_at ms closing (Some c) e = not_before (is_nobodys c) (reply ms c) closing e

take_not_before : (b : Bool) (ms : List MessageView) (o : Option Error) (closing_delivered : Bool) → (if b then Ok (take_by ms o closing_delivered) else Err Error.UnknownHandle) ≡ Ok Polled.NoneBefore → ⊥
take_not_before false ms o closing_delivered e = cc
take_not_before true (m ∷ ms) o closing_delivered e = cc
take_not_before true [] None closing_delivered e = cc
take_not_before true [] (Some error) false e = cc
take_not_before true [] (Some error) true e = cc

taken_at : (ms : List MessageView) (closing : Option Error) (s : Option Stream) → take_at ms closing s ≡ Ok Polled.NoneBefore → ⊥
taken_at ms closing None e = cc
taken_at ms closing (Some s) e = take_not_before (runs ms s) (held ms s) closing s.closing_delivered e

poll_fair : (n k : ℕ) (r : Result (Polled MessageView) Error) → (r ≡ Ok Polled.NoneBefore → ⊥) → Fair (Words.OfCall n CallOp.Poll) (answer_of_poll r) (poll_events k r)
poll_fair n k (Ok (Polled.Now m)) other = does _ _ (CallFinished k ∷ []) ((tt, tt), tt) (reply_bland m m.kind)
poll_fair n k (Ok (Polled.Closed error)) other = does _ _ (CallFinished k ∷ []) ((tt, tt), tt) (refl, refl, refl)
poll_fair n k (Ok Polled.NoneBefore) other = absurd (other refl)
poll_fair n k r other = none _ (answer_of_poll r) refl refl

before_fair : (n before k : ℕ) (r : Result (Polled MessageView) Error) → Fair (Words.OfCall n (CallOp.Before before)) (answer_of_poll (by_position r)) (poll_events k r)
before_fair n before k (Ok (Polled.Now m)) = does _ _ (CallFinished k ∷ []) ((tt, tt), tt) (reply_bland m m.kind)
before_fair n before k (Ok (Polled.Closed error)) = does _ _ (CallFinished k ∷ []) ((tt, tt), tt) (refl, refl, refl)
before_fair n before k r = none _ (answer_of_poll (by_position r)) refl refl

drop_fair : (n k : ℕ) (r : Result (Unit {0}) Error) → Fair (Words.OfCall n CallOp.Drop) (answer_of_drop r) (drop_events k r)
drop_fair n k (Ok done) = does _ _ (CallFinished k ∷ []) ((tt, tt), tt) (refl, refl, refl)
drop_fair n k (Err error) = none _ (Answer.Refused error) refl refl

take_fair : (n k : ℕ) (r : Result (Polled MessageView) Error) → (r ≡ Ok Polled.NoneBefore → ⊥) → Fair (Words.OfStream n StreamOp.Take) (answer_of_take r) (take_events k r)
take_fair n k (Ok (Polled.Now m)) other = does _ _ (take_events k (Ok (Polled.Now m))) ((tt, refl), tt) (refl, refl, refl)
take_fair n k (Ok (Polled.Closed error)) other = does _ _ (take_events k (Ok (Polled.Closed error))) ((tt, tt), tt) (refl, refl, refl)
take_fair n k (Ok Polled.NoneBefore) other = absurd (other refl)
take_fair n k r other = none _ (answer_of_take r) refl refl

take_before_fair : (n before k : ℕ) (r : Result (Polled MessageView) Error) → Fair (Words.OfStream n (StreamOp.TakeBefore before)) (answer_of_take (by_position r)) (take_events k r)
take_before_fair n before k (Ok (Polled.Now m)) = does _ _ (take_events k (Ok (Polled.Now m))) ((tt, refl), tt) (refl, refl, refl)
take_before_fair n before k (Ok (Polled.Closed error)) = does _ _ (take_events k (Ok (Polled.Closed error))) ((tt, tt), tt) (refl, refl, refl)
take_before_fair n before k r = none _ (answer_of_take (by_position r)) refl refl

opening_fair : (n k : ℕ) (state : OpenState) → Fair (Words.OfStream n StreamOp.Opened) (answer_of_opening state) (opening_events k state)
opening_fair n k OpenState.Open = does _ _ (opening_events k OpenState.Open) ((tt, tt), tt) (refl, refl, refl)
opening_fair n k (OpenState.Refused m) = does _ _ (Did k Gone ∷ []) ((tt, tt), tt) (error_bland m m.error_name)
opening_fair n k (OpenState.Over error) = does _ _ (Did k Gone ∷ []) ((tt, tt), tt) (refl, refl, refl)
opening_fair n k state = none _ (answer_of_opening state) refl refl

-- ---- whose name a message bears

abbrev IsFrom : Option (List ℕ) → PreparedSend → Type 0
IsFrom name (Ok outgoing) = outgoing.builder.fields.sender ≡ name
IsFrom name (Err error) = Unit {0}

-- what is asked to be sent is refused, or is this builder with some values, where the sink takes the descriptors
asked_so : (P : PreparedSend → Type 0) (refusal : Option Error) (values : Option (List Datum)) (misplaced unsupported : Bool) (builder : BuilderView) (fds : List ℕ) → ((error : Error) → P (Err error))
    → ((ds : List Datum) → unsupported ≡ false → P (Ok (record { builder = builder; values = ds; fds = fds }))) → P (prepared_of refusal values misplaced unsupported builder fds)
asked_so P (Some error) values misplaced unsupported builder fds refused goes_so = refused error
asked_so P None None misplaced unsupported builder fds refused goes_so = refused _
asked_so P None (Some ds) true unsupported builder fds refused goes_so = refused _
asked_so P None (Some ds) false true builder fds refused goes_so = refused _
asked_so P None (Some ds) false false builder fds refused goes_so = goes_so ds refl

asked_from : (name : Option (List ℕ)) (refusal : Option Error) (values : Option (List Datum)) (misplaced unsupported : Bool) (builder : BuilderView) (fds : List ℕ) → builder.fields.sender ≡ name
    → IsFrom name (prepared_of refusal values misplaced unsupported builder fds)
asked_from name refusal values misplaced unsupported builder fds e = asked_so (IsFrom name) refusal values misplaced unsupported builder fds (λ error. tt) (λ ds fine. e)

outgoing_from : (name : Option (List ℕ)) (takes_fds : Bool) (out : Outgoing) → IsFrom name (prepared_outgoing name takes_fds out)
outgoing_from name takes_fds out =
    let builder = outgoing_builder out.kind name out in
    asked_from name (words_refusal builder) (values_in out.body) (are_misplaced builder.kind builder.flags) (out.flags.descriptor && not takes_fds) builder (if out.flags.descriptor then 0 ∷ [] else []) (built_of out.kind)
  where
    built_of : (kind : OutgoingKind) → (outgoing_builder kind name out).fields.sender ≡ name
    built_of OutgoingKind.Call = refl
    built_of OutgoingKind.Signal = refl

reply_from : (name : Option (List ℕ)) (m : Option MessageView) (body : Option (List ℕ)) → IsFrom name (prepared_reply name m body)
reply_from name None body = tt
reply_from name (Some m) body = asked_from name None (values_in body) false false (sent_from name (reply_builder MessageType.MethodReturn (head_of m))) [] refl

error_from : (name : Option (List ℕ)) (m : Option MessageView) (text : List ℕ) (body : Option (List ℕ)) → IsFrom name (prepared_error name m text body)
error_from name None text body = tt
error_from name (Some m) text body = asked_from name (name_refusal text) (values_in body) false false (sent_from name (error_builder (head_of m) text)) [] refl

-- ---- and which descriptors it carries: at most one, and none to a sink that takes none

-- there are descriptors, and the sink takes none
abbrev pub are_refused : List ℕ → Bool → Bool
are_refused [] takes = false
are_refused (fd ∷ fds) takes = not takes

pub record CanGo (takes_fds : Bool) (outgoing : OutgoingMessageView) : Type 0 where
  pub taken : are_refused outgoing.fds takes_fds ≡ false
  pub few : length outgoing.fds < 2 ^ 32

-- the descriptors that are asked for
abbrev pub fds_of : Bool → List ℕ
fds_of asks_one = if asks_one then 0 ∷ [] else []

goes : (takes_fds asks_one : Bool) (refusal : Option Error) (values : Option (List Datum)) (misplaced : Bool) (builder : BuilderView) (outgoing : OutgoingMessageView)
    → prepared_of refusal values misplaced (asks_one && not takes_fds) builder (fds_of asks_one) ≡ Ok outgoing → CanGo takes_fds outgoing
goes takes_fds asks_one refusal values misplaced builder outgoing =
    asked_so (λ a. a ≡ Ok outgoing → CanGo takes_fds outgoing) refusal values misplaced (asks_one && not takes_fds) builder (fds_of asks_one) (λ error e. cc) (λ ds fine e. by asks_one takes_fds ds fine (cc))
  where
    by : (asks takes : Bool) (ds : List Datum) → (asks && not takes) ≡ false → record { builder = builder; values = ds; fds = fds_of asks } ≡ outgoing → CanGo takes outgoing
    by true false ds fine is = cc
    by true true ds fine is = subst (CanGo true) is (record { taken = refl; few = omega arith })
    by false takes ds fine is = subst (CanGo takes) is (record { taken = refl; few = omega arith })

pub outgoing_goes : (name : Option (List ℕ)) (takes_fds : Bool) (out : Outgoing) (outgoing : OutgoingMessageView) → prepared_outgoing name takes_fds out ≡ Ok outgoing → CanGo takes_fds outgoing
outgoing_goes name takes_fds out outgoing e =
    let builder = outgoing_builder out.kind name out in
    goes takes_fds out.flags.descriptor (words_refusal builder) (values_in out.body) (are_misplaced builder.kind builder.flags) builder outgoing e

pub reply_goes : (name : Option (List ℕ)) (takes_fds : Bool) (m : Option MessageView) (word : Option (List ℕ)) (outgoing : OutgoingMessageView) → prepared_reply name m word ≡ Ok outgoing → CanGo takes_fds outgoing
reply_goes name takes_fds None word outgoing e = cc
reply_goes name takes_fds (Some m) word outgoing e = goes takes_fds false None (values_in word) false (sent_from name (reply_builder MessageType.MethodReturn (head_of m))) outgoing e

pub error_goes : (name : Option (List ℕ)) (takes_fds : Bool) (m : Option MessageView) (text : List ℕ) (word : Option (List ℕ)) (outgoing : OutgoingMessageView) → prepared_error name m text word ≡ Ok outgoing → CanGo takes_fds outgoing
error_goes name takes_fds None text word outgoing e = cc
error_goes name takes_fds (Some m) text word outgoing e = goes takes_fds false (name_refusal text) (values_in word) false (sent_from name (error_builder (head_of m) text)) outgoing e

-- ---- every command

tellings_from : (h : Past) (rules : List Rule) → AreFrom h.name (tellings_of h rules)
tellings_from h [] = tt
tellings_from h (rule ∷ rules) = (refl, tellings_from h rules)

gone_own : (w : Words) (k : ℕ) (j : Option ℕ) → AllByRecursion (IsOwn w) (gone_events k j)
gone_own w k None = ((tt, tt), tt)
gone_own w k (Some j) = ((tt, tt), ((tt, tt), tt))

server_own : (w : Words) (name : Option (List ℕ)) (server : Option ℕ) → AllByRecursion (IsOwn w) (server_events name server)
server_own w name None = ((tt, tt), tt)
server_own w name (Some k) = tt

module _ (t : Replay) (lane : ℕ) where
  fair_refuses : (w : Words) (error : Error) → IsFair t w (refuses error)
  fair_refuses w error = none w (Answer.Refused error) refl refl

  fair_named : (w : Words) (done : ℕ → Plan) (k : Option ℕ) → ((n : ℕ) → IsFair t w (done n)) → IsFair t w (where_named done k)
  fair_named w done None so = fair_refuses w Error.UnknownHandle
  fair_named w done (Some k) so = so k

  fair_open : (w : Words) (b : Bool) (p : Plan) → IsFair t w p → IsFair t w (where_open b p)
  fair_open w true p so = so
  fair_open w false p so = fair_refuses w Error.UnknownHandle

  fair_waits : (w : Words) (b : Bool) (p : Plan) → IsFair t w p → IsFair t w (unless_waits b p)
  fair_waits w true p so = none w Answer.Busy refl refl
  fair_waits w false p so = so

  fair_makes : (w : Words) (making : StreamOrigin) → IsFair t w (makes t lane making)
  fair_makes w making = does w _ (Made making ∷ []) ((tt, tt), tt) (refl, refl, refl)

  fair_sends : (w : Words) (asked : PreparedSend) → is_serving w ≡ false → IsFrom t.past.name asked → IsFair t w (sends t lane asked)
  fair_sends w (Err error) own from = fair_refuses w error
  fair_sends w (Ok outgoing) own from = (
    record {
      only = tt;
      idle = λ e. refl;
      loud = λ serials. let is = sent_told (expects outgoing) (count lane t.calls) (first_of serials) in (is.1, is.2);
      told = λ serials drew. inr ((sent_told (expects outgoing) (count lane t.calls) (first_of serials)).0 ∙ one_drew (posted false outgoing) t.past serials drew);
    },
    (from, tt),
    own,
  )

  fair_call : (n : ℕ) (op : CallOp) (k : ℕ) → IsFair t (Words.OfCall n op) (on_call t.past op k)
  unfolding calls_poll_answer
  fair_call n CallOp.Poll k = poll_fair n k (poll_answer t.past k) (poll_at t.past.read t.past.closing (slice_get t.past.calls k))
  fair_call n (CallOp.Before before) k = before_fair n before k (poll_answer t.past k)
  fair_call n CallOp.Drop k = drop_fair n k (drop_answer t.past k)

  fair_ends : (n : ℕ) (second : Option ℕ) (k : ℕ) (j : Option (Option ℕ)) → IsFair t (Words.OfStream n (StreamOp.Unstream second)) (ends t.past k j)
  fair_ends n second k None = fair_refuses _ Error.UnknownHandle
  fair_ends n second k (Some j) = fair_open _ (are_open t.past k j) _ (fair_waits _ (close_waits t.past k j) (leaves t.past k j) (
    record {
      only = gone_own (Words.OfStream n (StreamOp.Unstream second)) k j;
      idle = λ e. cc;
      loud = λ serials. (refl, refl);
      told = λ serials drew. inr refl;
    },
    tellings_from t.past (leaving t.past k j),
    refl,
  ))

  fair_stream : (n : ℕ) (op : StreamOp) (k : ℕ) → IsFair t (Words.OfStream n op) (on_stream t lane op k)
  unfolding streams_take_answer
  fair_stream n (StreamOp.Reply body) k = fair_sends _ _ refl (reply_from t.past.name (given_last t.past k) body)
  fair_stream n (StreamOp.Error name body) k = fair_sends _ _ refl (error_from t.past.name (given_last t.past k) name body)
  fair_stream n StreamOp.Take k = take_fair n k (take_answer t.past k) (taken_at t.past.read t.past.closing (slice_get t.past.streams k))
  fair_stream n (StreamOp.TakeBefore before) k = take_before_fair n before k (take_answer t.past k)
  fair_stream n StreamOp.Clone k = fair_open _ (is_open t.past k) _ (fair_makes _ (Cloned k))
  fair_stream n StreamOp.Opened k = opening_fair n k (opening_answer t.past k)
  fair_stream n (StreamOp.Queue limit) k = fair_open _ (is_open t.past k) _ (does _ Answer.Set _ ((tt, tt), tt) (refl, refl, refl))
  fair_stream n (StreamOp.Unstream second) k = fair_ends n second k (second_index t lane second)

  fair_new : (asked : Option ℕ) (text : List ℕ) (rule : Rule) (b : Bool) → IsFair t (Words.Open asked text) (opens_new t lane rule asked b)
  fair_new asked text rule true =
      (record { only = tt; idle = λ e. refl; loud = λ serials. (refl, refl); told = λ serials drew. inr (one_drew (asking_of t.past rule asked) t.past serials drew) }, (refl, tt), refl)
  fair_new asked text rule false = fair_makes _ (Ruled rule asked)

  fair_opens : (asked : Option ℕ) (text : List ℕ) (found : Result Rule Error) (shut : Option Error) → IsFair t (Words.Open asked text) (opens t lane found asked shut)
  fair_opens asked text (Err error) shut = fair_refuses _ error
  fair_opens asked text (Ok rule) (Some error) = fair_refuses _ _
  fair_opens asked text (Ok rule) None = fair_waits _ (match_call_pending t.past) _ (fair_new asked text rule (asks_bus t.past rule))

  fair_reads : (shut : Option Error) (full : Bool) → t.past.closing ≡ shut → IsFair t Words.Read (reads_by shut full)
  fair_reads (Some error) full at = none _ (Answer.Closed error) refl refl
  fair_reads None true at = none _ Answer.Busy refl refl
  fair_reads None false at = at

  fair_name : (line : Live) (given : Option (List ℕ)) (name : List ℕ) → IsFair t (Words.Live line) (Says (Answer.Named (is_none given)) (if is_none given then Named name ∷ [] else []))
  fair_name line None name = does _ (Answer.Named true) _ ((tt, refl), tt) (refl, refl, refl)
  fair_name line (Some earlier) name = none _ (Answer.Named false) refl refl

  fair_writes : (line : Live) (due fails : Bool) → (due ≡ true → fails ≡ false → t.past.outbox.failed ≡ false) → IsFair t (Words.Live line) (if due then Writes fails else Never)
  fair_writes line true fails fine = (refl, fine refl)
  fair_writes line false fails fine = tt

  and_right : (a b : Bool) → (a && not b) ≡ true → b ≡ false
  and_right true false e = refl
  and_right true true e = cc
  and_right false b e = cc

  fair_lives : (line : Live) → IsFair t (Words.Live line) (lives t.past lane line)
  fair_lives (Live.Written index) = fair_writes _ (is_due t.past lane index && not t.past.outbox.failed) false (λ e f. and_right (is_due t.past lane index) t.past.outbox.failed e)
  fair_lives (Live.Fault index) = fair_writes _ (is_due t.past lane index) true (λ e f. cc)
  fair_lives (Live.Unique name) = fair_name _ t.past.name name
  fair_lives line = tt

  fair_gives : (k : ℕ) (o : Option MessageView) → t.server ≡ Some k → next_message t.past k ≡ o → IsFair t (Words.Objects ObjectOp.Serve) (gives_call t.past k o)
  fair_gives k (Some m) is next = record { asked = refl; server = is; next = next }
  fair_gives k None is next = record { asked = (ObjectOp.Serve, refl); only = tt; makes = ap (server_events t.past.name) (sym is); uncalled = refl }

  fair_next : (server : Option ℕ) → t.server ≡ server → IsFair t (Words.Objects ObjectOp.Serve) (serves_next t.past server)
  fair_next (Some k) is = fair_gives k (next_message t.past k) is refl
  fair_next None is = record { asked = (ObjectOp.Serve, refl); only = server_own (Words.Objects ObjectOp.Serve) t.past.name None; makes = ap (server_events t.past.name) (sym is); uncalled = refl }

  fair_objects : (op : ObjectOp) → IsFair t (Words.Objects op) (on_objects t.past t.server op)
  fair_objects ObjectOp.Serve = fair_next t.server refl
  fair_objects op = record { asked = (op, refl); only = server_own (Words.Objects op) t.past.name t.server; makes = refl; uncalled = refl }

  pub fair : (w : Words) → IsFair t w (plan t lane w)
  fair (Words.Send out) = fair_sends _ _ refl (outgoing_from t.past.name t.setting.takes_fds out)
  fair Words.Read = fair_reads t.past.closing (busy t.past) refl
  fair (Words.OfCall n op) = fair_named _ (on_call t.past op) (handle_index 0 lane n t.calls) (fair_call n op)
  fair Words.Stream = fair_makes _ Plain
  fair (Words.Open asked text) = fair_opens asked text (rule_in_bytes text) t.past.closing
  fair (Words.OfStream n op) = fair_named _ (on_stream t lane op) (handle_index 0 lane n t.streams) (fair_stream n op)
  fair (Words.MainQueue limit) = does _ Answer.Set _ ((tt, tt), tt) (refl, refl, refl)
  fair (Words.Objects op) = fair_objects op
  fair Words.Close = refl
  fair (Words.Live line) = fair_lives line

-- ---- along events

-- what each of these events keeps
pub along : (P : Past → Type 0) (Is : Event → Type 0) → ((e : Event) (h : Past) → Is e → P h → P (after e h)) → (es : List Event) (h : Past) → AllByRecursion Is es → P h → P (after_all es h)
along P Is keeps [] h all so = so
along P Is keeps (e ∷ es) h all so = along P Is keeps es (after e h) all.1 (keeps e h all.0 so)

-- a message is written, or its write fails
abbrev pub IsWrite : Event → Type 0
IsWrite Wrote = Unit {0}
IsWrite WriteFailed = Unit {0}
IsWrite e = ⊥

pub repeat_all : (Is : Event → Type 0) (n : ℕ) (e : Event) → Is e → AllByRecursion Is (repeat n e)
repeat_all Is zero e is = tt
repeat_all Is (suc n) e is = (is, repeat_all Is n e is)

pub all_append : (Is : Event → Type 0) (xs ys : List Event) → AllByRecursion Is xs → AllByRecursion Is ys → AllByRecursion Is (xs ++ ys)
all_append Is [] ys a b = b
all_append Is (x ∷ xs) ys a b = (a.0, all_append Is xs ys a.1 b)

pub are_writes : (Is : Event → Type 0) (e : Entry) → Is Wrote → Is WriteFailed → AllByRecursion Is (writes e)
are_writes Is e wrote fault = all_append Is (repeat e.written Wrote) _ (repeat_all Is e.written Wrote wrote) (faults e.failed)
  where
    faults : (b : Bool) → AllByRecursion Is (if b then repeat (length e.put - e.written) WriteFailed else [])
    faults true = repeat_all Is (length e.put - e.written) WriteFailed fault
    faults false = tt

-- what the events of an entry keep
pub along_entry : (P : Past → Type 0) (Is : Event → Type 0) → ((e : Event) (h : Past) → Is e → P h → P (after e h)) → (pl : Plan) (e : Entry) (h : Past) → AllByRecursion Is (deeds pl e)
    → AllByRecursion Is (put_events pl e) → Is Wrote → Is WriteFailed → P h → P (past_after pl e h)
along_entry P Is keeps pl e h done put wrote fault so =
    along P Is keeps (writes e) (after_all (put_events pl e) (after_all (deeds pl e) h)) (are_writes Is e wrote fault)
    (along P Is keeps (put_events pl e) (after_all (deeds pl e) h) put (along P Is keeps (deeds pl e) h done so))

-- ---- histories

pub legal_from : (setting : Setting) (newer older : List Entry) → Legal setting (newer ++ older) → Legal setting older
legal_from setting [] older legal = legal
legal_from setting (e ∷ newer) older legal = legal_from setting newer older legal.1
