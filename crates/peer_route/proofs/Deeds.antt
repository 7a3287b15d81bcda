-- What a lane's take is, by its answer; which entries give an item, and what is left of a stream that gives none. Each stream that was made
-- has its lane, none starts above what was read; and what a lane's stream gives, entry by entry.
use Rattle.peer_core.specs.History.{request_of, streams_of}
use Rattle.peer_streams.specs.Streams.{is_open as streams_is_open}
use Rattle.peer_streams.specs.Streams.{take_answer as streams_take_answer}
use Rattle.peer_streams.specs.{History.{Gave, done_by, StreamEvent, Told, Gone, Asked, Opened, Stream, phase, asks_by, new_stream, asking_stream, fail_stream, StreamOrigin, Plain, Ruled, Cloned, clone_of}, Streams.{held, runs, take_by, is_since, matched}, Refinement.IsWithin}
use Rattle.peer_core.specs.{History.{Event, Wrote, WriteFailed, Made, Did, Put, Past, after, after_all, Received}, Asked.{take_answer, take_events, is_open, next_message}, Issuing.puts}
use Rattle.peer_calls.specs.{History.{Purpose, AddMatch, OfLane, RemoveMatch}, Issuing.Posting}
use Rattle.wire_message.specs.{Plain.edit, Polls.by_position}
use Rattle.peer_route.specs.{Names.{Words, StreamOp, ObjectOp, Answer, Entry, Polled, MessageView, Error}, Replay.{Replay, handle_index, Owners, stream_owner, asked_owners, made_owners, count, Setting}, Plan.{Plan, Serves, Dispatches, server_events, gives_call, serves_next, where_named, on_stream, plan, where_open, unless_waits, makes}, StreamLaws.{stays_open, is_take, is_take_op, item_by, IsLast, items_given}, Entries.{IsMeant, is_refused, deeds, postings, object_events, put_events, writes, past_after, first_past, replay, Legal, more_by, more, maker}, Answers.answer_of_take}
use Rattle.std.proofs.{Common.{◌≡◌, ◌≢◌, inl, inr, ℕ, refl, sym, ◌∙◌, ap, subst, ◌||◌, ◌&&◌, ◌==◌, Bool, true, false, if◌then◌else◌, List, [], ◌∷◌, Option, Some, None, Ok, Err, Result, ◌⊎◌, ◌+◌, arith, ◌++◌, length, length-append, ◌≤◌, is_some, append-nil}, lemmas.Option.slice_get-map, lemmas.Bool.{cases_eq, eq-eqb, eqb-true, and_parts, false_from_ne_true}, Math.Bool.{and-true, and-false}, lemmas.List.length-map}
use Rattle.std.specs.{List.{slice_get, AllByRecursion}, Option.option_map}
use Rattle.peer_streams.proofs.{StreamsMade.{runs_so, within_edit, fail_within, clone_within}, Matched.{held_matched, within_took, within_fresh, within_asking}, Looks.{runs_at, take_at}}
use Rattle.wire_message.proofs.Edits.{edit_other, edit_here, get_append, edit-length, drop_next, all_weaker, all_at, all_more, all_map, all_edit}
use Rattle.peer_route.proofs.{Plans.{takes, along, are_writes, IsDeed, Gives, IsWrite}, Kept.{put_events_are, deeds_by, deeds_all, at_start}, Nobodys.{next_held, IsNobodys, nobodys}, Places.{named_owner, place_append, place_new, one_place}}

-- no item is given
abbrev pub NoItem : Event → Type 0
NoItem (Did j Gave) = ⊥
NoItem e = Unit {0}

-- ---- a take

-- a take of the stream that is named, by its answer, and what it does
pub data TakeOf (h : Past) (p : Option ℕ) (a : Answer) (done : List Event) : Type 0 where
  Quiet : done ≡ [] → item_by true a ≡ [] → (IsLast a → ⊥) → (a ≡ Answer.Refused Error.UnknownHandle) ⊎ (h.closing ≡ None) → TakeOf h p a done
  Item : (k : ℕ) (s : Stream) (m : MessageView) (ms : List MessageView) → p ≡ Some k → slice_get h.streams k ≡ Some s → held h.read s ≡ m ∷ ms → done ≡ Did k Gave ∷ [] → a ≡ Answer.Item m.position → TakeOf h p a done
  Tells : (k : ℕ) (s : Stream) (error : Error) → p ≡ Some k → slice_get h.streams k ≡ Some s → runs h.read s ≡ true → held h.read s ≡ [] → h.closing ≡ Some error → s.closing_delivered ≡ false
      → done ≡ Did k Told ∷ [] → a ≡ Answer.Closed error → TakeOf h p a done
  Ends : (k : ℕ) (s : Stream) (error : Error) → p ≡ Some k → slice_get h.streams k ≡ Some s → held h.read s ≡ [] → h.closing ≡ Some error → s.closing_delivered ≡ true
      → done ≡ [] → a ≡ Answer.Ended → TakeOf h p a done

abbrev TakeBy : Past → ℕ → Result (Polled MessageView) Error → Type 0
TakeBy h k r = TakeOf h (Some k) (answer_of_take r) (take_events k r)

kind_by : (h : Past) (k : ℕ) (s : Stream) (items : List MessageView) (o : Option Error) (closing_delivered : Bool) → slice_get h.streams k ≡ Some s → runs h.read s ≡ true
    → held h.read s ≡ items → h.closing ≡ o → s.closing_delivered ≡ closing_delivered → TakeBy h k (Ok (take_by items o closing_delivered))
kind_by h k s (m ∷ ms) o closing_delivered at still e c t = Item k s m ms refl at e refl refl
kind_by h k s [] None closing_delivered at still e c t = Quiet refl refl (λ l. l) (inr c)
kind_by h k s [] (Some error) false at still e c t = Tells k s error refl at still e c t refl refl
kind_by h k s [] (Some error) true at still e c t = Ends k s error refl at e c t refl refl

kind_open : (h : Past) (k : ℕ) (s : Stream) (open_ : Bool) → slice_get h.streams k ≡ Some s → runs h.read s ≡ open_ → TakeBy h k (if open_ then Ok (take_by (held h.read s) h.closing s.closing_delivered) else Err Error.UnknownHandle)
kind_open h k s true at e = kind_by h k s (held h.read s) h.closing s.closing_delivered at e refl refl refl
kind_open h k s false at e = Quiet refl refl (λ l. l) (inl refl)

kind_at : (h : Past) (k : ℕ) (o : Option Stream) → slice_get h.streams k ≡ o → TakeBy h k (take_at h.read h.closing o)
kind_at h k None at = Quiet refl refl (λ l. l) (inl refl)
kind_at h k (Some s) at = kind_open h k s (runs h.read s) at refl

kind_of : (h : Past) (k : ℕ) → TakeBy h k (take_answer h k)
unfolding streams_take_answer
kind_of h k = kind_at h k (slice_get h.streams k) refl

-- by position it is said that there is none before, in place of nothing yet
kind_before : (h : Past) (k : ℕ) (r : Result (Polled MessageView) Error) → TakeBy h k r → TakeOf h (Some k) (answer_of_take (by_position r)) (take_events k r)
kind_before h k (Ok Polled.NotYet) (Quiet none item last (inl is)) = cc
kind_before h k (Ok Polled.NotYet) (Quiet none item last (inr shut)) = Quiet refl refl (λ l. l) (inr shut)
kind_before h k (Ok Polled.NotYet) (Item j s m ms named at e does is) = cc
kind_before h k (Ok Polled.NotYet) (Tells j s error named at still e shut told does is) = cc
kind_before h k (Ok Polled.NotYet) (Ends j s error named at e shut told does is) = cc
kind_before h k r kind = kind

take_named : (t : Replay) (lane : ℕ) (op : StreamOp) (p : Option ℕ) (e : Entry) → is_take_op op ≡ true → IsMeant t.past (where_named (on_stream t lane op) p) e → TakeOf t.past p e.answer (deeds (where_named (on_stream t lane op) p) e)
take_named t lane op None e takes_ is = Quiet refl (ap (item_by true) is.1) (λ l. subst IsLast is.1 l) (inl is.1)
take_named t lane StreamOp.Take (Some k) e takes_ is = subst (λ a. TakeOf t.past (Some k) a (take_events k (take_answer t.past k))) (sym is.1) (kind_of t.past k)
take_named t lane (StreamOp.TakeBefore before) (Some k) e takes_ is =
    subst (λ a. TakeOf t.past (Some k) a (take_events k (take_answer t.past k))) (sym is.1) (kind_before t.past k (take_answer t.past k) (kind_of t.past k))
take_named t lane op (Some k) e takes_ is = cc

-- a legal entry that takes from the lane's stream with this number, by position or not
pub take_entry : (t : Replay) (lane : ℕ) (w : Words) (e : Entry) (number : ℕ) → IsMeant t.past (plan t lane w) e → is_take number w ≡ true
    → TakeOf t.past (handle_index 0 lane number t.streams) e.answer (deeds (plan t lane w) e)
take_entry t lane (Words.OfStream n op) e number is q =
    let both = and_parts (n == number) (is_take_op op) q in
    subst (λ x. TakeOf t.past (handle_index 0 lane x t.streams) e.answer (deeds (plan t lane (Words.OfStream n op)) e)) (eqb-true n number both.0) (take_named t lane op (handle_index 0 lane n t.streams) e both.1 is)
take_entry t lane w e number is q = cc

-- ---- what gives no item

no_item : (w : Words) → takes w ≡ false → (e : Event) → IsDeed e → Gives w e → NoItem e
no_item w q (Did j Gave) is gives = cc
no_item w q e is gives = tt

-- a command that takes nothing gives none
silent : (t : Replay) (lane : ℕ) (e : Entry) (w : Words) → takes w ≡ false → AllByRecursion NoItem (deeds (plan t lane w) e)
silent t lane e w q = deeds_by NoItem t lane e w (no_item w q) (λ error. tt) (λ reads. (λ m. tt, λ bytes. tt)) (λ line. (tt, tt))

-- ---- an entry gives no item, or just one: a lane's, or a call for the objects

pub data Items (t : Replay) (lane : ℕ) (w : Words) (e : Entry) : Type 0 where
  NoneGiven : AllByRecursion NoItem (deeds (plan t lane w) e) → ((i : ℕ) → is_take i w ≡ true → item_by true e.answer ≡ []) → Items t lane w e
  ServerGiven : (k : ℕ) (s : Stream) (m : MessageView) (ms : List MessageView) → ((i : ℕ) → is_take i w ≡ false) → t.server ≡ Some k → slice_get t.past.streams k ≡ Some s → held t.past.read s ≡ m ∷ ms
      → deeds (plan t lane w) e ≡ Did k Gave ∷ [] → Items t lane w e
  OneGiven : (n k : ℕ) (s : Stream) (m : MessageView) (ms : List MessageView) → ((i : ℕ) → is_take i w ≡ (n == i)) → handle_index 0 lane n t.streams ≡ Some k → slice_get t.past.streams k ≡ Some s
      → held t.past.read s ≡ m ∷ ms → deeds (plan t lane w) e ≡ Did k Gave ∷ [] → e.answer ≡ Answer.Item m.position → Items t lane w e

items_taken : (t : Replay) (lane n : ℕ) (w : Words) (e : Entry) → ((i : ℕ) → is_take i w ≡ (n == i)) → TakeOf t.past (handle_index 0 lane n t.streams) e.answer (deeds (plan t lane w) e) → Items t lane w e
items_taken t lane n w e takes (Quiet none item last why) = NoneGiven (subst (AllByRecursion NoItem) (sym none) tt) (λ i q. item)
items_taken t lane n w e takes (Item k s m ms named made items does is) = OneGiven n k s m ms takes named made items does is
items_taken t lane n w e takes (Tells k s error named made still none shut told does is) = NoneGiven (subst (AllByRecursion NoItem) (sym does) (tt, tt)) (λ i q. ap (item_by true) is)
items_taken t lane n w e takes (Ends k s error named made none shut told does is) = NoneGiven (subst (AllByRecursion NoItem) (sym does) tt) (λ i q. ap (item_by true) is)

items_of : (t : Replay) (lane n : ℕ) (op : StreamOp) (e : Entry) (is_take_ : Bool) → is_take_op op ≡ is_take_ → IsMeant t.past (plan t lane (Words.OfStream n op)) e → Items t lane (Words.OfStream n op) e
items_of t lane n op e true q is =
    let one : (i : ℕ) → is_take i (Words.OfStream n op) ≡ (n == i) = λ i. ap (λ b. (n == i) && b) q ∙ and-true (n == i) in
    items_taken t lane n (Words.OfStream n op) e one (take_entry t lane (Words.OfStream n op) e n is (one n ∙ eq-eqb n n refl))
items_of t lane n op e false q is =
    NoneGiven (silent t lane e (Words.OfStream n op) q) (λ i is_one. let no_ : is_take i (Words.OfStream n op) ≡ false = ap (λ b. (n == i) && b) q ∙ and-false (n == i) in cc)

none_either : (b : Bool) (es : List Event) → AllByRecursion NoItem es → AllByRecursion NoItem (if b then [] else es)
none_either true es none = tt
none_either false es none = none

-- the next call, if there is one
items_call : (t : Replay) (lane : ℕ) (e : Entry) (k : ℕ) (o : Option MessageView) → t.server ≡ Some k → next_message t.past k ≡ o → plan t lane (Words.Objects ObjectOp.Serve) ≡ gives_call t.past k o
    → Items t lane (Words.Objects ObjectOp.Serve) e
items_call t lane e k (Some m) is next means = let h = next_held t.past k m next in ServerGiven k h.0 m h.2 (λ i. refl) is h.1 h.3 (ap (λ pl. deeds pl e) means)
items_call t lane e k None is next means = NoneGiven (subst (λ pl. AllByRecursion NoItem (deeds pl e)) (sym means) (none_either (is_refused e.answer) [] tt)) (λ i q. cc)

items_serve : (t : Replay) (lane : ℕ) (e : Entry) (server : Option ℕ) → t.server ≡ server → Items t lane (Words.Objects ObjectOp.Serve) e
items_serve t lane e (Some k) is = items_call t lane e k (next_message t.past k) is refl (ap (serves_next t.past) is)
items_serve t lane e None is =
    NoneGiven (subst (λ pl. AllByRecursion NoItem (deeds pl e)) (sym (ap (serves_next t.past) is)) (none_either (is_refused e.answer) (server_events t.past.name None) (tt, tt))) (λ i q. cc)

items_objects : (t : Replay) (lane : ℕ) (op : ObjectOp) (e : Entry) → Items t lane (Words.Objects op) e
items_objects t lane ObjectOp.Serve e = items_serve t lane e t.server refl
items_objects t lane op e = NoneGiven (silent t lane e (Words.Objects op) refl) (λ i q. cc)

pub items : (t : Replay) (lane : ℕ) (w : Words) (e : Entry) → IsMeant t.past (plan t lane w) e → Items t lane w e
items t lane (Words.OfStream n op) e is = items_of t lane n op e (is_take_op op) refl is
items t lane (Words.Objects op) e is = items_objects t lane op e
items t lane w e is = NoneGiven (silent t lane e w refl) (λ i q. cc)

-- ---- along an entry

-- what is so once the deeds were is so behind the entry, where its messages and their writes keep it
pub along_messages : (P : Past → Type 0) (Is : Event → Type 0) → ((e : Event) (h : Past) → Is e → P h → P (after e h)) → ((m : MessageView) (why : Purpose) → Is (Put m why)) → Is Wrote → Is WriteFailed
    → (pl : Plan) (e : Entry) (h : Past) → P (after_all (deeds pl e) h) → P (past_after pl e h)
along_messages P Is keeps put wrote fault pl e h so =
    let g = after_all (deeds pl e) h in
    along P Is keeps (writes e) (after_all (put_events pl e) g) (are_writes Is e wrote fault)
    (along P Is keeps (put_events pl e) g (put_events_are Is put pl e) so)

-- ---- what is left of a stream that gives nothing

-- the event is no item of the stream with this number
abbrev pub Spares : ℕ → Event → Type 0
Spares k (Did j Gave) = j ≢ k
Spares k e = Unit {0}

pub spares : (k : ℕ) (e : Event) → NoItem e → Spares k e
spares k (Did j Gave) none = absurd none
spares k e none = tt

abbrev pub turned : Stream → Bool → Bool → Bool → Stream
turned s a b c = record s { closing_delivered = a; gone = b; open_reported = c }

-- It is the same, but that it may have told the closing error, be gone, or be open now.
abbrev pub Stays : Option Stream → Stream → Type 0
Stays o s = (a : Bool) × (b : Bool) × (c : Bool) × (o ≡ Some (turned s a b c)) × (s.closing_delivered ≡ true → a ≡ true)

stays_here : (deed : StreamEvent) (ss : List Stream) (k : ℕ) (s : Stream) → Spares k (Did k deed) → slice_get ss k ≡ Some s → Stays (slice_get (edit k (done_by deed) ss) k) s
stays_here Gave ss k s n at = absurd (n refl)
stays_here Told ss k s n at = (true, s.gone, s.open_reported, edit_here (done_by Told) k ss s at, λ e. refl)
stays_here Gone ss k s n at = (s.closing_delivered, true, s.open_reported, edit_here (done_by Gone) k ss s at, λ e. e)
stays_here (Asked limit) ss k s n at = (s.closing_delivered, s.gone, s.open_reported, edit_here (done_by (Asked limit)) k ss s at, λ e. e)
stays_here Opened ss k s n at = (s.closing_delivered, s.gone, true, edit_here (done_by Opened) k ss s at, λ e. e)

pub stays : (e : Event) (h : Past) (k : ℕ) (s : Stream) → Spares k e → slice_get h.streams k ≡ Some s → Stays (slice_get (after e h).streams k) s
stays (Did j deed) h k s n at = elim (cases_eq j k) as (λ _. Stays (slice_get (edit j (done_by deed) h.streams) k) s) [
  | inl same ↦ subst (λ i. Stays (slice_get (edit i (done_by deed) h.streams) k) s) (sym same) (stays_here deed h.streams k s (subst (λ i. Spares k (Did i deed)) same n) at)
  | inr ne ↦ (s.closing_delivered, s.gone, s.open_reported, edit_other (done_by deed) j k h.streams ne ∙ at, λ e. e)
]
stays (Made making) h k s n at = (s.closing_delivered, s.gone, s.open_reported, get_append k h.streams (new_stream (streams_of h) h.streams making ∷ []) s at, λ e. e)
stays (Put m (AddMatch rule asked)) h k s n at = (s.closing_delivered, s.gone, s.open_reported, get_append k h.streams (asking_stream (request_of h m) rule ∷ []) s at, λ e. e)
stays WriteFailed h k s n at =
    let fails = fail_stream h.read h.outbox.done in
    (s.closing_delivered, s.gone || asks_by h.outbox.done (phase h.read s), s.open_reported, slice_get-map fails h.streams k ∙ ap (option_map fails) at, λ e. e)
stays e h k s n at = (s.closing_delivered, s.gone, s.open_reported, at, λ e. e)

-- ---- what was done, where the answer is neither that there is no such stream nor that it has to wait

pub named_done : (h : Past) (done : ℕ → Plan) (p : Option ℕ) (e : Entry) → IsMeant h (where_named done p) e → stays_open e.answer ≡ false → (k : ℕ) × (p ≡ Some k) × (where_named done p ≡ done k)
named_done h done None e is not_ = let q : true ≡ false = ap stays_open (sym is.1) ∙ not_ in cc
named_done h done (Some k) e is not_ = (k, refl, refl)

pub open_done : (h : Past) (b : Bool) (pl : Plan) (e : Entry) → IsMeant h (where_open b pl) e → stays_open e.answer ≡ false → (b ≡ true) × (where_open b pl ≡ pl)
open_done h true pl e is not_ = (refl, refl)
open_done h false pl e is not_ = let q : true ≡ false = ap stays_open (sym is.1) ∙ not_ in cc

pub waits_done : (h : Past) (b : Bool) (pl : Plan) (e : Entry) → IsMeant h (unless_waits b pl) e → stays_open e.answer ≡ false → unless_waits b pl ≡ pl
waits_done h true pl e is not_ = let q : true ≡ false = ap stays_open (sym is.1) ∙ not_ in cc
waits_done h false pl e is not_ = refl

-- a stream that is open was made, and runs
stream_runs : (h : Past) (o : Option Stream) → runs_at h.read o ≡ true → (s : Stream) × (o ≡ Some s) × (is_since (phase h.read s) ≡ true)
stream_runs h None e = cc
stream_runs h (Some s) e = (s, refl, (runs_so (streams_of h) s e).since)

pub open_stream : (h : Past) (k : ℕ) → is_open h k ≡ true → (s : Stream) × (slice_get h.streams k ≡ Some s) × (is_since (phase h.read s) ≡ true)
unfolding streams_is_open
open_stream h k e = stream_runs h (slice_get h.streams k) e

-- ---- lanes

abbrev NoPut : Event → Type 0
NoPut (Put m why) = ⊥
NoPut e = Unit {0}

no_put : (e : Event) → IsDeed e → NoPut e
no_put (Put m why) deed = deed
no_put e deed = tt

-- what is done by itself makes as many streams as are named
made_length : (whose : Option ℕ) (es : List Event) (h : Past) → AllByRecursion NoPut es → length (after_all es h).streams ≡ length (made_owners whose es) + length h.streams
made_length whose [] h all = let none : length (made_owners whose []) ≡ 0 = refl in omega (arith, none)
made_length whose (Made making ∷ es) h all =
    let rest = made_length whose es (after (Made making) h) all.1 in
    let one = length-append h.streams (new_stream (streams_of h) h.streams making ∷ []) in
    omega (arith, rest, one)
made_length whose (Did k deed ∷ es) h all = made_length whose es (after (Did k deed) h) all.1 ∙ ap (λ n. length (made_owners whose es) + n) (edit-length k (done_by deed) h.streams)
made_length whose (WriteFailed ∷ es) h all = made_length whose es (after WriteFailed h) all.1 ∙ ap (λ n. length (made_owners whose es) + n) (length-map h.streams (fail_stream h.read h.outbox.done))
made_length whose (Put m why ∷ es) h all = absurd all.0
made_length whose (e ∷ es) h all = made_length whose es (after e h) all.1

-- and so do messages
put_length : (lane : ℕ) (failed : Bool) (m : MessageView) (why : Purpose) (h : Past) → length (after (Put m why) h).streams ≡ length (stream_owner lane failed why) + length h.streams
put_length lane failed m (OfLane waits) h = omega arith
put_length lane failed m (AddMatch rule asked) h = let one = length-append h.streams (asking_stream (request_of h m) rule ∷ []) in omega (arith, one)
put_length lane failed m RemoveMatch h = omega arith

puts_length : (lane : ℕ) (failed : Bool) (ds : List Posting) (ms : List MessageView) (h : Past) → length (after_all (puts ds ms) h).streams ≡ length (asked_owners lane failed ds ms) + length h.streams
puts_length lane failed [] ms h = omega arith
puts_length lane failed (d ∷ ds) [] h = omega arith
puts_length lane failed (d ∷ ds) (m ∷ ms) h =
    let rest = puts_length lane failed ds ms (after (Put m d.purpose) h) in
    let one = put_length lane failed m d.purpose h in
    let both = length-append (stream_owner lane failed d.purpose) (asked_owners lane failed ds ms) in
    omega (arith, rest, one, both)

objects_length : (ms : List MessageView) (h : Past) → length (after_all (object_events ms) h).streams ≡ length h.streams
objects_length [] h = refl
objects_length (m ∷ ms) h = objects_length ms (after (Put m (OfLane false)) h)

events_length : (lane : ℕ) (pl : Plan) (e : Entry) (h : Past) → length (after_all (put_events pl e) h).streams ≡ length (asked_owners lane e.failed (postings pl) e.put) + length h.streams
events_length lane (Serves said done) e h = objects_length e.put h ∙ omega arith
events_length lane (Dispatches k m) e h = objects_length e.put h ∙ omega arith
events_length lane pl e h = puts_length lane e.failed (postings pl) e.put h

write_length : (n : ℕ) (e : Event) (h : Past) → IsWrite e → length h.streams ≡ n → length (after e h).streams ≡ n
write_length n Wrote h is same = same
write_length n WriteFailed h is same = length-map h.streams (fail_stream h.read h.outbox.done) ∙ same
write_length n e h is same = absurd is

-- a peer begins without a stream
pub first_streams : (setting : Setting) → (first_past setting).streams ≡ []
first_streams setting = at_start (λ (h : Past). h.streams ≡ []) refl (λ limit h same. same) (λ h same. same) (λ name h same. same) setting

lanes_by : (lane : ℕ) (whose : Option ℕ) (owners : Owners) (pl : Plan) (e : Entry) (h : Past) → AllByRecursion NoPut (deeds pl e) → length owners ≡ length h.streams
    → length (owners ++ made_owners whose (deeds pl e) ++ asked_owners lane e.failed (postings pl) e.put) ≡ length (past_after pl e h).streams
lanes_by lane whose owners pl e h all before =
    let done = after_all (deeds pl e) h in
    let put = after_all (put_events pl e) done in
    let made = made_length whose (deeds pl e) h all in
    let asked = events_length lane pl e done in
    let both = length-append owners (made_owners whose (deeds pl e)) in
    let named : length (owners ++ made_owners whose (deeds pl e) ++ asked_owners lane e.failed (postings pl) e.put) ≡ length put.streams =
    length-append (owners ++ made_owners whose (deeds pl e)) (asked_owners lane e.failed (postings pl) e.put) ∙ omega (arith, before, made, asked, both) in
    named ∙ sym (along (λ (g : Past). length g.streams ≡ length put.streams) IsWrite (write_length (length put.streams)) (writes e) put (are_writes IsWrite e tt tt) refl)

pub lanes : (setting : Setting) (es : List Entry) → length (replay setting es).streams ≡ length (replay setting es).past.streams
lanes setting [] = ap length (sym (first_streams setting))
lanes setting (e ∷ es) =
    let t = replay setting es in
    lanes_by e.lane (maker (plan t e.lane e.words) e.lane) t.streams (plan t e.lane e.words) e t.past (deeds_all NoPut no_put (λ error. tt) t e.lane e e.words (λ r. (λ m. tt, λ bytes. tt)) (λ l. (tt, tt))) (lanes setting es)

-- ---- none passed more than was its own

abbrev pub AllWithin : Past → Type 0
AllWithin h = AllByRecursion (IsWithin h.read) h.streams

within_clone : (h : Past) (k : ℕ) (o : Option Stream) → slice_get h.streams k ≡ o → AllWithin h → IsWithin h.read (clone_of (streams_of h) o)
within_clone h k None at w = within_fresh (streams_of h) None (is_some h.closing)
within_clone h k (Some s) at w = clone_within (streams_of h) s (all_at (IsWithin h.read) h.streams k s at w)

within_new : (h : Past) (making : StreamOrigin) → AllWithin h → IsWithin h.read (new_stream (streams_of h) h.streams making)
within_new h Plain w = within_fresh (streams_of h) None (is_some h.closing)
within_new h (Ruled rule asked) w = within_fresh (streams_of h) (Some rule) (is_some h.closing)
within_new h (Cloned k) w = within_clone h k (slice_get h.streams k) refl w

within_deed : (h : Past) (j : ℕ) (deed : StreamEvent) (s : Stream) → NoItem (Did j deed) → IsWithin h.read s → IsWithin h.read (done_by deed s)
unfolding matched phase
within_deed h j Gave s n w = absurd n
within_deed h j (Asked limit) s n w = w
within_deed h j deed s n w = record { start = w.start; passed = w.passed }

within_after : (e : Event) (h : Past) → NoItem e → AllWithin h → AllWithin (after e h)
within_after (Received m) h n w = all_weaker (IsWithin h.read) (IsWithin (after (Received m) h).read) (within_took m (streams_of h)) h.streams w
within_after (Made making) h n w = all_more (IsWithin h.read) h.streams (new_stream (streams_of h) h.streams making) w (within_new h making w)
within_after (Put m (AddMatch rule asked)) h n w = all_more (IsWithin h.read) h.streams (asking_stream (request_of h m) rule) w (within_asking (streams_of h) (request_of h m) rule refl)
within_after (Did j deed) h n w = all_edit (IsWithin h.read) (done_by deed) h.streams j (λ s is one. within_deed h j deed s n one) w
within_after WriteFailed h n w = all_map (IsWithin h.read) (IsWithin h.read) (fail_stream h.read h.outbox.done) (fail_within (streams_of h) h.outbox.done) h.streams w
within_after e h n w = w

within_item : (h : Past) (k : ℕ) (s : Stream) (m : MessageView) (ms : List MessageView) → slice_get h.streams k ≡ Some s → held h.read s ≡ m ∷ ms → AllWithin h → AllWithin (after (Did k Gave) h)
unfolding matched phase
within_item h k s m ms at e w =
    let one = all_at (IsWithin h.read) h.streams k s at w in
    let le : s.skip + s.taken + 1 ≤ length (matched h.read s) = (drop_next (s.skip + s.taken) (matched h.read s) m ms (sym (held_matched (streams_of h) s) ∙ e)).1 in
    within_edit (streams_of h) (done_by Gave) h.streams k s at (record { start = one.start; passed = omega arith }) w

within_deeds : (t : Replay) (lane : ℕ) (w : Words) (e : Entry) → Items t lane w e → AllWithin t.past → AllWithin (after_all (deeds (plan t lane w) e) t.past)
within_deeds t lane w e (NoneGiven none item) all = along AllWithin NoItem within_after (deeds (plan t lane w) e) t.past none all
within_deeds t lane w e (ServerGiven k s m ms takes server made holds does) all = subst (λ ds. AllWithin (after_all ds t.past)) (sym does) (within_item t.past k s m ms made holds all)
within_deeds t lane w e (OneGiven n k s m ms takes named made holds does is) all = subst (λ ds. AllWithin (after_all ds t.past)) (sym does) (within_item t.past k s m ms made holds all)

pub all_within : (setting : Setting) (es : List Entry) → Legal setting es → AllWithin (replay setting es).past
all_within setting [] legal = subst (AllByRecursion (IsWithin _)) (sym (first_streams setting)) tt
all_within setting (e ∷ es) legal =
    let t = replay setting es in
    along_messages AllWithin NoItem within_after (λ m why. tt) tt tt (plan t e.lane e.words) e t.past
    (within_deeds t e.lane e.words e (items t e.lane e.words e legal.0) (all_within setting es legal.1))

-- ---- what a stream gives

-- What is said so of a stream, and of the positions of the items that it gave, is so after each further event, whatever the stream told,
-- and whether it is gone or open now; and an item is one position more.
pub record Flowing (goes : Past → Stream → List ℕ → Type 0) : Type 0 where
  pub along : (e : Event) (h : Past) (s : Stream) (given : List ℕ) → goes h s given → goes (after e h) s given
  pub same : (h : Past) (s : Stream) (given : List ℕ) (a b c : Bool) → goes h s given → goes h (turned s a b c) given
  pub item : (h : Past) (k : ℕ) (s : Stream) (given : List ℕ) (m : MessageView) (ms : List MessageView) → held h.read s ≡ m ∷ ms → goes h s given
      → goes (after (Did k Gave) h) (done_by Gave s) (given ++ m.position ∷ [])

-- So it is of the stream with this number, and these are the positions of what it gave.
pub record FlowAt (goes : Past → Stream → List ℕ → Type 0) (k : ℕ) (given : List ℕ) (h : Past) : Type 0 where
  pub stream : Stream
  pub made : slice_get h.streams k ≡ Some stream
  pub flows : goes h stream given

-- And of the lane's.
pub record Flow (goes : Past → Stream → List ℕ → Type 0) (t : Replay) (lane number : ℕ) (given : List ℕ) : Type 0 where
  pub k : ℕ
  pub named : handle_index 0 lane number t.streams ≡ Some k
  pub now : FlowAt goes k given t.past

-- what a number names it names behind an entry, too
pub named_on : (pl : Plan) (e : Entry) (t : Replay) (lane number k : ℕ) → handle_index 0 lane number t.streams ≡ Some k → handle_index 0 lane number (more_by pl e t).streams ≡ Some k
named_on pl e t lane number k named =
    let made = made_owners (maker pl e.lane) (deeds pl e) in
    place_append 0 lane number (t.streams ++ made) (asked_owners e.lane e.failed (postings pl) e.put) k (place_append 0 lane number t.streams made k named)

-- a stream that was made is the lane's next
pub named_new : (t : Replay) (e : Entry) (number : ℕ) (making : StreamOrigin) → IsMeant t.past (plan t e.lane e.words) e → plan t e.lane e.words ≡ makes t e.lane making → e.answer ≡ Answer.Streaming number
    → handle_index 0 e.lane number (more t e).streams ≡ Some (length t.streams)
named_new t e number making is means a =
    let answer : Answer.Streaming (count e.lane t.streams) ≡ Answer.Streaming number = sym (subst (λ pl. IsMeant t.past pl e) means is).1 ∙ a in
    let n : count e.lane t.streams ≡ number = cc in
    ap (λ pl. handle_index 0 e.lane number (more_by pl e t).streams) means ∙ ap (λ ns. handle_index 0 e.lane number ns) (append-nil (t.streams ++ Some e.lane ∷ []))
    ∙ ap (λ x. handle_index 0 e.lane x (t.streams ++ Some e.lane ∷ [])) (sym n) ∙ place_new 0 e.lane t.streams ∙ ap Some (omega arith)

-- the entry gives no item of the lane's stream with this number
none_by : (b c : Bool) (a : Answer) → (c ≡ true → item_by true a ≡ []) → item_by (b && c) a ≡ []
none_by true true a item = item refl
none_by true false a item = refl
none_by false c a item = refl

module _ (goes : Past → Stream → List ℕ → Type 0) (steps : Flowing goes) where
  flow_after : (k : ℕ) (given : List ℕ) (e : Event) (h : Past) → Spares k e → FlowAt goes k given h → FlowAt goes k given (after e h)
  flow_after k given e h spare f =
      let r = stays e h k f.stream spare f.made in
      record { stream = turned f.stream r.0 r.1 r.2; made = r.3; flows = steps.same (after e h) f.stream given r.0 r.1 r.2 (steps.along e h f.stream given f.flows) }

  -- what is so once the deeds were is so behind the entry
  pub flow_entry : (k : ℕ) (given : List ℕ) (pl : Plan) (e : Entry) (h : Past) → FlowAt goes k given (after_all (deeds pl e) h) → FlowAt goes k given (past_after pl e h)
  flow_entry k given pl e h f = along_messages (FlowAt goes k given) (Spares k) (flow_after k given) (λ m why. tt) tt tt pl e h f

  pub flow_writes : (k : ℕ) (given : List ℕ) (e : Entry) (h : Past) → FlowAt goes k given h → FlowAt goes k given (after_all (writes e) h)
  flow_writes k given e h f = along (FlowAt goes k given) (Spares k) (flow_after k given) (writes e) h (are_writes (Spares k) e tt tt) f

  -- deeds that are no item of the stream
  kept : (k : ℕ) (given all : List ℕ) (es : List Event) (h : Past) → AllByRecursion (Spares k) es → all ≡ [] → FlowAt goes k given h → FlowAt goes k (given ++ all) (after_all es h)
  kept k given all es h spare none f =
      subst (λ ps. FlowAt goes k ps (after_all es h)) (sym (append-nil given) ∙ ap (λ ps. given ++ ps) (sym none)) (along (FlowAt goes k given) (Spares k) (flow_after k given) es h spare f)

  gave : (k : ℕ) (given : List ℕ) (h : Past) (s : Stream) (m : MessageView) (ms : List MessageView) → slice_get h.streams k ≡ Some s → held h.read s ≡ m ∷ ms → FlowAt goes k given h
      → FlowAt goes k (given ++ m.position ∷ []) (after (Did k Gave) h)
  gave k given h s m ms at e f =
      let one : s ≡ f.stream = (let q : Some s ≡ Some f.stream = sym at ∙ f.made in cc) in
      record { stream = done_by Gave f.stream; made = edit_here (done_by Gave) k h.streams f.stream f.made; flows = steps.item h k f.stream given m ms (ap (held h.read) (sym one) ∙ e) f.flows }

  flow_deeds : (t : Replay) (x : Entry) (lane number : ℕ) (given : List ℕ) → IsNobodys t → Items t x.lane x.words x → (f : Flow goes t lane number given)
      → FlowAt goes f.k (given ++ item_by ((x.lane == lane) && is_take number x.words) x.answer) (after_all (deeds (plan t x.lane x.words) x) t.past)
  flow_deeds t x lane number given nobodys_is (ServerGiven k s m ms takes server made holds does) f =
      let other : k ≢ f.k = λ same. let q : Some None ≡ Some (Some lane) = sym (nobodys_is k server) ∙ ap (slice_get t.streams) same ∙ named_owner t.streams lane number f.k f.named in cc in
      kept f.k given _ _ t.past (subst (AllByRecursion (Spares f.k)) (sym does) (other, tt)) (none_by (x.lane == lane) (is_take number x.words) x.answer (λ q. let z : false ≡ true = sym (takes number) ∙ q in cc)) f.now
  flow_deeds t x lane number given nobodys_is (NoneGiven none item) f =
      kept f.k given _ _ t.past (all_weaker NoItem (Spares f.k) (spares f.k) _ none) (none_by (x.lane == lane) (is_take number x.words) x.answer (item number)) f.now
  flow_deeds t x lane number given nobodys_is (OneGiven n k s m ms takes named made holds does is) f =
      let items_so : item_by ((x.lane == lane) && (n == number)) (Answer.Item m.position) ≡ item_by ((x.lane == lane) && is_take number x.words) x.answer =
      ap (λ b. item_by ((x.lane == lane) && b) (Answer.Item m.position)) (sym (takes number)) ∙ ap (item_by ((x.lane == lane) && is_take number x.words)) (sym is) in
      subst (λ ps. FlowAt goes f.k (given ++ ps) (after_all (deeds (plan t x.lane x.words) x) t.past)) items_so
      (subst (λ ds. FlowAt goes f.k (given ++ item_by ((x.lane == lane) && (n == number)) (Answer.Item m.position)) (after_all ds t.past)) (sym does)
      (elim (cases_eq k f.k) as (λ _. FlowAt goes f.k (given ++ item_by ((x.lane == lane) && (n == number)) (Answer.Item m.position)) (after (Did k Gave) t.past)) [
        | inl same ↦
            let one = one_place t.streams lane number x.lane n f.k f.named (named ∙ ap Some same) in
            subst (λ j. FlowAt goes f.k (given ++ item_by ((x.lane == lane) && (n == number)) (Answer.Item m.position)) (after (Did j Gave) t.past)) (sym same)
            (rw (eq-eqb x.lane lane one.0) (rw (eq-eqb n number one.1) (gave f.k given t.past s m ms (ap (slice_get t.past.streams) (sym same) ∙ made) holds f.now)))
        | inr other ↦
            let not_both : ((x.lane == lane) && (n == number)) ≡ false = false_from_ne_true ((x.lane == lane) && (n == number)) (λ both.
            let eqs = and_parts (x.lane == lane) (n == number) both in
            let q : Some k ≡ Some f.k = sym named ∙ ap (λ y. handle_index 0 y n t.streams) (eqb-true x.lane lane eqs.0) ∙ ap (λ y. handle_index 0 lane y t.streams) (eqb-true n number eqs.1) ∙ f.named in
            other cc) in
            kept f.k given _ (Did k Gave ∷ []) t.past (other, tt) (ap (λ b. item_by b (Answer.Item m.position)) not_both) f.now
      ]))

  -- from the entry that made the stream on
  pub flow_all : (setting : Setting) (newer : List Entry) (e : Entry) (older : List Entry) (number : ℕ) → Legal setting (newer ++ e ∷ older)
      → Flow goes (replay setting (e ∷ older)) e.lane number [] → Flow goes (replay setting (newer ++ e ∷ older)) e.lane number (items_given e.lane number newer)
  flow_all setting [] e older number legal f = f
  flow_all setting (x ∷ newer) e older number legal f =
      let t = replay setting (newer ++ e ∷ older) in
      let pl = plan t x.lane x.words in
      let before = flow_all setting newer e older number legal.1 f in
      record {
        k = before.k;
        named = named_on pl x t e.lane number before.k before.named;
        now = flow_entry before.k _ pl x t.past (flow_deeds t x e.lane number (items_given e.lane number newer) (nobodys setting (newer ++ e ∷ older)) (items t x.lane x.words x legal.0) before);
      }
