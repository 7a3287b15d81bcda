-- Each call that is taken has its reply, or none where none is waited for.
use Rattle.std.proofs.{Common.{◌≡◌, ◌≢◌, slice_get, slice_set, ◌⊎◌, inl, inr, ◌≤◌, ◌+◌, ◌||◌, nat_lt, ℕ, zero, suc, refl, sym, ◌∙◌, ap, subst, arith, Bool, true, false, if◌then◌else◌, List, [], ◌∷◌, ◌++◌, length, map, filter, drop, Option, Some, None, Result, Ok, Err, unwrap_or, option_map, ok_or}, lemmas.List.append-nil, lemmas.Bool.Decides.nat_tests}
use Rattle.std.specs.{List.{AllByRecursion, list_any}, Option.option_or}
use Rattle.wire_tree.specs.Datum.{Datum, data_of}
use Rattle.wire_encoding.specs.Encoding.{depth, depths}
use Rattle.wire_message.specs.{Outgoing.{OutgoingMessageView, message_of, sent_by, is_deep, expects_reply}, BuilderView.built, FdoErrors.{one_string, reply_text, fdo_name}, declared.fdo.Error.Error as fdo, declared.kind.MessageType.MessageType}
use Rattle.wire_message.specs.Primary.{order_of, sig_of}
use Rattle.wire_number.specs.declared.endian.Endian.{Endian}
use Rattle.wire_number.specs.declared.endian.Endian.TheVariants as orders
use Rattle.wire_signature.specs.declared.error.VariantError.{VariantError}
use Rattle.object_interface.specs.Meaning.{Meaning}
use Rattle.object_interface.specs.declared.answer.Signal.{Signal}
use Rattle.object_interface.specs.declared.answer.DispatchResult2.{DispatchResult2}
use Rattle.object_interface.specs.declared.answer.DispatchResult2.TheVariants.{NotFound, RequiresMut, Done}
use Rattle.object_interface.specs.Answering.{answers, refusal, reply, reply_if, signal_of}
use Rattle.object_interface.specs.Errors.{unknown_method}
use Rattle.object_standard.specs.Method.{method_named}
use Rattle.peer_objects.specs.Dispatching.{Target, Nothing, Standard, Slot, target, member_in}
use Rattle.peer_objects.specs.Served.{ServedAt}
use Rattle.object_tree.specs.Objects.{Objects}
use Rattle.peer_service.specs.Service.{BoxView, ServiceView}
use Rattle.peer_core.specs.{History.{Past, calls_of}, Issuing.{issued, drawn}}
use Rattle.peer_calls.specs.Issuing.{Posting, issued as calls_issued, outgoings, messages_of, some_long}
use Rattle.peer_calls.proofs.Refusing.{are_deep, limit_refusal, or_barred, issued_by, issued_drawn, drawn_length}
use Rattle.peer_route.specs.{Replay.{Setting, Replay}, Plan.{Plan, Dispatches, next_call, call_answer, plan}, Entries.{IsSending, object_postings, gave_next, replay, unsent}}
use Rattle.peer_words.specs.declared.words.ObjectOp.TheVariants as ops
use Rattle.peer_route.proofs.Sent.{put_drew}
use Rattle.peer_conn.proofs.Called.{called_by}
use Rattle.peer_turns.specs.{Names.{MessageView, Error, Writer, Words, Answer, Entry}, Objects.{Handed, AnswersCall, Turns, AreServed}, Replies.{is_reply, replies_among, RepliesTo, HaveReply, IsUnput, Failed, Shut, Spent, Long, IsAnswered, IsReplied, AreReplied, ReachesBy}}
use Rattle.peer_turns.proofs.Standards.{AreWithin, IsWithinReply, Fits, sendable_fits, standard_fits, standard_others}
use Rattle.peer_turns.proofs.Reached.{get_other}

-- ---- what answers a call

-- the values of each message open no more than it may
abbrev AreFlat : List OutgoingMessageView → Type 0
AreFlat list = AllByRecursion (λ (p : OutgoingMessageView). AreWithin p.values) list

-- the reply, where one is wanted
abbrev reply_when : Bool → MessageView → Result (List Datum) fdo → List OutgoingMessageView
reply_when wanted call result = if wanted then reply call result ∷ [] else []

-- signals, the reply where one is waited for, and signals; none of them opens too much
record Shape (wanted : Bool) (call : MessageView) (list : List OutgoingMessageView) : Type 0 where
  before : List Signal
  result : Result (List Datum) fdo
  after : List Signal
  is : list ≡ map (signal_of call) before ++ (reply_when wanted call result ++ map (signal_of call) after)
  shallow : AreFlat list

-- what an error says is one text
text_shallow : (error : fdo) → AreWithin (one_string (reply_text error))
text_shallow error = omega arith

signals_shallow : (call : MessageView) (ss : List Signal) (rest : List OutgoingMessageView) → AllByRecursion (λ (s : Signal). AreWithin s.body) ss → AreFlat rest → AreFlat (map (signal_of call) ss ++ rest)
signals_shallow call [] rest are more = more
signals_shallow call (s ∷ ss) rest are more = (are.0, signals_shallow call ss rest are.1 more)

reply_shallow : (wanted : Bool) (call : MessageView) (result : Result (List Datum) fdo) (rest : List OutgoingMessageView) → AreWithin (reply call result).values → AreFlat rest → AreFlat (reply_when wanted call result ++ rest)
reply_shallow true call result rest is more = (is, more)
reply_shallow false call result rest is more = more

result_shallow : (call : MessageView) (result : Result (List Datum) fdo) → IsWithinReply result → AreWithin (reply call result).values
result_shallow call (Ok values) is = is
result_shallow call (Err error) is = text_shallow error

-- signals, the reply and signals, as they are
whole : (wanted : Bool) (call : MessageView) (before : List Signal) (result : Result (List Datum) fdo) (after : List Signal) (list : List OutgoingMessageView) → AllByRecursion (λ (s : Signal). AreWithin s.body) before
    → IsWithinReply result → AllByRecursion (λ (s : Signal). AreWithin s.body) after → list ≡ map (signal_of call) before ++ (reply_when wanted call result ++ map (signal_of call) after) → Shape wanted call list
whole wanted call before result after list first within last is = record {
  before = before;
  result = result;
  after = after;
  is = is;
  shallow = subst AreFlat (sym is)
      (signals_shallow call before (reply_when wanted call result ++ map (signal_of call) after) first
      (reply_shallow wanted call result (map (signal_of call) after) (result_shallow call result within)
      (subst AreFlat (append-nil (map (signal_of call) after)) (signals_shallow call after [] last tt))));
}

only_reply : (call : MessageView) (error : fdo) (list : List OutgoingMessageView) → list ≡ refusal call error → Shape (expects_reply call.kind call.flags) call list
only_reply call error list is = whole (expects_reply call.kind call.flags) call [] (Err error) [] list tt tt tt (is ∙ sym (append-nil (refusal call error)))

by_answer : (call : MessageView) (member : List ℕ) (answer : DispatchResult2) (list : List OutgoingMessageView) → Fits answer → list ≡ answers call member answer → Shape (expects_reply call.kind call.flags) call list
by_answer call member NotFound list law is = only_reply call (unknown_method member) list is
by_answer call member RequiresMut list law is = only_reply call (unknown_method member) list is
by_answer call member (Done d) list law is = whole (expects_reply call.kind call.flags) call d.before d.result d.after list law.1 law.0 law.2 is

shape_at : (meanings : ℕ → Meaning) (machine : Option (List ℕ)) (objects : Objects) (m : MessageView) (old new : List (Option BoxView)) (list : List OutgoingMessageView) (notifier : Option ℕ) (reached : Target)
    → ServedAt (λ (b : BoxView). meanings b.number) (λ (b : BoxView). b.state) machine objects reached m old new list notifier → Shape (expects_reply m.kind m.flags) m list
shape_at meanings machine objects m old new list notifier (Nothing error) x = only_reply m error list x.0
shape_at meanings machine objects m old new list notifier (Standard interface) (answer, how, is, told) =
    by_answer m (member_in m) answer list (standard_fits meanings machine objects (method_named interface (member_in m)) m old new answer how) is
shape_at meanings machine objects m old new list notifier (Slot slot) (answer, called, is, told) = by_answer m (member_in m) answer list (sendable_fits answer called.law) is

-- ---- its messages

-- the messages with these serials
abbrev made : Option (List ℕ) → List OutgoingMessageView → List ℕ → List MessageView
made name list serials = messages_of (outgoings (object_postings true name list)) serials

kind_is : (outgoing : OutgoingMessageView) (serial : ℕ) → (message_of outgoing serial).kind ≡ outgoing.builder.kind
unfolding message_of built
kind_is outgoing serial = refl

made_none : (name : Option (List ℕ)) (list : List OutgoingMessageView) → made name list [] ≡ []
made_none name [] = refl
made_none name (p ∷ ps) = refl

-- signals are no replies
signals_made : (name : Option (List ℕ)) (call : MessageView) (ss : List Signal) (rest : List OutgoingMessageView) (serials : List ℕ) → replies_among (made name (map (signal_of call) ss ++ rest) serials) ≡ replies_among (made name rest (drop (length ss) serials))
signals_made name call [] rest serials = refl
signals_made name call (s ∷ ss) rest [] = sym (ap replies_among (made_none name rest))
signals_made name call (s ∷ ss) rest (serial ∷ serials) =
    let out = sent_by name true (signal_of call s) in
    ap (λ kind. if is_reply kind then message_of out serial ∷ replies_among (made name (map (signal_of call) ss ++ rest) serials) else replies_among (made name (map (signal_of call) ss ++ rest) serials)) (kind_is out serial)
    ∙ signals_made name call ss rest serials

order_again : (order : Endian) → order_of (sig_of order) ≡ order
order_again orders.Big = refl
order_again orders.Little = refl

replies_so : (name : Option (List ℕ)) (call : MessageView) (result : Result (List Datum) fdo) (serial : ℕ) → let m = message_of (sent_by name true (reply call result)) serial in (is_reply m.kind ≡ true) × RepliesTo call m
unfolding message_of built
replies_so name call (Ok values) serial = (refl, record { serial = refl; destination = refl; order = order_again call.order })
replies_so name call (Err error) serial = (refl, record { serial = refl; destination = refl; order = order_again call.order })

-- one reply, and signals behind it
reply_made : (name : Option (List ℕ)) (call : MessageView) (wanted : Bool) (result : Result (List Datum) fdo) (after : List Signal) (serials : List ℕ) → length serials ≡ length (reply_when wanted call result ++ map (signal_of call) after)
    → HaveReply wanted call (made name (reply_when wanted call result ++ map (signal_of call) after) serials)
reply_made name call false result after serials long =
    ap (λ l. replies_among (made name l serials)) (sym (append-nil (map (signal_of call) after))) ∙ signals_made name call after [] serials
reply_made name call true result after [] long = let no : zero ≡ suc (length (map (signal_of call) after)) = long in absurd (omega (arith, no))
reply_made name call true result after (serial ∷ serials) long =
    let m = message_of (sent_by name true (reply call result)) serial in
    let so = replies_so name call result serial in
    let rest : replies_among (made name (map (signal_of call) after) serials) ≡ [] = ap (λ l. replies_among (made name l serials)) (sym (append-nil (map (signal_of call) after))) ∙ signals_made name call after [] serials in
    (m, ap (λ b. if b then m ∷ replies_among (made name (map (signal_of call) after) serials) else replies_among (made name (map (signal_of call) after) serials)) so.0 ∙ ap (λ ms. m ∷ ms) rest, so.1)

have_same : (wanted : Bool) (call : MessageView) (ms ns : List MessageView) → replies_among ms ≡ replies_among ns → HaveReply wanted call ns → HaveReply wanted call ms
have_same true call ms ns same have = (have.0, same ∙ have.1, have.2)
have_same false call ms ns same have = same ∙ have

length_drop : {A : Type 0} (n : ℕ) (xs : List A) (k : ℕ) → length xs ≡ n + k → length (drop n xs) ≡ k
length_drop zero xs k e = e ∙ omega arith
length_drop (suc n) [] k e = absurd (omega (arith, e))
length_drop (suc n) (x ∷ xs) k e = length_drop n xs k (omega (arith, e))

signals_length : (call : MessageView) (ss : List Signal) (rest : List OutgoingMessageView) → length (map (signal_of call) ss ++ rest) ≡ length ss + length rest
signals_length call [] rest = omega arith
signals_length call (s ∷ ss) rest = let more = signals_length call ss rest in omega (arith, more)

made_length : (name : Option (List ℕ)) (list : List OutgoingMessageView) → length (object_postings true name list) ≡ length list
made_length name [] = refl
made_length name (p ∷ ps) = ap suc (made_length name ps)

all_made : (name : Option (List ℕ)) (call : MessageView) (wanted : Bool) (list : List OutgoingMessageView) (serials : List ℕ) → Shape wanted call list → length serials ≡ length list → HaveReply wanted call (made name list serials)
all_made name call wanted list serials s long =
    let rest = reply_when wanted call s.result ++ map (signal_of call) s.after in
    let all : length serials ≡ length s.before + length rest = long ∙ ap length s.is ∙ signals_length call s.before rest in
    have_same wanted call (made name list serials) (made name rest (drop (length s.before) serials))
    (ap (λ l. replies_among (made name l serials)) s.is ∙ signals_made name call s.before rest serials)
    (reply_made name call wanted s.result s.after (drop (length s.before) serials) (length_drop (length s.before) serials (length rest) all))

-- ---- why nothing was put

shallow_not : (n : ℕ) → n ≤ 64 → nat_lt 64 n ≡ false
shallow_not n h = grind (arith, nat_tests)

-- no value of the messages opens too many containers
not_deep : (name : Option (List ℕ)) (list : List OutgoingMessageView) → AreFlat list → are_deep (object_postings true name list) ≡ false
not_deep name [] shallow = refl
not_deep name (p ∷ ps) shallow =
    ap (λ b. b || are_deep (object_postings true name ps)) (shallow_not (depths (data_of p.values)) shallow.0) ∙ not_deep name ps shallow.1

-- the reason is the error's
unput_so : (h : Past) (ds : List Posting) (answer : Answer) (known error : Error) → (answer ≡ unsent known → IsUnput h ds answer) → (let r : Result (List ℕ) Error = Err known in r) ≡ Err error → answer ≡ unsent error → IsUnput h ds answer
unput_so h ds answer known error so e is = let same : known ≡ error = cc in so (is ∙ ap unsent (sym same))

unput_long : (h : Past) (ds : List Posting) (answer : Answer) (w : Writer) (serials : List ℕ) (long : Bool) (error : Error) → h.outbox.writer ≡ w → drawn h ds ≡ Some serials → some_long (outgoings ds) serials ≡ long
    → issued_by (or_barred w (if long then Some Error.ExcessData else None)) (Some serials) ≡ Err error → answer ≡ unsent error → IsUnput h ds answer
unput_long h ds answer w serials true error at drew long e is = unput_so h ds answer Error.ExcessData error (Long serials drew long) e is
unput_long h ds answer Writer.Fine serials false error at drew long e is = cc
unput_long h ds answer Writer.Failed serials false error at drew long e is = unput_so h ds answer _ error (Failed at) e is
unput_long h ds answer Writer.Closed serials false error at drew long e is = unput_so h ds answer _ error (Shut at) e is

unput_by : (h : Past) (ds : List Posting) (answer : Answer) (deep : Bool) (w : Writer) (o : Option (List ℕ)) (error : Error) → deep ≡ false → h.outbox.writer ≡ w → drawn h ds ≡ o
    → issued_by (or_barred w (if deep then Some (Error.Variant VariantError.Depth) else limit_refusal ds o)) o ≡ Err error → answer ≡ unsent error → IsUnput h ds answer
unput_by h ds answer true w o error shallow at drew e is = cc
unput_by h ds answer false w None error shallow at drew e is = unput_so h ds answer Error.SerialsSpent error (Spent drew) e is
unput_by h ds answer false w (Some serials) error shallow at drew e is = unput_long h ds answer w serials (some_long (outgoings ds) serials) error at drew refl e is

unput : (h : Past) (ds : List Posting) (answer : Answer) (error : Error) → are_deep ds ≡ false → issued h ds ≡ Err error → answer ≡ unsent error → IsUnput h ds answer
unfolding calls_issued
unput h [] answer error shallow e is = cc
unput h (d ∷ ds) answer error shallow e is = unput_by h (d ∷ ds) answer (are_deep (d ∷ ds)) h.outbox.writer (drawn h (d ∷ ds)) error shallow refl refl e is

-- ---- each call

answered : (meanings : ℕ → Meaning) (h : Past) (k : ℕ) (m : MessageView) (e : Entry) (old new : ServiceView) → AnswersCall meanings h k m e old new → IsAnswered meanings h m e old new
answered meanings h k m e old new x = record { messages = x.list; notifier = x.notifier; served = x.served; put = by (issued (gave_next k h) ds) refl x.delivers }
  where
    ds : List Posting
    ds = object_postings true h.name x.list

    shape : Shape (expects_reply m.kind m.flags) m x.list
    shape = shape_at meanings old.machine old.objects m old.slots new.slots x.list x.notifier (target old.objects m) x.served.served

    by : (r : Result (List ℕ) Error) → issued (gave_next k h) ds ≡ r → IsSending r ds (λ serials. call_answer m) e → HaveReply (expects_reply m.kind m.flags) m e.put ⊎ ((e.put ≡ []) × IsUnput h ds e.answer)
    by (Ok serials) at put =
        let long : length serials ≡ length x.list = drawn_length (calls_of (gave_next k h)) ds serials (put_drew (gave_next k h) ds serials at) ∙ made_length h.name x.list in
        inl (subst (HaveReply (expects_reply m.kind m.flags) m) (sym put.put) (all_made h.name m (expects_reply m.kind m.flags) x.list serials shape long))
    by (Err error) at none = inr (none.1.put, unput h ds e.answer error (not_deep h.name x.list shape.shallow) at none.0)

-- what an entry is to the objects whose command takes a call
pub turns_call : (meanings : ℕ → Meaning) (t : Replay) (e : Entry) (m : MessageView) (old new : ServiceView) → e.words ≡ Words.Objects ops.Serve → next_call t.past t.server ≡ Some m → Turns meanings t.past (plan t e.lane e.words) e old new
    → (k : ℕ) × AnswersCall meanings t.past k m e old new
turns_call meanings t e m old new w next turns =
    let one = called_by t e.lane m next in
    (one.0, subst (λ pl. Turns meanings t.past pl e old new) (ap (plan t e.lane) w ∙ one.3) turns)

replied : (meanings : ℕ → Meaning) (t : Replay) (e : Entry) (old new : ServiceView) → Turns meanings t.past (plan t e.lane e.words) e old new → IsReplied meanings t e old new
replied meanings t e old new turns m w next = let one = turns_call meanings t e m old new w next turns in answered meanings t.past one.0 m e old new one.1

pub all_replied : (setting : Setting) (boxes : Handed) (es : List Entry) (now : ServiceView) → AreServed setting boxes es now → AreReplied setting boxes es
all_replied setting boxes [] now is = tt
all_replied setting boxes (e ∷ es) now (before, served, turns) = ((before, now, served, (before, served, turns), replied boxes.meanings (replay setting es) e before now turns), all_replied setting boxes es before served)

-- what the older entries leave
served_older : (setting : Setting) (boxes : Handed) (newer older : List Entry) (now : ServiceView) → AreServed setting boxes (newer ++ older) now → (before : ServiceView) × AreServed setting boxes older before
served_older setting boxes [] older now served = (now, served)
served_older setting boxes (e ∷ newer) older now (before, served, turns) = served_older setting boxes newer older before served

pub once : (setting : Setting) (boxes : Handed) (last : ServiceView) (newer : List Entry) (e : Entry) (older : List Entry) (m : MessageView) → AreServed setting boxes (newer ++ e ∷ older) last → e.words ≡ Words.Objects ops.Serve
    → next_call (replay setting older).past (replay setting older).server ≡ Some m
    → (before after : ServiceView) × AreServed setting boxes older before × AreServed setting boxes (e ∷ older) after × IsAnswered boxes.meanings (replay setting older).past m e before after
once setting boxes last newer e older m served w next =
    let here = served_older setting boxes newer (e ∷ older) last served in
    let before = here.1 in
    (before.0, here.0, before.1, before, replied boxes.meanings (replay setting older) e before.0 here.0 before.2 m w next)

-- ---- what a call changes

others_at : (meanings : ℕ → Meaning) (machine : Option (List ℕ)) (objects : Objects) (m : MessageView) (old new : List (Option BoxView)) (list : List OutgoingMessageView) (notifier : Option ℕ) (reached : Target) (j : ℕ)
    → ServedAt (λ (b : BoxView). meanings b.number) (λ (b : BoxView). b.state) machine objects reached m old new list notifier → (ReachesBy objects reached m j → ⊥) → slice_get new j ≡ slice_get old j
others_at meanings machine objects m old new list notifier (Nothing error) j x other = ap (λ xs. slice_get xs j) x.2
others_at meanings machine objects m old new list notifier (Standard interface) j (answer, how, is, told) other =
    standard_others meanings machine objects interface m old new answer j how other
others_at meanings machine objects m old new list notifier (Slot slot) j (answer, called, is, told) other =
    ap (λ xs. slice_get xs j) called.reached.others ∙ get_other old slot j (Some called.reached.after) other

pub one_changes : (setting : Setting) (boxes : Handed) (last : ServiceView) (e : Entry) (older : List Entry) (m : MessageView) → AreServed setting boxes (e ∷ older) last → e.words ≡ Words.Objects ops.Serve
    → next_call (replay setting older).past (replay setting older).server ≡ Some m
    → (before : ServiceView) × AreServed setting boxes older before × (last.objects ≡ before.objects) × (last.shelf ≡ before.shelf) × ((j : ℕ) → (ReachesBy before.objects (target before.objects m) m j → ⊥) → slice_get last.slots j ≡ slice_get before.slots j)
one_changes setting boxes last e older m (before, served, turns) w next =
    let one = turns_call boxes.meanings (replay setting older) e m before last w next turns in
    let x = one.1 in
    (before, served, x.served.tree, x.shelf, λ j other. others_at boxes.meanings before.machine before.objects m before.slots last.slots x.list x.notifier (target before.objects m) j x.served.served other)
