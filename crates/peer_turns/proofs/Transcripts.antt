-- Two histories of the same commands, of which the outside told the same, are the same.
use Rattle.std.proofs.{Common.{◌≡◌, ℕ, ◌+◌, ◌<◌, refl, sym, ◌∙◌, ap, subst, arith, Bool, true, false, if◌then◌else◌, List, [], ◌∷◌, length, map, ◌||◌, Option, Some, None, Result, Ok, Err}, Math.Bool.or-true}
use Rattle.std.specs.List.{AllByRecursion}
use Rattle.peer_turns.specs.Names.{MessageView, Received, Error, Words, Command, Answer, Entry, command_of}
use Rattle.peer_route.specs.{Replay.{Setting, Replay}, Plan.{Plan, Says, Sends, Reads, Serves, Dispatches, Closes, Writes, Never, call_answer, plan}, Entries.{IsMeant, Delivers, object_postings, object_events, is_refused, unless_refused, gave_next, IsQuiet, IsPut, IsSending, IsAtOnce, Legal, replay, writes, past_after, write_fault}, Environment.{ReadsAgree, ReadAgrees, IsOf, CloseAgrees, ClosesAgree, WritesAgree, AreWritten, fitting}}
use Rattle.object_interface.specs.Meaning.{Meaning}
use Rattle.peer_service.specs.Service.{ServiceView}
use Rattle.peer_objects.specs.Dispatching.{target}
use Rattle.peer_turns.specs.Objects.{Handed, AsksIn, AnswersCall, AnswersCommand, Turns, AreServed, AreFunctions}
use Rattle.wire_message.specs.Outgoing.{OutgoingMessageView}
use Rattle.peer_streams.specs.History.{Gave}
use Rattle.peer_core.specs.{History.{Event, Did, Past, after_all}, Issuing.puts}
use Rattle.peer_conn.proofs.Called.{AreUnawaited, sending, past_same}
use Rattle.peer_route.proofs.Objects.{unwanted}
use Rattle.peer_turns.proofs.Answering.{list_one, left_one, served_quiet}
use Rattle.peer_turns.proofs.Announcing.{asks_in_one, asks_in_none}
use Rattle.peer_calls.specs.Issuing.{Posting, outgoings, messages_of}
use Rattle.peer_core.specs.Issuing.{issued}
use Rattle.peer_route.proofs.{Kept.{Keeps, kept_by}, Plans.{are_writes, IsFair, fair}, Sent.{written_by, failed_with}}

-- the same was read, answered, put and written
record Same (e f : Entry) : Type 0 where
  answer : e.answer ≡ f.answer
  read : e.read ≡ f.read
  put : e.put ≡ f.put
  written : e.written ≡ f.written
  failed : e.failed ≡ f.failed

same_quiet : (e f : Entry) → e.answer ≡ f.answer → e.read ≡ f.read → IsQuiet e → IsQuiet f → Same e f
same_quiet e f answer read p q = record { answer = answer; read = read; put = p.put ∙ sym q.put; written = p.written ∙ sym q.written; failed = p.failed ∙ sym q.failed }

-- ---- what the sink's room decides

-- what is written of messages that are put, and whether a write fails
record Wrote (room : Option ℕ) (p : Past) (ms : List MessageView) (e : Entry) : Type 0 where
  put : e.put ≡ ms
  once : IsAtOnce e
  cut : e.failed ≡ true → e.written < length ms
  told : let o = (after_all (writes e) p).outbox in AreWritten (Some room) o.failed o.written o.put

-- the count decides whether one fails
fails_by : (b c : Bool) (m n k : ℕ) → m ≡ n → (b ≡ false → m ≡ k) → (c ≡ false → n ≡ k) → (b ≡ true → m < k) → (c ≡ true → n < k) → b ≡ c
fails_by true true m n k same x y p q = refl
fails_by false false m n k same x y p q = refl
fails_by true false m n k same x y p q = let less = p refl in let all = y refl in let no : ⊥ = omega (arith, same, less, all) in absurd no
fails_by false true m n k same x y p q = let less = q refl in let all = x refl in let no : ⊥ = omega (arith, same, less, all) in absurd no

none_fails : (p : Past) (ms : List MessageView) (e : Entry) → Wrote None p ms e → e.failed ≡ false
none_fails p ms e w = by e.failed (sym (failed_with e p (λ failed. subst (λ xs. e.written < length xs) (sym w.put) (w.cut failed))) ∙ w.told)
  where
    by : (b : Bool) → (p.outbox.failed || b) ≡ false → b ≡ false
    by true never = let wrong = or-true p.outbox.failed in cc
    by false never = refl

same_count : (room : Option ℕ) (p : Past) (ms : List MessageView) (e f : Entry) → Wrote room p ms e → Wrote room p ms f → e.written ≡ f.written
same_count None p ms e f v w = v.once (none_fails p ms e v) ∙ ap length (v.put ∙ sym w.put) ∙ sym (w.once (none_fails p ms f w))
same_count (Some k) p ms e f v w =
    let kept : (g : Entry) → (after_all (writes g) p).outbox.put ≡ p.outbox.put = λ g. kept_by (λ h. h.outbox.put) (writes g) p (are_writes (Keeps (λ h. h.outbox.put)) g (λ h. refl) (λ h. refl)) in
    let counts : p.outbox.written + e.written ≡ p.outbox.written + f.written = sym (written_by e p) ∙ v.told.0 ∙ ap (fitting k) (kept e ∙ sym (kept f)) ∙ sym w.told.0 ∙ written_by f p in
    omega (arith, counts)

same_put : (room : Option ℕ) (p : Past) (ms : List MessageView) (success : Answer) (e f : Entry) → e.read ≡ f.read → IsPut ms success e → IsPut ms success f → Wrote room p ms e → Wrote room p ms f → Same e f
same_put room p ms success e f read x y v w =
    let count = same_count room p ms e f v w in
    let fails : e.failed ≡ f.failed = fails_by e.failed f.failed e.written f.written (length ms) count (λ fine. v.once fine ∙ ap length v.put) (λ fine. w.once fine ∙ ap length w.put) v.cut w.cut in
    record { answer = x.answer ∙ ap (λ b. if b then write_fault else success) fails ∙ sym y.answer; read = read; put = x.put ∙ sym y.put; written = count; failed = fails }

-- ---- every kind of plan

-- what is known of an entry, by the past before it and its plan
record Known (room : Option ℕ) (stop : Bool) (bytes : List ℕ) (h : Past) (pl : Plan) (e : Entry) : Type 0 where
  is : IsMeant h pl e
  once : IsAtOnce e
  read : ReadAgrees (Some stop) bytes h pl e
  told : let o = (past_after pl e h).outbox in AreWritten (Some room) o.failed o.written o.put

same_of : (found : Result Received Error) (e f : Entry) → IsOf found e → IsOf found f → (e.answer ≡ f.answer) × (e.read ≡ f.read)
same_of (Ok (Received.Message m)) e f p q = (p.1 ∙ sym q.1, p.0 ∙ sym q.0)
same_of (Ok (Received.Passed bytes)) e f p q = (p.1 ∙ sym q.1, p.0 ∙ sym q.0)
same_of (Err error) e f p q = (p.1 ∙ sym q.1, p.0 ∙ sym q.0)

same_sends : (room : Option ℕ) (stop : Bool) (bytes : List ℕ) (h : Past) (done : List Event) (ds : List Posting) (sent : List ℕ → Answer) (r : Result (List ℕ) Error) (e f : Entry) → issued (after_all done h) ds ≡ r
    → e.read ≡ f.read → IsSending r ds sent e → IsSending r ds sent f → Known room stop bytes h (Sends done ds sent) e → Known room stop bytes h (Sends done ds sent) f → Same e f
same_sends room stop bytes h done ds sent (Err error) e f at read x y p q = same_quiet e f (x.0 ∙ sym y.0) read x.1 y.1
same_sends room stop bytes h done ds sent (Ok serials) e f at read x y p q =
    let ms = messages_of (outgoings ds) serials in
    let put = after_all (puts ds ms) (after_all done h) in
    let wrote : (g : Entry) → IsPut ms (sent serials) g → Known room stop bytes h (Sends done ds sent) g → Wrote room put ms g = λ g z k.
    record { put = z.put; once = k.once; cut = z.cut; told = subst (λ xs. let o = (after_all (writes g) (after_all (puts ds xs) (after_all done h))).outbox in AreWritten (Some room) o.failed o.written o.put) z.put k.told } in
    same_put room put ms (sent serials) e f read x y (wrote e x p) (wrote f y q)

-- only `close` closes
same_close : (room : Option ℕ) (t : Replay) (lane : ℕ) (w : Words) (a b : Answer) → plan t lane w ≡ Closes → CloseAgrees (Some room) w a → CloseAgrees (Some room) w b → a ≡ b
same_close room t lane w a b shut x y =
    let closes : w ≡ Words.Close = subst (IsFair t w) shut (fair t lane w) in
    subst (λ v. CloseAgrees (Some room) v a) closes x ∙ sym (subst (λ v. CloseAgrees (Some room) v b) closes y)

-- ---- objects

-- what was said settles whether the entry is refused, once its messages were put
same_refusal : (said : Answer) (ms : List MessageView) (g : Entry) → IsPut ms said g → (is_refused said ≡ true → ms ≡ []) → is_refused g.answer ≡ is_refused said
same_refusal said ms g put none = by g.failed (is_refused said) refl refl put.answer
  where
    by : (failed refused : Bool) → g.failed ≡ failed → is_refused said ≡ refused → g.answer ≡ (if failed then write_fault else said) → is_refused g.answer ≡ is_refused said
    by false refused f r answer = ap is_refused answer
    by true false f r answer = ap is_refused answer ∙ sym r
    by true true f r answer = let less = subst (λ (xs : List MessageView). g.written < length xs) (none r) (put.cut f) in let no : ⊥ = omega (arith, less) in absurd no

same_put_of : (room : Option ℕ) (stop : Bool) (bytes : List ℕ) (h : Past) (done : List Event) (ds : List Posting) (said : Answer) (r : Result (List ℕ) Error) (e f : Entry) → e.read ≡ f.read
    → ((serials : List ℕ) → is_refused said ≡ true → messages_of (outgoings ds) serials ≡ [])
    → IsSending r ds (λ serials. said) e → IsSending r ds (λ serials. said) f → Known room stop bytes h (Serves None done) e → Known room stop bytes h (Serves None done) f → Same e f
same_put_of room stop bytes h done ds said (Err error) e f read none x y p q = same_quiet e f (x.0 ∙ sym y.0) read x.1 y.1
same_put_of room stop bytes h done ds said (Ok serials) e f read none x y p q =
    let ms = messages_of (outgoings ds) serials in
    let put = after_all (object_events ms) (after_all (unless_refused said done) h) in
    let wrote : (g : Entry) → IsPut ms said g → Known room stop bytes h (Serves None done) g → Wrote room put ms g = λ g z k.
    let told = subst (λ b. let o = (after_all (writes g) (after_all (object_events g.put) (after_all (if b then [] else done) h))).outbox in AreWritten (Some room) o.failed o.written o.put) (same_refusal said ms g z (none serials)) k.told in
    record { put = z.put; once = k.once; cut = z.cut; told = subst (λ xs. let o = (after_all (writes g) (after_all (object_events xs) (after_all (unless_refused said done) h))).outbox in AreWritten (Some room) o.failed o.written o.put) z.put told } in
    same_put room put ms said e f read x y (wrote e x p) (wrote f y q)

messages_none : (name : Option (List ℕ)) (ps : List OutgoingMessageView) (serials : List ℕ) → ps ≡ [] → messages_of (outgoings (object_postings false name ps)) serials ≡ []
messages_none name [] serials none = refl
messages_none name (p ∷ ps) serials none = cc

-- what is asked of the same objects, each of which answers in one way, is answered the same, and leaves the same
same_asked : (meanings : ℕ → Meaning) (room : Option ℕ) (stop : Bool) (bytes : List ℕ) (h : Past) (done : List Event) (e f : Entry) (old new other : ServiceView) → AreFunctions meanings → e.words ≡ f.words → AnswersCommand meanings h done e old new
    → AnswersCommand meanings h done f old other → Known room stop bytes h (Serves None done) e → Known room stop bytes h (Serves None done) f → Same e f × (new ≡ other)
same_asked meanings room stop bytes h done e f old new other functions same x y p q =
    let one = asks_in_one meanings functions e.words x.said y.said x.list y.list old new other x.asks (subst (λ w. AsksIn meanings w y.said y.list old other) (sym same) y.asks) in
    let ds = object_postings false h.name x.list in
    let said : Delivers false h (unless_refused x.said done) y.list x.said f = subst (λ a. Delivers false h (unless_refused a done) y.list a f) (sym one.0) y.delivers in
    let delivers : Delivers false h (unless_refused x.said done) x.list x.said f = subst (λ l. Delivers false h (unless_refused x.said done) l x.said f) (sym one.1) said in
    let none : (serials : List ℕ) → is_refused x.said ≡ true → messages_of (outgoings ds) serials ≡ [] = λ serials refused.
    messages_none h.name x.list serials (asks_in_none meanings e.words x.said x.list old new x.asks refused) in (
      same_put_of room stop bytes h done ds x.said (issued (after_all (unless_refused x.said done) h) ds) e f (p.is.0 ∙ sym q.is.0) none x.delivers delivers p q,
      one.2,
    )

-- an entry whose call is handed on is known as one whose messages are sent
known_sends : (room : Option ℕ) (stop : Bool) (bytes : List ℕ) (h : Past) (k : ℕ) (m : MessageView) (ps : List OutgoingMessageView) (g : Entry) → AreUnawaited ps → Delivers true h (Did k Gave ∷ []) ps (call_answer m) g → Known room stop bytes h (Dispatches k m) g
    → Known room stop bytes h (sending h k m ps) g
known_sends room stop bytes h k m ps g unawaited delivers p = record {
  is = (p.is.0, delivers, p.is.2);
  once = p.once;
  read = tt;
  told = subst (λ (q : Past). AreWritten (Some room) q.outbox.failed q.outbox.written q.outbox.put) (past_same h k m g (ps, unawaited, delivers)) p.told;
}

-- a call that the same objects answer, each of which answers in one way, is answered the same, and leaves the same
same_called : (meanings : ℕ → Meaning) (room : Option ℕ) (stop : Bool) (bytes : List ℕ) (h : Past) (k : ℕ) (m : MessageView) (e f : Entry) (old new other : ServiceView) → AreFunctions meanings → AnswersCall meanings h k m e old new → AnswersCall meanings h k m f old other
    → Known room stop bytes h (Dispatches k m) e → Known room stop bytes h (Dispatches k m) f → Same e f × (new ≡ other)
same_called meanings room stop bytes h k m e f old new other functions x y p q =
    let listed = list_one meanings functions h k m e f old new other x y in
    let ps = x.list in
    let none = (served_quiet meanings old.machine old.objects (target old.objects m) m old.slots new.slots x.list x.notifier x.served.served).0 in
    let other_delivers : Delivers true h (Did k Gave ∷ []) ps (call_answer m) f = subst (λ l. Delivers true h (Did k Gave ∷ []) l (call_answer m) f) (sym listed) y.delivers in
    let same : Same e f =
    same_sends room stop bytes h (Did k Gave ∷ []) (object_postings true h.name ps) (λ serials. call_answer m) (issued (gave_next k h) (object_postings true h.name ps)) e f refl (p.is.0 ∙ sym q.is.0) x.delivers other_delivers
    (known_sends room stop bytes h k m ps e none x.delivers p) (known_sends room stop bytes h k m ps f none other_delivers q) in
    (same, left_one meanings functions h k m e f old new other x y same.put)

-- what is known to be said is answered, and nothing is put
known_quiet : (h : Past) (said : Answer) (done : List Event) (e : Entry) → IsMeant h (Serves (Some said) done) e → (e.answer ≡ said) × IsQuiet e
known_quiet h said done e is =
    let one = is.1 in
    let none = unwanted false (after_all (unless_refused one.answer done) h) h.name one.messages one.answer e one.may.1 one.delivers in
    (none.1 ∙ one.may.0, none.0)

-- ---- an entry and what it is to the objects

same_turn : (meanings : ℕ → Meaning) (room : Option ℕ) (stop : Bool) (bytes : List ℕ) (h : Past) (pl : Plan) (e f : Entry) (u a b : ServiceView) → AreFunctions meanings → e.words ≡ f.words → (pl ≡ Closes → e.answer ≡ f.answer)
    → Turns meanings h pl e u a → Turns meanings h pl f u b → Known room stop bytes h pl e → Known room stop bytes h pl f → Same e f × (a ≡ b)
same_turn meanings room stop bytes h (Says answer done) e f u a b functions same closes x y p q = (same_quiet e f (p.is.1 ∙ sym q.is.1) (p.is.0 ∙ sym q.is.0) p.is.2 q.is.2, x ∙ sym y)
same_turn meanings room stop bytes h (Sends done ds sent) e f u a b functions same closes x y p q = (same_sends room stop bytes h done ds sent (issued (after_all done h) ds) e f refl (p.is.0 ∙ sym q.is.0) p.is.1 q.is.1 p q, x ∙ sym y)
same_turn meanings room stop bytes h Reads e f u a b functions same closes x y p q = let found = same_of _ e f p.read q.read in (same_quiet e f found.0 found.1 p.is.1 q.is.1, x ∙ sym y)
same_turn meanings room stop bytes h (Serves None done) e f u a b functions same closes x y p q = same_asked meanings room stop bytes h done e f u a b functions same x y p q
same_turn meanings room stop bytes h (Serves (Some said) done) e f u a b functions same closes x y p q =
    let one = known_quiet h said done e p.is in
    let other = known_quiet h said done f q.is in
    (same_quiet e f (one.0 ∙ sym other.0) (p.is.0 ∙ sym q.is.0) one.1 other.1, x ∙ sym y)
same_turn meanings room stop bytes h (Dispatches k m) e f u a b functions same closes x y p q = same_called meanings room stop bytes h k m e f u a b functions x y p q
same_turn meanings room stop bytes h Closes e f u a b functions same closes x y p q = (same_quiet e f (closes refl) (p.is.0 ∙ sym q.is.0) p.is.2 q.is.2, x ∙ sym y)
same_turn meanings room stop bytes h (Writes fails) e f u a b functions same closes x y p q = (same_quiet e f (p.is.1 ∙ sym q.is.1) (p.is.0 ∙ sym q.is.0) p.is.2 q.is.2, x ∙ sym y)
same_turn meanings room stop bytes h Never e f u a b functions same closes x y p q = absurd p.is

-- ---- every entry

-- what is known of the newest entry
record Newest (setting : Setting) (es : List Entry) (stop : Bool) (bytes : List ℕ) (room : Option ℕ) (e : Entry) : Type 0 where
  known : Known room stop bytes (replay setting es).past (plan (replay setting es) e.lane e.words) e
  closed : CloseAgrees (Some room) e.words e.answer

one_entry : (e f : Entry) → command_of e ≡ command_of f → Same e f → e ≡ f
one_entry e f c same =
    ap (λ (k : Command). record e { lane = k.lane; words = k.words }) c ∙ ap (λ a. record f { answer = a; read = e.read; put = e.put; written = e.written; failed = e.failed }) same.answer
    ∙ ap (λ r. record f { read = r; put = e.put; written = e.written; failed = e.failed }) same.read ∙ ap (λ p. record f { put = p; written = e.written; failed = e.failed }) same.put
    ∙ ap (λ n. record f { written = n; failed = e.failed }) same.written ∙ ap (λ b. record f { failed = b }) same.failed

same_newest : (setting : Setting) (meanings : ℕ → Meaning) (es : List Entry) (stop : Bool) (bytes : List ℕ) (room : Option ℕ) (e f : Entry) (u a b : ServiceView) → AreFunctions meanings → command_of e ≡ command_of f
    → Turns meanings (replay setting es).past (plan (replay setting es) e.lane e.words) e u a → Turns meanings (replay setting es).past (plan (replay setting es) f.lane f.words) f u b
    → Newest setting es stop bytes room e → Newest setting es stop bytes room f → (e ≡ f) × (a ≡ b)
same_newest setting meanings es stop bytes room e f u a b functions c x y p q =
    let t = replay setting es in
    let lane : e.lane ≡ f.lane = ap (λ (k : Command). k.lane) c in
    let words_ : e.words ≡ f.words = ap (λ (k : Command). k.words) c in
    let pl = plan t e.lane e.words in
    let means : plan t f.lane f.words ≡ pl = ap (λ n. plan t n f.words) (sym lane) ∙ ap (plan t e.lane) (sym words_) in
    let both = same_turn meanings room stop bytes t.past pl e f u a b functions words_ (λ closes. same_close room t e.lane e.words e.answer f.answer closes p.closed (subst (λ w. CloseAgrees (Some room) w f.answer) (sym words_) q.closed))
    x (subst (λ x. Turns meanings t.past x f u b) means y) p.known (subst (λ x. Known room stop bytes t.past x f) means q.known) in
    (one_entry e f c both.0, both.1)

pub same_history : (setting : Setting) (boxes : Handed) (first last : ServiceView) (es fs : List Entry) (stop : Bool) (bytes : List ℕ) (room : Option ℕ) → AreFunctions boxes.meanings → map command_of es ≡ map command_of fs → Legal setting es → Legal setting fs
    → AllByRecursion IsAtOnce es → AllByRecursion IsAtOnce fs → AreServed setting boxes es first → AreServed setting boxes fs last → ReadsAgree setting (Some stop) bytes es → ReadsAgree setting (Some stop) bytes fs
    → WritesAgree setting (Some room) es → WritesAgree setting (Some room) fs → ClosesAgree (Some room) es → ClosesAgree (Some room) fs → (es ≡ fs) × (first ≡ last)
same_history setting boxes first last [] [] stop bytes room functions c le lf oe of se sf re rf we wf ce cf = (refl, se ∙ sym sf)
same_history setting boxes first last [] (f ∷ fs) stop bytes room functions c le lf oe of se sf re rf we wf ce cf = cc
same_history setting boxes first last (e ∷ es) [] stop bytes room functions c le lf oe of se sf re rf we wf ce cf = cc
same_history setting boxes first last (e ∷ es) (f ∷ fs) stop bytes room functions c le lf oe of (u, pe, xe) (v, pf, xf) re rf we wf ce cf =
    let head : command_of e ≡ command_of f = cc in
    let both = same_history setting boxes u v es fs stop bytes room functions (let tail : map command_of es ≡ map command_of fs = cc in tail) le.1 lf.1 oe.1 of.1 pe pf re.1 rf.1 we.1 wf.1 ce.1 cf.1 in
    let same : es ≡ fs = both.0 in
    let newer : Newest setting es stop bytes room e = record { known = record { is = le.0; once = oe.0; read = re.0; told = we.0 }; closed = ce.0 } in
    let other : Newest setting fs stop bytes room f = record { known = record { is = lf.0; once = of.0; read = rf.0; told = wf.0 }; closed = cf.0 } in
    let turn : (xs : List Entry) → Type 0 = λ xs. Turns boxes.meanings (replay setting xs).past (plan (replay setting xs) f.lane f.words) f u last in
    let asked : turn es = subst turn (sym same) (subst (λ z. Turns boxes.meanings (replay setting fs).past (plan (replay setting fs) f.lane f.words) f z last) (sym both.1) xf) in
    let front = same_newest setting boxes.meanings es stop bytes room e f u first last functions head xe asked newer (subst (λ xs. Newest setting xs stop bytes room f) (sym same) other) in
    let one : e ≡ f = front.0 in
    ((cc), front.1)
