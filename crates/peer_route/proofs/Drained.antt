-- A stream that gave all gives no more; when a read is busy.
use Rattle.peer_core.specs.History.{streams_of}
use Rattle.peer_streams.specs.Streams.{busy as streams_busy}
use Rattle.peer_streams.specs.{History.{Told, done_by, Plain, Stream, phase, plain_stream}, Streams.{matched, offered, held, limit_of, is_full}}
use Rattle.peer_core.specs.{History.{Event, Received, Made, Past, after, after_all}, Asked.busy}
use Rattle.peer_route.specs.{Names.{Words, Answer, Entry, MessageView, Error}, Replay.{Setting, Replay, handle_index, count}, Plan.{Reads, reads_by, plan}, Entries.{IsMeant, IsRead, deeds, past_after, replay, more, Legal}, StreamLaws.{is_take, IsEnded, IsLast, IsDrained, HoldsTooMany}}
use Rattle.std.proofs.{Common.{◌≡◌, ◌≢◌, ◌⊎◌, inl, inr, ℕ, ◌&&◌, suc, not, refl, sym, ◌∙◌, ap, subst, Bool, true, false, is_some, is_none, nat_lt, List, [], ◌∷◌, ◌++◌, length, Option, Some, None, option_and_then}, lemmas.Bool.{cases_Bool, and_parts, not-true, lt-ltb}, lemmas.List.Folds.list_any_at, lemmas.Option.{slice_get_within, get_or_from_slice_get}}
use Rattle.std.specs.List.{slice_get, list_any, AllByRecursion}
use Rattle.wire_message.proofs.Edits.{edit_here, get_new, all_weaker}
use Rattle.peer_streams.proofs.StreamsMade.{held_fresh}
use Rattle.peer_route.proofs.{Plans.{IsDeed, along, legal_from, IsFair, fair}, Deeds.{TakeOf, Quiet, Item, Tells, Ends, take_entry, Items, NoneGiven, ServerGiven, OneGiven, items, Spares, spares, stays, turned, along_messages, NoItem, lanes, named_on, named_new}, Kept.{Keeps, deeds_all, entry_keeps, later}, Writers.closing_keeps}
use borrow.Author.Tests.{ltb-true}

-- ---- a stream that is over

-- Of these messages the stream with this number holds none; it told the closing error, which was this.
record OverAt (ms : List MessageView) (k : ℕ) (error : Error) (h : Past) : Type 0 where
  stream : Stream
  made : slice_get h.streams k ≡ Some stream
  nothing : held ms stream ≡ []
  told : stream.closing_delivered ≡ true
  shut : h.closing ≡ Some error

-- The lane's number names such a stream.
record Over (t : Replay) (lane number : ℕ) : Type 0 where
  k : ℕ
  error : Error
  named : handle_index 0 lane number t.streams ≡ Some k
  now : OverAt t.past.read k error t.past

over_after : (ms : List MessageView) (k : ℕ) (error : Error) (e : Event) (h : Past) → Spares k e → OverAt ms k error h → OverAt ms k error (after e h)
unfolding held offered matched phase
over_after ms k error e h spare o =
    let r = stays e h k o.stream spare o.made in
    record { stream = turned o.stream r.0 r.1 r.2; made = r.3; nothing = o.nothing; told = r.4 o.told; shut = closing_keeps error e h o.shut }

read_kept : (e : Event) → IsDeed e → Keeps (λ (h : Past). h.read) e
read_kept (Received m) deed h = absurd deed
read_kept e deed h = refl

reads_open : (t : Replay) (lane : ℕ) (w : Words) → plan t lane w ≡ Reads → t.past.closing ≡ None
reads_open t lane w reads = subst (IsFair t w) reads (fair t lane w)

-- a closed peer reads nothing more
reads_none : (t : Replay) (lane : ℕ) (w : Words) (e : Entry) (error : Error) → t.past.closing ≡ Some error → (past_after (plan t lane w) e t.past).read ≡ t.past.read
reads_none t lane w e error shut =
    entry_keeps (λ (h : Past). h.read) (plan t lane w) e t.past (deeds_all (Keeps (λ (h : Past). h.read)) read_kept (λ x h. refl) t lane e w
    (λ reads. let q : Some error ≡ None = sym shut ∙ reads_open t lane w reads in cc) (λ l. (λ h. refl, λ h. refl))) (λ m why h. refl) (λ h. refl) (λ h. refl)

-- what is so once the deeds were is so behind the entry
over_entry : (t : Replay) (e : Entry) (lane number k : ℕ) (error : Error) → handle_index 0 lane number (more t e).streams ≡ Some k → t.past.closing ≡ Some error
    → OverAt t.past.read k error (after_all (deeds (plan t e.lane e.words) e) t.past) → Over (more t e) lane number
over_entry t e lane number k error named shut o =
    let pl = plan t e.lane e.words in
    record {
      k = k;
      error = error;
      named = named;
      now = subst (λ ms. OverAt ms k error (past_after pl e t.past)) (sym (reads_none t e.lane e.words e error shut))
          (along_messages (OverAt t.past.read k error) (Spares k) (over_after t.past.read k error) (λ m why. tt) tt tt pl e t.past o);
    }

-- a stream that gives an item is another one
gives_other : (t : Replay) (j k : ℕ) (s₂ s : Stream) (m : MessageView) (ms : List MessageView) → slice_get t.past.streams j ≡ Some s₂ → held t.past.read s₂ ≡ m ∷ ms → slice_get t.past.streams k ≡ Some s → held t.past.read s ≡ [] → j ≢ k
gives_other t j k s₂ s m ms made holds at nothing same =
    let one : s₂ ≡ s = (let q : Some s₂ ≡ Some s = sym made ∙ ap (slice_get t.past.streams) same ∙ at in cc) in
    let q : m ∷ ms ≡ [] = sym holds ∙ ap (held t.past.read) one ∙ nothing in
    cc

over_spares : (t : Replay) (lane : ℕ) (w : Words) (e : Entry) (k : ℕ) (s : Stream) → Items t lane w e → slice_get t.past.streams k ≡ Some s → held t.past.read s ≡ [] → AllByRecursion (Spares k) (deeds (plan t lane w) e)
over_spares t lane w e k s (NoneGiven none item) at nothing = all_weaker NoItem (Spares k) (spares k) (deeds (plan t lane w) e) none
over_spares t lane w e k s (OneGiven n j s₂ m ms takes named made holds does is) at nothing = subst (AllByRecursion (Spares k)) (sym does) (gives_other t j k s₂ s m ms made holds at nothing, tt)
over_spares t lane w e k s (ServerGiven j s₂ m ms takes server made holds does) at nothing = subst (AllByRecursion (Spares k)) (sym does) (gives_other t j k s₂ s m ms made holds at nothing, tt)

-- what the number names is that stream
same_stream : (t : Replay) (lane number k : ℕ) (s : Stream) (o : Over t lane number) → handle_index 0 lane number t.streams ≡ Some k → slice_get t.past.streams k ≡ Some s → s ≡ o.now.stream
same_stream t lane number k s o named at =
    let places : Some k ≡ Some o.k = sym named ∙ o.named in
    let one : k ≡ o.k = cc in
    let q : Some s ≡ Some o.now.stream = sym at ∙ ap (slice_get t.past.streams) one ∙ o.now.made in
    cc

over_step : (t : Replay) (e : Entry) (lane number : ℕ) → IsMeant t.past (plan t e.lane e.words) e → Over t lane number → Over (more t e) lane number
over_step t e lane number is o =
    let ms = t.past.read in
    let ds = deeds (plan t e.lane e.words) e in
    over_entry t e lane number o.k o.error (named_on (plan t e.lane e.words) e t lane number o.k o.named) o.now.shut
    (along (OverAt ms o.k o.error) (Spares o.k) (over_after ms o.k o.error) ds t.past (over_spares t e.lane e.words e o.k o.now.stream (items t e.lane e.words e is) o.now.made o.now.nothing) o.now)

-- a take of it says so, or that it isn't open
over_take : (t : Replay) (lane number : ℕ) (a : Answer) (done : List Event) → TakeOf t.past (handle_index 0 lane number t.streams) a done → Over t lane number
    → (a ≡ Answer.Ended) ⊎ (a ≡ Answer.Refused Error.UnknownHandle)
over_take t lane number a done (Quiet none item last (inl is)) o = inr is
over_take t lane number a done (Quiet none item last (inr open_)) o = let q : None ≡ Some o.error = sym open_ ∙ o.now.shut in cc
over_take t lane number a done (Item k s m ms named at holds does is) o =
    let q : m ∷ ms ≡ [] = sym holds ∙ ap (held t.past.read) (same_stream t lane number k s o named at) ∙ o.now.nothing in cc
over_take t lane number a done (Tells k s error named at still nothing shut told does is) o =
    let q : false ≡ true = sym told ∙ ap (λ (x : Stream). x.closing_delivered) (same_stream t lane number k s o named at) ∙ o.now.told in cc
over_take t lane number a done (Ends k s error named at nothing shut told does is) o = inl is

ended_entry : (t : Replay) (x : Entry) (lane number : ℕ) → IsMeant t.past (plan t x.lane x.words) x → Over t lane number → IsEnded lane number x
ended_entry t x lane number is o same takes =
    over_take t lane number x.answer (deeds (plan t x.lane x.words) x) (subst (λ l. TakeOf t.past (handle_index 0 l number t.streams) x.answer (deeds (plan t x.lane x.words) x)) same (take_entry t x.lane x.words x number is takes)) o

over_later : (setting : Setting) (newer older : List Entry) (e : Entry) (lane number : ℕ) → Legal setting (newer ++ e ∷ older) → Over (replay setting (e ∷ older)) lane number → AllByRecursion (IsEnded lane number) newer
over_later setting newer older e lane number legal o =
    (later setting (λ t. Over t lane number) (IsEnded lane number) (λ t x is over. (over_step t x lane number is over, ended_entry t x lane number is over)) newer (e ∷ older) legal o).1

-- ---- how a stream comes to its end

-- after the last answer the stream is over
over_last : (t : Replay) (e : Entry) (number : ℕ) → TakeOf t.past (handle_index 0 e.lane number t.streams) e.answer (deeds (plan t e.lane e.words) e) → IsLast e.answer → Over (more t e) e.lane number
unfolding held offered matched phase
over_last t e number (Quiet none item last why) is_last = absurd (last is_last)
over_last t e number (Item k s m ms named at holds does is) is_last = absurd (subst IsLast is is_last)
over_last t e number (Tells k s error named at still nothing shut told does is) is_last =
    over_entry t e e.lane number k error (named_on (plan t e.lane e.words) e t e.lane number k named) shut (subst (λ ds. OverAt t.past.read k error (after_all ds t.past)) (sym does)
    (record { stream = done_by Told s; made = edit_here (done_by Told) k t.past.streams s at; nothing = nothing; told = refl; shut = shut }))
over_last t e number (Ends k s error named at nothing shut told does is) is_last =
    over_entry t e e.lane number k error (named_on (plan t e.lane e.words) e t e.lane number k named) shut (subst (λ ds. OverAt t.past.read k error (after_all ds t.past)) (sym does)
    (record { stream = s; made = at; nothing = nothing; told = told; shut = shut }))

pub ended : (setting : Setting) (newer older : List Entry) (e : Entry) (number : ℕ) → Legal setting (newer ++ e ∷ older) → is_take number e.words ≡ true → IsLast e.answer → AllByRecursion (IsEnded e.lane number) newer
ended setting newer older e number legal w last =
    let t = replay setting older in
    let is = (legal_from setting newer (e ∷ older) legal).0 in
    over_later setting newer older e e.lane number legal (over_last t e number (take_entry t e.lane e.words e number is w) last)

drained_by : (t : Replay) (lane number : ℕ) (a : Answer) (done : List Event) (error : Error) → TakeOf t.past (handle_index 0 lane number t.streams) a done → a ≡ Answer.Closed error → IsDrained t lane number error
drained_by t lane number a done error (Quiet none item last why) e = absurd (last (subst IsLast (sym e) tt))
drained_by t lane number a done error (Item k s m ms named at holds does is) e = let q : Answer.Item m.position ≡ Answer.Closed error = sym is ∙ e in cc
drained_by t lane number a done error (Tells k s other named at still nothing shut told does is) e =
    let same : other ≡ error = (let q : Answer.Closed other ≡ Answer.Closed error = sym is ∙ e in cc) in
    record { stream = s; named = ap (option_and_then (slice_get t.past.streams)) named ∙ at; still = still; nothing = nothing; first = shut ∙ ap (λ x. Some x) same }
drained_by t lane number a done error (Ends k s other named at nothing shut told does is) e = let q : Answer.Ended ≡ Answer.Closed error = sym is ∙ e in cc

pub drained : (setting : Setting) (older : List Entry) (e : Entry) (number : ℕ) (error : Error) → Legal setting (e ∷ older) → is_take number e.words ≡ true → e.answer ≡ Answer.Closed error
    → IsDrained (replay setting older) e.lane number error
drained setting older e number error legal w a =
    let t = replay setting older in
    drained_by t e.lane number e.answer (deeds (plan t e.lane e.words) e) error (take_entry t e.lane e.words e number legal.0 w) a

-- ---- a stream that is made after the peer was closed

pub ended_from_start : (setting : Setting) (newer older : List Entry) (e : Entry) (number : ℕ) (error : Error) → Legal setting (newer ++ e ∷ older) → e.words ≡ Words.Stream → e.answer ≡ Answer.Streaming number
    → (replay setting older).past.closing ≡ Some error → AllByRecursion (IsEnded e.lane number) newer
ended_from_start setting newer older e number error legal w a shut =
    let t = replay setting older in
    let h = t.past in
    let k = length t.streams in
    let s = plain_stream (streams_of h) in
    let means = ap (plan t e.lane) w in
    let named = named_new t e number Plain (legal_from setting newer (e ∷ older) legal).0 means a in
    let made : slice_get (h.streams ++ s ∷ []) k ≡ Some s = ap (slice_get (h.streams ++ s ∷ [])) (lanes setting older) ∙ get_new h.streams s in
    let now : OverAt h.read k error (after (Made Plain) h) = record { stream = s; made = made; nothing = held_fresh (streams_of h) None (is_some h.closing); told = ap is_some shut; shut = shut } in
    over_later setting newer older e e.lane number legal (over_entry t e e.lane number k error named shut (subst (λ pl. OverAt h.read k error (after_all (deeds pl e) h)) (sym means) now))

-- ---- a busy read

read_busy : (count : ℕ) (o : Option MessageView) (a : Answer) → IsRead count o a → a ≡ Answer.Busy → ⊥
read_busy count (Some m) a is e = let q : Answer.Got ≡ Answer.Busy = sym is.0 ∙ e in cc
read_busy count None a (inl is) e = let q : Answer.Closed is.0 ≡ Answer.Busy = sym is.1 ∙ e in cc
read_busy count None a (inr is) e = let q : Answer.Passed is.0 ≡ Answer.Busy = sym is.1 ∙ e in cc

busy_by : (h : Past) (o : Option Error) (full : Bool) (e : Entry) → IsMeant h (reads_by o full) e → e.answer ≡ Answer.Busy → (o ≡ None) × (full ≡ true)
busy_by h (Some error) full e is a = let q : Answer.Closed error ≡ Answer.Busy = sym is.1 ∙ a in cc
busy_by h None true e is a = (refl, refl)
busy_by h None false e is a = absurd (read_busy (length h.read) e.read e.answer is.0 a)

any_at : {A : Type 0} (p : A → Bool) (xs : List A) → list_any p xs ≡ true → (k : ℕ) × (x : A) × (slice_get xs k ≡ Some x) × (p x ≡ true)
any_at p [] e = cc
any_at {A} p (y ∷ ys) e =
    elim (cases_Bool (p y)) as (λ _. (k : ℕ) × (x : A) × (slice_get (y ∷ ys) k ≡ Some x) × (p x ≡ true)) [
      | inl here ↦ (0, y, refl, here)
      | inr other ↦ let rest = any_at p ys (rw other at e) in (suc rest.0, rest.1, rest.2, rest.3)
    ]

too_many : (h : Past) → h.closing ≡ None → busy h ≡ true → HoldsTooMany h
unfolding streams_busy is_full
too_many h open_ e =
    let at = any_at (is_full h.capacities h.read) h.streams (and_parts (is_none h.closing) (list_any (is_full h.capacities h.read) h.streams) e).1 in
    let s = at.1 in
    let full = and_parts (not s.gone) (nat_lt (limit_of h.capacities s.rule) (length (held h.read s))) at.3 in
    record { is_open = open_; k = at.0; stream = s; made = at.2; still = not-true s.gone full.0; over = ltb-true (limit_of h.capacities s.rule) (length (held h.read s)) full.1 }

pub busy_only : (setting : Setting) (older : List Entry) (e : Entry) → Legal setting (e ∷ older) → e.words ≡ Words.Read → e.answer ≡ Answer.Busy → HoldsTooMany (replay setting older).past
busy_only setting older e legal w a =
    let t = replay setting older in
    let b = busy_by t.past t.past.closing (busy t.past) e (subst (λ pl. IsMeant t.past pl e) (ap (plan t e.lane) w) legal.0) a in too_many t.past b.0 b.1

busy_of : (h : Past) → HoldsTooMany h → busy h ≡ true
unfolding streams_busy is_full
busy_of h many =
    let s = many.stream in
    let full : is_full h.capacities h.read s ≡ true =
    ap (λ b. not b && nat_lt (limit_of h.capacities s.rule) (length (held h.read s))) many.still ∙ lt-ltb (limit_of h.capacities s.rule) (length (held h.read s)) many.over in
    rw many.is_open (list_any_at (is_full h.capacities h.read) h.streams many.k s (slice_get_within h.streams many.k s many.made) (ap (is_full h.capacities h.read) (get_or_from_slice_get h.streams many.k s s many.made) ∙ full))

pub busy_there : (setting : Setting) (older : List Entry) (e : Entry) → Legal setting (e ∷ older) → e.words ≡ Words.Read → HoldsTooMany (replay setting older).past → e.answer ≡ Answer.Busy
busy_there setting older e legal w many =
    let t = replay setting older in
    (subst (λ pl. IsMeant t.past pl e) (ap (plan t e.lane) w ∙ ap (λ o. reads_by o (busy t.past)) many.is_open ∙ ap (reads_by None) (busy_of t.past many)) legal.0).1
