-- What events keep: each of them, those of an entry, and those of all entries; what an entry leaves that puts nothing; and what refuses
-- messages is no unknown handle.
use Rattle.std.specs.{Prelude.option_to_list, List.AllByRecursion}
use Rattle.std.proofs.{Common.{◌≡◌, ℕ, refl, length, ◌∙◌, Bool, true, false, if◌then◌else◌, List, [], ◌∷◌, Option, Some, None, ◌++◌, option_map, zero, suc, ap}, lemmas.List.append-nil}
use Rattle.peer_route.specs.{Names.{MessageView, Error, Words, Answer, Entry}, Replay.{Setting, Replay, new_owners, asked_owners, made_owners}, Plan.{Plan, Reads, plan, Says, Sends, Serves, Dispatches, Closes, Writes, Never}, Entries.{replay, deeds, postings, object_events, put_events, writes, past_after, read_events, first_past, IsEntry, Legal, more, IsQuiet, more_by, repeat, is_refused, maker, server_after}}
use Rattle.peer_core.specs.{History.{Event, Received, Passed, PeerClosed, Put, Wrote, WriteFailed, Main, Did, OnBus, Named, no_past, Past, after, after_all}, Issuing.puts}
use Rattle.peer_calls.specs.{History.{Purpose, OfLane}, Issuing.Posting}
use Rattle.peer_streams.specs.History.{Gave}
use Rattle.peer_words.specs.OfRun.{IsOfRun}
use Rattle.wire_message.proofs.Edits.{all_weaker}
use Rattle.peer_route.proofs.Plans.{IsDeed, AreDeeds, along, along_entry, is_live, takes, Gives, IsOwn, IsFair, fair}

-- ---- what every event keeps

pub every : (P : Past → Type 0) → ((e : Event) (h : Past) → P h → P (after e h)) → (es : List Event) (h : Past) → P h → P (after_all es h)
every P keeps [] h so = so
every P keeps (e ∷ es) h so = every P keeps es (after e h) (keeps e h so)

pub every_entry : (P : Past → Type 0) → ((e : Event) (h : Past) → P h → P (after e h)) → (pl : Plan) (e : Entry) (h : Past) → P h → P (past_after pl e h)
every_entry P keeps pl e h so = every P keeps (writes e) _ (every P keeps (put_events pl e) _ (every P keeps (deeds pl e) h so))

-- what the start keeps
pub at_start : (P : Past → Type 0) → P no_past → ((limit : ℕ) (h : Past) → P h → P (after (Main limit) h)) → ((h : Past) → P h → P (after OnBus h)) → ((name : List ℕ) (h : Past) → P h → P (after (Named name) h)) → (setting : Setting) → P (first_past setting)
at_start P so main bus named setting = name_so setting.name _ (bus_so setting.bus _ (queue_so setting.queue))
  where
    queue_so : (limit : Option ℕ) → P (after_all (option_to_list (option_map Main limit)) no_past)
    queue_so None = so
    queue_so (Some limit) = main limit no_past so

    bus_so : (b : Bool) (h : Past) → P h → P (after_all (if b then OnBus ∷ [] else []) h)
    bus_so false h is = is
    bus_so true h is = bus h is

    name_so : (given : Option (List ℕ)) (h : Past) → P h → P (after_all (option_to_list (option_map Named given)) h)
    name_so None h is = is
    name_so (Some given) h is = named given h is

-- what every event keeps holds after any entries
pub always : (P : Past → Type 0) → P no_past → ((e : Event) (h : Past) → P h → P (after e h)) → (setting : Setting) (es : List Entry) → P (replay setting es).past
always P so keeps setting [] = at_start P so (λ limit. keeps (Main limit)) (keeps OnBus) (λ name. keeps (Named name)) setting
always P so keeps setting (e ∷ es) = let t = replay setting es in every_entry P keeps (plan t e.lane e.words) e t.past (always P so keeps setting es)

-- what every event keeps is so behind further entries
pub since : (P : Past → Type 0) → ((e : Event) (h : Past) → P h → P (after e h)) → (setting : Setting) (newer older : List Entry) → P (replay setting older).past → P (replay setting (newer ++ older)).past
since P keeps setting [] older so = so
since P keeps setting (e ∷ newer) older so = let t = replay setting (newer ++ older) in every_entry P keeps (plan t e.lane e.words) e t.past (since P keeps setting newer older so)

-- what legal entries keep is so behind all of them, and what follows from it is so of each
pub later : (setting : Setting) (P : Replay → Type 0) (Q : Entry → Type 0) → ((t : Replay) (e : Entry) → IsEntry t e → P t → P (more t e) × Q e) → (newer older : List Entry) → Legal setting (newer ++ older)
    → P (replay setting older) → P (replay setting (newer ++ older)) × AllByRecursion Q newer
later setting P Q step [] older legal so = (so, tt)
later setting P Q step (e ∷ newer) older legal so =
    let rest = later setting P Q step newer older legal.1 so in
    let now = step (replay setting (newer ++ older)) e legal.0 rest.0 in
    (now.0, (now.1, rest.1))

-- ---- what some events keep

-- it changes nothing of this
abbrev pub Keeps : {X : Type 0} → (Past → X) → Event → Type 0
Keeps f e = (h : Past) → f (after e h) ≡ f h

pub kept_by : {X : Type 0} (f : Past → X) (es : List Event) (h : Past) → AllByRecursion (Keeps f) es → f (after_all es h) ≡ f h
kept_by f es h all = along (λ q. f q ≡ f h) (Keeps f) (λ e q keeps so. keeps q ∙ so) es h all refl

pub deeds_are : (Is : Event → Type 0) → ((e : Event) → IsDeed e → Is e) → (es : List Event) → AreDeeds es → AllByRecursion Is es
deeds_are Is deed = all_weaker IsDeed Is deed

pub puts_are : (Is : Event → Type 0) → ((m : MessageView) (purpose : Purpose) → Is (Put m purpose)) → (ds : List Posting) (ms : List MessageView) → AllByRecursion Is (puts ds ms)
puts_are Is put [] ms = tt
puts_are Is put (d ∷ ds) [] = tt
puts_are Is put (d ∷ ds) (m ∷ ms) = (put m d.purpose, puts_are Is put ds ms)

objects_are : (Is : Event → Type 0) → ((m : MessageView) (purpose : Purpose) → Is (Put m purpose)) → (ms : List MessageView) → AllByRecursion Is (object_events ms)
objects_are Is put [] = tt
objects_are Is put (m ∷ ms) = (put m (OfLane false), objects_are Is put ms)

pub put_events_are : (Is : Event → Type 0) → ((m : MessageView) (purpose : Purpose) → Is (Put m purpose)) → (pl : Plan) (e : Entry) → AllByRecursion Is (put_events pl e)
put_events_are Is put (Serves said done) e = objects_are Is put e.put
put_events_are Is put (Dispatches k m) e = objects_are Is put e.put
put_events_are Is put pl e = puts_are Is put (postings pl) e.put

pub entry_keeps : {X : Type 0} (f : Past → X) (pl : Plan) (e : Entry) (h : Past) → AllByRecursion (Keeps f) (deeds pl e) → ((m : MessageView) (purpose : Purpose) → Keeps f (Put m purpose)) → Keeps f Wrote → Keeps f WriteFailed → f (past_after pl e h) ≡ f h
entry_keeps f pl e h done put wrote fault =
    along_entry (λ q. f q ≡ f h) (Keeps f) (λ x q keeps so. keeps q ∙ so) pl e h done (put_events_are (Keeps f) put pl e) wrote fault refl

pub of_run : (w : Words) → IsOfRun w → is_live w ≡ false
of_run (Words.Live line) is = absurd is
of_run w is = refl

-- so it is of what a read takes: a message, or a front that it ignores
abbrev pub IsOfReads : (Event → Type 0) → Type 0
IsOfReads Is = ((m : MessageView) → Is (Received m)) × ((bytes : List ℕ) → Is (Passed bytes))

-- the deeds of a command: those that a plan says, what a read found, the closing, and a write
pub deeds_by : (Is : Event → Type 0) (t : Replay) (lane : ℕ) (e : Entry) (w : Words) → ((x : Event) → IsDeed x → Gives w x → Is x) → ((error : Error) → Is (PeerClosed error)) → (plan t lane w ≡ Reads → IsOfReads Is)
    → (is_live w ≡ true → Is Wrote × Is WriteFailed) → AllByRecursion Is (deeds (plan t lane w) e)
deeds_by Is t lane e w deed shut took live = by (plan t lane w) refl (fair t lane w)
  where
    read_all : IsOfReads Is → (m : Option MessageView) (a : Answer) → AllByRecursion Is (read_events m a)
    read_all took (Some m) a = (took.0 m, tt)
    read_all took None (Answer.Closed error) = (shut error, tt)
    read_all took None (Answer.Passed bytes) = (took.1 bytes, tt)
    read_all took None a = tt

    write_all : (fails : Bool) → Is Wrote × Is WriteFailed → AllByRecursion Is ((if fails then WriteFailed else Wrote) ∷ [])
    write_all true is = (is.1, tt)
    write_all false is = (is.0, tt)

    if_done : (refused : Bool) (done : List Event) → AllByRecursion (IsOwn w) done → AllByRecursion Is (if refused then [] else done)
    if_done true done only = tt
    if_done false done only = all_weaker (IsOwn w) Is (λ x is. deed x is.0 is.1) done only

    by : (pl : Plan) → plan t lane w ≡ pl → IsFair t w pl → AllByRecursion Is (deeds pl e)
    by (Says answer done) at f = all_weaker (IsOwn w) Is (λ x is. deed x is.0 is.1) done f.only
    by (Sends done ds sent) at f = all_weaker (IsOwn w) Is (λ x is. deed x is.0 is.1) done f.0.only
    by Reads at f = read_all (took at) e.read e.answer
    by (Serves said done) at f = if_done (is_refused e.answer) done f.only
    by (Dispatches k m) at f = (deed (Did k Gave) tt (ap takes f.asked), tt)
    by Closes at f = (shut _, tt)
    by (Writes fails) at f = write_all fails (live f.0)
    by Never at f = tt

pub deeds_all : (Is : Event → Type 0) → ((e : Event) → IsDeed e → Is e) → ((error : Error) → Is (PeerClosed error)) → (t : Replay) (lane : ℕ) (e : Entry) (w : Words) → (plan t lane w ≡ Reads → IsOfReads Is)
    → (is_live w ≡ true → Is Wrote × Is WriteFailed) → AllByRecursion Is (deeds (plan t lane w) e)
deeds_all Is deed shut t lane e w took live = deeds_by Is t lane e w (λ x is gives. deed x is) shut took live

pub deed_outbox : (e : Event) → IsDeed e → (h : Past) → (after e h).outbox ≡ h.outbox
deed_outbox (Put m purpose) is h = absurd is
deed_outbox (PeerClosed error) is h = absurd is
deed_outbox Wrote is h = absurd is
deed_outbox WriteFailed is h = absurd is
deed_outbox e is h = refl

-- ---- where nothing is put or written

-- what is left where no message is put
no_messages : (ds : List Posting) (ms : List MessageView) (lane : ℕ) (failed : Bool) → ms ≡ [] → (puts ds ms ≡ []) × (new_owners lane failed ds ms ≡ []) × (asked_owners lane failed ds ms ≡ [])
no_messages [] ms lane failed e = (refl, refl, refl)
no_messages (d ∷ ds) [] lane failed e = (refl, refl, refl)
no_messages (d ∷ ds) (m ∷ ms) lane failed e = cc

no_writes : (n k : ℕ) (failed : Bool) → n ≡ 0 → failed ≡ false → repeat n Wrote ++ (if failed then repeat k WriteFailed else []) ≡ []
no_writes zero k true w f = cc
no_writes zero k false w f = refl
no_writes (suc n) k failed w f = cc

-- nothing is put where no message is
pub none_put_events : (pl : Plan) (e : Entry) → e.put ≡ [] → put_events pl e ≡ []
none_put_events (Serves said done) e none = ap object_events none
none_put_events (Dispatches k m) e none = ap object_events none
none_put_events pl e none = (no_messages (postings pl) e.put e.lane e.failed none).0

-- a quiet entry leaves the past as its deeds do
pub quiet_past : (pl : Plan) (e : Entry) (h : Past) → IsQuiet e → past_after pl e h ≡ after_all (deeds pl e) h
quiet_past pl e h q =
    ap (λ es. after_all es (after_all (put_events pl e) (after_all (deeds pl e) h))) (no_writes e.written _ e.failed q.written q.failed)
    ∙ ap (λ es. after_all es (after_all (deeds pl e) h)) (none_put_events pl e q.put)

-- and makes no call, and the streams that its deeds make
pub quiet_more : (pl : Plan) (e : Entry) (t : Replay) → IsQuiet e
    → more_by pl e t ≡ record {
      past = after_all (deeds pl e) t.past;
      calls = t.calls;
      streams = t.streams ++ made_owners (maker pl e.lane) (deeds pl e);
      server = server_after pl e.answer (length t.streams) t.server;
      setting = t.setting;
    }
quiet_more pl e t q =
    let streams = t.streams ++ made_owners (maker pl e.lane) (deeds pl e) in
    let server = server_after pl e.answer (length t.streams) t.server in
    let none = no_messages (postings pl) e.put e.lane e.failed q.put in
    ap (λ h. record { past = h; calls = t.calls ++ new_owners e.lane e.failed (postings pl) e.put; streams = streams ++ asked_owners e.lane e.failed (postings pl) e.put; server = server; setting = t.setting })
    (quiet_past pl e t.past q)
    ∙ ap (λ ns. record { past = after_all (deeds pl e) t.past; calls = ns; streams = streams ++ asked_owners e.lane e.failed (postings pl) e.put; server = server; setting = t.setting })
    (ap (λ ns. t.calls ++ ns) none.1 ∙ append-nil t.calls)
    ∙ ap (λ ns. record { past = after_all (deeds pl e) t.past; calls = t.calls; streams = ns; server = server; setting = t.setting }) (ap (λ ns. streams ++ ns) none.2 ∙ append-nil streams)

-- it is quiet and does nothing, and the object server has the stream that it had, if any
abbrev pub Idles : Replay → Plan → Entry → Type 0
Idles t pl e = IsQuiet e × (deeds pl e ≡ []) × (server_after pl e.answer (length t.streams) t.server ≡ t.server)

-- then it leaves all as it was
pub idle_more : (pl : Plan) (e : Entry) (t : Replay) → Idles t pl e → more_by pl e t ≡ t
idle_more pl e t q =
    let server = server_after pl e.answer (length t.streams) t.server in
    quiet_more pl e t q.0
    ∙ ap (λ es. record { past = after_all es t.past; calls = t.calls; streams = t.streams ++ made_owners (maker pl e.lane) es; server = server; setting = t.setting }) q.1
    ∙ ap (λ ns. record { past = t.past; calls = t.calls; streams = ns; server = server; setting = t.setting }) (append-nil t.streams)
    ∙ ap (λ s. record { past = t.past; calls = t.calls; streams = t.streams; server = s; setting = t.setting }) q.2

-- ---- messages
