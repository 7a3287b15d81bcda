-- What is kept of streams, and what it is after each event.
use Rattle.peer_streams.specs.Streams.{is_over as nothing_comes}
use Rattle.peer_streams.specs.{History.{Gone, done_by, Received, Loses, Made, Did, Plain, Cloned, Request, Stream, Phase, Asking, Denied, Since, asks_by, phase, fresh, plain_stream, fail_stream, clone_of, rule_of, StreamsPast, after}, Streams.{since_in, is_since, accepted, limit_of, matched, offered, held, is_full, runs, is_open, take_by, take_answer, first_position, next_message, next_position, limit_answer, rule_answer}, Names.{MessageView, Error, Rule, accepts}, Refinement.{StreamView, Wants, Standing, Active, gone_view, kept_by, kept, wanted, is_running, keeps_by, pushed, settled, lost, is_over, IsWithin, AreStreams, RefinesStreams}}
use Rattle.wire_message.specs.{Replying.{replies_to, is_return}, Plain.edit}
use Rattle.std.proofs.{Common.{◌≡◌, ℕ, ◌+◌, ◌<◌, ◌≤◌, suc, refl, sym, ◌∙◌, ap, arith, subst, Bool, true, false, not, cond, if◌then◌else◌, ◌&&◌, ◌||◌, ◌==◌, nat_lt, is_some, List, [], ◌∷◌, ◌++◌, length, drop, map, get_or, Option, Some, None, Result, Ok, Err, OnOk}, Math.Seq.{drop-length, drop-nil}, lemmas.List.{map-append, append-nil, drop-append-le, drop-drop}, lemmas.Option.{slice_get-map, slice_get_past, slice_get_read}, lemmas.Bool.ne_eqb, lemmas.Bool.Decides.nat_tests}
use Rattle.std.specs.{List.{slice_get, list_any, AllByRecursion}, Option.{option_map, option_and_then, unwrap_or}}
use Rattle.wire_message.proofs.{Plain.{map_along, map_each, list_any-map, list_any-along}, Edits.{map_edit_all, map_edit, edit-past, all_weaker, all_at, all_more, all_map, all_edit}}
use Rattle.peer_streams.proofs.{Matched.{stepped, phase_took, within_fresh, accepted_nothing, accepted-append, within_took}, Looks.{runs_at, take_at}}
use mathlib.Core.List.{map-map}

-- ---- what is kept of a stream that is open

-- what is known of it
pub record Runs (ms : List MessageView) (s : Stream) : Type 0 where
  pub still : s.gone ≡ false
  pub since : is_since (phase ms s) ≡ true

runs_by : (open_reported gone since : Bool) → (open_reported && (not gone && since)) ≡ true → (gone ≡ false) × (since ≡ true)
runs_by true true since e = cc
runs_by true false since e = (refl, e)
runs_by false gone since e = cc

pub runs_so : (h : StreamsPast) (s : Stream) → runs h.read s ≡ true → Runs h.read s
unfolding runs
runs_so h s e = let t = runs_by s.open_reported s.gone (is_since (phase h.read s)) e in record { still = t.0; since = t.1 }

-- by its rule and what it holds
abbrev pub open_held : (Rule → ℕ) → List MessageView → Stream → StreamView
open_held limits ms s = record { wants = option_map (wanted limits) s.rule; standing = Active; items = held ms s; closing_delivered = s.closing_delivered; open_reported = s.open_reported }

since_by : (limits : Rule → ℕ) (s : Stream) (gone : Bool) (p : Phase) → gone ≡ false → is_since p ≡ true
    → kept_by limits s gone p ≡ record { wants = option_map (wanted limits) s.rule; standing = Active; items = drop s.taken (drop s.skip (accepted s.rule (since_in p))); closing_delivered = s.closing_delivered; open_reported = s.open_reported }
since_by limits s false (Since ms) still since = refl
since_by limits s false (Asking add) still since = cc
since_by limits s false (Denied m) still since = cc
since_by limits s true p still since = cc

pub kept_runs : (limits : Rule → ℕ) (h : StreamsPast) (s : Stream) → runs h.read s ≡ true → kept limits h.read s ≡ open_held limits h.read s
unfolding kept held offered matched
kept_runs limits h s e = let is = runs_so h s e in since_by limits s s.gone (phase h.read s) is.still is.since

-- it is open
abbrev pub is_usable : StreamView → Bool
is_usable q = q.open_reported && is_running q.standing

usable_by : (limits : Rule → ℕ) (s : Stream) (gone : Bool) (p : Phase) → is_usable (kept_by limits s gone p) ≡ (s.open_reported && (not gone && is_since p))
usable_by limits s true p = no_by s.open_reported
  where
    no_by : (b : Bool) → false ≡ (b && false)
    no_by true = refl
    no_by false = refl
usable_by limits s false (Since ms) = refl
usable_by limits s false (Asking add) = refl
usable_by limits s false (Denied m) = refl

-- it can be used exactly where the stream is open
pub usable_runs : (limits : Rule → ℕ) (ms : List MessageView) (s : Stream) → is_usable (kept limits ms s) ≡ runs ms s
unfolding kept runs
usable_runs limits ms s = usable_by limits s s.gone (phase ms s)

-- ---- what stands at a place

at_by : {A B : Type 0} (f : A → B) (o : Option A) (y : B) → option_map f o ≡ Some y → (x : A) × (o ≡ Some x) × (y ≡ f x)
at_by f None y e = cc
at_by f (Some x) y e = (x, refl, cc)

none_by : {A B : Type 0} (f : A → B) (o : Option A) → option_map f o ≡ None → o ≡ None
none_by f None e = refl
none_by f (Some x) e = cc

-- what is read at a place is kept of the stream with that number
pub at_read : (v : List StreamView) (h : StreamsPast) (len k : ℕ) (q : StreamView) → RefinesStreams v h → len ≡ length v → k < len → q ≡ get_or v k q
    → (s : Stream) × (slice_get h.streams k ≡ Some s) × (q ≡ kept h.capacities.rules h.read s)
at_read v h len k q left all lt at =
    let K = kept h.capacities.rules h.read in
    at_by K (slice_get h.streams k) q (sym (slice_get-map K h.streams k) ∙ ap (λ qs. slice_get qs k) (sym left.shown) ∙ slice_get_read v len k q all lt at)

pub past_read : (v : List StreamView) (h : StreamsPast) (len k : ℕ) → RefinesStreams v h → len ≡ length v → len ≤ k → slice_get h.streams k ≡ None
past_read v h len k left all le =
    let K = kept h.capacities.rules h.read in
    none_by K (slice_get h.streams k) (sym (slice_get-map K h.streams k) ∙ ap (λ qs. slice_get qs k) (sym left.shown) ∙ slice_get_past v k (omega (arith, all, le)))

-- what is kept of a stream that may be there, where it is open
abbrev pub kept_open : (Rule → ℕ) → List MessageView → Option Stream → Option StreamView
kept_open limits ms o = option_and_then (λ s. if runs ms s then Some (kept limits ms s) else None) o

abbrev pub if_usable : StreamView → Option StreamView
if_usable q = if is_usable q then Some q else None

found_at : (h : StreamsPast) (o : Option Stream) → option_and_then if_usable (option_map (kept h.capacities.rules h.read) o) ≡ kept_open h.capacities.rules h.read o
found_at h None = refl
found_at h (Some s) = ap (λ b. if b then Some (kept h.capacities.rules h.read s) else None) (usable_runs h.capacities.rules h.read s)

-- what is found at a place is what is kept of the stream there, where that is open
pub found_left : (v : List StreamView) (h : StreamsPast) (k : ℕ) (o : Option StreamView) → RefinesStreams v h → slice_get v k ≡ o → option_and_then if_usable o ≡ kept_open h.capacities.rules h.read (slice_get h.streams k)
found_left v h k o left at =
    let K = kept h.capacities.rules h.read in
    ap (option_and_then if_usable) (sym at ∙ ap (λ qs. slice_get qs k) left.shown ∙ slice_get-map K h.streams k) ∙ found_at h (slice_get h.streams k)

-- ---- look-ups

-- what is read of it
abbrev pub read_of : {X : Type 0} → X → (StreamView → X) → Option StreamView → X
read_of none f None = none
read_of none f (Some q) = f q

read_by : {X : Type 0} (none : X) (f : StreamView → X) (h : StreamsPast) (s : Stream) (b : Bool) → runs h.read s ≡ b
    → read_of none f (if b then Some (kept h.capacities.rules h.read s) else None) ≡ (if b then f (open_held h.capacities.rules h.read s) else none)
read_by none f h s true e = ap f (kept_runs h.capacities.rules h s e)
read_by none f h s false e = refl

there_of : (h : StreamsPast) (o : Option Stream) → read_of false (λ _. true) (kept_open h.capacities.rules h.read o) ≡ runs_at h.read o
there_of h None = refl
there_of h (Some s) = read_by false (λ q. true) h s (runs h.read s) refl ∙ by (runs h.read s)
  where
    by : (b : Bool) → (if b then true else false) ≡ b
    by true = refl
    by false = refl

pub there_so : (h : StreamsPast) (k : ℕ) (r : Option StreamView) → r ≡ kept_open h.capacities.rules h.read (slice_get h.streams k) → read_of false (λ _. true) r ≡ is_open h k
unfolding is_open
there_so h k r e = ap (read_of false (λ _. true)) e ∙ there_of h (slice_get h.streams k)

next_of : (h : StreamsPast) (o : Option Stream) → read_of None (λ q. slice_get q.items 0) (kept_open h.capacities.rules h.read o) ≡ option_and_then (λ s. if runs h.read s then slice_get (held h.read s) 0 else None) o
next_of h None = refl
next_of h (Some s) = read_by None (λ q. slice_get q.items 0) h s (runs h.read s) refl

pub next_so : (h : StreamsPast) (k : ℕ) (r : Option StreamView) → r ≡ kept_open h.capacities.rules h.read (slice_get h.streams k) → read_of None (λ q. slice_get q.items 0) r ≡ next_message h k
unfolding next_message
next_so h k r e = ap (read_of None (λ q. slice_get q.items 0)) e ∙ next_of h (slice_get h.streams k)

position_by : (b : Bool) (ms : List MessageView) → option_map (λ (m : MessageView). m.position) (if b then slice_get ms 0 else None) ≡ (if b then first_position ms else None)
position_by true ms = refl
position_by false ms = refl

position_of : (h : StreamsPast) (o : Option Stream) → option_map (λ (m : MessageView). m.position) (option_and_then (λ s. if runs h.read s then slice_get (held h.read s) 0 else None) o) ≡ option_and_then (λ s. if runs h.read s then first_position (held h.read s) else None) o
position_of h None = refl
position_of h (Some s) = position_by (runs h.read s) (held h.read s)

pub next_positions : (h : StreamsPast) (k : ℕ) → option_map (λ (m : MessageView). m.position) (next_message h k) ≡ next_position h k
unfolding next_message next_position
next_positions h k = position_of h (slice_get h.streams k)

-- the rule of what is kept
abbrev pub rule_kept : Option Wants → Option Rule
rule_kept w = option_map (λ (s : Wants). s.rule) w

pub rule_by : (limits : Rule → ℕ) (o : Option Rule) → rule_kept (option_map (wanted limits) o) ≡ o
rule_by limits None = refl
rule_by limits (Some rule) = refl

rule_of_open : (h : StreamsPast) (o : Option Stream) → read_of None (λ q. rule_kept q.wants) (kept_open h.capacities.rules h.read o) ≡ (if runs_at h.read o then rule_of o else None)
rule_of_open h None = refl
rule_of_open h (Some s) =
    read_by None (λ q. rule_kept q.wants) h s (runs h.read s) refl ∙ ap (λ o. if runs h.read s then o else None) (rule_by h.capacities.rules s.rule)

pub rule_so : (h : StreamsPast) (k : ℕ) (r : Option StreamView) → r ≡ kept_open h.capacities.rules h.read (slice_get h.streams k) → read_of None (λ q. rule_kept q.wants) r ≡ rule_answer h k
unfolding rule_answer is_open
rule_so h k r e = ap (read_of None (λ q. rule_kept q.wants)) e ∙ rule_of_open h (slice_get h.streams k)

-- how many messages a stream may hold: as many as its rule's may, or without a rule so many
abbrev pub limit_or : ℕ → Option Wants → ℕ
limit_or main w = unwrap_or (option_map (λ (s : Wants). s.limit) w) main

pub limit_by : (h : StreamsPast) (rule : Option Rule) → limit_or h.capacities.main (option_map (wanted h.capacities.rules) rule) ≡ limit_of h.capacities rule
limit_by h None = refl
limit_by h (Some rule) = refl

abbrev pub limit_shown : ℕ → Option StreamView → Result ℕ Error
limit_shown main r = read_of (Err Error.UnknownHandle) (λ q. Ok (limit_or main q.wants)) r

limit_of_open : (h : StreamsPast) (o : Option Stream) → limit_shown h.capacities.main (kept_open h.capacities.rules h.read o) ≡ (if runs_at h.read o then Ok (limit_of h.capacities (rule_of o)) else Err Error.UnknownHandle)
limit_of_open h None = refl
limit_of_open h (Some s) =
    read_by (Err Error.UnknownHandle) (λ q. Ok (limit_or h.capacities.main q.wants)) h s (runs h.read s) refl
    ∙ ap (λ n. if runs h.read s then Ok n else Err Error.UnknownHandle) (limit_by h s.rule)

pub limit_so : (h : StreamsPast) (k main : ℕ) (r : Option StreamView) → r ≡ kept_open h.capacities.rules h.read (slice_get h.streams k) → main ≡ h.capacities.main → limit_shown main r ≡ limit_answer h k
unfolding limit_answer is_open
limit_so h k main r e is = ap (limit_shown main) e ∙ ap (λ n. limit_shown n (kept_open h.capacities.rules h.read (slice_get h.streams k))) is ∙ limit_of_open h (slice_get h.streams k)

ended_items : (items : List MessageView) (closing_delivered : Bool) (o : Option Error) → (is_some o && closing_delivered && (length items == 0)) ≡ nothing_comes (Ok (take_by items o closing_delivered))
ended_items (m ∷ ms) closing_delivered None = refl
ended_items (m ∷ ms) true (Some error) = ne_eqb (suc (length ms)) 0 (λ w. omega (arith, w))
ended_items (m ∷ ms) false (Some error) = refl
ended_items [] closing_delivered None = refl
ended_items [] true (Some error) = refl
ended_items [] false (Some error) = refl

-- nothing comes, on a peer that is closed or isn't
abbrev pub is_ended : Bool → Option StreamView → Bool
is_ended closed r = read_of true (λ q. closed && q.closing_delivered && (length q.items == 0)) r

ended_of : (h : StreamsPast) (o : Option Stream) → is_ended (is_some h.closing) (kept_open h.capacities.rules h.read o) ≡ nothing_comes (take_at h.read h.closing o)
ended_of h None = refl
ended_of h (Some s) = read_by true (λ q. is_some h.closing && q.closing_delivered && (length q.items == 0)) h s (runs h.read s) refl ∙ by (runs h.read s)
  where
    by : (b : Bool) → (if b then is_some h.closing && s.closing_delivered && (length (held h.read s) == 0) else true) ≡ nothing_comes (if b then Ok (take_by (held h.read s) h.closing s.closing_delivered) else Err Error.UnknownHandle)
    by true = ended_items (held h.read s) s.closing_delivered h.closing
    by false = refl

-- exactly where a take says so
pub ended_so : (h : StreamsPast) (k : ℕ) (closed : Bool) (r : Option StreamView) → r ≡ kept_open h.capacities.rules h.read (slice_get h.streams k) → closed ≡ is_some h.closing → is_ended closed r ≡ nothing_comes (take_answer h k)
unfolding take_answer
ended_so h k closed r e is = ap (is_ended closed) e ∙ ap (λ b. is_ended b (kept_open h.capacities.rules h.read (slice_get h.streams k))) is ∙ ended_of h (slice_get h.streams k)

take_of : (h : StreamsPast) (o : Option Stream) → read_of (Err Error.UnknownHandle) (λ q. Ok (take_by q.items h.closing q.closing_delivered)) (kept_open h.capacities.rules h.read o) ≡ take_at h.read h.closing o
take_of h None = refl
take_of h (Some s) = read_by (Err Error.UnknownHandle) (λ q. Ok (take_by q.items h.closing q.closing_delivered)) h s (runs h.read s) refl

-- what a take gives
pub take_so : (h : StreamsPast) (k : ℕ) (closing : Option Error) (r : Option StreamView) → r ≡ kept_open h.capacities.rules h.read (slice_get h.streams k) → closing ≡ h.closing
    → read_of (Err Error.UnknownHandle) (λ q. Ok (take_by q.items closing q.closing_delivered)) r ≡ take_answer h k
unfolding take_answer
take_so h k closing r e is =
    ap (λ (c : Option Error). read_of (Err Error.UnknownHandle) (λ q. Ok (take_by q.items c q.closing_delivered)) r) is
    ∙ ap (read_of (Err Error.UnknownHandle) (λ q. Ok (take_by q.items h.closing q.closing_delivered))) e ∙ take_of h (slice_get h.streams k)

pub some_of : {A : Type 0} (f : A → StreamView) (o : Option A) → is_some o ≡ read_of false (λ _. true) (option_map f o)
some_of f None = refl
some_of f (Some x) = refl

-- an open stream's rule is kept
pub open_rule_of : (h : StreamsPast) (k : ℕ) (s : Stream) (q : StreamView) → slice_get h.streams k ≡ Some s → q ≡ kept h.capacities.rules h.read s → is_open h k ≡ true → rule_kept q.wants ≡ rule_of (slice_get h.streams k)
unfolding is_open
open_rule_of h k s q at is there =
    let opens : runs h.read s ≡ true = sym (ap (runs_at h.read) at) ∙ there in
    ap (λ (x : StreamView). rule_kept x.wants) (is ∙ kept_runs h.capacities.rules h s opens) ∙ rule_by h.capacities.rules s.rule ∙ ap rule_of (sym at)

pub not_past : (h : StreamsPast) (k : ℕ) → slice_get h.streams k ≡ None → is_open h k ≡ false
unfolding is_open
not_past h k at = ap (runs_at h.read) at

-- where one that can be used was found, the stream is open
pub found_so : (h : StreamsPast) (o : Option Stream) (q : StreamView) → Some q ≡ kept_open h.capacities.rules h.read o → (s : Stream) × (o ≡ Some s) × (runs h.read s ≡ true) × (q ≡ kept h.capacities.rules h.read s)
found_so h None q e = cc
found_so h (Some s) q e = let x = by (runs h.read s) refl e in (s, refl, x.0, x.1)
  where
    by : (b : Bool) → runs h.read s ≡ b → Some q ≡ (if b then Some (kept h.capacities.rules h.read s) else None) → (runs h.read s ≡ true) × (q ≡ kept h.capacities.rules h.read s)
    by true is x = (is, cc)
    by false is x = cc

-- ---- full streams

-- what holds nothing isn't over
none_over : (n : ℕ) → nat_lt n 0 ≡ false
none_over n = grind (arith, nat_tests)

nothing_held : (s : Stream) → drop s.taken (drop s.skip (accepted s.rule [])) ≡ []
nothing_held s = ap (λ ms. drop s.taken (drop s.skip ms)) (accepted_nothing s.rule) ∙ ap (drop s.taken) (drop-nil s.skip) ∙ drop-nil s.taken

over_none : (h : StreamsPast) (s : Stream) → false ≡ nat_lt (limit_of h.capacities s.rule) (length (drop s.taken (drop s.skip (accepted s.rule []))))
over_none h s = sym (ap (λ (ms : List MessageView). nat_lt (limit_of h.capacities s.rule) (length ms)) (nothing_held s) ∙ none_over (limit_of h.capacities s.rule))

over_by : (h : StreamsPast) (s : Stream) (gone : Bool) (p : Phase)
    → is_over h.capacities.main (kept_by h.capacities.rules s gone p) ≡ (not gone && nat_lt (limit_of h.capacities s.rule) (length (drop s.taken (drop s.skip (accepted s.rule (since_in p))))))
over_by h s true p = refl
over_by h s false (Since ms) = ap (λ n. nat_lt n (length (drop s.taken (drop s.skip (accepted s.rule ms))))) (limit_by h s.rule)
over_by h s false (Asking add) = over_none h s
over_by h s false (Denied m) = over_none h s

over_full : (h : StreamsPast) (s : Stream) → is_over h.capacities.main (kept h.capacities.rules h.read s) ≡ is_full h.capacities h.read s
unfolding kept is_full held offered matched
over_full h s = over_by h s s.gone (phase h.read s)

pub over_any : (v : List StreamView) (h : StreamsPast) → RefinesStreams v h → list_any (is_over h.capacities.main) v ≡ list_any (is_full h.capacities h.read) h.streams
over_any v h left =
    ap (list_any (is_over h.capacities.main)) left.shown ∙ list_any-map (is_over h.capacities.main) (kept h.capacities.rules h.read) h.streams
    ∙ list_any-along (λ s. is_over h.capacities.main (kept h.capacities.rules h.read s)) (is_full h.capacities h.read) (over_full h) h.streams

-- ---- a message comes

items_more : (s : Stream) (ms : List MessageView) (m : MessageView) → s.skip + s.taken ≤ length (accepted s.rule ms)
    → drop s.taken (drop s.skip (accepted s.rule (ms ++ m ∷ []))) ≡ drop s.taken (drop s.skip (accepted s.rule ms)) ++ accepted s.rule (m ∷ [])
items_more s ms m le =
    drop-drop s.taken s.skip (accepted s.rule (ms ++ m ∷ [])) ∙ ap (drop (s.skip + s.taken)) (accepted-append s.rule ms (m ∷ []))
    ∙ drop-append-le (s.skip + s.taken) (accepted s.rule ms) (accepted s.rule (m ∷ [])) le
    ∙ ap (λ xs. xs ++ accepted s.rule (m ∷ [])) (sym (drop-drop s.taken s.skip (accepted s.rule ms)))

accepted_one : (limits : Rule → ℕ) (o : Option Rule) (m : MessageView) → accepted o (m ∷ []) ≡ (if keeps_by Active (option_map (wanted limits) o) m then m ∷ [] else [])
accepted_one limits None m = refl
accepted_one limits (Some rule) m = by (accepts rule m)
  where
    by : (b : Bool) → cond b (m ∷ []) [] ≡ (if b then m ∷ [] else [])
    by true = refl
    by false = refl

-- a stream once the message came: it is pushed, and then settled
abbrev pub arrived_at : MessageView → StreamView → StreamView
arrived_at m q = settled m (pushed m q)

took_since : (limits : Rule → ℕ) (s : Stream) (m : MessageView) (ms : List MessageView) (b : Bool) → keeps_by Active (option_map (wanted limits) s.rule) m ≡ b → s.skip + s.taken ≤ length (accepted s.rule ms)
    → kept_by limits s false (Since (ms ++ m ∷ [])) ≡ arrived_at m (kept_by limits s false (Since ms))
took_since limits s m ms true e le =
    rw e (ap (λ xs. record (kept_by limits s false (Since ms)) { items = xs })
    (items_more s ms m le ∙ ap (λ xs. drop s.taken (drop s.skip (accepted s.rule ms)) ++ xs) (accepted_one limits s.rule m ∙ ap (λ b. if b then m ∷ [] else []) e)))
took_since limits s m ms false e le =
    rw e (ap (λ xs. record (kept_by limits s false (Since ms)) { items = xs })
    (items_more s ms m le ∙ ap (λ xs. drop s.taken (drop s.skip (accepted s.rule ms)) ++ xs) (accepted_one limits s.rule m ∙ ap (λ b. if b then m ∷ [] else []) e)
    ∙ append-nil (drop s.taken (drop s.skip (accepted s.rule ms)))))

took_asking : (limits : Rule → ℕ) (s : Stream) (m : MessageView) (add : Request) (b r : Bool) → replies_to add.serial m ≡ b → is_return m.kind ≡ r
    → kept_by limits s false (stepped m (Asking add)) ≡ arrived_at m (kept_by limits s false (Asking add))
took_asking limits s m add true true e f = rw (e, f) (ap (λ xs. record (kept_by limits s false (Since [])) { items = xs }) (nothing_held s))
took_asking limits s m add true false e f = rw (e, f) refl
took_asking limits s m add false r e f = rw e refl

took_by : (limits : Rule → ℕ) (s : Stream) (m : MessageView) (gone : Bool) (p : Phase) → s.skip + s.taken ≤ length (accepted s.rule (since_in p))
    → kept_by limits s gone (stepped m p) ≡ arrived_at m (kept_by limits s gone p)
took_by limits s m true p le = refl
took_by limits s m false (Since ms) le = took_since limits s m ms (keeps_by Active (option_map (wanted limits) s.rule) m) refl le
took_by limits s m false (Asking add) le = took_asking limits s m add (replies_to add.serial m) (is_return m.kind) refl refl
took_by limits s m false (Denied r) le = refl

kept_took : (m : MessageView) (h : StreamsPast) (s : Stream) → IsWithin h.read s → kept h.capacities.rules (after (Received m) h).read s ≡ arrived_at m (kept h.capacities.rules h.read s)
unfolding kept matched
kept_took m h s within =
    ap (kept_by h.capacities.rules s s.gone) (phase_took m h s within.start) ∙ took_by h.capacities.rules s m s.gone (phase h.read s) within.passed

pub streams_took : (m : MessageView) (v : List StreamView) (h : StreamsPast) → RefinesStreams v h → RefinesStreams (map (settled m) (map (pushed m) v)) (after (Received m) h)
streams_took m v h left = record {
  shown = map-map (settled m) (pushed m) v ∙ ap (map (arrived_at m)) left.shown ∙ map-map (arrived_at m) (kept h.capacities.rules h.read) h.streams
      ∙ map_along (IsWithin h.read) _ (kept h.capacities.rules (after (Received m) h).read) (λ s w. sym (kept_took m h s w)) h.streams left.within;
  within = all_weaker (IsWithin h.read) (IsWithin (after (Received m) h).read) (within_took m h) h.streams left.within;
}

-- ---- a write fails

lost_asking : (limits : Rule → ℕ) (s : Stream) (add : Request) (b : Bool) → kept_by limits s b (Asking add) ≡ (if b then gone_view else kept_by limits s false (Asking add))
lost_asking limits s add true = refl
lost_asking limits s add false = refl

lost_of : (limits : Rule → ℕ) (s : Stream) (n : ℕ) (gone : Bool) (p : Phase)
    → kept_by limits s (gone || asks_by n p) p ≡ lost n (kept_by limits s gone p)
lost_of limits s n true p = refl
lost_of limits s n false (Since ms) = refl
lost_of limits s n false (Denied m) = refl
lost_of limits s n false (Asking add) = lost_asking limits s add (add.index == n)

kept_failed : (limits : Rule → ℕ) (ms : List MessageView) (n : ℕ) (s : Stream) → kept limits ms (fail_stream ms n s) ≡ lost n (kept limits ms s)
unfolding kept phase
kept_failed limits ms n s = lost_of limits s n s.gone (phase ms s)

pub fail_within : (h : StreamsPast) (n : ℕ) (s : Stream) → IsWithin h.read s → IsWithin h.read (fail_stream h.read n s)
unfolding matched phase
fail_within h n s w = record { start = w.start; passed = w.passed }

pub streams_lost : (v : List StreamView) (h : StreamsPast) (n : ℕ) → RefinesStreams v h → RefinesStreams (map (lost n) v) (after (Loses n) h)
streams_lost v h n left =
    let K = kept h.capacities.rules h.read in record {
      shown = ap (map (lost n)) left.shown ∙ map-map (lost n) K h.streams
          ∙ map_each _ (λ s. K (fail_stream h.read n s)) (λ s. sym (kept_failed h.capacities.rules h.read n s)) h.streams
          ∙ sym (map-map K (fail_stream h.read n) h.streams);
      within = all_map (IsWithin h.read) (IsWithin h.read) (fail_stream h.read n) (fail_within h n) h.streams left.within;
    }

-- ---- a stream is made

-- nothing that was read is a new stream's
pub held_fresh : (h : StreamsPast) (rule : Option Rule) (closing_delivered : Bool) → held h.read (fresh h rule closing_delivered) ≡ []
unfolding held offered matched phase
held_fresh h rule closing_delivered = ap (accepted rule) (drop-length h.read) ∙ accepted_nothing rule

-- what a new stream is kept by; one that runs is open
abbrev pub new_held : Option Wants → Standing → Bool → StreamView
new_held wants standing closing_delivered = record { wants = wants; standing = standing; items = []; closing_delivered = closing_delivered; open_reported = is_running standing }

pub kept_fresh : (limits : Rule → ℕ) (h : StreamsPast) (rule : Option Rule) (closing_delivered : Bool) → kept limits h.read (fresh h rule closing_delivered) ≡ new_held (option_map (wanted limits) rule) Active closing_delivered
unfolding kept phase
kept_fresh limits h rule closing_delivered =
    ap (λ (xs : List MessageView). record (new_held (option_map (wanted limits) rule) Active closing_delivered) { items = xs }) (ap (accepted rule) (drop-length h.read) ∙ accepted_nothing rule)

-- one stream more
pub streams_more : (v : List StreamView) (limits : Rule → ℕ) (h : StreamsPast) (s : Stream) (q : StreamView) → kept limits h.read s ≡ q → IsWithin h.read s → AreStreams v limits h.read h.streams
    → AreStreams (v ++ q ∷ []) limits h.read (h.streams ++ s ∷ [])
streams_more v limits h s q is within left = record {
  shown = ap (λ qs. qs ++ q ∷ []) left.shown ∙ ap (λ x. map (kept limits h.read) h.streams ++ x ∷ []) (sym is) ∙ sym (map-append (kept limits h.read) h.streams (s ∷ []));
  within = all_more (IsWithin h.read) h.streams s left.within within;
}

pub streams_made : (v : List StreamView) (h : StreamsPast) → RefinesStreams v h → RefinesStreams (v ++ new_held None Active (is_some h.closing) ∷ []) (after (Made Plain) h)
streams_made v h left =
    streams_more v h.capacities.rules h (plain_stream h) _ (kept_fresh h.capacities.rules h None (is_some h.closing)) (within_fresh h None (is_some h.closing)) left

-- ---- a clone is made

pub clone_within : (h : StreamsPast) (s : Stream) → IsWithin h.read s → IsWithin h.read (clone_of h (Some s))
unfolding matched phase
clone_within h s w = record { start = w.start; passed = let le = w.passed in omega arith }

clone_by : (limits : Rule → ℕ) (s : Stream) (gone : Bool) (p : Phase) → gone ≡ false → is_since p ≡ true → kept_by limits (record s { skip = s.skip + s.taken; taken = 0; gone = false }) false p ≡ kept_by limits s gone p
clone_by limits s false (Since ms) still since = ap (λ xs. record (kept_by limits s false (Since ms)) { items = xs }) (sym (drop-drop s.taken s.skip (accepted s.rule ms)))
clone_by limits s false (Asking add) still since = cc
clone_by limits s false (Denied m) still since = cc
clone_by limits s true p still since = cc

kept_clone : (limits : Rule → ℕ) (h : StreamsPast) (s : Stream) → runs h.read s ≡ true → kept limits h.read (clone_of h (Some s)) ≡ kept limits h.read s
unfolding kept phase
kept_clone limits h s e = let is = runs_so h s e in clone_by limits s s.gone (phase h.read s) is.still is.since

-- a stream more that holds what an open one holds
pub streams_cloned : (k : ℕ) (v : List StreamView) (h : StreamsPast) (s : Stream) → slice_get h.streams k ≡ Some s → runs h.read s ≡ true → RefinesStreams v h
    → RefinesStreams (v ++ kept h.capacities.rules h.read s ∷ []) (after (Made (Cloned k)) h)
streams_cloned k v h s at e left =
    subst (λ o. AreStreams (v ++ kept h.capacities.rules h.read s ∷ []) h.capacities.rules h.read (h.streams ++ clone_of h o ∷ [])) (sym at)
    (streams_more v h.capacities.rules h (clone_of h (Some s)) _ (kept_clone h.capacities.rules h s e) (clone_within h s (all_at (IsWithin h.read) h.streams k s at left.within)) left)

-- ---- one stream changes

pub within_edit : (h : StreamsPast) (f : Stream → Stream) (ss : List Stream) (k : ℕ) (s : Stream) → slice_get ss k ≡ Some s → IsWithin h.read (f s) → AllByRecursion (IsWithin h.read) ss → AllByRecursion (IsWithin h.read) (edit k f ss)
within_edit h f ss k s at one w = all_edit (IsWithin h.read) f ss k (λ x is _. let q : Some s ≡ Some x = sym at ∙ is in let same : s ≡ x = cc in subst (λ y. IsWithin h.read (f y)) same one) w

-- what is kept of it changes so
pub edited : (v : List StreamView) (h : StreamsPast) (k : ℕ) (s : Stream) (f : Stream → Stream) (u : StreamView → StreamView) → slice_get h.streams k ≡ Some s
    → kept h.capacities.rules h.read (f s) ≡ u (kept h.capacities.rules h.read s) → IsWithin h.read (f s) → RefinesStreams v h
    → AreStreams (edit k u v) h.capacities.rules h.read (edit k f h.streams)
edited v h k s f u at one within left = record {
  shown = ap (edit k u) left.shown ∙ sym (map_edit (kept h.capacities.rules h.read) f u h.streams k s at one);
  within = within_edit h f h.streams k s at within left.within;
}

-- the stream is closed
pub kept_ended : (limits : Rule → ℕ) (ms : List MessageView) (s : Stream) → kept limits ms (done_by Gone s) ≡ gone_view
unfolding kept phase
kept_ended limits ms s = refl

end_within : (h : StreamsPast) (s : Stream) → IsWithin h.read s → IsWithin h.read (done_by Gone s)
unfolding matched phase
end_within h s w = record { start = w.start; passed = w.passed }

pub streams_ended : (k : ℕ) (v : List StreamView) (h : StreamsPast) → RefinesStreams v h → RefinesStreams (edit k (λ q. gone_view) v) (after (Did k Gone) h)
streams_ended k v h left = record {
  shown = ap (edit k (λ q. gone_view)) left.shown ∙ sym (map_edit_all (kept h.capacities.rules h.read) (done_by Gone) (λ q. gone_view) h.streams k (kept_ended h.capacities.rules h.read));
  within = all_edit (IsWithin h.read) (done_by Gone) h.streams k (λ s is w. end_within h s w) left.within;
}

-- a number past the last closes nothing
pub ended_past : (k : ℕ) (v : List StreamView) (h : StreamsPast) → slice_get h.streams k ≡ None → RefinesStreams v h → RefinesStreams v (after (Did k Gone) h)
ended_past k v h at left = subst (AreStreams v h.capacities.rules h.read) (sym (edit-past (done_by Gone) h.streams k at)) left

pub on_ok : {A E : Type 0} (r : Result A E) (P Q : Type 0) → (P → Q) → OnOk r P → OnOk r Q
on_ok (Ok x) P Q f p = f p
on_ok (Err e) P Q f p = p
