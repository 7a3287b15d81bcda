-- The bus is told which rules have no stream any more, and the streams are closed.
use Rattle.peer_streams.specs.Streams.{gone_if as streams_gone_if}
use Rattle.peer_streams.specs.{History.{is_subscribed, Gone, done_by, Stream, rule_of}, Refinement.{StreamView, RefinesStreams}}
use Rattle.peer_core.specs.{Asked.{may_be_signal, is_open, are_open, has_rule, leaves, asks_bus, leaving, gone_if, rule_answer, gone_events}, History.{Past, after_all, calls_of, streams_of}, Names.{Issued, Error, Rule, Spent}, Refinement.{RouteView, Refines}, Issuing.{put_each, issued, IssuesBy}, Placing.{RefinesPosts, PutsAll, IsMore}, BusCall.{tellings_of, last_of}, Unsubscribe.{MakesRemovals, MayClose, ClosesStreams}}
use Rattle.peer_streams.specs.Streams.{rule_answer as streams_rule_answer}
use Rattle.peer_calls.specs.{History.RemoveMatch, Issuing.Posting, Placing.posts}
use Rattle.wire_message.specs.{Plain.edit, Outgoing.OutgoingMessageView}
use Rattle.std.proofs.{Common.{rules, filter, is_none, option_to_list, ◌≡◌, ℕ, zero, suc, refl, sym, ◌∙◌, ap, subst, codes, Bool, true, false, not, ◌&&◌, ◌==◌, if◌then◌else◌, is_some, List, [], ◌∷◌, ◌++◌, map, Option, Some, None, Ok, Err, option_map, Result, ◌<◌, length, arith}, lemmas.List.map-append}
use Rattle.std.specs.List.{slice_get}
use Rattle.peer_calls.specs.Issuing.{issued as calls_issued}
use Rattle.peer_calls.proofs.Refusing.{drawn_length, issued_drawn, refusal_known}
use Rattle.peer_core.proofs.{Issues.{put_last, left_puts}, BusMessages.{match_posted, remove_match}}

-- ---- which rules

-- the past once this stream was closed, behind the one that goes before it, if one does
abbrev pub gone_behind : Option ℕ → ℕ → Past → Past
gone_behind before k h = gone_if (Some k) (gone_if before h)

-- the bus is asked by whether it serves the rule and whether the rule has a stream
pub asks_so : (h : Past) (rule : Rule) (serves has : Bool) → serves ≡ (h.bus && may_be_signal rule.kind) → has ≡ is_subscribed h.read h.streams rule → (serves && not has) ≡ asks_bus h rule
unfolding asks_bus
asks_so h rule serves has e f = rw (e, f) (by h.bus (may_be_signal rule.kind) (not (is_subscribed h.read h.streams rule)))
  where
    by : (a b c : Bool) → ((a && b) && c) ≡ (a && (b && c))
    by true b c = refl
    by false b c = refl

-- whether the bus has to be told of the rule
pub tell_so : (before : Option ℕ) (k : ℕ) (rule : Rule) (h : Past) (has : Bool) → h.closing ≡ None → (h.bus && may_be_signal rule.kind) ≡ true
    → has ≡ is_subscribed h.read (edit k (done_by Gone) (streams_gone_if before (streams_of h)).streams) rule
    → filter (λ r. is_none (gone_behind before k h).closing && asks_bus (gone_behind before k h) r) (rule ∷ []) ≡ (if not has then rule ∷ [] else [])
tell_so None k rule h has open_ serves e = rw (sym (asks_so (gone_behind None k h) rule true has (sym serves) e), open_) (by has)
  where
    by : (b : Bool) → filter (λ (r : Rule). true && (true && not b)) (rule ∷ []) ≡ (if not b then rule ∷ [] else [])
    by true = refl
    by false = refl
tell_so (Some j) k rule h has open_ serves e = rw (sym (asks_so (gone_behind (Some j) k h) rule true has (sym serves) e), open_) (by has)
  where
    by : (b : Bool) → filter (λ (r : Rule). true && (true && not b)) (rule ∷ []) ≡ (if not b then rule ∷ [] else [])
    by true = refl
    by false = refl

-- those of one rule, where there is one
abbrev pub leaves_by : Past → Option Rule → List Rule
leaves_by h o = filter (λ rule. is_none h.closing && asks_bus h rule) (option_to_list o)

rule_edit : (k j : ℕ) (xs : List Stream) → rule_of (slice_get (edit k (done_by Gone) xs) j) ≡ rule_of (slice_get xs j)
rule_edit k j [] = refl
rule_edit zero zero (x ∷ xs) = refl
rule_edit zero (suc j) (x ∷ xs) = refl
rule_edit (suc k) zero (x ∷ xs) = refl
rule_edit (suc k) (suc j) (x ∷ xs) = rule_edit k j xs

-- an open stream has its rule, also once it is closed
pub rule_so : (h : Past) (k : ℕ) (o : Option Rule) → o ≡ rule_answer h k → is_open h k ≡ true → o ≡ rule_of (slice_get h.streams k)
unfolding streams_rule_answer
rule_so h k o e there = e ∙ by (is_open h k) there
  where
    by : (b : Bool) → b ≡ true → (if b then rule_of (slice_get h.streams k) else None) ≡ rule_of (slice_get h.streams k)
    by true t = refl
    by false t = cc

rule_gone : (h : Past) (before : Option ℕ) (k : ℕ) → rule_of (slice_get (gone_behind before k h).streams k) ≡ rule_of (slice_get h.streams k)
rule_gone h None k = rule_edit k k h.streams
rule_gone h (Some j) k = rule_edit k k (edit j (done_by Gone) h.streams) ∙ rule_edit j k h.streams

pub leaves_so : (h : Past) (before : Option ℕ) (k : ℕ) (o : Option Rule) → o ≡ rule_answer h k → is_open h k ≡ true → leaves_by (gone_behind before k h) o ≡ leaves (gone_behind before k h) k
leaves_so h before k o e there = ap (leaves_by (gone_behind before k h)) (rule_so h k o e there ∙ sym (rule_gone h before k))

pub two_open : (h : Past) (k j : ℕ) → are_open h k (Some j) ≡ true → (is_open h k ≡ true) × (is_open h j ≡ true)
two_open h k j there = by (is_open h k) (is_open h j) (not (k == j)) there
  where
    by : (a b c : Bool) → ((a && b) && c) ≡ true → (a ≡ true) × (b ≡ true)
    by true true c e = (refl, refl)
    by true false c e = cc
    by false b c e = cc

pub first_open : (h : Past) (k : ℕ) (second : Option ℕ) → are_open h k second ≡ true → is_open h k ≡ true
first_open h k None there = there
first_open h k (Some j) there = (two_open h k j there).0

-- whether it has one
pub has_so : {A : Type 0} (f : A → Rule) (h : Past) (k : ℕ) (o : Option A) (b : Bool) → b ≡ is_some o → option_map f o ≡ rule_answer h k → is_open h k ≡ true → b ≡ has_rule h k
has_so {A} f h k o b e r there = e ∙ by o ∙ ap is_some (rule_so h k (option_map f o) r there)
  where
    by : (p : Option A) → is_some p ≡ is_some (option_map f p)
    by None = refl
    by (Some x) = refl

-- ---- the messages about them

abbrev removals : List Rule → List OutgoingMessageView
removals rules = map (remove_match None) rules

some_behind : (rs qs : List Rule) → 0 < length qs → 0 < length (rs ++ qs)
some_behind [] qs x = x
some_behind (rule ∷ rs) qs x = omega arith

some_before : (rs qs : List Rule) → 0 < length rs → 0 < length (rs ++ qs)
some_before [] qs x = absurd (omega (arith, x))
some_before (rule ∷ rs) qs x = omega arith

-- of the first stream, where there is a second
pub unmade_first : {A B : Type 0} (messages : A → List OutgoingMessageView) (others : B → List OutgoingMessageView) (before : List OutgoingMessageView) (h : Past) (k : ℕ) (second : Option ℕ) (error : Error) → MakesRemovals messages before (leaves (gone_behind None k h) k) (Err error)
    → MakesRemovals others [] (leaving h k second) (Err error)
unfolding leaving
unmade_first messages others before h k None Error.Memory x = x
unmade_first messages others before h k (Some j) Error.Memory x = some_before (leaves (gone_behind None k h) k) (leaves (gone_behind (Some k) j h) j) x
unmade_first messages others before h k second other x = absurd x

pub unmade_second : {A B : Type 0} (messages : A → List OutgoingMessageView) (others : B → List OutgoingMessageView) (before : List OutgoingMessageView) (h : Past) (k j : ℕ) (error : Error) → MakesRemovals messages before (leaves (gone_behind (Some k) j h) j) (Err error)
    → MakesRemovals others [] (leaving h k (Some j)) (Err error)
unfolding leaving
unmade_second messages others before h k j Error.Memory x = some_behind (leaves (gone_behind None k h) k) (leaves (gone_behind (Some k) j h) j) x
unmade_second messages others before h k j other x = absurd x

pub made_one : (h : Past) (k : ℕ) (ps : List OutgoingMessageView) → ps ≡ removals (leaves (gone_behind None k h) k) → ps ≡ removals (leaving h k None)
unfolding leaving
made_one h k ps e = e

pub made_two : (h : Past) (k j : ℕ) (ps qs : List OutgoingMessageView) → ps ≡ removals (leaves (gone_behind None k h) k) → qs ≡ ps ++ removals (leaves (gone_behind (Some k) j h) j) → qs ≡ removals (leaving h k (Some j))
unfolding leaving
made_two h k j ps qs e f =
    f ∙ ap (λ xs. xs ++ removals (leaves (gone_behind (Some k) j h) j)) e ∙ sym (map-append (remove_match None) (leaves (gone_behind None k h) k) (leaves (gone_behind (Some k) j h) j))

-- put as the peer's own they are those that tell the bus
told_posts : (h : Past) (name : Option (List ℕ)) (rules : List Rule) → name ≡ h.name → posts true name false (removals rules) ≡ tellings_of h rules
told_posts h name [] e = refl
told_posts h name (rule ∷ rules) e =
    ap (λ d. d ∷ posts true name false (removals rules)) (match_posted (codes "RemoveMatch") name rule)
    ∙ ap (λ n. record { outgoing = remove_match n rule; purpose = RemoveMatch } ∷ posts true name false (removals rules)) e
    ∙ ap (λ ds. record { outgoing = remove_match h.name rule; purpose = RemoveMatch } ∷ ds) (told_posts h name rules e)

-- ---- telling

-- what telling the bus of these rules gives, whatever streams there are
abbrev pub TellsPosts : RouteView → Past → List Rule → Result (Option ℕ) Error → Type 0
TellsPosts new h rules result = IssuesBy (λ last serials. last ≡ last_of serials) (0 < length rules) (RefinesPosts new) (tellings_of h rules) h result

-- the past once these streams were closed
abbrev pub gone_both : ℕ → Option ℕ → Past → Past
gone_both k j h = after_all (gone_events k j) h

pub gone_posts : (v : RouteView) (h : Past) (k : ℕ) (o : Option ℕ) → RefinesPosts v h → RefinesPosts v (gone_both k o h)
gone_posts v h k None left = record { counted = left.counted; placed = left.placed; name = left.name; writer = left.writer }
gone_posts v h k (Some j) left = record { counted = left.counted; placed = left.placed; name = left.name; writer = left.writer }

pub tells_none : (v : RouteView) (g : Past) (rules : List Rule) → removals rules ≡ [] → RefinesPosts v g → TellsPosts v g rules (Ok None)
unfolding calls_issued
tells_none v g [] e left = ([], refl, refl, left)
tells_none v g (rule ∷ rules) e left = cc

pub tells_put : {A : Type 0} (items : A → List Issued) (answer : A) (new : RouteView) (name : Option (List ℕ)) (g : Past) (rules : List Rule) (ps : List OutgoingMessageView) (last : ℕ) → ps ≡ removals rules → (ps ≡ [] → ⊥) → name ≡ g.name
    → last ≡ new.last → PutsAll items new (posts true name false ps) g (Ok answer) → TellsPosts new g rules (Ok (Some last))
tells_put items answer new name g [] ps last e some n f x = absurd (some e)
tells_put items answer new name g (rule ∷ rules) ps last e some n f x =
    let same = ap (posts true name false) e ∙ told_posts g name (rule ∷ rules) n in
    let put : issued g (tellings_of g (rule ∷ rules)) ≡ Ok x.0 = ap (issued g) (sym same) ∙ x.1 in
    let left = subst (λ ds. RefinesPosts new (put_each ds x.0 g)) same x.3 in
    let d : Posting = record { outgoing = remove_match g.name rule; purpose = RemoveMatch } in
    let drawn_ = issued_drawn (calls_of g) d (tellings_of g rules) x.0 put in
    (x.0, put, ap Some (f ∙ left.counted.1) ∙ put_last d (tellings_of g rules) x.0 g (drawn_length (calls_of g) (d ∷ tellings_of g rules) x.0 drawn_), left)

pub tells_not : {A : Type 0} (items : A → List Issued) (mid new : RouteView) (name : Option (List ℕ)) (g : Past) (rules : List Rule) (ps : List OutgoingMessageView) (error : Error) → ps ≡ removals rules → (ps ≡ [] → ⊥) → name ≡ g.name
    → PutsAll items mid (posts true name false ps) g (Err error) → TellsPosts new g rules (Err error)
tells_not items mid new name g [] ps error e some n x = absurd (some e)
tells_not items mid new name g (rule ∷ rules) ps Error.Memory e some n x = omega arith
tells_not items mid new name g (rule ∷ rules) ps other e some n x =
    let same = ap (posts true name false) e ∙ told_posts g name (rule ∷ rules) n in (ap (issued g) (sym same) ∙ x.0, omega arith)

pub tells_unmade : {A : Type 0} (messages : A → List OutgoingMessageView) (new : RouteView) (g : Past) (rules : List Rule) (error : Error) → MakesRemovals messages [] rules (Err error) → TellsPosts new g rules (Err error)
tells_unmade messages new g rules Error.Memory x = x
tells_unmade messages new g rules other x = absurd x

-- ---- the streams are closed

gone_left : (v : RouteView) (sv : List StreamView) (h : Past) (k : ℕ) (o : Option ℕ) → Refines v h → RefinesStreams sv (streams_of (gone_both k o h)) → Refines (record v { streams = sv }) (gone_both k o h)
gone_left v sv h k None left streams = search rules
gone_left v sv h k (Some j) left streams = search rules

-- by what is left of the calls and of the outbox, and of the streams
pub closes_gone : (v mid new : RouteView) (h : Past) (k : ℕ) (o last : Option ℕ) → Refines v h → MayClose h k o → IsMore v mid → new ≡ record mid { streams = new.streams } → RefinesStreams new.streams (streams_of (gone_both k o h))
    → TellsPosts mid (gone_both k o h) (leaving h k o) (Ok last) → ClosesStreams v new k o h (Spent.Gone last)
closes_gone v mid new h k o last left may more same ended x =
    let g = gone_both k o h in
    let told = told_posts g g.name (leaving h k o) refl in
    let w : RouteView = record v { streams = new.streams } in
    let whole : new ≡ record w { calls = new.calls; last = new.last; outbox = new.outbox; places = new.places } =
    same ∙ ap (λ (u : RouteView). record u { streams = new.streams }) more.same
    ∙ ap (λ (u : RouteView). record w { calls = u.calls; last = u.last; outbox = u.outbox; places = u.places }) (sym same) in
    let posts_ : RefinesPosts new (put_each (tellings_of g (leaving h k o)) x.0 g) = subst (λ (u : RouteView). RefinesPosts u (put_each (tellings_of g (leaving h k o)) x.0 g)) (sym same) (record { counted = x.3.counted; placed = x.3.placed; name = x.3.name; writer = x.3.writer }) in
    let left_ = left_puts w new true g.name false (removals (leaving h k o)) x.0 g (gone_left v new.streams h k o left ended) whole (subst (λ ds. RefinesPosts new (put_each ds x.0 g)) (sym told) posts_) in
    (may, (x.0, x.1, x.2, subst (λ ds. Refines new (put_each ds x.0 g)) told left_))

pub closes_over : (v mid new : RouteView) (h : Past) (k : ℕ) (o : Option ℕ) (error : Error) → Refines v h → MayClose h k o → new ≡ record v { streams = new.streams } → RefinesStreams new.streams (streams_of (gone_both k o h)) → (error ≡ Error.Memory → ⊥)
    → TellsPosts mid (gone_both k o h) (leaving h k o) (Err error) → ClosesStreams v new k o h (Spent.Over error)
closes_over v mid new h k o Error.UnknownHandle left may same ended some x = absurd (refusal_known (calls_of (gone_both k o h)) (tellings_of (gone_both k o h) (leaving h k o)) Error.UnknownHandle x.0)
closes_over v mid new h k o Error.Memory left may same ended some x = absurd (some refl)
closes_over v mid new h k o other left may same ended some x =
    (may, (x.0, subst (λ (u : RouteView). Refines u (gone_both k o h)) (sym same) (gone_left v new.streams h k o left ended)))
