-- Which streams hold more than they may, and how much the fullest holds, by the lists.
use Rattle.std.proofs.{Common.{◌≡◌, ℕ, zero, suc, ◌<◌, ◌≤◌, inl, inr, refl, sym, ◌∙◌, ap, arith, max, Bool, true, false, not, ◌&&◌, if◌then◌else◌, nat_lt, is_some, List, [], ◌∷◌, length, map, drop, Option, Some, None}, Math.Seq.drop-nil, lemmas.Bool.{cases_lt, cases_Bool, and_from, and_left, lt-ltb, le-ltb}}
use Rattle.std.specs.{List.{slice_get, list_any, fold}, Option.{option_map, option_eq}}
use Rattle.wire_message.proofs.Plain.{map_each}
use mathlib.Core.List.{map-map}
use Rattle.peer_streams.specs.{Names.{MessageView, Rule, StreamState, Progress}, Rules.is_same, History.{Stream, Phase, Asking, Denied, Since, phase, StreamsPast}, Streams.{since_in, accepted, matched, offered, held, held_count, stored}, Refinement.{StreamView, is_running, is_over, kept as kept_of, kept_by, RefinesStreams}, Keeping.{Parts, AreKept, state_at, held_of, messages_of, limit_at, shown, shown_by, wants_of, view_at, views, begun_by, stands_in}}
use Rattle.peer_streams.proofs.{OneRule.{one_rule, one_self}, Matched.accepted_nothing, Views.views_at, StreamsMade.{rule_kept, rule_by, limit_or}, LookedUp.{rule_of_wants, limit_of_wants}, HeldStreams.{any_there, none_there, view_there, held_made}}

-- ---- a stream that holds messages in a list takes them, and is of that list's rule

begun_active : (pr : Progress) → Some true ≡ begun_by pr → pr ≡ Progress.Active
begun_active (Progress.AwaitingReply serial index denial) e = cc
begun_active (Progress.Denied m) e = cc
begun_active Progress.Active e = refl

stands_by : (b : Bool) (pr : Progress) → Some true ≡ (if b then begun_by pr else None) → (b ≡ true) × (pr ≡ Progress.Active)
stands_by true pr e = (refl, begun_active pr e)
stands_by false pr e = cc

stands_active : (o : Option Rule) (known : Option StreamState) → Some true ≡ stands_in o known → (st : StreamState) × (known ≡ Some st) × (o ≡ st.rule) × (st.progress ≡ Progress.Active)
stands_active o None e = cc
stands_active o (Some st) e = let is = stands_by (option_eq is_same o st.rule) st.progress e in (st, refl, one_rule o st.rule is.0, is.1)

pub record Holds (p : Parts) (o : Option Rule) (k : ℕ) (ms : List MessageView) : Type 0 where
  pub made : k < p.made
  pub running : is_running (view_at p k).standing ≡ true
  pub wants : (view_at p k).wants ≡ wants_of p o
  pub items : (view_at p k).items ≡ ms

pub holds_so : {p : Parts} {waiting : List ℕ} → AreKept p waiting → (o : Option Rule) (k : ℕ) (ms : List MessageView) → held_of p.lists o k ≡ Some (Some ms) → Holds p o k ms
holds_so {p} {waiting} kept o k ms e =
    let is = stands_active o (state_at p k) (ap (option_map (λ (h : Option (List MessageView)). is_some h)) (sym e) ∙ kept.lists o k) in
    let st = is.0 in
    let view : view_at p k ≡ shown_by p k st Progress.Active = ap (shown p k) is.1 ∙ ap (shown_by p k st) is.3 in record {
      made = held_made kept o k (ap is_some e);
      running = ap (λ (q : StreamView). is_running q.standing) view;
      wants = ap (λ (q : StreamView). q.wants) view ∙ ap (wants_of p) (sym is.2);
      items = ap (λ (q : StreamView). q.items) view ∙ ap (λ r. messages_of (held_of p.lists r k)) (sym is.2) ∙ ap messages_of e;
    }

-- and what one that takes messages holds stands in the list of its rule
runs_by : (p : Parts) (k : ℕ) (st : StreamState) (pr : Progress) → is_running (shown_by p k st pr).standing ≡ true
    → (o : Option Rule) × ((shown_by p k st pr).wants ≡ wants_of p o) × ((shown_by p k st pr).items ≡ messages_of (held_of p.lists o k))
runs_by p k st (Progress.AwaitingReply serial index denial) e = cc
runs_by p k st (Progress.Denied m) e = cc
runs_by p k st Progress.Active e = (st.rule, refl, refl)

runs_in : (p : Parts) (k : ℕ) (known : Option StreamState) → is_running (shown p k known).standing ≡ true
    → (o : Option Rule) × ((shown p k known).wants ≡ wants_of p o) × ((shown p k known).items ≡ messages_of (held_of p.lists o k))
runs_in p k None e = cc
runs_in p k (Some st) e = runs_by p k st st.progress e

-- no more than is held
messages_le : (n : ℕ) (o : Option (Option (List MessageView))) → ((ms : List MessageView) → o ≡ Some (Some ms) → length ms ≤ n) → length (messages_of o) ≤ n
messages_le n None le = omega arith
messages_le n (Some None) le = omega arith
messages_le n (Some (Some ms)) le = le ms refl

-- ---- some stream is over

over_as : (p : Parts) (main k : ℕ) (o : Option Rule) (ms : List MessageView) (q : StreamView) → q.wants ≡ wants_of p o → q.items ≡ ms → nat_lt (limit_or main q.wants) (length q.items) ≡ nat_lt (limit_at p.lists main o) (length ms)
over_as p main k o ms q wants items =
    ap (λ w. nat_lt (limit_or main w) (length q.items)) wants ∙ ap (λ n. nat_lt n (length q.items)) (limit_of_wants p main o) ∙ ap (λ (xs : List MessageView). nat_lt (limit_at p.lists main o) (length xs)) items

not_over : (p : Parts) (main k : ℕ) → ((o : Option Rule) (ms : List MessageView) → held_of p.lists o k ≡ Some (Some ms) → length ms ≤ limit_at p.lists main o) → is_over main (view_at p k) ≡ false
not_over p main k within = elim (cases_Bool (is_running (view_at p k).standing)) as (λ _. is_over main (view_at p k) ≡ false) [
  | inl runs ↦
      let is = runs_in p k (state_at p k) runs in
      ap (λ b. b && nat_lt (limit_or main (view_at p k).wants) (length (view_at p k).items)) runs
      ∙ over_as p main k is.0 (messages_of (held_of p.lists is.0 k)) (view_at p k) is.1 is.2
      ∙ le-ltb (limit_at p.lists main is.0) (length (messages_of (held_of p.lists is.0 k))) (messages_le (limit_at p.lists main is.0) (held_of p.lists is.0 k) (within is.0))
  | inr stands ↦ and_left (is_running (view_at p k).standing) (nat_lt (limit_or main (view_at p k).wants) (length (view_at p k).items)) stands
]

-- exactly where one of the lists has one
pub over_lists : {p : Parts} {waiting : List ℕ} → AreKept p waiting → (v : List StreamView) → views p ≡ v → (main : ℕ) (b : Bool)
    → (b ≡ true → (o : Option Rule) × (k : ℕ) × (ms : List MessageView) × (held_of p.lists o k ≡ Some (Some ms)) × (limit_at p.lists main o < length ms))
    → (b ≡ false → (o : Option Rule) (k : ℕ) (ms : List MessageView) → held_of p.lists o k ≡ Some (Some ms) → length ms ≤ limit_at p.lists main o)
    → b ≡ list_any (is_over main) v
over_lists {p} {waiting} kept v view main true over within =
    let it = over refl in
    let k = it.1 in
    let is = holds_so kept it.0 k it.2 it.3 in
    sym (ap (list_any (is_over main)) (sym view)
    ∙ any_there (is_over main) (views p) k (view_at p k) (views_at p k is.made)
    (and_from (is_running (view_at p k).standing) (nat_lt (limit_or main (view_at p k).wants) (length (view_at p k).items)) is.running
    (over_as p main k it.0 it.2 (view_at p k) is.wants is.items ∙ lt-ltb (limit_at p.lists main it.0) (length it.2) it.4)))
over_lists {p} {waiting} kept v view main false over within =
    sym (ap (list_any (is_over main)) (sym view)
    ∙ none_there (is_over main) (views p) (λ k q at. ap (is_over main) (view_there p k q at) ∙ not_over p main k (λ o ms e. within refl o k ms e)))

-- ---- the fullest

-- how many messages are counted of what is kept of a stream
abbrev count_shown : Option Rule → StreamView → ℕ
count_shown o q = if is_running q.standing && option_eq is_same o (rule_kept q.wants) then length q.items else 0

nothing : (s : Stream) → drop s.taken (drop s.skip (accepted s.rule [])) ≡ []
nothing s = ap (λ ms. drop s.taken (drop s.skip ms)) (accepted_nothing s.rule) ∙ ap (drop s.taken) (drop-nil s.skip) ∙ drop-nil s.taken

none_counted : (b : Bool) (ms : List MessageView) → ms ≡ [] → (if b then length ms else 0) ≡ 0
none_counted true ms e = ap (λ (xs : List MessageView). length xs) e
none_counted false ms e = refl

counted_by : (limits : Rule → ℕ) (o : Option Rule) (s : Stream) (gone : Bool) (ph : Phase)
    → (if not gone && option_eq is_same o s.rule then length (drop s.taken (drop s.skip (accepted s.rule (since_in ph)))) else 0) ≡ count_shown o (kept_by limits s gone ph)
counted_by limits o s true ph = refl
counted_by limits o s false (Since ms) = ap (λ r. if option_eq is_same o r then length (drop s.taken (drop s.skip (accepted s.rule ms))) else 0) (sym (rule_by limits s.rule))
counted_by limits o s false (Asking add) = none_counted (option_eq is_same o s.rule) (drop s.taken (drop s.skip (accepted s.rule []))) (nothing s)
counted_by limits o s false (Denied m) = none_counted (option_eq is_same o s.rule) (drop s.taken (drop s.skip (accepted s.rule []))) (nothing s)

counted : (limits : Rule → ℕ) (ms : List MessageView) (o : Option Rule) (s : Stream) → held_count ms o s ≡ count_shown o (kept_of limits ms s)
unfolding kept_of held offered matched
counted limits ms o s = counted_by limits o s s.gone (phase ms s)

-- the largest of some numbers
max_le : {A : Type 0} (f : A → ℕ) (xs : List A) (a n : ℕ) → a ≤ n → ((k : ℕ) (x : A) → slice_get xs k ≡ Some x → f x ≤ n) → fold max a (map f xs) ≤ n
max_le f [] a n le all = le
max_le f (x ∷ xs) a n le all = max_le f xs (max a (f x)) n (omega (arith, le, all 0 x refl)) (λ k y at. all (suc k) y at)

max_ge : {A : Type 0} (f : A → ℕ) (xs : List A) (a : ℕ) → a ≤ fold max a (map f xs)
max_ge f [] a = omega arith
max_ge f (x ∷ xs) a = omega (arith, max_ge f xs (max a (f x)))

max_at : {A : Type 0} (f : A → ℕ) (xs : List A) (a k : ℕ) (x : A) → slice_get xs k ≡ Some x → f x ≤ fold max a (map f xs)
max_at f [] a k x at = cc
max_at f (y ∷ ys) a zero x at = let same : y ≡ x = cc in omega (arith, max_ge f ys (max a (f y)), ap f same)
max_at f (y ∷ ys) a (suc k) x at = max_at f ys (max a (f y)) k x at

largest : {A : Type 0} (f : A → ℕ) (xs : List A) (n : ℕ) → ((k : ℕ) (x : A) → slice_get xs k ≡ Some x → f x ≤ n) → (0 < n → (k : ℕ) × (x : A) × (slice_get xs k ≡ Some x) × (f x ≡ n)) → n ≡ fold max 0 (map f xs)
largest f xs n all reached =
    let above = max_le f xs 0 n (omega arith) all in elim (cases_lt 0 n) as (λ _. n ≡ fold max 0 (map f xs)) [
      | inl lt ↦ (let it = reached lt in omega (arith, above, max_at f xs 0 it.0 it.1 it.2, it.3))
      | inr le ↦ omega (arith, above, le)
    ]

if_le : (b c : Bool) (m n : ℕ) → (b ≡ true → c ≡ true → m ≤ n) → (if b && c then m else 0) ≤ n
if_le true true m n le = le refl refl
if_le true false m n le = omega arith
if_le false c m n le = omega arith

if_both : (b c : Bool) (m : ℕ) → b ≡ true → c ≡ true → (if b && c then m else 0) ≡ m
if_both true true m e f = refl
if_both true false m e f = cc
if_both false c m e f = cc

count_le : (p : Parts) (o : Option Rule) (k n : ℕ) → ((ms : List MessageView) → held_of p.lists o k ≡ Some (Some ms) → length ms ≤ n) → count_shown o (view_at p k) ≤ n
count_le p o k n within =
    if_le (is_running (view_at p k).standing) (option_eq is_same o (rule_kept (view_at p k).wants)) (length (view_at p k).items) n (λ runs same.
    let is = runs_in p k (state_at p k) runs in
    let mine : o ≡ is.0 = one_rule o is.0 (ap (option_eq is_same o) (sym (rule_of_wants p is.0) ∙ ap rule_kept (sym is.1)) ∙ same) in
    let items : length (view_at p k).items ≡ length (messages_of (held_of p.lists o k)) = ap (λ (xs : List MessageView). length xs) (is.2 ∙ ap (λ r. messages_of (held_of p.lists r k)) (sym mine)) in
    omega (arith, items, messages_le n (held_of p.lists o k) within))

-- What the fullest stream of a list holds is the most that a stream of its rule holds.
pub stored_lists : {p : Parts} {waiting : List ℕ} → AreKept p waiting → (v : List StreamView) → views p ≡ v → (h : StreamsPast) → RefinesStreams v h → (o : Option Rule) (n : ℕ)
    → ((k : ℕ) (ms : List MessageView) → held_of p.lists o k ≡ Some (Some ms) → length ms ≤ n)
    → (0 < n → (k : ℕ) × (ms : List MessageView) × (held_of p.lists o k ≡ Some (Some ms)) × (length ms ≡ n)) → n ≡ stored h o
unfolding stored
stored_lists {p} {waiting} kept v view h left o n within reached =
    largest (count_shown o) (views p) n
    (λ k q at. let le = count_le p o k n (within k) in omega (arith, le, ap (count_shown o) (view_there p k q at)))
    (λ lt.
    let it = reached lt in
    let k = it.0 in
    let is = holds_so kept o k it.1 it.2 in (
      k,
      view_at p k,
      views_at p k is.made,
      if_both (is_running (view_at p k).standing) (option_eq is_same o (rule_kept (view_at p k).wants)) (length (view_at p k).items) is.running
          (ap (λ w. option_eq is_same o (rule_kept w)) is.wants ∙ ap (option_eq is_same o) (rule_of_wants p o) ∙ one_self o)
          ∙ ap (λ (xs : List MessageView). length xs) is.items ∙ it.3,
    ))
    ∙ ap (fold max 0)
    (ap (map (count_shown o)) (view ∙ left.shown) ∙ map-map (count_shown o) (kept_of h.capacities.rules h.read) h.streams
    ∙ map_each (λ s. count_shown o (kept_of h.capacities.rules h.read s)) (held_count h.read o) (λ s. sym (counted h.capacities.rules h.read o s)) h.streams)
