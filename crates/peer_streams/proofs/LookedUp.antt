-- What is found of a stream that is open, by what is stored, is what is kept of it.
use Rattle.std.proofs.{Common.{◌≡◌, ℕ, ◌<◌, ◌≤◌, inl, inr, refl, sym, ◌∙◌, ap, arith, Bool, true, false, not, ◌&&◌, ◌==◌, if◌then◌else◌, is_some, is_none, List, [], ◌∷◌, length, Option, Some, None, IsSome, ne_eqb}, lemmas.Bool.{cases_lt}, lemmas.Option.{slice_get-map}}
use Rattle.std.specs.{List.slice_get, Option.{option_map, option_and_then}}
use Rattle.peer_streams.specs.{Names.{MessageView, Rule, StreamState, Progress}, History.{Stream, StreamsPast, rule_of}, Streams.{is_open}, Subscriptions.{first_held}, Refinement.{StreamView, kept, RefinesStreams}, Keeping.{Parts, AreKept, state_at, messages_of, shown, shown_by, wants_of, view_at, views, usable_in, is_active, limit_at}}
use Rattle.peer_streams.proofs.{Views.{views_at, views_past}, StreamsMade.{if_usable, found_left, kept_open, read_of, rule_kept, limit_or, open_rule_of}}

-- ---- a stream that is open

-- what is kept of one that takes messages
abbrev pub active_view : Parts → ℕ → StreamState → StreamView
active_view p k st = shown_by p k st Progress.Active

shut : {A B : Type 0} (f : A → B) (x : A) (y : B) (b : Bool) → (if b && false then Some y else None) ≡ option_map f (if b && false then Some x else None)
shut f x y true = refl
shut f x y false = refl

opened : {A B : Type 0} (f : A → B) (x : A) (b : Bool) → (if b then Some (f x) else None) ≡ option_map f (if b then Some x else None)
opened f x true = refl
opened f x false = refl

usable_by : (p : Parts) (k : ℕ) (st : StreamState) (pr : Progress)
    → if_usable (shown_by p k st pr) ≡ option_map (active_view p k) (if st.open_reported && is_active pr then Some st else None)
usable_by p k st (Progress.AwaitingReply serial index denial) = shut (active_view p k) st (shown_by p k st (Progress.AwaitingReply serial index denial)) st.open_reported
usable_by p k st (Progress.Denied m) = shut (active_view p k) st (shown_by p k st (Progress.Denied m)) st.open_reported
usable_by p k st Progress.Active = opened (active_view p k) st (st.open_reported && true)

usable_of : (p : Parts) (k : ℕ) (o : Option StreamState) → if_usable (shown p k o) ≡ option_map (active_view p k) (usable_in o)
usable_of p k None = refl
usable_of p k (Some st) = usable_by p k st st.progress

-- of a stream that wasn't made nothing is known
pub unknown_past : {p : Parts} {waiting : List ℕ} → AreKept p waiting → (k : ℕ) → p.made ≤ k → state_at p k ≡ None
unknown_past {p} {waiting} kept k le = by (state_at p k) (λ there. let lt = kept.below k there in absurd (omega arith))
  where
    by : (o : Option StreamState) → (IsSome o → ⊥) → o ≡ None
    by None absent = refl
    by (Some st) absent = absurd (absent refl)

usable_view : {p : Parts} {waiting : List ℕ} → AreKept p waiting → (k : ℕ) → option_and_then if_usable (slice_get (views p) k) ≡ option_map (active_view p k) (usable_in (state_at p k))
usable_view {p} {waiting} kept k = elim (cases_lt k p.made) as (λ _. option_and_then if_usable (slice_get (views p) k) ≡ option_map (active_view p k) (usable_in (state_at p k))) [
  | inl lt ↦ ap (option_and_then if_usable) (views_at p k lt) ∙ usable_of p k (state_at p k)
  | inr le ↦
      ap (option_and_then if_usable) (views_past p k le)
      ∙ sym (ap (λ o. option_map (active_view p k) (usable_in o)) (unknown_past kept k le))
]

-- What is found of it is what is kept of the stream, where that is open.
pub usable_found : {p : Parts} {waiting : List ℕ} → AreKept p waiting → (v : List StreamView) → views p ≡ v → (h : StreamsPast) → RefinesStreams v h → (k : ℕ) (o : Option StreamState) → o ≡ usable_in (state_at p k)
    → option_map (active_view p k) o ≡ kept_open h.capacities.rules h.read (slice_get h.streams k)
usable_found {p} {waiting} kept v view h left k o e =
    ap (option_map (active_view p k)) e ∙ sym (usable_view kept k) ∙ found_left v h k (slice_get (views p) k) left (ap (λ qs. slice_get qs k) (sym view))

-- and what is known of it then
pub record IsUsable (p : Parts) (k : ℕ) (st : StreamState) : Type 0 where
  pub known : state_at p k ≡ Some st
  pub reported : st.open_reported ≡ true
  pub active : st.progress ≡ Progress.Active
  pub view : view_at p k ≡ active_view p k st

is_active_so : (pr : Progress) → is_active pr ≡ true → pr ≡ Progress.Active
is_active_so (Progress.AwaitingReply serial index denial) e = cc
is_active_so (Progress.Denied m) e = cc
is_active_so Progress.Active e = refl

usable_parts : (st : StreamState) (reported active : Bool) (x : StreamState) → Some x ≡ (if reported && active then Some st else None) → (reported ≡ true) × (active ≡ true) × (x ≡ st)
usable_parts st true true x e = (refl, refl, cc)
usable_parts st true false x e = cc
usable_parts st false active x e = cc

usable_known : (o : Option StreamState) (st : StreamState) → Some st ≡ usable_in o → (o ≡ Some st) × (st.open_reported ≡ true) × (st.progress ≡ Progress.Active)
usable_known None st e = cc
usable_known (Some x) st e =
    let is = usable_parts x x.open_reported (is_active x.progress) st e in
    (ap (λ y. Some y) (sym is.2), ap (λ (y : StreamState). y.open_reported) is.2 ∙ is.0, ap (λ (y : StreamState). y.progress) is.2 ∙ is_active_so x.progress is.1)

pub usable_is : (p : Parts) (k : ℕ) (st : StreamState) → Some st ≡ usable_in (state_at p k) → IsUsable p k st
usable_is p k st e =
    let is = usable_known (state_at p k) st e in record {
      known = is.0;
      reported = is.1;
      active = is.2;
      view = ap (shown p k) is.0 ∙ ap (shown_by p k st) is.2;
    }

-- ---- a stream of which something is known

pub record IsThere (v : List StreamView) (h : StreamsPast) (k : ℕ) (q : StreamView) : Type 0 where
  pub stream : Stream
  pub at : slice_get h.streams k ≡ Some stream
  pub view : slice_get v k ≡ Some q
  pub kept_is : q ≡ kept h.capacities.rules h.read stream

there_by : (h : StreamsPast) (o : Option Stream) (q : StreamView) → option_map (kept h.capacities.rules h.read) o ≡ Some q → (s : Stream) × (o ≡ Some s) × (q ≡ kept h.capacities.rules h.read s)
there_by h None q e = cc
there_by h (Some s) q e = (s, refl, cc)

-- what stands in the list at a place is kept of the stream with that number
pub there_view : (v : List StreamView) (h : StreamsPast) (k : ℕ) (q : StreamView) → RefinesStreams v h → slice_get v k ≡ Some q → IsThere v h k q
there_view v h k q left at =
    let is = there_by h (slice_get h.streams k) q (sym (slice_get-map (kept h.capacities.rules h.read) h.streams k) ∙ ap (λ qs. slice_get qs k) (sym left.shown) ∙ at) in record {
      stream = is.0;
      at = is.1;
      view = at;
      kept_is = is.2;
    }

-- and it was made
pub known_made : {p : Parts} {waiting : List ℕ} → AreKept p waiting → (k : ℕ) (st : StreamState) → state_at p k ≡ Some st → k < p.made
known_made kept k st e = kept.below k (ap is_some e)

pub known_view : {p : Parts} {waiting : List ℕ} → AreKept p waiting → (k : ℕ) (st : StreamState) → state_at p k ≡ Some st → slice_get (views p) k ≡ Some (view_at p k)
known_view {p} {waiting} kept k st e = views_at p k (known_made kept k st e)

-- ---- what is read of it

pub is_there : {A : Type 0} (g : A → StreamState) (f : StreamState → StreamView) (o : Option A) → is_some o ≡ read_of false (λ _. true) (option_map f (option_map g o))
is_there g f None = refl
is_there g f (Some x) = refl

-- its rule
pub rule_of_wants : (p : Parts) (o : Option Rule) → rule_kept (wants_of p o) ≡ o
rule_of_wants p None = refl
rule_of_wants p (Some rule) = refl

pub rule_known : {p : Parts} {waiting : List ℕ} → AreKept p waiting → (h : StreamsPast) → RefinesStreams (views p) h → (k : ℕ) (st : StreamState) → IsUsable p k st → is_open h k ≡ true → st.rule ≡ rule_of (slice_get h.streams k)
rule_known {p} {waiting} kept h left k st usable there =
    let is = there_view (views p) h k (view_at p k) left (known_view kept k st usable.known) in
    sym (rule_of_wants p st.rule) ∙ ap (λ (q : StreamView). rule_kept q.wants) (sym usable.view) ∙ open_rule_of h k is.stream (view_at p k) is.at is.kept_is there

-- how many messages it may hold
pub limit_of_wants : (p : Parts) (main : ℕ) (o : Option Rule) → limit_or main (wants_of p o) ≡ limit_at p.lists main o
limit_of_wants p main None = refl
limit_of_wants p main (Some rule) = refl

-- the first message that it holds
pub first_messages : (o : Option (Option (List MessageView))) → first_held o ≡ slice_get (messages_of o) 0
first_messages None = refl
first_messages (Some None) = refl
first_messages (Some (Some ms)) = refl

-- where there is none it holds nothing
pub none_first : (ms : List MessageView) → is_none (slice_get ms 0) ≡ (length ms == 0)
none_first [] = refl
none_first (m ∷ ms) = sym (ne_eqb (length (m ∷ ms)) 0 (λ e. omega (arith, e)))

pub none_result : {A B : Type 0} (f : A → B) (o : Option A) (p : Option B) (r : Bool) → option_map f o ≡ p → is_some o ≡ not r → r ≡ is_none p
none_result f None p true e is = ap (λ x. is_none x) e
none_result f None p false e is = cc
none_result f (Some x) p true e is = cc
none_result f (Some x) p false e is = ap (λ x. is_none x) e

pub holds_none : (ms : List MessageView) → slice_get ms 0 ≡ None → ms ≡ []
holds_none [] e = refl
holds_none (m ∷ ms) e = cc

pub holds_first : (ms : List MessageView) (m : MessageView) → slice_get ms 0 ≡ Some m → (rest : List MessageView) × (ms ≡ m ∷ rest)
holds_first [] m e = cc
holds_first (x ∷ xs) m e = let same : x ≡ m = cc in (xs, ap (λ y. y ∷ xs) same)
