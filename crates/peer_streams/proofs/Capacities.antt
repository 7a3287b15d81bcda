-- A rule is subscribed exactly where a stream of it is open, or being opened; and what its streams may hold is the past's.
use Rattle.std.proofs.{Common.{◌≡◌, ℕ, refl, sym, ◌∙◌, ap, arith, Bool, true, false, ◌||◌, if◌then◌else◌, is_some, List, [], ◌∷◌, zero, suc, Option, Some, None, IsSome, unwrap_or}, lemmas.Bool.{or_left, or_right, false≢true}, lemmas.Option.{slice_get-map, slice_get_within, get_or_from_slice_get, same_Some}}
use Rattle.std.specs.{List.{slice_get, list_any}, Option.{option_map, option_eq}}
use Rattle.peer_streams.specs.{Names.{Rule, StreamState, Progress}, Rules.{is_same, default_capacity}, History.{StreamsPast, is_of, subscribes, is_subscribed, raised}, Subscriptions.{limit_in, held_in, limit_asked}, Refinement.{StreamView, kept, RefinesStreams}, Keeping.{Parts, state_at, held_of, shown, shown_by, view_at, views, begun_by, stands_in, AreKept}}
use Rattle.peer_streams.proofs.{OneRule.one_rule, SameRule.{same_one, same_self}, KeptMore.{limit_held, stands_there}, StreamsMade.{at_read, rule_kept, limit_or}, RuledStreams.{subscribes_kept, limit_kept}, Views.{views_at, views_length}}

-- ---- some element passes

any_at : {A : Type 0} (p : A → Bool) (xs : List A) (k : ℕ) (x : A) → slice_get xs k ≡ Some x → p x ≡ true → list_any p xs ≡ true
any_at p [] k x at e = cc
any_at p (y ∷ ys) zero x at e = or_left (p y) (list_any p ys) (ap p (same_Some y x at) ∙ e)
any_at p (y ∷ ys) (suc k) x at e = or_right (p y) (list_any p ys) (any_at p ys k x at e)

pub at_any : {A : Type 0} (p : A → Bool) (xs : List A) → list_any p xs ≡ true → (k : ℕ) × (x : A) × (slice_get xs k ≡ Some x) × (p x ≡ true)
at_any {A} p [] e = absurd (false≢true e)
at_any {A} p (y ∷ ys) e = by (p y) refl (at_any p ys)
  where
    by : (b : Bool) → p y ≡ b → (list_any p ys ≡ true → (k : ℕ) × (x : A) × (slice_get ys k ≡ Some x) × (p x ≡ true)) → (k : ℕ) × (x : A) × (slice_get (y ∷ ys) k ≡ Some x) × (p x ≡ true)
    by true is rest = (0, y, refl, is)
    by false is rest = let at = rest (sym (ap (λ b. b || list_any p ys) is) ∙ e) in (suc at.0, at.1, at.2, at.3)

-- ---- who stands in a rule's list is a stream of it

-- what is known of who stands in a list
pub record Stands (p : Parts) (o : Option Rule) (k : ℕ) : Type 0 where
  pub state : StreamState
  pub there : state_at p k ≡ Some state
  pub own : o ≡ state.rule
  pub begun : Bool
  pub is : begun_by state.progress ≡ Some begun

stands_by : (p : Parts) (o : Option Rule) (k : ℕ) (found : Option StreamState) (b : Bool) → state_at p k ≡ found → stands_in o found ≡ Some b → Stands p o k
stands_by p o k None b at e = cc
stands_by p o k (Some st) b at e = by (option_eq is_same o st.rule) refl e
  where
    by : (c : Bool) → option_eq is_same o st.rule ≡ c → (if c then begun_by st.progress else None) ≡ Some b → Stands p o k
    by true is f = record { state = st; there = at; own = one_rule o st.rule is; begun = b; is = f }
    by false is f = cc

begun_some : {A : Type 0} (o : Option (Option A)) → IsSome o → (b : Bool) × (option_map is_some o ≡ Some b)
begun_some None there = absurd (false≢true there)
begun_some (Some x) there = (is_some x, refl)

pub who_stands : {p : Parts} {waiting : List ℕ} → AreKept p waiting → (o : Option Rule) (k : ℕ) → IsSome (held_of p.lists o k) → Stands p o k
who_stands {p} kept o k there = let b = begun_some (held_of p.lists o k) there in stands_by p o k (state_at p k) b.0 refl (sym (kept.lists o k) ∙ b.1)

-- its view has the rule, and what its streams may hold
wants_shown : (p : Parts) (k : ℕ) (st : StreamState) (pr : Progress) (rule : Rule) (b : Bool) → begun_by pr ≡ Some b → Some rule ≡ st.rule
    → (shown_by p k st pr).wants ≡ Some (record { rule = rule; limit = unwrap_or (limit_in p.lists.rules rule) 0 })
wants_shown p k st (Progress.AwaitingReply serial index denial) rule b begun own = ap (λ o. option_map (λ r. record { rule = r; limit = unwrap_or (limit_in p.lists.rules r) 0 }) o) (sym own)
wants_shown p k st (Progress.Denied m) rule b begun own = cc
wants_shown p k st Progress.Active rule b begun own = ap (λ o. option_map (λ r. record { rule = r; limit = unwrap_or (limit_in p.lists.rules r) 0 }) o) (sym own)

wants_stands : (p : Parts) (k : ℕ) (rule : Rule) (s : Stands p (Some rule) k) → (view_at p k).wants ≡ Some (record { rule = rule; limit = unwrap_or (limit_in p.lists.rules rule) 0 })
wants_stands p k rule s = ap (λ o. (shown p k o).wants) s.there ∙ wants_shown p k s.state s.state.progress rule s.begun s.is s.own

-- and who wants a rule stands in its list
stands_wants : (p : Parts) (k : ℕ) (st : StreamState) (pr : Progress) (rule : Rule) → st.progress ≡ pr → is_of rule (rule_kept (shown_by p k st pr).wants) ≡ true → (st.rule ≡ Some rule) × ((b : Bool) × (begun_by pr ≡ Some b))
stands_wants p k st pr rule at e = by st.rule pr refl at e
  where
    by : (o : Option Rule) (x : Progress) → st.rule ≡ o → st.progress ≡ x → is_of rule (rule_kept (shown_by p k st x).wants) ≡ true → (st.rule ≡ Some rule) × ((b : Bool) × (begun_by x ≡ Some b))
    by None (Progress.AwaitingReply serial index denial) own is f = absurd (false≢true (ap (λ o. is_of rule (rule_kept (option_map (λ r. record { rule = r; limit = unwrap_or (limit_in p.lists.rules r) 0 }) o))) (sym own) ∙ f))
    by None (Progress.Denied m) own is f = absurd (false≢true f)
    by None Progress.Active own is f = absurd (false≢true (ap (λ o. is_of rule (rule_kept (option_map (λ r. record { rule = r; limit = unwrap_or (limit_in p.lists.rules r) 0 }) o))) (sym own) ∙ f))
    by (Some r) (Progress.AwaitingReply serial index denial) own is f =
        (own ∙ ap (λ x. Some x) (sym (same_one rule r (ap (λ o. is_of rule (rule_kept (option_map (λ r. record { rule = r; limit = unwrap_or (limit_in p.lists.rules r) 0 }) o))) (sym own) ∙ f))), (false, refl))
    by (Some r) (Progress.Denied m) own is f = absurd (false≢true f)
    by (Some r) Progress.Active own is f =
        (own ∙ ap (λ x. Some x) (sym (same_one rule r (ap (λ o. is_of rule (rule_kept (option_map (λ r. record { rule = r; limit = unwrap_or (limit_in p.lists.rules r) 0 }) o))) (sym own) ∙ f))), (true, refl))

who_wants : {p : Parts} {waiting : List ℕ} → AreKept p waiting → (rule : Rule) (k : ℕ) (o : Option StreamState) → state_at p k ≡ o → is_of rule (rule_kept (shown p k o).wants) ≡ true → IsSome (held_of p.lists (Some rule) k)
who_wants kept rule k None at e = absurd (false≢true e)
who_wants {p} kept rule k (Some st) at e =
    let is = stands_wants p k st st.progress rule refl e in
    ap (λ o. is_some (held_of p.lists o k)) (sym is.0) ∙ stands_there kept k st is.1.0 at is.1.1

-- ---- by the past

-- the past has a stream of the rule whose stream stands in its list, with what is kept of the rule's capacity
pub subscribed_held : {p : Parts} {waiting : List ℕ} → AreKept p waiting → (h : StreamsPast) (rule : Rule) (k : ℕ) → RefinesStreams (views p) h → IsSome (held_of p.lists (Some rule) k)
    → (is_subscribed h.read h.streams rule ≡ true) × (unwrap_or (limit_in p.lists.rules rule) 0 ≡ h.capacities.rules rule)
unfolding is_subscribed
subscribed_held {p} kept_are h rule k left there =
    let s = who_stands kept_are (Some rule) k there in
    let lt = kept_are.below k (ap is_some s.there) in
    let at = at_read (views p) h p.made k (view_at p k) left (sym (views_length p)) lt (sym (get_or_from_slice_get (views p) k (view_at p k) (view_at p k) (views_at p k lt))) in
    let wants = wants_stands p k rule s in
    let of : is_of rule (rule_kept (kept h.capacities.rules h.read at.0).wants) ≡ true = ap (λ (q : StreamView). is_of rule (rule_kept q.wants)) (sym at.2) ∙ ap (λ w. is_of rule (rule_kept w)) wants ∙ same_self rule in (
      any_at (subscribes h.read rule) h.streams k at.0 at.1 (sym (subscribes_kept h.capacities.rules rule h.read at.0) ∙ of),
      ap (limit_or 0) (sym wants) ∙ ap (λ (q : StreamView). limit_or 0 q.wants) at.2 ∙ limit_kept h.capacities.rules rule 0 h.read at.0 of,
    )

-- what is read at a place is the view there
viewed : (p : Parts) (k : ℕ) (q : StreamView) → slice_get (views p) k ≡ Some q → view_at p k ≡ q
viewed p k q at =
    let lt = slice_get_within (views p) k q at in
    same_Some (view_at p k) q (sym (views_at p k (omega (arith, lt, views_length p))) ∙ at)

-- a stream of the past's that has the rule stands in its list
pub held_subscribed : {p : Parts} {waiting : List ℕ} → AreKept p waiting → (h : StreamsPast) (rule : Rule) → RefinesStreams (views p) h → is_subscribed h.read h.streams rule ≡ true
    → (k : ℕ) × IsSome (held_of p.lists (Some rule) k)
unfolding is_subscribed
held_subscribed {p} kept_are h rule left there =
    let at = at_any (subscribes h.read rule) h.streams there in
    let K = kept h.capacities.rules h.read in
    let seen : slice_get (views p) at.0 ≡ Some (K at.1) = ap (λ qs. slice_get qs at.0) left.shown ∙ slice_get-map K h.streams at.0 ∙ ap (option_map K) at.2 in
    (at.0, who_wants kept_are rule at.0 (state_at p at.0) refl (ap (λ (q : StreamView). is_of rule (rule_kept q.wants)) (viewed p at.0 (K at.1) seen) ∙ subscribes_kept h.capacities.rules rule h.read at.1 ∙ at.3))

-- what a rule's streams may hold once one asks for more, or is the first
pub asked_capacity : {p : Parts} {waiting : List ℕ} → AreKept p waiting → (h : StreamsPast) (rule : Rule) (asked : Option ℕ) → RefinesStreams (views p) h
    → (IsSome (limit_in p.lists.rules rule) → (k : ℕ) × IsSome (held_in p.lists.rules rule k))
    → limit_asked (limit_in p.lists.rules rule) rule asked ≡ (if is_subscribed h.read h.streams rule then raised asked (h.capacities.rules rule) else unwrap_or asked (default_capacity rule))
asked_capacity {p} kept_are h rule asked left used = by (limit_in p.lists.rules rule) (is_subscribed h.read h.streams rule) refl refl
  where
    by : (o : Option ℕ) (b : Bool) → limit_in p.lists.rules rule ≡ o → is_subscribed h.read h.streams rule ≡ b
        → limit_asked o rule asked ≡ (if b then raised asked (h.capacities.rules rule) else unwrap_or asked (default_capacity rule))
    by None false e f = refl
    by None true e f = let at = held_subscribed kept_are h rule left f in absurd (false≢true (sym (ap is_some e) ∙ limit_held p.lists.rules rule at.0 at.1))
    by (Some n) b e f =
        let at = used (ap is_some e) in
        let is = subscribed_held kept_are h rule at.0 left at.1 in
        ap (raised asked) (ap (λ o. unwrap_or o 0) (sym e) ∙ is.1) ∙ ap (λ c. if c then raised asked (h.capacities.rules rule) else unwrap_or asked (default_capacity rule)) (sym is.0 ∙ f)
