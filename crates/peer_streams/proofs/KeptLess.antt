-- What is kept of streams once one of them is closed.
use Rattle.std.proofs.{Common.{◌≡◌, ◌≢◌, ℕ, inl, inr, refl, sym, ◌∙◌, ap, arith, Bool, true, false, not, ◌&&◌, ◌||◌, ◌==◌, if◌then◌else◌, is_some, List, [], ◌∷◌, Option, Some, None, IsSome, unwrap_or}, lemmas.Bool.{cases_eq, eq-eqb, eqb-true, ne_eqb, and_left, and_right, and_from, or_left, or_right, false≢true}}
use Rattle.std.specs.{List.{list_any}, Option.{option_map, option_and_then, option_eq}, Ordering.{nat_cmp}, Cmp.unsigned_tied, BTreeMap.is_at}
use Rattle.wire_message.specs.{Plain.edit, Replying.is_serial}
use Rattle.peer_lists.specs.Holdings.{Holdings, held_by}
use Rattle.peer_streams.specs.{Names.{Rule, StreamState, Progress, Subscription}, Rules.is_same, Subscriptions.{Subscribed, kept_in, limit_in, held_in, has_other_in}, Refinement.{gone_view}, Keeping.{Parts, state_at, held_of, shown, shown_by, view_at, views, begun_by, stands_in, is_waiting, AreKept}}
use Rattle.peer_streams.proofs.{OneRule.{one_back}, KeptMore.stands_there, Views.{shown_along, views_edit}}

-- ---- another stream of a rule keeps it subscribed

same_at : (j k : ℕ) → is_at (nat_cmp j) k ≡ true → j ≡ k
same_at j k e = eqb-true j k (sym (unsigned_tied j k) ∙ e)

other_by : (k j : ℕ) (v : Holdings) → k ≢ j → IsSome (held_by v j) → list_any (λ e. not (is_serial (Some k) e.0 || is_serial None e.0)) v ≡ true
other_by k j [] ne there = absurd (false≢true there)
other_by k j (e ∷ es) ne there = by (is_at (nat_cmp j) e.0) refl (other_by k j es ne)
  where
    by : (b : Bool) → is_at (nat_cmp j) e.0 ≡ b → (IsSome (held_by es j) → list_any (λ e. not (is_serial (Some k) e.0 || is_serial None e.0)) es ≡ true)
        → list_any (λ e. not (is_serial (Some k) e.0 || is_serial None e.0)) (e ∷ es) ≡ true
    by true is rest =
        let at : j ≡ e.0 = same_at j e.0 is in
        or_left (not (is_serial (Some k) e.0 || is_serial None e.0)) (list_any (λ e. not (is_serial (Some k) e.0 || is_serial None e.0)) es)
        (ap (λ b. not (b || false)) (ne_eqb k e.0 (λ f. ne (f ∙ sym at))))
    by false is rest =
        or_right (not (is_serial (Some k) e.0 || is_serial None e.0)) (list_any (λ e. not (is_serial (Some k) e.0 || is_serial None e.0)) es)
        (rest (sym (ap (λ b. is_some (if b then Some e.1 else held_by es j)) is) ∙ there))

has_other_by : (k j : ℕ) (o : Option Subscription) → k ≢ j → IsSome (option_and_then (λ (s : Subscription). held_by s.list j) o)
    → unwrap_or (option_map (λ (s : Subscription). list_any (λ e. not (is_serial (Some k) e.0 || is_serial None e.0)) s.list) o) false ≡ true
has_other_by k j None ne there = absurd (false≢true there)
has_other_by k j (Some s) ne there = other_by k j s.list ne there

-- a stream of the rule is there but for this one
pub other_there : (v : Subscribed) (r : Rule) (k j : ℕ) → k ≢ j → IsSome (held_in v r j) → has_other_in v r (Some k) None ≡ true
other_there v r k j ne there = has_other_by k j (kept_in v r) ne there

-- ---- a stream is closed

-- The stream of which this was known is gone, from its list too, and with the last one of its rule the rule's capacity.
pub record Closes (p q : Parts) (k : ℕ) (st : StreamState) : Type 0 where
  pub was : state_at p k ≡ Some st
  pub made : q.made ≡ p.made
  pub states : (j : ℕ) → state_at q j ≡ (if k == j then None else state_at p j)
  pub held : (o : Option Rule) (j : ℕ) → held_of q.lists o j ≡ (if option_eq is_same st.rule o && k == j then None else held_of p.lists o j)
  pub limits : (r : Rule) → limit_in q.lists.rules r ≡ (if option_eq is_same st.rule (Some r) && not (has_other_in p.lists.rules r (Some k) None) then None else limit_in p.lists.rules r)

closed_here : {p q : Parts} {k : ℕ} {st : StreamState} → Closes p q k st → state_at q k ≡ None
closed_here {p} {q} {k} c = c.states k ∙ ap (λ b. if b then None else state_at p k) (eq-eqb k k refl)

closed_other : {p q : Parts} {k : ℕ} {st : StreamState} → Closes p q k st → (j : ℕ) → k ≢ j → state_at q j ≡ state_at p j
closed_other {p} {q} {k} c j ne = c.states j ∙ ap (λ b. if b then None else state_at p j) (ne_eqb k j ne)

closed_held_other : {p q : Parts} {k : ℕ} {st : StreamState} → Closes p q k st → (o : Option Rule) (j : ℕ) → k ≢ j → held_of q.lists o j ≡ held_of p.lists o j
closed_held_other {p} {q} {k} {st} c o j ne =
    c.held o j ∙ ap (λ b. if b then None else held_of p.lists o j) (and_right (option_eq is_same st.rule o) (k == j) (ne_eqb k j ne))

-- it stands in no list any more
closed_nowhere : {p q : Parts} {waiting : List ℕ} {k : ℕ} {st : StreamState} → AreKept p waiting → Closes p q k st → (o : Option Rule) (b : Bool) → option_eq is_same st.rule o ≡ b
    → option_map is_some (held_of q.lists o k) ≡ None
closed_nowhere {p} {q} {waiting} {k} {st} kept c o true e =
    ap (option_map is_some) (c.held o k ∙ ap (λ b. if b then None else held_of p.lists o k) (and_from (option_eq is_same st.rule o) (k == k) e (eq-eqb k k refl)))
closed_nowhere {p} {q} {waiting} {k} {st} kept c o false e =
    ap (option_map is_some) (c.held o k ∙ ap (λ b. if b then None else held_of p.lists o k) (and_left (option_eq is_same st.rule o) (k == k) e))
    ∙ kept.lists o k ∙ ap (stands_in o) c.was ∙ ap (λ b. if b then begun_by st.progress else None) (one_back o st.rule ∙ e)

pub kept_less : {p q : Parts} {waiting : List ℕ} {k : ℕ} {st : StreamState} → AreKept p waiting → Closes p q k st → AreKept q waiting
kept_less {p} {q} {waiting} {k} {st} kept c = record {
  below = λ j there. elim (cases_eq k j) [
    | inl e ↦ absurd (false≢true (sym (ap is_some (closed_here c)) ∙ ap (λ i. is_some (state_at q i)) e ∙ there))
    | inr ne ↦ (let made = c.made in let lt = kept.below j (sym (ap is_some (closed_other c j ne)) ∙ there) in omega arith)
  ];
  lists = λ o j. elim (cases_eq k j) as (λ _. option_map is_some (held_of q.lists o j) ≡ stands_in o (state_at q j)) [
    | inl e ↦
        ap (λ i. option_map is_some (held_of q.lists o i)) (sym e) ∙ closed_nowhere kept c o (option_eq is_same st.rule o) refl
        ∙ ap (stands_in o) (sym (closed_here c)) ∙ ap (λ i. stands_in o (state_at q i)) e
    | inr ne ↦ ap (option_map is_some) (closed_held_other c o j ne) ∙ kept.lists o j ∙ ap (stands_in o) (sym (closed_other c j ne))
  ];
  listed = λ j is. elim (cases_eq k j) [
    | inl e ↦ absurd (false≢true (sym (ap is_waiting (closed_here c)) ∙ ap (λ i. is_waiting (state_at q i)) e ∙ is))
    | inr ne ↦ kept.listed j (ap is_waiting (sym (closed_other c j ne)) ∙ is)
  ];
}

-- nothing changes of another
limit_left : {p q : Parts} {k : ℕ} {st : StreamState} → Closes p q k st → (j : ℕ) (r : Rule) → k ≢ j → IsSome (held_of p.lists (Some r) j) → limit_in q.lists.rules r ≡ limit_in p.lists.rules r
limit_left {p} {q} {k} {st} c j r ne there =
    c.limits r ∙ ap (λ b. if b then None else limit_in p.lists.rules r)
    (and_right (option_eq is_same st.rule (Some r)) (not (has_other_in p.lists.rules r (Some k) None)) (ap not (other_there p.lists.rules r k j ne there)))

-- the rule of a stream that stands in its list keeps its capacity
rule_left : {p q : Parts} {waiting : List ℕ} {k : ℕ} {st : StreamState} → AreKept p waiting → Closes p q k st → (j : ℕ) (s : StreamState) (b : Bool) (r : Rule) → k ≢ j → state_at p j ≡ Some s → begun_by s.progress ≡ Some b → s.rule ≡ Some r
    → limit_in q.lists.rules r ≡ limit_in p.lists.rules r
rule_left {p} kept c j s b r ne at begun own = limit_left c j r ne (sym (ap (λ o. is_some (held_of p.lists o j)) own) ∙ stands_there kept j s b at begun)

shown_other : {p q : Parts} {waiting : List ℕ} {k : ℕ} {st : StreamState} → AreKept p waiting → Closes p q k st → (j : ℕ) → k ≢ j → (s : StreamState) → state_at p j ≡ Some s → (pr : Progress) → s.progress ≡ pr
    → shown_by q j s pr ≡ shown_by p j s pr
shown_other {p} {q} kept c j ne s at (Progress.AwaitingReply serial index denial) is =
    shown_along p q j s (Progress.AwaitingReply serial index denial) (λ r own. rule_left kept c j s false r ne at (ap begun_by is) own) (closed_held_other c s.rule j ne)
shown_other kept c j ne s at (Progress.Denied m) is = refl
shown_other {p} {q} kept c j ne s at Progress.Active is = shown_along p q j s Progress.Active (λ r own. rule_left kept c j s true r ne at (ap begun_by is) own) (closed_held_other c s.rule j ne)

view_other : {p q : Parts} {waiting : List ℕ} {k : ℕ} {st : StreamState} → AreKept p waiting → Closes p q k st → (j : ℕ) → k ≢ j → view_at q j ≡ view_at p j
view_other {p} {q} kept c j ne = ap (shown q j) (closed_other c j ne) ∙ by (state_at p j) refl
  where
    by : (o : Option StreamState) → state_at p j ≡ o → shown q j o ≡ shown p j o
    by None at = refl
    by (Some s) at = shown_other kept c j ne s at s.progress refl

-- nothing is kept of the stream any more
pub closed_views : {p q : Parts} {waiting : List ℕ} {k : ℕ} {st : StreamState} → AreKept p waiting → Closes p q k st → views q ≡ edit k (λ x. gone_view) (views p)
closed_views {p} {q} {waiting} {k} kept c = views_edit (λ x. gone_view) k p q c.made (ap (shown q k) (closed_here c)) (view_other kept c)

-- nothing was kept of it
pub unknown_views : (p : Parts) (k : ℕ) → state_at p k ≡ None → views p ≡ edit k (λ x. gone_view) (views p)
unknown_views p k none = views_edit (λ x. gone_view) k p p refl (ap (shown p k) none) (λ j ne. refl)
