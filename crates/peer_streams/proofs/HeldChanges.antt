-- What is stored stays as it must be where one stream changes, or what the lists hold; and what is kept of streams then.
use Rattle.std.proofs.{Common.{◌≡◌, ◌≢◌, ℕ, ◌<◌, inl, inr, refl, sym, ◌∙◌, ap, subst, arith, max, Bool, true, false, ◌&&◌, ◌==◌, if◌then◌else◌, is_some, List, [], ◌∷◌, map, drop, Option, Some, None, IsSome, eq-eqb, ne_eqb}, lemmas.Bool.{cases_eq, false≢true, and_right, and_parts, eqb-true}}
use Rattle.std.specs.{Option.{option_map, option_eq, unwrap_or}}
use Rattle.wire_message.specs.Plain.{edit}
use Rattle.peer_lists.specs.Holdings.{without_first}
use Rattle.peer_streams.specs.{declared.lists.Lists.Lists, Names.{MessageView, Rule, StreamState, Progress}, Rules.is_same, History.{is_of}, Subscriptions.{Subscribed, limit_in, held_in}, Refinement.{StreamView, raise}, Keeping.{Parts, AreKept, state_at, held_of, messages_of, shown, shown_by, wants_of, view_at, views, begun_by, stands_in, waits, is_waiting, is_active}}
use Rattle.peer_streams.proofs.{SameRule.same_self, OneRule.{same_back, one_rule, one_self}, Views.{views_edit, views_map, views_same, view_along, wants_along}, StreamsMade.rule_kept, RuledStreams.raise_held, LookedUp.{active_view, IsUsable}, HeldStreams.wants_held, KeptMore.limit_held}

-- ---- as it must be

-- what is known of a stream stands where what was known of it stood
pub record Alike (was now : Option StreamState) : Type 0 where
  pub there : IsSome now → IsSome was
  pub stands : (o : Option Rule) → stands_in o now ≡ stands_in o was
  pub waiting : is_waiting now ≡ true → is_waiting was ≡ true

pub alike_same : (was now : Option StreamState) → now ≡ was → Alike was now
alike_same was now e = record {
  there = λ t. ap (λ (o : Option StreamState). is_some o) (sym e) ∙ t;
  stands = λ o. ap (stands_in o) e;
  waiting = λ t. ap is_waiting (sym e) ∙ t;
}

pub alike_changed : (st new : StreamState) → new.rule ≡ st.rule → new.progress ≡ st.progress → Alike (Some st) (Some new)
alike_changed st new rule progress = record {
  there = λ t. refl;
  stands = λ o. ap (λ r. if option_eq is_same o r then begun_by new.progress else None) rule ∙ ap (λ pr. if option_eq is_same o st.rule then begun_by pr else None) progress;
  waiting = λ t. ap waits (sym progress) ∙ t;
}

-- a stream that was denied stands nowhere, and so it may go
denied_stands : (b : Bool) (pr : Progress) → is_active pr ≡ false → waits pr ≡ false → None ≡ (if b then begun_by pr else None)
denied_stands true (Progress.AwaitingReply serial index denial) e f = cc
denied_stands true (Progress.Denied m) e f = refl
denied_stands true Progress.Active e f = cc
denied_stands false pr e f = refl

pub alike_denied : (st : StreamState) → is_active st.progress ≡ false → waits st.progress ≡ false → Alike (Some st) None
alike_denied st e f = record {
  there = λ t. refl;
  stands = λ o. denied_stands (option_eq is_same o st.rule) st.progress e f;
  waiting = λ t. absurd (false≢true t);
}

pub kept_alike : {p : Parts} {waiting : List ℕ} → AreKept p waiting → (q : Parts) → q.made ≡ p.made
    → ((o : Option Rule) (k : ℕ) → option_map (λ (h : Option (List MessageView)). is_some h) (held_of q.lists o k) ≡ option_map (λ (h : Option (List MessageView)). is_some h) (held_of p.lists o k))
    → ((k : ℕ) → Alike (state_at p k) (state_at q k)) → AreKept q waiting
kept_alike {p} {waiting} kept q made held alike = record {
  below = λ k there. subst (λ n. k < n) (sym made) (kept.below k ((alike k).there there));
  lists = λ o k. held o k ∙ kept.lists o k ∙ sym ((alike k).stands o);
  listed = λ k is. kept.listed k ((alike k).waiting is);
}

-- one stream changes
pub alike_at : (p : Parts) (states : List (ℕ × StreamState)) (k : ℕ) (was now : Option StreamState) → state_at p k ≡ was → state_at (record p { states = states }) k ≡ now
    → ((j : ℕ) → k ≢ j → state_at (record p { states = states }) j ≡ state_at p j) → Alike was now → (j : ℕ) → Alike (state_at p j) (state_at (record p { states = states }) j)
alike_at p states k was now before new others alike j = elim (cases_eq k j) [
  | inl e ↦ subst (λ i. Alike (state_at p i) (state_at (record p { states = states }) i)) e (subst (λ o. Alike o (state_at (record p { states = states }) k)) (sym before) (subst (Alike was) (sym new) alike))
  | inr ne ↦ alike_same (state_at p j) (state_at (record p { states = states }) j) (others j ne)
]

pub kept_changed : {p : Parts} {waiting : List ℕ} → AreKept p waiting → (states : List (ℕ × StreamState)) (k : ℕ) (was now : Option StreamState) → state_at p k ≡ was → state_at (record p { states = states }) k ≡ now
    → ((j : ℕ) → k ≢ j → state_at (record p { states = states }) j ≡ state_at p j) → Alike was now → AreKept (record p { states = states }) waiting
kept_changed {p} {waiting} kept states k was now before new others alike = kept_alike kept (record p { states = states }) refl (λ o j. refl) (alike_at p states k was now before new others alike)

-- what is kept of streams then
pub views_changed : (f : StreamView → StreamView) (p : Parts) (states : List (ℕ × StreamState)) (k : ℕ) → view_at (record p { states = states }) k ≡ f (view_at p k)
    → ((j : ℕ) → k ≢ j → state_at (record p { states = states }) j ≡ state_at p j) → views (record p { states = states }) ≡ edit k f (views p)
views_changed f p states k here others =
    views_edit f k p (record p { states = states }) refl here (λ j ne. view_along p (record p { states = states }) j (others j ne) (λ r. refl) (λ o. refl))

-- ---- a message is taken

without_some : (o : Option (List MessageView)) → is_some (without_first o) ≡ is_some o
without_some None = refl
without_some (Some ms) = refl

without_by : (b : Bool) (o : Option (Option (List MessageView))) → option_map (λ (h : Option (List MessageView)). is_some h) (if b then option_map without_first o else o) ≡ option_map (λ (h : Option (List MessageView)). is_some h) o
without_by true None = refl
without_by true (Some h) = ap (λ b. Some b) (without_some h)
without_by false o = refl

-- the lists once the stream's first message was taken
pub record IsTaken (p : Parts) (lists : Lists) (rule : Option Rule) (k : ℕ) : Type 0 where
  pub limits : (r : Rule) → limit_in lists.rules r ≡ limit_in p.lists.rules r
  pub held : (o : Option Rule) (j : ℕ) → held_of lists o j ≡ (if option_eq is_same rule o && k == j then option_map without_first (held_of p.lists o j) else held_of p.lists o j)

pub kept_taken : {p : Parts} {waiting : List ℕ} → AreKept p waiting → (lists : Lists) (rule : Option Rule) (k : ℕ) → IsTaken p lists rule k → AreKept (record p { lists = lists }) waiting
kept_taken {p} {waiting} kept lists rule k is =
    kept_alike kept (record p { lists = lists }) refl
    (λ o j. ap (option_map (λ (h : Option (List MessageView)). is_some h)) (is.held o j) ∙ without_by (option_eq is_same rule o && k == j) (held_of p.lists o j))
    (λ j. alike_same (state_at p j) (state_at p j) refl)

without_messages : (o : Option (Option (List MessageView))) → messages_of (option_map without_first o) ≡ drop 1 (messages_of o)
without_messages None = refl
without_messages (Some None) = refl
without_messages (Some (Some ms)) = refl

pub taken_view : (p : Parts) (lists : Lists) (k : ℕ) (st : StreamState) (m : MessageView) (rest : List MessageView) → IsUsable p k st → IsTaken p lists st.rule k → messages_of (held_of p.lists st.rule k) ≡ m ∷ rest
    → views (record p { lists = lists }) ≡ edit k (λ q. record q { items = rest }) (views p)
taken_view p lists k st m rest usable is has =
    let q : Parts = record p { lists = lists } in
    let here : held_of lists st.rule k ≡ option_map without_first (held_of p.lists st.rule k) =
    is.held st.rule k
    ∙ ap (λ b. if b && k == k then option_map without_first (held_of p.lists st.rule k) else held_of p.lists st.rule k) (one_self st.rule)
    ∙ ap (λ b. if b then option_map without_first (held_of p.lists st.rule k) else held_of p.lists st.rule k) (eq-eqb k k refl) in
    let items : messages_of (held_of lists st.rule k) ≡ rest = ap messages_of here ∙ without_messages (held_of p.lists st.rule k) ∙ ap (drop 1) has in
    views_edit (λ x. record x { items = rest }) k p q refl
    (ap (shown q k) usable.known ∙ ap (shown_by q k st) usable.active
    ∙ ap (λ w. record (active_view q k st) { wants = w }) (wants_along p q st.rule (λ r of. is.limits r))
    ∙ ap (λ (xs : List MessageView). record (active_view p k st) { items = xs }) items ∙ ap (λ (x : StreamView). record x { items = rest }) (sym usable.view))
    (λ j ne. view_along p q j refl is.limits (λ o.
    is.held o j ∙ ap (λ b. if b then option_map without_first (held_of p.lists o j) else held_of p.lists o j) (and_right (option_eq is_same st.rule o) (k == j) (ne_eqb k j ne))))

-- ---- where there is none

emptied : (o : Option (Option (List MessageView))) → messages_of o ≡ [] → option_map without_first o ≡ o
emptied None e = refl
emptied (Some None) e = refl
emptied (Some (Some ms)) e = ap (λ xs. Some (Some xs)) (ap (drop 1) e ∙ sym e)

emptied_by : (p : Parts) (rule o : Option Rule) (k j : ℕ) (b : Bool) → messages_of (held_of p.lists rule k) ≡ [] → (option_eq is_same rule o && k == j) ≡ b
    → (if b then option_map without_first (held_of p.lists o j) else held_of p.lists o j) ≡ held_of p.lists o j
emptied_by p rule o k j true none e =
    let parts = and_parts (option_eq is_same rule o) (k == j) e in
    emptied (held_of p.lists o j) (ap (λ i. messages_of (held_of p.lists o i)) (sym (eqb-true k j parts.1)) ∙ ap (λ r. messages_of (held_of p.lists r k)) (sym (one_rule rule o parts.0)) ∙ none)
emptied_by p rule o k j false none e = refl

pub taken_none : (p : Parts) (lists : Lists) (rule : Option Rule) (k : ℕ) → IsTaken p lists rule k → messages_of (held_of p.lists rule k) ≡ [] → (o : Option Rule) (j : ℕ) → held_of lists o j ≡ held_of p.lists o j
taken_none p lists rule k is none o j = is.held o j ∙ emptied_by p rule o k j (option_eq is_same rule o && k == j) none refl

pub taken_same : (p : Parts) (lists : Lists) (rule : Option Rule) (k : ℕ) → IsTaken p lists rule k → messages_of (held_of p.lists rule k) ≡ [] → views (record p { lists = lists }) ≡ views p
taken_same p lists rule k is none = views_same p (record p { lists = lists }) refl (λ j. view_along p (record p { lists = lists }) j refl is.limits (λ o. taken_none p lists rule k is none o j))

-- ---- more is asked for

raised_by : (asked : ℕ) (o : Option ℕ) (b : Bool) → IsSome o → unwrap_or (if b then option_map (max asked) o else o) 0 ≡ (if b then max (unwrap_or o 0) asked else unwrap_or o 0)
raised_by asked None b there = absurd (false≢true there)
raised_by asked (Some n) true there = omega arith
raised_by asked (Some n) false there = refl

-- the rules once one's streams may hold more
pub record IsRaised (p : Parts) (rules : Subscribed) (rule : Rule) (asked : ℕ) : Type 0 where
  pub limits : (r : Rule) → limit_in rules r ≡ (if is_same rule r then option_map (max asked) (limit_in p.lists.rules r) else limit_in p.lists.rules r)
  pub held : (r : Rule) (k : ℕ) → held_in rules r k ≡ held_in p.lists.rules r k

abbrev with_rules : Parts → Subscribed → Parts
with_rules p rules = record p { lists = record p.lists { rules = rules } }

raised_held : (p : Parts) (rules : Subscribed) (rule : Rule) (asked : ℕ) → IsRaised p rules rule asked → (o : Option Rule) (k : ℕ) → held_of (with_rules p rules).lists o k ≡ held_of p.lists o k
raised_held p rules rule asked is None k = refl
raised_held p rules rule asked is (Some r) k = is.held r k

wants_raised : (p : Parts) (rules : Subscribed) (rule : Rule) (asked : ℕ) → IsRaised p rules rule asked → (o : Option Rule) → ((r : Rule) → o ≡ Some r → IsSome (limit_in p.lists.rules r))
    → wants_of (with_rules p rules) o ≡ option_map (raise rule (Some asked)) (wants_of p o)
wants_raised p rules rule asked is None there = refl
wants_raised p rules rule asked is (Some r) there =
    ap (λ n. Some (record { rule = r; limit = n }))
    (ap (λ o. unwrap_or o 0) (is.limits r) ∙ raised_by asked (limit_in p.lists.rules r) (is_same rule r) (there r refl)
    ∙ ap (λ b. if b then max (unwrap_or (limit_in p.lists.rules r) 0) asked else unwrap_or (limit_in p.lists.rules r) 0) (same_back rule r))

module _ (p : Parts) (rules : Subscribed) (rule : Rule) (asked : ℕ) (is : IsRaised p rules rule asked) where
  raised_shown_by : (k : ℕ) (st : StreamState) (pr : Progress) → ((r : Rule) → is_of r (rule_kept (shown_by p k st pr).wants) ≡ true → IsSome (limit_in p.lists.rules r))
      → shown_by (with_rules p rules) k st pr ≡ raise_held rule (Some asked) (shown_by p k st pr)
  raised_shown_by k st (Progress.AwaitingReply serial index denial) there =
      ap (λ w. record (shown_by p k st (Progress.AwaitingReply serial index denial)) { wants = w })
      (wants_raised p rules rule asked is st.rule (λ r of. there r (ap (λ o. is_of r (rule_kept (wants_of p o))) of ∙ same_self r)))
  raised_shown_by k st (Progress.Denied m) there = refl
  raised_shown_by k st Progress.Active there =
      ap (λ w. record (shown_by (with_rules p rules) k st Progress.Active) { wants = w })
      (wants_raised p rules rule asked is st.rule (λ r of. there r (ap (λ o. is_of r (rule_kept (wants_of p o))) of ∙ same_self r)))
      ∙ ap (λ h. record (raise_held rule (Some asked) (shown_by p k st Progress.Active)) { items = messages_of h }) (raised_held p rules rule asked is st.rule k)

  raised_shown : (k : ℕ) (known : Option StreamState) → ((r : Rule) → is_of r (rule_kept (shown p k known).wants) ≡ true → IsSome (limit_in p.lists.rules r))
      → shown (with_rules p rules) k known ≡ raise_held rule (Some asked) (shown p k known)
  raised_shown k None there = refl
  raised_shown k (Some st) there = raised_shown_by k st st.progress there

pub raised_views : {p : Parts} {waiting : List ℕ} → AreKept p waiting → (rules : Subscribed) (rule : Rule) (asked : ℕ) → IsRaised p rules rule asked
    → views (record p { lists = record p.lists { rules = rules } }) ≡ map (raise_held rule (Some asked)) (views p)
raised_views {p} {waiting} kept rules rule asked is =
    views_map (raise_held rule (Some asked)) p (with_rules p rules) refl
    (λ k. raised_shown p rules rule asked is k (state_at p k) (λ r wants. limit_held p.lists.rules r k (sym (wants_held kept r k) ∙ wants)))

pub raised_kept : {p : Parts} {waiting : List ℕ} → AreKept p waiting → (rules : Subscribed) (rule : Rule) (asked : ℕ) → IsRaised p rules rule asked → AreKept (record p { lists = record p.lists { rules = rules } }) waiting
raised_kept {p} {waiting} kept rules rule asked is =
    kept_alike kept (with_rules p rules) refl (λ o k. ap (option_map (λ (h : Option (List MessageView)). is_some h)) (raised_held p rules rule asked is o k)) (λ j. alike_same (state_at p j) (state_at p j) refl)
