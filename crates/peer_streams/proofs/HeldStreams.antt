-- Which streams stand in which list, and what is kept of them then.
use Rattle.std.proofs.{Common.{◌≡◌, subst, zero, suc, ℕ, ◌<◌, refl, sym, ◌∙◌, ap, arith, Bool, true, false, ◌||◌, if◌then◌else◌, is_some, List, [], ◌∷◌, Option, Some, None, IsSome}, lemmas.Bool.{false≢true, false_from_ne_true, or_left, or_right}, lemmas.Option.{slice_get-map, slice_get_within, same_Some}}
use Rattle.std.specs.{List.{slice_get, list_any}, Option.{option_map, option_eq}}
use Rattle.wire_message.specs.{Plain.edit, Replying.is_serial}
use Rattle.wire_message.proofs.Plain.{list_any-map, list_any-along}
use Rattle.peer_streams.specs.{Names.{MessageView, Rule, StreamState, Progress}, Rules.is_same, History.{Gone, done_by, Stream, is_of, subscribes, is_subscribed, StreamsPast}, Streams.gone_if, Subscriptions.{limit_in, held_in}, Refinement.{StreamView, kept as kept_of, RefinesStreams}, Keeping.{Parts, AreKept, state_at, held_of, shown, shown_by, wants_of, view_at, views, begun_by, stands_in}}
use Rattle.peer_streams.proofs.{KeptMore.limit_held, Views.{views_at, views_length}, StreamsMade.rule_kept, RuledStreams.{subscribes_kept, gone_two, two_at}, LookedUp.there_view}

-- ---- whether some element passes

pub any_there : {A : Type 0} (f : A → Bool) (xs : List A) (k : ℕ) (x : A) → slice_get xs k ≡ Some x → f x ≡ true → list_any f xs ≡ true
any_there f [] k x at e = cc
any_there f (y ∷ ys) zero x at e = let same : y ≡ x = cc in or_left (f y) (list_any f ys) (ap f same ∙ e)
any_there f (y ∷ ys) (suc k) x at e = or_right (f y) (list_any f ys) (any_there f ys k x at e)

pub none_there : {A : Type 0} (f : A → Bool) (xs : List A) → ((k : ℕ) (x : A) → slice_get xs k ≡ Some x → f x ≡ false) → list_any f xs ≡ false
none_there f [] e = refl
none_there f (x ∷ xs) e = ap (λ b. b || list_any f xs) (e 0 x refl) ∙ none_there f xs (λ k y at. e (suc k) y at)

-- ---- where a stream stands

is_some_map : {A B : Type 0} (f : A → B) (o : Option A) → is_some (option_map f o) ≡ is_some o
is_some_map f None = refl
is_some_map f (Some x) = refl

pub stands_held : {p : Parts} {waiting : List ℕ} → AreKept p waiting → (o : Option Rule) (k : ℕ) → is_some (held_of p.lists o k) ≡ is_some (stands_in o (state_at p k))
stands_held {p} {waiting} kept o k = sym (is_some_map (λ h. is_some h) (held_of p.lists o k)) ∙ ap (λ b. is_some b) (kept.lists o k)

-- it stands in a rule's list exactly where what is kept of it has the rule
ruled_by : (b : Bool) (x : Bool) → b ≡ is_some (if b then Some x else None)
ruled_by true x = refl
ruled_by false x = refl

denied_by : (b : Bool) → false ≡ is_some {T = Bool} (if b then None else None)
denied_by true = refl
denied_by false = refl

ruled_of : (p : Parts) (rule : Rule) (x : Bool) (o : Option Rule) → is_of rule (rule_kept (wants_of p o)) ≡ is_some (if option_eq is_same (Some rule) o then Some x else None)
ruled_of p rule x None = refl
ruled_of p rule x (Some r) = ruled_by (is_same rule r) x

wants_by : (p : Parts) (k : ℕ) (rule : Rule) (st : StreamState) (pr : Progress) → is_of rule (rule_kept (shown_by p k st pr).wants) ≡ is_some (if option_eq is_same (Some rule) st.rule then begun_by pr else None)
wants_by p k rule st (Progress.AwaitingReply serial index denial) = ruled_of p rule false st.rule
wants_by p k rule st (Progress.Denied m) = denied_by (option_eq is_same (Some rule) st.rule)
wants_by p k rule st Progress.Active = ruled_of p rule true st.rule

wants_stands : (p : Parts) (k : ℕ) (rule : Rule) (o : Option StreamState) → is_of rule (rule_kept (shown p k o).wants) ≡ is_some (stands_in (Some rule) o)
wants_stands p k rule None = refl
wants_stands p k rule (Some st) = wants_by p k rule st st.progress

pub wants_held : {p : Parts} {waiting : List ℕ} → AreKept p waiting → (rule : Rule) (k : ℕ) → is_of rule (rule_kept (view_at p k).wants) ≡ is_some (held_in p.lists.rules rule k)
wants_held {p} {waiting} kept rule k = wants_stands p k rule (state_at p k) ∙ sym (stands_held kept (Some rule) k)

-- and it was made
stands_known : (o : Option Rule) (st : Option StreamState) → IsSome (stands_in o st) → IsSome st
stands_known o None there = there
stands_known o (Some st) there = refl

pub held_made : {p : Parts} {waiting : List ℕ} → AreKept p waiting → (o : Option Rule) (k : ℕ) → IsSome (held_of p.lists o k) → k < p.made
held_made {p} {waiting} kept o k there = kept.below k (stands_known o (state_at p k) (sym (stands_held kept o k) ∙ there))

-- ---- whether a rule has a stream

pub subscribed_any : (v : List StreamView) (h : StreamsPast) (rule : Rule) → RefinesStreams v h → is_subscribed h.read h.streams rule ≡ list_any (λ (q : StreamView). is_of rule (rule_kept q.wants)) v
unfolding is_subscribed
subscribed_any v h rule left =
    list_any-along (subscribes h.read rule) (λ s. is_of rule (rule_kept (kept_of h.capacities.rules h.read s).wants)) (λ s. sym (subscribes_kept h.capacities.rules rule h.read s)) h.streams
    ∙ sym (list_any-map (λ (q : StreamView). is_of rule (rule_kept q.wants)) (kept_of h.capacities.rules h.read) h.streams)
    ∙ ap (list_any (λ (q : StreamView). is_of rule (rule_kept q.wants))) (sym left.shown)

-- what stands in the list at a place
pub view_there : (p : Parts) (k : ℕ) (q : StreamView) → slice_get (views p) k ≡ Some q → q ≡ view_at p k
view_there p k q at =
    let lt : k < p.made = omega (arith, slice_get_within (views p) k q at, views_length p) in
    same_Some q (view_at p k) (sym at ∙ views_at p k lt)

-- A rule is subscribed exactly where it has a list.
pub rule_had : {p : Parts} {waiting : List ℕ} → AreKept p waiting → (v : List StreamView) → views p ≡ v → (h : StreamsPast) → RefinesStreams v h → (rule : Rule) (b : Bool)
    → b ≡ is_some (limit_in p.lists.rules rule) → (b ≡ true → (k : ℕ) × IsSome (held_in p.lists.rules rule k)) → b ≡ is_subscribed h.read h.streams rule
rule_had {p} {waiting} kept v view h left rule true has used =
    let W : StreamView → Bool = λ q. is_of rule (rule_kept q.wants) in
    let one = used refl in
    sym (subscribed_any v h rule left ∙ ap (list_any W) (sym view)
    ∙ any_there W (views p) one.0 (view_at p one.0) (views_at p one.0 (held_made kept (Some rule) one.0 one.1)) (wants_held kept rule one.0 ∙ one.1))
rule_had {p} {waiting} kept v view h left rule false has used =
    let W : StreamView → Bool = λ q. is_of rule (rule_kept q.wants) in
    sym (subscribed_any v h rule left ∙ ap (list_any W) (sym view)
    ∙ none_there W (views p) (λ k q at.
    ap W (view_there p k q at) ∙ wants_held kept rule k
    ∙ false_from_ne_true (is_some (held_in p.lists.rules rule k)) (λ there. false≢true (has ∙ limit_held p.lists.rules rule k there))))

-- ---- but for some that are closed

past_edit : {A : Type 0} (f : A → A) (xs : List A) (j k : ℕ) → slice_get xs k ≡ None → slice_get (edit j f xs) k ≡ None
past_edit f [] j k at = refl
past_edit f (x ∷ xs) zero zero at = cc
past_edit f (x ∷ xs) zero (suc k) at = at
past_edit f (x ∷ xs) (suc j) zero at = cc
past_edit f (x ∷ xs) (suc j) (suc k) at = past_edit f xs j k at

past_gone : (o : Option ℕ) (h : StreamsPast) (k : ℕ) → slice_get h.streams k ≡ None → slice_get (gone_if o h).streams k ≡ None
past_gone None h k at = at
past_gone (Some j) h k at = past_edit (done_by Gone) h.streams j k at

spared : (a b : Bool) (s : Stream) → (a || b) ≡ false → (if a then done_by Gone (if b then done_by Gone s else s) else (if b then done_by Gone s else s)) ≡ s
spared true b s e = cc
spared false true s e = cc
spared false false s e = refl

not_spared : (a b : Bool) (ms : List MessageView) (rule : Rule) (s : Stream) → ((a || b) ≡ false → subscribes ms rule s ≡ false)
    → subscribes ms rule (if a then done_by Gone (if b then done_by Gone s else s) else (if b then done_by Gone s else s)) ≡ false
not_spared true b ms rule s e = refl
not_spared false true ms rule s e = refl
not_spared false false ms rule s e = e refl

-- what stands there once they are closed
closed_at : (one before : Option ℕ) (h : StreamsPast) (k : ℕ) (x : Stream) (o : Option Stream) → slice_get h.streams k ≡ o → slice_get (gone_if one (gone_if before h)).streams k ≡ Some x
    → (s : Stream) × (slice_get h.streams k ≡ Some s) × (x ≡ gone_two one before k s)
closed_at one before h k x None at new = let past : slice_get (gone_if one (gone_if before h)).streams k ≡ None = past_gone one (gone_if before h) k (past_gone before h k at) in cc
closed_at one before h k x (Some s) at new = (s, at, same_Some x (gone_two one before k s) (sym new ∙ two_at one before h k s at))

subscribes_held : {p : Parts} {waiting : List ℕ} → AreKept p waiting → (h : StreamsPast) → RefinesStreams (views p) h → (rule : Rule) (k : ℕ) (s : Stream) → slice_get h.streams k ≡ Some s
    → subscribes h.read rule s ≡ is_some (held_in p.lists.rules rule k)
subscribes_held {p} {waiting} kept h left rule k s at =
    let view : slice_get (views p) k ≡ Some (kept_of h.capacities.rules h.read s) =
    ap (λ qs. slice_get qs k) left.shown ∙ slice_get-map (kept_of h.capacities.rules h.read) h.streams k ∙ ap (option_map (kept_of h.capacities.rules h.read)) at in
    sym (subscribes_kept h.capacities.rules rule h.read s) ∙ ap (λ (q : StreamView). is_of rule (rule_kept q.wants)) (view_there p k _ view) ∙ wants_held kept rule k

-- A rule is subscribed but for these exactly where another stands in its list.
pub rule_used : {p : Parts} {waiting : List ℕ} → AreKept p waiting → (v : List StreamView) → views p ≡ v → (h : StreamsPast) → RefinesStreams v h → (rule : Rule) (one before : Option ℕ) (b : Bool)
    → (b ≡ true → (k : ℕ) × IsSome (held_in p.lists.rules rule k) × ((is_serial one k || is_serial before k) ≡ false))
    → (b ≡ false → (k : ℕ) → IsSome (held_in p.lists.rules rule k) → (is_serial one k || is_serial before k) ≡ true)
    → b ≡ is_subscribed h.read (gone_if one (gone_if before h)).streams rule
unfolding is_subscribed
rule_used {p} {waiting} kept v view h left rule one before true other none =
    let mine = subst (λ qs. RefinesStreams qs h) (sym view) left in
    let it = other refl in
    let k = it.0 in
    let is = there_view (views p) h k (view_at p k) mine (views_at p k (held_made kept (Some rule) k it.1)) in
    sym (any_there (subscribes h.read rule) (gone_if one (gone_if before h)).streams k (gone_two one before k is.stream) (two_at one before h k is.stream is.at)
    (ap (subscribes h.read rule) (spared (is_serial one k) (is_serial before k) is.stream it.2) ∙ subscribes_held kept h mine rule k is.stream is.at ∙ it.1))
rule_used {p} {waiting} kept v view h left rule one before false other none =
    let mine = subst (λ qs. RefinesStreams qs h) (sym view) left in
    sym (none_there (subscribes h.read rule) (gone_if one (gone_if before h)).streams (λ k x new.
    let is = closed_at one before h k x (slice_get h.streams k) refl new in
    ap (subscribes h.read rule) is.2
    ∙ not_spared (is_serial one k) (is_serial before k) h.read rule is.0 (λ apart.
    subscribes_held kept h mine rule k is.0 is.1
    ∙ false_from_ne_true (is_some (held_in p.lists.rules rule k)) (λ there. false≢true (sym apart ∙ none refl k there)))))
