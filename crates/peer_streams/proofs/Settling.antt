-- A stream that waits for the return to its AddMatch is opened by it, denied by an error, or lost with the write; and what is kept of it then.
use Rattle.std.proofs.{Common.{◌≡◌, ◌≢◌, ℕ, refl, sym, ◌∙◌, ap, Bool, true, false, not, cond, if◌then◌else◌, ◌&&◌, ◌||◌, ◌==◌, List, [], ◌∷◌, Option, Some, None, IsSome, is_some, unwrap_or}, lemmas.Bool.{eq-eqb, ne_eqb, eqb-true, or_right, false≢true}}
use Rattle.std.specs.{Cmp.unsigned_tied, List.list_any, Option.{option_map, option_eq, option_and_then}, Ordering.nat_cmp, BTreeMap.is_at}
use Rattle.wire_message.specs.Replying.{is_serial, replies_to, is_return}
use Rattle.peer_lists.specs.Holdings.{Holdings, held_by, begun}
use Rattle.peer_streams.specs.{declared.lists.Lists.Lists, Names.{MessageView, Rule, StreamState, Progress, Subscription}, Rules.is_same, Subscriptions.{Subscribed, kept_in, limit_in, held_in, has_other_in}, Refinement.{StreamView, Standing, Awaits, WasDenied, Active, Closed, Wants, gone_view, settled_by, settled, lost_by, lost}, Keeping.{Parts, state_at, held_of, messages_of, shown, shown_by, wants_of, stands_in, begun_by, AreKept}, Arriving.{is_answered, is_put_at, Changes}}
use Rattle.peer_streams.proofs.ArrivingKept.{alike, alike_self, wants_so, step_changes}

-- ---- once is as good as twice

settled_twice_by : (st : Standing) (m : MessageView) (v : StreamView) → v.standing ≡ st → settled m (settled_by st m v) ≡ settled_by st m v
settled_twice_by Active m v e = ap (λ st. settled_by st m v) e
settled_twice_by WasDenied m v e = ap (λ st. settled_by st m v) e
settled_twice_by Closed m v e = ap (λ st. settled_by st m v) e
settled_twice_by (Awaits serial index) m v e = by (replies_to serial m) (is_return m.kind) refl
  where
    by : (b r : Bool) → replies_to serial m ≡ b
        → settled m (if b then (if r then record v { standing = Active } else record v { wants = None; standing = WasDenied; items = m ∷ [] }) else v)
        ≡ (if b then (if r then record v { standing = Active } else record v { wants = None; standing = WasDenied; items = m ∷ [] }) else v)
    by true true is = refl
    by true false is = refl
    by false r is = ap (λ st. settled_by st m v) e ∙ ap (λ b. if b then (if is_return m.kind then record v { standing = Active } else record v { wants = None; standing = WasDenied; items = m ∷ [] }) else v) is

pub settled_twice : (m : MessageView) (v : StreamView) → settled m (settled m v) ≡ settled m v
settled_twice m v = settled_twice_by v.standing m v refl

lost_twice_by : (st : Standing) (index : ℕ) (v : StreamView) → v.standing ≡ st → lost index (lost_by st index v) ≡ lost_by st index v
lost_twice_by Active index v e = ap (λ st. lost_by st index v) e
lost_twice_by WasDenied index v e = ap (λ st. lost_by st index v) e
lost_twice_by Closed index v e = ap (λ st. lost_by st index v) e
lost_twice_by (Awaits serial n) index v e = by (n == index) refl
  where
    by : (b : Bool) → (n == index) ≡ b → lost index (if b then gone_view else v) ≡ (if b then gone_view else v)
    by true is = refl
    by false is = ap (λ st. lost_by st index v) e ∙ ap (λ b. if b then gone_view else v) is

pub lost_twice : (index : ℕ) (v : StreamView) → lost index (lost index v) ≡ lost index v
lost_twice index v = lost_twice_by v.standing index v refl

-- ---- another stream of the rule is there

other_by : (k j : ℕ) (es : Holdings) → k ≢ j → IsSome (held_by es j) → list_any (λ (e : ℕ × Option (List MessageView)). not (is_serial (Some k) e.0 || is_serial None e.0)) es ≡ true
other_by k j [] ne there = absurd (false≢true there)
other_by k j (e ∷ es) ne there = by (is_at (nat_cmp j) e.0) refl (λ more. other_by k j es ne more)
  where
    by : (b : Bool) → is_at (nat_cmp j) e.0 ≡ b → (IsSome (held_by es j) → list_any (λ (e : ℕ × Option (List MessageView)). not (is_serial (Some k) e.0 || is_serial None e.0)) es ≡ true) → (not (is_serial (Some k) e.0 || is_serial None e.0) || list_any (λ (e : ℕ × Option (List MessageView)). not (is_serial (Some k) e.0 || is_serial None e.0)) es) ≡ true
    by true is others =
        let same : j ≡ e.0 = eqb-true j e.0 (sym (unsigned_tied j e.0) ∙ is) in
        ap (λ b. not (b || false) || list_any (λ (e : ℕ × Option (List MessageView)). not (is_serial (Some k) e.0 || is_serial None e.0)) es) (ne_eqb k e.0 (λ x. ne (x ∙ sym same)))
    by false is others =
        or_right (not (is_serial (Some k) e.0 || is_serial None e.0)) (list_any (λ (e : ℕ × Option (List MessageView)). not (is_serial (Some k) e.0 || is_serial None e.0)) es)
        (others (sym (ap (λ b. is_some (cond b (Some e.1) (held_by es j))) is) ∙ there))

pub other_there : (v : Subscribed) (r : Rule) (k j : ℕ) → k ≢ j → IsSome (held_in v r j) → has_other_in v r (Some k) None ≡ true
other_there v r k j ne there = by (kept_in v r) there
  where
    by : (o : Option Subscription) → IsSome (option_and_then (λ (s : Subscription). held_by s.list j) o)
        → unwrap_or (option_map (λ (s : Subscription). list_any (λ e. not (is_serial (Some k) e.0 || is_serial None e.0)) s.list) o) false ≡ true
    by None x = absurd (false≢true x)
    by (Some s) x = other_by k j s.list ne x

-- ---- the list's place is closed

-- what closing the stream's place in the list of this rule leaves
pub record Closes (o : Option Rule) (k : ℕ) (l n : Lists) : Type 0 where
  pub limits : (r : Rule) → limit_in n.rules r ≡ (if option_eq is_same o (Some r) && not (has_other_in l.rules r (Some k) None) then None else limit_in l.rules r)
  pub held : (u : Option Rule) (j : ℕ) → held_of n u j ≡ (if option_eq is_same o u && k == j then None else held_of l u j)

closes_limits : (o : Option Rule) (k : ℕ) (l n : Lists) → Closes o k l n → (r : Rule) (j : ℕ) → k ≢ j → IsSome (held_in l.rules r j) → limit_in n.rules r ≡ limit_in l.rules r
closes_limits o k l n c r j ne there =
    c.limits r ∙ ap (λ b. if option_eq is_same o (Some r) && not b then None else limit_in l.rules r) (other_there l.rules r k j ne there) ∙ by (option_eq is_same o (Some r))
  where
    by : (b : Bool) → (if b && not true then None else limit_in l.rules r) ≡ limit_in l.rules r
    by true = refl
    by false = refl

closes_others : (o : Option Rule) (k : ℕ) (l n : Lists) → Closes o k l n → (u : Option Rule) (j : ℕ) → k ≢ j → held_of n u j ≡ held_of l u j
closes_others o k l n c u j ne = c.held u j ∙ ap (λ b. if option_eq is_same o u && b then None else held_of l u j) (ne_eqb k j ne) ∙ by (option_eq is_same o u)
  where
    by : (b : Bool) → (if b && false then None else held_of l u j) ≡ held_of l u j
    by true = refl
    by false = refl

-- none is left of a stream that stood in the list of this rule alone
closes_here : (o : Option Rule) (k : ℕ) (l n : Lists) (b : Option Bool) → Closes o k l n → (u : Option Rule) → option_map is_some (held_of l u k) ≡ (if option_eq is_same u o then b else None) → held_of n u k ≡ None
closes_here o k l n b c u was = c.held u k ∙ ap (λ b. if option_eq is_same o u && b then None else held_of l u k) (eq-eqb k k refl) ∙ by (option_eq is_same o u) refl
  where
    none_by : {A : Type 0} (f : A → Bool) (x : Option A) → option_map f x ≡ None → x ≡ None
    none_by f None e = refl
    none_by f (Some x) e = cc

    by : (a : Bool) → option_eq is_same o u ≡ a → (if a && true then None else held_of l u k) ≡ None
    by true is = refl
    by false is = none_by is_some (held_of l u k) (was ∙ ap (λ a. if a then b else None) (alike u o ∙ is))

-- ---- a stream that waits is settled

-- what is known then of the stream with this number, and of the others
abbrev pub Stores : ℕ → Option StreamState → Parts → Parts → Type 0
Stores k now p q = (j : ℕ) → state_at q j ≡ (if k == j then now else state_at p j)

stores_here : (k : ℕ) (now : Option StreamState) (p q : Parts) → Stores k now p q → state_at q k ≡ now
stores_here k now p q u = u k ∙ ap (λ b. if b then now else state_at p k) (eq-eqb k k refl)

stores_there : (k : ℕ) (now : Option StreamState) (p q : Parts) → Stores k now p q → (j : ℕ) → k ≢ j → state_at q j ≡ state_at p j
stores_there k now p q u j ne = u j ∙ ap (λ b. if b then now else state_at p j) (ne_eqb k j ne)

-- where it stands before
stood : (k : ℕ) (st : StreamState) (p : Parts) (waiting : List ℕ) → AreKept p waiting → state_at p k ≡ Some st → (o : Option Rule) → option_map is_some (held_of p.lists o k) ≡ (if option_eq is_same o st.rule then begun_by st.progress else None)
stood k st p waiting was at o = was.lists o k ∙ ap (stands_in o) at

-- it is opened
answered_waits : (m : MessageView) (pr : Progress) → is_answered m pr ≡ true → begun_by pr ≡ Some false
answered_waits m (Progress.AwaitingReply serial index denial) e = refl
answered_waits m (Progress.Denied r) e = absurd (false≢true e)
answered_waits m Progress.Active e = absurd (false≢true e)

begun_empty : (h : Option (Option (List MessageView))) → option_map is_some h ≡ Some false → option_map begun h ≡ Some (Some [])
begun_empty None e = cc
begun_empty (Some None) e = refl
begun_empty (Some (Some ms)) e = cc

-- what begins holds nothing yet
pub record Begins (o : Option Rule) (k : ℕ) (l n : Lists) : Type 0 where
  pub limits : (r : Rule) → limit_in n.rules r ≡ limit_in l.rules r
  pub held : (u : Option Rule) (j : ℕ) → held_of n u j ≡ (if option_eq is_same o u && k == j then option_map begun (held_of l u j) else held_of l u j)

begins_others : (o : Option Rule) (k : ℕ) (l n : Lists) → Begins o k l n → (u : Option Rule) (j : ℕ) → k ≢ j → held_of n u j ≡ held_of l u j
begins_others o k l n c u j ne = c.held u j ∙ ap (λ b. if option_eq is_same o u && b then option_map begun (held_of l u j) else held_of l u j) (ne_eqb k j ne) ∙ by (option_eq is_same o u)
  where
    by : (b : Bool) → (if b && false then option_map begun (held_of l u j) else held_of l u j) ≡ held_of l u j
    by true = refl
    by false = refl

begins_here : (o : Option Rule) (k : ℕ) (l n : Lists) → Begins o k l n → (u : Option Rule) → option_map is_some (held_of l u k) ≡ (if option_eq is_same u o then Some false else None)
    → held_of n u k ≡ (if option_eq is_same u o then Some (Some []) else None)
begins_here o k l n c u was =
    c.held u k ∙ ap (λ b. if option_eq is_same o u && b then option_map begun (held_of l u k) else held_of l u k) (eq-eqb k k refl)
    ∙ ap (λ b. if b && true then option_map begun (held_of l u k) else held_of l u k) (alike o u) ∙ by (option_eq is_same u o) was
  where
    none_by : {A : Type 0} (f : A → Bool) (x : Option A) → option_map f x ≡ None → x ≡ None
    none_by f None e = refl
    none_by f (Some x) e = cc

    by : (a : Bool) → option_map is_some (held_of l u k) ≡ (if a then Some false else None) → (if a && true then option_map begun (held_of l u k) else held_of l u k) ≡ (if a then Some (Some []) else None)
    by true e = begun_empty (held_of l u k) e
    by false e = none_by is_some (held_of l u k) e

abbrev nothing_yet : Option (Option (List MessageView))
nothing_yet = Some (Some [])

stands_empty : (b : Bool) → option_map is_some (if b then nothing_yet else None) ≡ (if b then Some true else None)
stands_empty true = refl
stands_empty false = refl

opened_shown : (m : MessageView) (k : ℕ) (st : StreamState) (pr : Progress) (p q : Parts) → is_answered m pr ≡ true → is_return m.kind ≡ true → wants_of q st.rule ≡ wants_of p st.rule → messages_of (held_of q.lists st.rule k) ≡ []
    → shown_by q k st Progress.Active ≡ settled m (shown_by p k st pr)
opened_shown m k st (Progress.AwaitingReply serial index denial) p q answered return wants none =
    rw (answered, return) (
    ap (λ (w : Option Wants). record (shown_by q k st Progress.Active) { wants = w }) wants
    ∙ ap (λ ms. record (shown_by q k st Progress.Active) { wants = wants_of p st.rule; items = ms }) none)
opened_shown m k st (Progress.Denied r) p q answered return wants none = absurd (false≢true answered)
opened_shown m k st Progress.Active p q answered return wants none = absurd (false≢true answered)

pub opened : (m : MessageView) (k : ℕ) (st : StreamState) (p q : Parts) (waiting : List ℕ) → q.made ≡ p.made → state_at p k ≡ Some st → is_answered m st.progress ≡ true → is_return m.kind ≡ true
    → Stores k (Some (record st { progress = Progress.Active })) p q → Begins st.rule k p.lists q.lists → AreKept p waiting → Changes (settled m) k waiting p q
opened m k st p q waiting made at answered return u c was =
    let waited = answered_waits m st.progress answered in
    let begins : (o : Option Rule) → held_of q.lists o k ≡ (if option_eq is_same o st.rule then Some (Some []) else None) =
    λ o. begins_here st.rule k p.lists q.lists c o (stood k st p waiting was at o ∙ ap (λ b. if option_eq is_same o st.rule then b else None) waited) in
    step_changes (settled m) k (Some (record st { progress = Progress.Active })) p q waiting
    (record {
      made = made;
      here = stores_here k _ p q u;
      there = stores_there k _ p q u;
      stands = λ o. ap (option_map is_some) (begins o) ∙ stands_empty (option_eq is_same o st.rule);
      held = begins_others st.rule k p.lists q.lists c;
      limits = λ r j ne there. c.limits r;
      known = λ there. ap is_some at;
      waited = λ there. absurd (false≢true there);
    }) was
    (opened_shown m k st st.progress p q answered return (wants_so p q st.rule (λ r e. c.limits r))
    (ap messages_of (begins st.rule ∙ ap (λ b. if b then Some (Some []) else None) (alike_self st.rule)))
    ∙ ap (λ o. settled m (shown p k o)) (sym at))

-- it is denied
none_both : (b : Bool) → ◌≡◌ {A = Option Bool} None (if b then None else None)
none_both true = refl
none_both false = refl

denied_shown : (m : MessageView) (k : ℕ) (st : StreamState) (pr : Progress) (p : Parts) → is_answered m pr ≡ true → is_return m.kind ≡ false
    → record { wants = None; standing = WasDenied; items = m ∷ []; closing_delivered = st.closing_delivered; open_reported = st.open_reported } ≡ settled m (shown_by p k st pr)
denied_shown m k st (Progress.AwaitingReply serial index denial) p answered return = rw (answered, return) refl
denied_shown m k st (Progress.Denied r) p answered return = absurd (false≢true answered)
denied_shown m k st Progress.Active p answered return = absurd (false≢true answered)

pub denied : (m : MessageView) (k : ℕ) (st : StreamState) (p q : Parts) (waiting : List ℕ) → q.made ≡ p.made → state_at p k ≡ Some st → is_answered m st.progress ≡ true → is_return m.kind ≡ false
    → Stores k (Some (record st { rule = None; progress = Progress.Denied m })) p q → Closes st.rule k p.lists q.lists → AreKept p waiting → Changes (settled m) k waiting p q
denied m k st p q waiting made at answered return u c was =
    step_changes (settled m) k (Some (record st { rule = None; progress = Progress.Denied m })) p q waiting
    (record {
      made = made;
      here = stores_here k _ p q u;
      there = stores_there k _ p q u;
      stands = λ o. ap (option_map is_some) (closes_here st.rule k p.lists q.lists (begun_by st.progress) c o (stood k st p waiting was at o)) ∙ none_both (option_eq is_same o None);
      held = closes_others st.rule k p.lists q.lists c;
      limits = closes_limits st.rule k p.lists q.lists c;
      known = λ there. ap is_some at;
      waited = λ there. absurd (false≢true there);
    }) was
    (denied_shown m k st st.progress p answered return ∙ ap (λ o. settled m (shown p k o)) (sym at))

-- ---- the write of its AddMatch fails

dropped_shown : (index k : ℕ) (st : StreamState) (pr : Progress) (p : Parts) → is_put_at index pr ≡ true → gone_view ≡ lost index (shown_by p k st pr)
dropped_shown index k st (Progress.AwaitingReply serial n denial) p e = rw e refl
dropped_shown index k st (Progress.Denied r) p e = absurd (false≢true e)
dropped_shown index k st Progress.Active p e = absurd (false≢true e)

pub dropped : (index k : ℕ) (st : StreamState) (p q : Parts) (waiting : List ℕ) → q.made ≡ p.made → state_at p k ≡ Some st → is_put_at index st.progress ≡ true → Stores k None p q → Closes st.rule k p.lists q.lists → AreKept p waiting
    → Changes (lost index) k waiting p q
dropped index k st p q waiting made at put u c was =
    step_changes (lost index) k None p q waiting
    (record {
      made = made;
      here = stores_here k _ p q u;
      there = stores_there k _ p q u;
      stands = λ o. ap (option_map is_some) (closes_here st.rule k p.lists q.lists (begun_by st.progress) c o (stood k st p waiting was at o));
      held = closes_others st.rule k p.lists q.lists c;
      limits = closes_limits st.rule k p.lists q.lists c;
      known = λ there. absurd (false≢true there);
      waited = λ there. absurd (false≢true there);
    }) was
    (dropped_shown index k st st.progress p put ∙ ap (λ o. lost index (shown p k o)) (sym at))
