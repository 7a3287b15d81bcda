-- What a message leaves that is given to one rule after another, and what is left where it is taken back.
use Rattle.std.proofs.{Common.{◌≡◌, ◌≢◌, ℕ, zero, suc, ◌≤◌, refl, sym, ◌∙◌, ap, subst, arith, Bool, true, false, cond, if◌then◌else◌, List, [], ◌∷◌, length, Option, Some, None, IsSome, Result, Ok, Err, OnOk, OnErr, is_err}, lemmas.Bool.false≢true, lemmas.Option.{none-some, same_Some}}
use Rattle.std.specs.{List.{AllByRecursion, AllZip, slice_get}, Option.{option_map, option_and_then}}
use Rattle.indexmap.specs.IndexMap.{set_value_at}
use Rattle.peer_lists.specs.Holdings.{held_by, with_message}
use Rattle.peer_streams.specs.{Names.{MessageView, Rule, Subscription, accepts}, Rules.is_same, Subscriptions.{Subscribed, kept_in, limit_in, held_in, HasTaken, HasTakenBy, IsAsBefore, IsAsBeforeBy, FirstAndRest}}
use Rattle.peer_streams.proofs.{SameRule.same_one, SubscribedLookups.has_one_still}

-- ---- rule by rule

module _ (P Q : Rule × Subscription → Rule × Subscription → Type 0) where
  pub first_none : (v u : Subscribed) → FirstAndRest P Q 0 v u → AllZip Q v u
  first_none [] [] h = tt
  first_none [] (f ∷ fs) h = absurd h
  first_none (e ∷ es) [] h = absurd h
  first_none (e ∷ es) (f ∷ fs) h = (h.0, first_none es fs h.1)

  pub first_all : (n : ℕ) (v u : Subscribed) → length u ≤ n → FirstAndRest P Q n v u → AllZip P v u
  first_all n [] [] le h = tt
  first_all n [] (f ∷ fs) le h = absurd h
  first_all n (e ∷ es) [] le h = absurd h
  first_all zero (e ∷ es) (f ∷ fs) le h = absurd (omega arith)
  first_all (suc n) (e ∷ es) (f ∷ fs) le h = (h.0, first_all n es fs (omega arith) h.1)

  pub first_length : (n : ℕ) (v u : Subscribed) → FirstAndRest P Q n v u → length u ≡ length v
  first_length n [] [] h = refl
  first_length n [] (f ∷ fs) h = absurd h
  first_length n (e ∷ es) [] h = absurd h
  first_length zero (e ∷ es) (f ∷ fs) h = ap suc (first_length zero es fs h.1)
  first_length (suc n) (e ∷ es) (f ∷ fs) h = ap suc (first_length n es fs h.1)

  pub first_start : ((e : Rule × Subscription) → Q e e) → (v : Subscribed) → FirstAndRest P Q 0 v v
  first_start q [] = tt
  first_start q (e ∷ es) = (q e, first_start q es)

  -- one rule more
  pub first_more : (n : ℕ) (v u : Subscribed) (x : Rule) (s w : Subscription) → FirstAndRest P Q n v u → slice_get u n ≡ Some (x, s) → ((e : Rule × Subscription) → Q e (x, s) → P e (x, w))
      → FirstAndRest P Q (suc n) v (set_value_at u n w)
  first_more n [] [] x s w h at g = absurd (none-some (x, s) at)
  first_more n [] (f ∷ fs) x s w h at g = absurd h
  first_more n (e ∷ es) [] x s w h at g = absurd h
  first_more zero (e ∷ es) (f ∷ fs) x s w h at g =
      let same : f ≡ (x, s) = same_Some f (x, s) at in
      (subst (λ (k : Rule). P e (k, w)) (sym (ap (λ (p : Rule × Subscription). p.0) same)) (g e (subst (Q e) same h.0)), h.1)
  first_more (suc n) (e ∷ es) (f ∷ fs) x s w h at g = (h.0, first_more n es fs x s w h.1 at g)

  -- one rule less
  pub first_less : (n : ℕ) (v u : Subscribed) (x : Rule) (s w : Subscription) → FirstAndRest P Q (suc n) v u → slice_get u n ≡ Some (x, s) → ((e : Rule × Subscription) → P e (x, s) → Q e (x, w))
      → FirstAndRest P Q n v (set_value_at u n w)
  first_less n [] [] x s w h at g = absurd (none-some (x, s) at)
  first_less n [] (f ∷ fs) x s w h at g = absurd h
  first_less n (e ∷ es) [] x s w h at g = absurd h
  first_less zero (e ∷ es) (f ∷ fs) x s w h at g =
      let same : f ≡ (x, s) = same_Some f (x, s) at in
      (subst (λ (k : Rule). Q e (k, w)) (sym (ap (λ (p : Rule × Subscription). p.0) same)) (g e (subst (P e) same h.0)), h.1)
  first_less (suc n) (e ∷ es) (f ∷ fs) x s w h at g = (h.0, first_less n es fs x s w h.1 at g)

-- nothing is written
pub set_same_at : (u : Subscribed) (n : ℕ) (x : Rule) (s : Subscription) → slice_get u n ≡ Some (x, s) → set_value_at u n s ≡ u
set_same_at [] n x s at = refl
set_same_at (f ∷ fs) zero x s at = ap (λ y. (f.0, y) ∷ fs) (sym (ap (λ (p : Rule × Subscription). p.1) (same_Some f (x, s) at)))
set_same_at (f ∷ fs) (suc n) x s at = ap (λ l. f ∷ l) (set_same_at fs n x s at)

pub before_same : (e : Rule × Subscription) → IsAsBeforeBy e e
before_same e = record { rule = refl; same = record { limit = refl; held = λ k. refl } }

-- the message is given to one rule's streams
pub taken_by : (m : MessageView) (x : Rule) (s w : Subscription) (b : Bool) → b ≡ accepts x m → HasTaken b m s w → (e : Rule × Subscription) → IsAsBeforeBy e (x, s) → HasTakenBy m e (x, w)
taken_by m x s w b is t e h =
    let asked : b ≡ accepts e.0 m = is ∙ ap (λ r. accepts r m) h.rule in
    record {
      rule = h.rule;
      taken = record {
        limit = t.limit ∙ h.same.limit;
        noted = t.noted ∙ asked;
        held = λ k. t.held k ∙ (λ i. if asked i then option_map (with_message m) (h.same.held k i) else h.same.held k i);
      };
    }

-- and taken back
pub back_by : (m : MessageView) (x : Rule) (s w : Subscription) → ((b : Bool) (n : MessageView) (o : Subscription) → HasTaken b n o s → IsAsBefore o w) → (e : Rule × Subscription) → HasTakenBy m e (x, s) → IsAsBeforeBy e (x, w)
back_by m x s w back e h = record { rule = h.rule; same = back (accepts e.0 m) m e.1 h.taken }

pub on_is_err : {T E P : Type 0} (r : Result T E) → is_err r ≡ true → OnErr r P → P
on_is_err (Ok x) e p = absurd (false≢true e)
on_is_err (Err x) e p = p

pub on_is_ok : {T E P : Type 0} (r : Result T E) → is_err r ≡ false → OnOk r P → P
on_is_ok (Ok x) e p = p
on_is_ok (Err x) e p = absurd (false≢true (sym e))

-- ---- of all rules

-- where each rule and its capacity stay, and what each stream holds changes by its rule
module _ (R : Rule × Subscription → Rule × Subscription → Type 0) (g : Rule → Option (Option (List MessageView)) → Option (Option (List MessageView)))
    (rule : (e f : Rule × Subscription) → R e f → f.0 ≡ e.0) (limit : (e f : Rule × Subscription) → R e f → f.1.limit ≡ e.1.limit)
    (held : (e f : Rule × Subscription) → R e f → (k : ℕ) → held_by f.1.list k ≡ g e.0 (held_by e.1.list k)) where
  each_limits : (v u : Subscribed) → AllZip R v u → (r : Rule) → limit_in u r ≡ limit_in v r
  each_limits [] [] h r = refl
  each_limits [] (f ∷ fs) h r = absurd h
  each_limits (e ∷ es) [] h r = absurd h
  each_limits (e ∷ es) (f ∷ fs) h r = ap (λ x. option_map (λ (y : Subscription). y.limit) (cond (is_same r x) (Some f.1) (kept_in fs r))) (rule e f h.0) ∙ by (is_same r e.0) (each_limits es fs h.1 r)
    where
      by : (b : Bool) → limit_in fs r ≡ limit_in es r → option_map (λ (y : Subscription). y.limit) (cond b (Some f.1) (kept_in fs r)) ≡ option_map (λ (y : Subscription). y.limit) (cond b (Some e.1) (kept_in es r))
      by true rest = ap Some (limit e f h.0)
      by false rest = rest

  each_held : ((r : Rule) → g r None ≡ None) → (v u : Subscribed) → AllZip R v u → (r : Rule) (k : ℕ) → held_in u r k ≡ g r (held_in v r k)
  each_held none [] [] h r k = sym (none r)
  each_held none [] (f ∷ fs) h r k = absurd h
  each_held none (e ∷ es) [] h r k = absurd h
  each_held none (e ∷ es) (f ∷ fs) h r k =
      ap (λ x. option_and_then (λ (y : Subscription). held_by y.list k) (cond (is_same r x) (Some f.1) (kept_in fs r))) (rule e f h.0) ∙ by (is_same r e.0) refl (each_held none es fs h.1 r k)
    where
      by : (b : Bool) → is_same r e.0 ≡ b → held_in fs r k ≡ g r (held_in es r k)
          → option_and_then (λ (y : Subscription). held_by y.list k) (cond b (Some f.1) (kept_in fs r)) ≡ g r (option_and_then (λ (y : Subscription). held_by y.list k) (cond b (Some e.1) (kept_in es r)))
      by true same rest = held e f h.0 k ∙ ap (λ x. g x (held_by e.1.list k)) (sym (same_one r e.0 same))
      by false same rest = rest

  each_used : ((r : Rule) (o : Option (Option (List MessageView))) → IsSome o → IsSome (g r o)) → (v u : Subscribed) → AllZip R v u
      → AllByRecursion (λ (e : Rule × Subscription). e.1.list ≢ []) v → AllByRecursion (λ (e : Rule × Subscription). e.1.list ≢ []) u
  each_used some [] [] h a = a
  each_used some [] (f ∷ fs) h a = absurd h
  each_used some (e ∷ es) [] h a = absurd h
  each_used some (e ∷ es) (f ∷ fs) h a = (
    has_one_still e.1.list f.1.list a.0 (λ k i. subst IsSome (sym (held e f h.0 k)) (some e.0 (held_by e.1.list k) i)),
    each_used some es fs h.1 a.1,
  )

-- a message more, where the rule accepts it
abbrev given : MessageView → Rule → Option (Option (List MessageView)) → Option (Option (List MessageView))
given m r o = if accepts r m then option_map (with_message m) o else o

given_none : (m : MessageView) (b : Bool) → (if b then option_map (with_message m) None else None) ≡ None
given_none m true = refl
given_none m false = refl

given_some : (m : MessageView) (b : Bool) (o : Option (Option (List MessageView))) → IsSome o → IsSome (if b then option_map (with_message m) o else o)
given_some m true (Some x) i = refl
given_some m true None i = i
given_some m false o i = i

pub taken_held : (m : MessageView) (v u : Subscribed) → AllZip (HasTakenBy m) v u → (r : Rule) (k : ℕ) → held_in u r k ≡ (if accepts r m then option_map (with_message m) (held_in v r k) else held_in v r k)
taken_held m = each_held (HasTakenBy m) (given m) (λ e f h. h.rule) (λ e f h. h.taken.limit) (λ e f h. h.taken.held) (λ r. given_none m (accepts r m))

pub before_held : (v u : Subscribed) → AllZip IsAsBeforeBy v u → (r : Rule) (k : ℕ) → held_in u r k ≡ held_in v r k
before_held = each_held IsAsBeforeBy (λ r o. o) (λ e f h. h.rule) (λ e f h. h.same.limit) (λ e f h. h.same.held) (λ r. refl)

-- ---- whether it was given or taken back

module _ {T E : Type 0} (r : Result T E) (m : MessageView) (v u : Subscribed) (err : OnErr r (AllZip IsAsBeforeBy v u)) (ok : OnOk r (AllZip (HasTakenBy m) v u)) where
  pub pushed_limits : (q : Rule) → limit_in u q ≡ limit_in v q
  pushed_limits q = by r err ok
    where
      by : (x : Result T E) → OnErr x (AllZip IsAsBeforeBy v u) → OnOk x (AllZip (HasTakenBy m) v u) → limit_in u q ≡ limit_in v q
      by (Ok x) a b = each_limits (HasTakenBy m) (given m) (λ e f h. h.rule) (λ e f h. h.taken.limit) (λ e f h. h.taken.held) v u b q
      by (Err x) a b = each_limits IsAsBeforeBy (λ r o. o) (λ e f h. h.rule) (λ e f h. h.same.limit) (λ e f h. h.same.held) v u a q

  pub pushed_used : AllByRecursion (λ (e : Rule × Subscription). e.1.list ≢ []) v → AllByRecursion (λ (e : Rule × Subscription). e.1.list ≢ []) u
  pushed_used used = by r err ok
    where
      by : (x : Result T E) → OnErr x (AllZip IsAsBeforeBy v u) → OnOk x (AllZip (HasTakenBy m) v u) → AllByRecursion (λ (e : Rule × Subscription). e.1.list ≢ []) u
      by (Ok x) a b = each_used (HasTakenBy m) (given m) (λ e f h. h.rule) (λ e f h. h.taken.limit) (λ e f h. h.taken.held) (λ p. given_some m (accepts p m)) v u b used
      by (Err x) a b = each_used IsAsBeforeBy (λ r o. o) (λ e f h. h.rule) (λ e f h. h.same.limit) (λ e f h. h.same.held) (λ p o i. i) v u a used
