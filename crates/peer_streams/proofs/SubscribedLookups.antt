-- What a look-up of a rule finds, before and after a change.
use Rattle.std.proofs.{Common.{◌≡◌, ◌≢◌, ℕ, ◌==◌, refl, sym, ◌∙◌, ap, arith, Bool, true, false, cond, is_some, if◌then◌else◌, ◌&&◌, List, [], ◌∷◌, Option, Some, None, IsSome}, lemmas.Bool.{false≢true, eq-eqb, le-ltb}, lemmas.Option.{none-some}, lemmas.Map.Keys.{IsDistinct-head, IsDistinct-tail}}
use Rattle.std.specs.{Cmp.unsigned_tied, Ordering.nat_cmp, BTreeMap.is_at, List.{AllByRecursion, IsDistinct}, Map.{lookup, keys_of}, Option.{option_map, option_and_then}, Prelude.nat_lt}
use Rattle.rule_match.specs.contracts.rule.MatchRulePartialEq.TheImpl.{ghosts as of_rules}
use Rattle.peer_lists.specs.Holdings.{Holdings, held_by, most_of}
use Rattle.peer_streams.specs.{Names.{MessageView, Rule, Subscription}, Rules.is_same, Subscriptions.{Subscribed, kept_in, limit_in, held_in, is_full_one, AreDistinct}}
use Rattle.peer_streams.proofs.SameRule.{code_same, same_one}

-- ---- the map's test is that of the parts

pub same_test : (r : Rule) → of_rules.eq r ≡ is_same r
same_test r = λ i x. code_same r x i

-- what the map's look-up finds is kept
pub kept_found : (v : Subscribed) (rule : Rule) (o : Option Subscription) → o ≡ lookup (of_rules.eq rule) v → kept_in v rule ≡ o
kept_found v rule o e = sym (e ∙ ap (λ t. lookup t v) (same_test rule))

none_of : (t : Rule → Bool) (es : Subscribed) → AllByRecursion (λ y. t y ≡ false) (keys_of es) → lookup t es ≡ None
none_of t [] h = refl
none_of t (e ∷ es) h = ap (λ b. cond b (Some e.1) (lookup t es)) h.0 ∙ none_of t es h.1

-- the keys of a map differ
pub are_distinct : (es : Subscribed) → IsDistinct of_rules.eq (keys_of es) → AreDistinct es
are_distinct [] d = tt
are_distinct (e ∷ es) d = (
  ap (λ t. lookup t es) (sym (same_test e.0)) ∙ none_of (of_rules.eq e.0) es (IsDistinct-head of_rules.eq e.0 (keys_of es) d),
  are_distinct es (IsDistinct-tail of_rules.eq e.0 (keys_of es) d),
)

-- ---- what a list holds

at_self : (n : ℕ) → is_at (nat_cmp n) n ≡ true
at_self n = unsigned_tied n n ∙ eq-eqb n n refl

held_head : (e : ℕ × Option (List MessageView)) (es : Holdings) → held_by (e ∷ es) e.0 ≡ Some e.1
held_head e es = ap (λ b. cond b (Some e.1) (held_by es e.0)) (at_self e.0)

pub some_held : (l : Holdings) → l ≢ [] → (k : ℕ) × IsSome (held_by l k)
some_held [] ne = absurd (ne refl)
some_held (e ∷ es) ne = (e.0, ap is_some (held_head e es))

-- a list that knows of a stream has one
pub has_one : (l : Holdings) (k : ℕ) → IsSome (held_by l k) → l ≢ []
has_one l k some e = false≢true (sym (ap (λ x. is_some (held_by x k)) e) ∙ some)

-- a list that knows of each stream that another knew of has one where that had
pub has_one_still : (l m : Holdings) → l ≢ [] → ((k : ℕ) → IsSome (held_by l k) → IsSome (held_by m k)) → m ≢ []
has_one_still l m ne f = let h = some_held l ne in has_one m h.0 (f h.0 h.1)

-- a list that knows of no stream is empty
pub has_none : (l : Holdings) → ((k : ℕ) → held_by l k ≡ None) → l ≡ []
has_none [] h = refl
has_none (e ∷ es) h = absurd (none-some e.1 (sym (h e.0) ∙ held_head e es))

pub full_empty : (s : Subscription) → s.list ≡ [] → is_full_one s ≡ false
full_empty s e = ap (λ l. nat_lt s.limit (most_of l)) e ∙ le-ltb s.limit 0 (omega arith)

-- ---- one rule changes

-- what is kept of the rule was s and is w, and of no other rule it changed
pub record Changes (v u : Subscribed) (rule : Rule) (s w : Subscription) : Type 0 where
  pub was : kept_in v rule ≡ Some s
  pub now : (r : Rule) → kept_in u r ≡ cond (is_same rule r) (Some w) (kept_in v r)

-- as the map says it
pub updated : (v u : Subscribed) (rule : Rule) (o : Option Subscription) → ((q : Rule) → lookup (of_rules.eq q) u ≡ cond (of_rules.eq rule q) o (lookup (of_rules.eq q) v))
    → (r : Rule) → kept_in u r ≡ cond (is_same rule r) o (kept_in v r)
updated v u rule o h r = ap (λ t. lookup t u) (sym (same_test r)) ∙ h r ∙ (λ i. cond (code_same rule r i) o (lookup (same_test r i) v))

module _ {v u : Subscribed} {rule : Rule} {s w : Subscription} (c : Changes v u rule s w) where
  same_kept : (r : Rule) → is_same rule r ≡ true → kept_in v r ≡ Some s
  same_kept r e = ap (kept_in v) (sym (same_one rule r e)) ∙ c.was

  now_by : (r : Rule) (b : Bool) → is_same rule r ≡ b → kept_in u r ≡ cond b (Some w) (kept_in v r)
  now_by r b e = c.now r ∙ ap (λ x. cond x (Some w) (kept_in v r)) e

  pub limits_changed : (f : Option ℕ → Option ℕ) → Some w.limit ≡ f (Some s.limit) → (r : Rule) → limit_in u r ≡ (if is_same rule r then f (limit_in v r) else limit_in v r)
  limits_changed f e r = by (is_same rule r) refl
    where
      by : (b : Bool) → is_same rule r ≡ b → limit_in u r ≡ (if b then f (limit_in v r) else limit_in v r)
      by true t = ap (option_map (λ (x : Subscription). x.limit)) (now_by r true t) ∙ e ∙ ap (λ o. f (option_map (λ (x : Subscription). x.limit) o)) (sym (same_kept r t))
      by false t = ap (option_map (λ (x : Subscription). x.limit)) (now_by r false t)

  pub limits_same : w.limit ≡ s.limit → (r : Rule) → limit_in u r ≡ limit_in v r
  limits_same e r = by (is_same rule r) refl
    where
      by : (b : Bool) → is_same rule r ≡ b → limit_in u r ≡ limit_in v r
      by true t = ap (option_map (λ (x : Subscription). x.limit)) (now_by r true t) ∙ ap Some e ∙ ap (option_map (λ (x : Subscription). x.limit)) (sym (same_kept r t))
      by false t = ap (option_map (λ (x : Subscription). x.limit)) (now_by r false t)

  pub held_changed : (stream : ℕ) (f : Rule → Option (Option (List MessageView)) → Option (Option (List MessageView)))
      → ((k : ℕ) → held_by w.list k ≡ (if stream == k then f rule (held_by s.list k) else held_by s.list k))
      → (r : Rule) (k : ℕ) → held_in u r k ≡ (if is_same rule r && stream == k then f r (held_in v r k) else held_in v r k)
  held_changed stream f e r k = by (is_same rule r) refl
    where
      by : (b : Bool) → is_same rule r ≡ b → held_in u r k ≡ (if b && stream == k then f r (held_in v r k) else held_in v r k)
      by true t =
          let back : held_by s.list k ≡ held_in v r k = ap (option_and_then (λ (x : Subscription). held_by x.list k)) (sym (same_kept r t)) in
          ap (option_and_then (λ (x : Subscription). held_by x.list k)) (now_by r true t) ∙ e k
          ∙ (λ i. if stream == k then f (same_one rule r t i) (back i) else back i)
      by false t = ap (option_and_then (λ (x : Subscription). held_by x.list k)) (now_by r false t)

  pub held_same : ((k : ℕ) → held_by w.list k ≡ held_by s.list k) → (r : Rule) (k : ℕ) → held_in u r k ≡ held_in v r k
  held_same e r k = by (is_same rule r) refl
    where
      by : (b : Bool) → is_same rule r ≡ b → held_in u r k ≡ held_in v r k
      by true t = ap (option_and_then (λ (x : Subscription). held_by x.list k)) (now_by r true t) ∙ e k ∙ ap (option_and_then (λ (x : Subscription). held_by x.list k)) (sym (same_kept r t))
      by false t = ap (option_and_then (λ (x : Subscription). held_by x.list k)) (now_by r false t)
