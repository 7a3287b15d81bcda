-- What one call of the map that the rules stand in does to what is kept.
use Rattle.std.proofs.{Common.{◌≡◌, ◌≢◌, ℕ, ◌+◌, ◌==◌, refl, sym, ◌∙◌, ap, subst, arith, Bool, true, false, cond, not, is_some, if◌then◌else◌, ◌&&◌, ◌||◌, List, [], ◌∷◌, ◌++◌, Option, Some, None, IsSome, length, Result, Ok, Err, OnOk, OnErr}, lemmas.Bool.{false≢true, or_parts, eqb-true, eq-eqb}, lemmas.Option.none-some, lemmas.Map.Steps.set_value_same}
use Rattle.std.specs.{Int.from_bool, HashMap.{HashMap, WritesThrough, UpdatesBy, IsUnique, Updates}, List.{AllByRecursion, list_any}, Map.lookup, Option.{option_map, option_and_then, unwrap_or}}
use Rattle.wire_message.specs.Replying.{is_serial}
use Rattle.indexmap.specs.IndexMap.{swap_remove_entry, insert_entry}
use Rattle.indexmap.proofs.CallerLemmas.{insert_entry-new}
use Rattle.rule_match.specs.contracts.rule.MatchRulePartialEq.TheImpl.{ghosts as of_rules}
use Rattle.peer_lists.specs.Holdings.{Holdings, held_by}
use Rattle.peer_streams.specs.{Names.{MessageView, Rule, Subscription}, Rules.is_same, Subscriptions.{Subscribed, kept_in, limit_in, held_in, has_other_in, is_full_one, AreDistinct, MostIsHeld, AreSubscribed}}
use Rattle.peer_streams.proofs.{SameRule.{same_one, same_self}, SubscribedLookups.{kept_found, updated, are_distinct, some_held, has_one_still, has_none, full_empty, Changes, limits_same}, SubscribedCounts.{each_found, each_set, each_push, counted, count_set, count_push, count_swap}}

-- ---- the rule isn't subscribed

module _ {S : Type 0} (m : HashMap Rule Subscription S) (old : Subscribed) (rule : Rule) (view : m.entries ≡ old) (at : None ≡ lookup (of_rules.eq rule) m.entries) where
  pub not_kept : kept_in old rule ≡ None
  not_kept = ap (λ v. kept_in v rule) (sym view) ∙ kept_found m.entries rule None at

  not_same : (r : Rule) → is_same rule r ≡ true → kept_in old r ≡ None
  not_same r e = ap (kept_in old) (sym (same_one rule r e)) ∙ not_kept

  module _ (n : HashMap Rule Subscription S) (same : n ≡ m) where
    entries : n.entries ≡ old
    entries = ap (λ (x : HashMap Rule Subscription S). x.entries) same ∙ view

    pub missing_same : (r : Rule) → limit_in n.entries r ≡ limit_in old r
    missing_same r = ap (λ v. limit_in v r) entries

    pub missing_limits : (f : Option ℕ → Option ℕ) → f None ≡ None → (r : Rule) → limit_in n.entries r ≡ (if is_same rule r then f (limit_in old r) else limit_in old r)
    missing_limits f e r = missing_same r ∙ by (is_same rule r) refl
      where
        by : (b : Bool) → is_same rule r ≡ b → limit_in old r ≡ (if b then f (limit_in old r) else limit_in old r)
        by true t = let none = ap (option_map (λ (x : Subscription). x.limit)) (not_same r t) in none ∙ sym (ap f none ∙ e)
        by false t = refl

    pub missing_gone : (g : Rule → Bool) (r : Rule) → limit_in n.entries r ≡ (if is_same rule r && g r then None else limit_in old r)
    missing_gone g r = missing_same r ∙ by (is_same rule r) refl (g r)
      where
        by : (b : Bool) → is_same rule r ≡ b → (d : Bool) → limit_in old r ≡ (if b && d then None else limit_in old r)
        by true t true = ap (option_map (λ (x : Subscription). x.limit)) (not_same r t)
        by true t false = refl
        by false t d = refl

    pub missing_held : (stream : ℕ) (f : Rule → Option (Option (List MessageView)) → Option (Option (List MessageView))) → ((r : Rule) → kept_in old r ≡ None → f r None ≡ None)
        → (r : Rule) (k : ℕ) → held_in n.entries r k ≡ (if is_same rule r && stream == k then f r (held_in old r k) else held_in old r k)
    missing_held stream f e r k = ap (λ v. held_in v r k) entries ∙ by (is_same rule r) refl (stream == k)
      where
        by : (b : Bool) → is_same rule r ≡ b → (d : Bool) → held_in old r k ≡ (if b && d then f r (held_in old r k) else held_in old r k)
        by true t true =
            let none = ap (option_and_then (λ (x : Subscription). held_by x.list k)) (not_same r t) in
            none ∙ sym (ap (f r) none ∙ e r (not_same r t))
        by true t false = refl
        by false t d = refl

  -- and comes
  module _ (key : Rule) (n : HashMap Rule Subscription S) (w : Subscription) (one : key ≡ rule) (u : Updates of_rules.eq m n key (Some w)) where
    now : (r : Rule) → kept_in n.entries r ≡ cond (is_same rule r) (Some w) (kept_in old r)
    now r =
        updated m.entries n.entries rule (Some w) (λ q. u.0 q ∙ ap (λ x. cond (of_rules.eq x q) (Some w) (lookup (of_rules.eq q) m.entries)) one) r
        ∙ ap (λ v. cond (is_same rule r) (Some w) (kept_in v r)) view

    pub come_limits : (limit : ℕ) → w.limit ≡ limit → (r : Rule) → limit_in n.entries r ≡ (if is_same rule r then Some limit else limit_in old r)
    come_limits limit e r = ap (option_map (λ (x : Subscription). x.limit)) (now r) ∙ by (is_same rule r)
      where
        by : (b : Bool) → option_map (λ (x : Subscription). x.limit) (cond b (Some w) (kept_in old r)) ≡ (if b then Some limit else limit_in old r)
        by true = ap Some e
        by false = refl

    pub come_held : (stream : ℕ) → ((k : ℕ) → held_by w.list k ≡ (if stream == k then Some None else None))
        → (r : Rule) (k : ℕ) → held_in n.entries r k ≡ (if is_same rule r && stream == k then Some None else held_in old r k)
    come_held stream e r k = ap (option_and_then (λ (x : Subscription). held_by x.list k)) (now r) ∙ by (is_same rule r) refl
      where
        by : (b : Bool) → is_same rule r ≡ b → option_and_then (λ (x : Subscription). held_by x.list k) (cond b (Some w) (kept_in old r)) ≡ (if b && stream == k then Some None else held_in old r k)
        by true t = e k ∙ ap (λ o. if stream == k then Some None else o) (sym (ap (option_and_then (λ (x : Subscription). held_by x.list k)) (not_same r t)))
        by false t = refl

-- a rule more is kept
pub kept_more : {S : Type 0} (m n : HashMap Rule Subscription S) (full count : ℕ) (key : Rule) (w : Subscription) → AreSubscribed m.entries full → lookup (of_rules.eq key) m.entries ≡ None → n.entries ≡ insert_entry of_rules.eq m.entries key w
    → IsUnique of_rules.eq n → w.list ≢ [] → MostIsHeld w.list → count ≡ counted n.entries → AreSubscribed n.entries count
kept_more m n full count key w kept absent e unique used told c =
    let long : n.entries ≡ m.entries ++ (key, w) ∷ [] = e ∙ insert_entry-new of_rules.eq m key w absent in
    record {
      apart = are_distinct n.entries unique;
      used = subst (AllByRecursion (λ (x : Rule × Subscription). x.1.list ≢ [])) (sym long) (each_push (λ (s : Subscription). s.list ≢ []) m.entries (key, w) used kept.used);
      told = subst (AllByRecursion (λ (x : Rule × Subscription). MostIsHeld x.1.list)) (sym long) (each_push (λ (s : Subscription). MostIsHeld s.list) m.entries (key, w) told kept.told);
      counted = c;
    }

pub count_more : {S : Type 0} (m n : HashMap Rule Subscription S) (full : ℕ) (key : Rule) (w : Subscription) (is : Bool) → full ≡ counted m.entries → lookup (of_rules.eq key) m.entries ≡ None → n.entries ≡ insert_entry of_rules.eq m.entries key w
    → is ≡ is_full_one w → full + from_bool is ≡ counted n.entries + 0
count_more m n full key w is f absent e i = count_push m.entries (key, w) full is f i ∙ ap (λ v. counted v + 0) (sym (e ∙ insert_entry-new of_rules.eq m key w absent))

-- ---- the rule is subscribed: something else is kept of it

module _ {S : Type 0} (m n : HashMap Rule Subscription S) (old : Subscribed) (rule : Rule) (s w : Subscription) (view : m.entries ≡ old) (at : Some s ≡ lookup (of_rules.eq rule) m.entries)
    (h : WritesThrough of_rules.eq (of_rules.eq rule) m w n) where
  pub changes : Changes old n.entries rule s w
  changes = record {
    was = ap (λ v. kept_in v rule) (sym view) ∙ kept_found m.entries rule (Some s) at;
    now = λ r. updated m.entries n.entries rule (Some w) ((h.3 (ap is_some (sym at))).0) r ∙ ap (λ v. cond (is_same rule r) (Some w) (kept_in v r)) view;
  }

  pub count_step : (full : ℕ) (was is : Bool) → AreSubscribed m.entries full → was ≡ is_full_one s → is ≡ is_full_one w → full + from_bool is ≡ counted n.entries + from_bool was
  count_step full was is kept a b = count_set (of_rules.eq rule) m.entries n.entries s w full was is kept.counted (sym at) h.0 a b

  pub had_stream : (full : ℕ) → AreSubscribed m.entries full → s.list ≢ []
  had_stream full kept = each_found (λ (x : Subscription). x.list ≢ []) (of_rules.eq rule) m.entries s kept.used (sym at)

  pub kept_step : (full count : ℕ) → AreSubscribed m.entries full → w.list ≢ [] → MostIsHeld w.list → count ≡ counted n.entries → AreSubscribed n.entries count
  kept_step full count kept used told c = record {
    apart = are_distinct n.entries h.4;
    used = subst (AllByRecursion (λ (x : Rule × Subscription). x.1.list ≢ [])) (sym h.0) (each_set (λ (x : Subscription). x.list ≢ []) (of_rules.eq rule) m.entries w used kept.used);
    told = subst (AllByRecursion (λ (x : Rule × Subscription). MostIsHeld x.1.list)) (sym h.0) (each_set (λ (x : Subscription). MostIsHeld x.list) (of_rules.eq rule) m.entries w told kept.told);
    counted = c;
  }

  -- the same is kept of it
  pub entries_same : w ≡ s → n.entries ≡ m.entries
  entries_same e = h.0 ∙ set_value_same (of_rules.eq rule) m.entries w (sym at ∙ ap Some (sym e))

  pub kept_same : (full : ℕ) → AreSubscribed m.entries full → w ≡ s → AreSubscribed n.entries full
  kept_same full kept e = subst (λ v. AreSubscribed v full) (sym (entries_same e)) kept

-- a change of one stream leaves the others
changed_some : (b : Bool) (f : Option (Option (List MessageView)) → Option (Option (List MessageView))) (o : Option (Option (List MessageView))) → (IsSome o → IsSome (f o)) → IsSome o → IsSome (if b then f o else o)
changed_some true f o g i = g i
changed_some false f o g i = i

pub has_stream : (stream : ℕ) (f : Option (Option (List MessageView)) → Option (Option (List MessageView))) → ((o : Option (Option (List MessageView))) → IsSome o → IsSome (f o)) → (l l' : Holdings)
    → ((k : ℕ) → held_by l' k ≡ (if stream == k then f (held_by l k) else held_by l k)) → l ≢ [] → l' ≢ []
has_stream stream f g l l' e ne = has_one_still l l' ne (λ k i. subst IsSome (sym (e k)) (changed_some (stream == k) f (held_by l k) (g (held_by l k)) i))

pub some_mapped : (f : Option (List MessageView) → Option (List MessageView)) (o : Option (Option (List MessageView))) → IsSome o → IsSome (option_map f o)
some_mapped f None i = i
some_mapped f (Some x) i = refl

-- ---- a stream of the rule goes

-- where there is another, it stays
pub other_stays : (stream k : ℕ) (l l' : Holdings) → ((j : ℕ) → held_by l' j ≡ (if stream == j then None else held_by l j)) → IsSome (held_by l k) → (is_serial (Some stream) k || is_serial None k) ≡ false → IsSome (held_by l' k)
other_stays stream k l l' e i other = subst IsSome (sym (e k ∙ ap (λ b. if b then None else held_by l k) (or_parts (stream == k) false other).0)) i

-- where there is none, nothing stays
pub none_stays : (stream : ℕ) (l l' : Holdings) → ((j : ℕ) → held_by l' j ≡ (if stream == j then None else held_by l j)) → ((k : ℕ) → IsSome (held_by l k) → (is_serial (Some stream) k || is_serial None k) ≡ true) → l' ≡ []
none_stays stream l l' e only = has_none l' (λ k. e k ∙ by k (stream == k) refl (held_by l k) refl)
  where
    by : (k : ℕ) (b : Bool) → (stream == k) ≡ b → (o : Option (Option (List MessageView))) → held_by l k ≡ o → (if b then None else held_by l k) ≡ None
    by k true t o h = refl
    by k false t None h = h
    by k false t (Some x) h = absurd (false≢true (sym (ap (λ b. b || false) t) ∙ only k (ap is_some h)))

-- it was the only one
pub only_stream : (stream : ℕ) (l : Holdings) → l ≢ [] → ((k : ℕ) → IsSome (held_by l k) → (is_serial (Some stream) k || is_serial None k) ≡ true) → held_by l stream ≡ None → ⊥
only_stream stream l ne only none = ne (has_none l (λ k. by k (stream == k) refl (held_by l k) refl))
  where
    by : (k : ℕ) (b : Bool) → (stream == k) ≡ b → (o : Option (Option (List MessageView))) → held_by l k ≡ o → held_by l k ≡ None
    by k b t None h = h
    by k true t (Some x) h = ap (held_by l) (sym (eqb-true stream k t)) ∙ none
    by k false t (Some x) h = absurd (false≢true (sym (ap (λ b. b || false) t) ∙ only k (ap is_some h)))

module _ {old u : Subscribed} {rule : Rule} {s w : Subscription} (c : Changes old u rule s w) (stream : ℕ) where
  same_other : (b : Bool) → b ≡ list_any (λ (e : ℕ × Option (List MessageView)). not (is_serial (Some stream) e.0 || is_serial None e.0)) s.list → (r : Rule) → is_same rule r ≡ true → has_other_in old r (Some stream) None ≡ b
  same_other b e r t =
      ap (λ o. unwrap_or (option_map (λ (x : Subscription). list_any (λ (y : ℕ × Option (List MessageView)). not (is_serial (Some stream) y.0 || is_serial None y.0)) x.list) o) false) (ap (kept_in old) (sym (same_one rule r t)) ∙ c.was) ∙ sym e

  -- there is another
  pub limits_left : true ≡ list_any (λ (e : ℕ × Option (List MessageView)). not (is_serial (Some stream) e.0 || is_serial None e.0)) s.list → w.limit ≡ s.limit
      → (r : Rule) → limit_in u r ≡ (if is_same rule r && not (has_other_in old r (Some stream) None) then None else limit_in old r)
  limits_left e l r = limits_same c l r ∙ by (is_same rule r) refl
    where
      by : (b : Bool) → is_same rule r ≡ b → limit_in old r ≡ (if b && not (has_other_in old r (Some stream) None) then None else limit_in old r)
      by true t = ap (λ x. if not x then None else limit_in old r) (sym (same_other true e r t))
      by false t = refl

  -- there is none, and the rule goes
  module _ (v : Subscribed) (gone : (r : Rule) → kept_in v r ≡ cond (is_same rule r) None (kept_in u r)) where
    gone_by : (r : Rule) (b : Bool) → is_same rule r ≡ b → kept_in v r ≡ cond b None (kept_in old r)
    gone_by r true t = gone r ∙ ap (λ b. cond b None (kept_in u r)) t
    gone_by r false t = gone r ∙ ap (λ b. cond b None (kept_in u r)) t ∙ c.now r ∙ ap (λ b. cond b (Some w) (kept_in old r)) t

    pub limits_gone : false ≡ list_any (λ (e : ℕ × Option (List MessageView)). not (is_serial (Some stream) e.0 || is_serial None e.0)) s.list
        → (r : Rule) → limit_in v r ≡ (if is_same rule r && not (has_other_in old r (Some stream) None) then None else limit_in old r)
    limits_gone e r = by (is_same rule r) refl
      where
        by : (b : Bool) → is_same rule r ≡ b → limit_in v r ≡ (if b && not (has_other_in old r (Some stream) None) then None else limit_in old r)
        by true t = ap (option_map (λ (x : Subscription). x.limit)) (gone_by r true t) ∙ ap (λ x. if not x then None else limit_in old r) (sym (same_other false e r t))
        by false t = ap (option_map (λ (x : Subscription). x.limit)) (gone_by r false t)

    pub held_gone : ((k : ℕ) → held_by w.list k ≡ (if stream == k then None else held_by s.list k)) → w.list ≡ []
        → (r : Rule) (k : ℕ) → held_in v r k ≡ (if is_same rule r && stream == k then None else held_in old r k)
    held_gone e empty r k = by (is_same rule r) refl
      where
        by : (b : Bool) → is_same rule r ≡ b → held_in v r k ≡ (if b && stream == k then None else held_in old r k)
        by true t =
            let back : held_by s.list k ≡ held_in old r k = ap (option_and_then (λ (x : Subscription). held_by x.list k)) (sym (ap (kept_in old) (sym (same_one rule r t)) ∙ c.was)) in
            ap (option_and_then (λ (x : Subscription). held_by x.list k)) (gone_by r true t)
            ∙ ap (λ l. held_by l k) (sym empty) ∙ e k ∙ ap (λ o. if stream == k then None else o) back
        by false t = ap (option_and_then (λ (x : Subscription). held_by x.list k)) (gone_by r false t)

-- what look-ups find of each rule is kept of each
each_kept : (P : Subscription → Type 0) (v : Subscribed) → AreDistinct v → ((r : Rule) (s : Subscription) → kept_in v r ≡ Some s → P s) → AllByRecursion (λ (e : Rule × Subscription). P e.1) v
each_kept P [] d f = tt
each_kept P (e ∷ es) d f = (
  f e.0 e.1 (ap (λ b. cond b (Some e.1) (kept_in es e.0)) (same_self e.0)),
  each_kept P es d.1 (λ r s at. f r s (step r s at (is_same r e.0) refl)),
)
  where
    step : (r : Rule) (s : Subscription) → kept_in es r ≡ Some s → (b : Bool) → is_same r e.0 ≡ b → kept_in (e ∷ es) r ≡ Some s
    step r s at true t = absurd (none-some s (sym (ap (kept_in es) (same_one r e.0 t) ∙ d.0) ∙ at))
    step r s at false t = ap (λ b. cond b (Some e.1) (kept_in es r)) t ∙ at

pub kept_less : {S : Type 0} (m n o : HashMap Rule Subscription S) (rule : Rule) (s w : Subscription) (full count : ℕ) → AreSubscribed m.entries full → Some s ≡ lookup (of_rules.eq rule) m.entries → WritesThrough of_rules.eq (of_rules.eq rule) m w n
    → UpdatesBy of_rules.eq (of_rules.eq rule) n o None → o.entries ≡ swap_remove_entry (of_rules.eq rule) n.entries → IsUnique of_rules.eq o → w.list ≡ [] → count ≡ counted n.entries → AreSubscribed o.entries count
kept_less m n o rule s w full count kept at h u e unique empty c =
    let c1 = changes m n m.entries rule s w refl at h in
    let apart = are_distinct o.entries unique in
    let left : (r : Rule) (x : Subscription) → kept_in o.entries r ≡ Some x → kept_in m.entries r ≡ Some x = λ r x is. left_by r x (is_same rule r) refl (sym (updated n.entries o.entries rule None u.0 r) ∙ is) (c1.now r) in
    let found : lookup (of_rules.eq rule) n.entries ≡ Some w = (h.3 (ap is_some (sym at))).1 in
    record {
      apart = apart;
      used = each_kept (λ (x : Subscription). x.list ≢ []) o.entries apart (λ r x is. each_found (λ (y : Subscription). y.list ≢ []) (is_same r) m.entries x kept.used (left r x is));
      told = each_kept (λ (x : Subscription). MostIsHeld x.list) o.entries apart (λ r x is. each_found (λ (y : Subscription). MostIsHeld y.list) (is_same r) m.entries x kept.told (left r x is));
      counted = c ∙ sym (ap counted e ∙ count_swap (of_rules.eq rule) n.entries w (rule, w) found (full_empty w empty));
    }
  where
    left_by : (r : Rule) (x : Subscription) (b : Bool) → is_same rule r ≡ b → cond (is_same rule r) None (kept_in n.entries r) ≡ Some x → kept_in n.entries r ≡ cond (is_same rule r) (Some w) (kept_in m.entries r) → kept_in m.entries r ≡ Some x
    left_by r x true t is now = absurd (none-some x (sym (ap (λ b. cond b None (kept_in n.entries r)) t) ∙ is))
    left_by r x false t is now = sym (now ∙ ap (λ b. cond b (Some w) (kept_in m.entries r)) t) ∙ sym (ap (λ b. cond b None (kept_in n.entries r)) t) ∙ is

-- ---- look-ups

pub kept_of : (es old : Subscribed) → es ≡ old → (rule : Rule) (o : Option Subscription) → o ≡ lookup (of_rules.eq rule) es → kept_in old rule ≡ o
kept_of es old view rule o e = ap (λ v. kept_in v rule) (sym view) ∙ kept_found es rule o e

pub is_kept : (es old : Subscribed) → es ≡ old → (rule : Rule) → is_some (lookup (of_rules.eq rule) es) ≡ is_some (limit_in old rule)
is_kept es old view rule = ap is_some (sym (kept_of es old view rule (lookup (of_rules.eq rule) es) refl)) ∙ by (kept_in old rule)
  where
    by : (o : Option Subscription) → is_some o ≡ is_some (option_map (λ (s : Subscription). s.limit) o)
    by None = refl
    by (Some s) = refl

-- a rule that isn't subscribed is no key
pub absent_of : (es old : Subscribed) (rule key : Rule) → es ≡ old → key ≡ rule → limit_in old rule ≡ None → lookup (of_rules.eq key) es ≡ None
absent_of es old rule key view one none = ap (λ r. lookup (of_rules.eq r) es) one ∙ sym (kept_of es old view rule (lookup (of_rules.eq rule) es) refl) ∙ by (kept_in old rule) none
  where
    by : (o : Option Subscription) → option_map (λ (s : Subscription). s.limit) o ≡ None → o ≡ None
    by None e = refl
    by (Some s) e = absurd (none-some s.limit (sym e))

-- a rule that is subscribed has a stream
pub used_of : (es old : Subscribed) (full : ℕ) → AreSubscribed es full → es ≡ old → (r : Rule) → IsSome (limit_in old r) → (k : ℕ) × IsSome (held_in old r k)
used_of es old full kept view r some = subst (λ v. (k : ℕ) × IsSome (held_in v r k)) view (by (kept_in es r) refl (subst (λ v. IsSome (limit_in v r)) (sym view) some))
  where
    by : (o : Option Subscription) → kept_in es r ≡ o → IsSome (option_map (λ (s : Subscription). s.limit) o) → (k : ℕ) × IsSome (held_in es r k)
    by None e i = absurd (false≢true i)
    by (Some s) e i =
        let h = some_held s.list (each_found (λ (x : Subscription). x.list ≢ []) (is_same r) es s kept.used e) in
        (h.0, subst IsSome (sym (ap (option_and_then (λ (x : Subscription). held_by x.list h.0)) e)) h.1)

-- ---- lists that have streams

pub long_list : (l : Holdings) → l ≢ [] → length l ≢ 0
long_list [] ne = absurd (ne refl)
long_list (e ∷ es) ne = λ n. omega (arith, n)

pub some_list : (l : Holdings) → length l ≢ 0 → l ≢ []
some_list l ne e = ne (ap length e)

-- ---- a clone, once what its number held is gone

pub closed_none : (stream : ℕ) (l l' : Holdings) → ((k : ℕ) → held_by l' k ≡ (if stream == k then None else held_by l k)) → held_by l' stream ≡ None
closed_none stream l l' e = e stream ∙ ap (λ b. if b then None else held_by l stream) (eq-eqb stream stream refl)

pub closed_same : (stream : ℕ) (l l' : Holdings) → ((k : ℕ) → held_by l' k ≡ (if stream == k then None else held_by l k)) → held_by l stream ≡ None → (k : ℕ) → held_by l' k ≡ held_by l k
closed_same stream l l' e none k = e k ∙ by (stream == k) refl
  where
    by : (b : Bool) → (stream == k) ≡ b → (if b then None else held_by l k) ≡ held_by l k
    by true t = sym none ∙ ap (held_by l) (eqb-true stream k t)
    by false t = refl

-- another stream stays
pub other_clones : {T E : Type 0} (r : Result T E) (original stream k : ℕ) (l l' l'' : Holdings) → ((j : ℕ) → held_by l' j ≡ (if stream == j then None else held_by l j))
    → OnErr r (held_by l' stream ≡ None → (j : ℕ) → held_by l'' j ≡ held_by l' j)
    → OnOk r (held_by l' stream ≡ None → (j : ℕ) → held_by l'' j ≡ (if stream == j then held_by l' original else held_by l' j))
    → IsSome (held_by l k) → (is_serial (Some stream) k || is_serial None k) ≡ false → IsSome (held_by l'' k)
other_clones (Ok x) original stream k l l' l'' e err ok i other =
    subst IsSome (sym (ok (closed_none stream l l' e) k ∙ ap (λ b. if b then held_by l' original else held_by l' k) (or_parts (stream == k) false other).0)) (other_stays stream k l l' e i other)
other_clones (Err x) original stream k l l' l'' e err ok i other = subst IsSome (sym (err (closed_none stream l l' e) k)) (other_stays stream k l l' e i other)
