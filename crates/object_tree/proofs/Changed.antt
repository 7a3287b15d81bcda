-- A tree that is given by the paths that were put in stays that of `added` and `removed` where one is put in or taken out.
use Rattle.std.proofs.Common.{◌≡◌, refl, sym, ◌∙◌, ap, subst, ℕ, nat_le, List, [], ◌∷◌, length, Bool, true, false, cond, ◌||◌, ◌&&◌, Option, Some, None, is_some, unwrap_or, arith, IsTrue}
use Rattle.std.specs.List.{AllByRecursion}
use Rattle.std.specs.List.Sorted.{IsStrictlySortedBy}
use Rattle.std.specs.Map.{keys_of, set_value, remove_entry}
use Rattle.std.specs.BTreeMap.{is_at, insert_entry}
use Rattle.std.specs.Ordering.{is_eq, match_ordering}
use Rattle.std.specs.declared.cmp.Ordering.{Ordering}
use Rattle.std.specs.declared.cmp.Ordering.TheVariants.{Less, Equal, Greater}
use Rattle.std.proofs.lemmas.Bool.{cond-false, false_from_ne_true, both_ways, or_left, or_right, and_parts}
use Rattle.wire_names.specs.Names.{is_object_path}
use Rattle.object_tree.specs.Objects.{Objects, Rows, IsObject, text_cmp, is_below, has_below, rows_at, ancestors, with_paths, with_rows, added}
use Rattle.object_tree.specs.Closed.{AreNodes, closed}
use Rattle.object_tree.proofs.Entries.{at_itself, same_at, remove_other}
use Rattle.object_tree.proofs.Below.{is_below-Decides, has_below_true}
use Rattle.object_tree.proofs.Closed.{has, or_bare, front_of_path, none_before, less_self}
use Rattle.object_tree.proofs.Found.{same_lists, below_by, some_bare, is_on_way, rows_closed, closed_sorted, above_above}
use Rattle.object_tree.proofs.Added.{by_same, rows_insert, rows_set, rows_with_rows, rows_with_paths, set_keys, with_rows_sorted, with_paths_sorted, has_ancestors}
use Rattle.object_tree.proofs.Valid.{AreNames, all_without, set_valid, with_valid}

-- ---- which paths are below

below_insert : (es : Objects) (k p : List ℕ) (v : Rows) → has_below (insert_entry text_cmp es k v) p ≡ (is_below p k || has_below es p)
below_insert [] k p v = refl
below_insert (e ∷ es) k p v = by (text_cmp k e.0) refl (below_insert es k p v)
  where
    twice : (a b : Bool) → (a || b) ≡ (a || (a || b))
    twice true b = refl
    twice false b = refl

    swap : (a b c : Bool) → (a || (b || c)) ≡ (b || (a || c))
    swap true true c = refl
    swap true false c = refl
    swap false b c = refl

    by : (o : Ordering) → text_cmp k e.0 ≡ o → has_below (insert_entry text_cmp es k v) p ≡ (is_below p k || has_below es p) → has_below (match_ordering o ((k, v) ∷ e ∷ es) ((e.0, v) ∷ es) (e ∷ insert_entry text_cmp es k v)) p ≡ (is_below p k || (is_below p e.0 || has_below es p))
    by Less is later = refl
    by Equal is later = twice (is_below p e.0) (has_below es p) ∙ ap (λ (x : List ℕ). is_below p x || (is_below p e.0 || has_below es p)) (sym (same_at k e.0 (ap is_eq is)))
    by Greater is later = ap (λ b. is_below p e.0 || b) later ∙ swap (is_below p e.0) (is_below p k) (has_below es p)

pub below_set : (t : List ℕ → Bool) (es : Objects) (p : List ℕ) (v : Rows) → has_below (set_value t es v) p ≡ has_below es p
below_set t [] p v = refl
below_set t (e ∷ es) p v = by (t e.0) (below_set t es p v)
  where
    by : (b : Bool) → has_below (set_value t es v) p ≡ has_below es p → has_below (cond b ((e.0, v) ∷ es) (e ∷ set_value t es v)) p ≡ (is_below p e.0 || has_below es p)
    by true h = refl
    by false h = ap (λ b. is_below p e.0 || b) h

below_with : (es : Objects) (k p : List ℕ) (v : Rows) → has_below (with_rows es k v) p ≡ (is_below p k || has_below es p)
below_with es k p v = by (is_some (rows_at es k)) refl
  where
    held : (a b : Bool) → (a ≡ true → b ≡ true) → b ≡ (a || b)
    held true b f = f refl
    held false b f = refl

    by : (b : Bool) → is_some (rows_at es k) ≡ b → has_below (cond b (set_value (is_at (text_cmp k)) es v) (insert_entry text_cmp es k v)) p ≡ (is_below p k || has_below es p)
    by true there = below_set (is_at (text_cmp k)) es p v ∙ held (is_below p k) (has_below es p) (λ u. has_below_true es p k there u)
    by false there = below_insert es k p v

-- ---- an interface added

same_rows : (r : Option Rows) (b : Bool) → unwrap_or (or_bare r b) [] ≡ unwrap_or r []
same_rows (Some x) b = refl
same_rows None true = refl
same_rows None false = refl

pub rows_same : (nodes : Objects) → AreNodes nodes → (p : List ℕ) → unwrap_or (rows_at (closed nodes) p) [] ≡ unwrap_or (rows_at nodes p) []
rows_same nodes are p = ap (λ (r : Option Rows). unwrap_or r []) (rows_closed nodes are p) ∙ same_rows (rows_at nodes p) (is_on_way nodes p)

pub with_nodes : (nodes : Objects) (k : List ℕ) (v : Rows) → AreNodes nodes → IsTrue (is_object_path k) → AreNames v → AreNodes (with_rows nodes k v)
with_nodes nodes k v are path names = record { sorted = with_rows_sorted nodes k v are.sorted; valid = by (is_some (rows_at nodes k)) }
  where
    by : (b : Bool) → AllByRecursion IsObject (cond b (set_value (is_at (text_cmp k)) nodes v) (insert_entry text_cmp nodes k v))
    by true = set_valid nodes k v names are.valid
    by false = with_valid nodes k v path names are.valid

closed_with : (nodes : Objects) (k : List ℕ) (v : Rows) → AreNodes nodes → AreNodes (with_rows nodes k v) → closed (with_rows nodes k v) ≡ with_paths (with_rows (closed nodes) k v) (ancestors k)
closed_with nodes k v are then =
    same_lists (closed (with_rows nodes k v)) (with_paths (with_rows (closed nodes) k v) (ancestors k))
    (closed_sorted (with_rows nodes k v) then) (with_paths_sorted (with_rows (closed nodes) k v) (ancestors k) (with_rows_sorted (closed nodes) k v (closed_sorted nodes are)))
    (λ p. rows_closed (with_rows nodes k v) then p
    ∙ ap (λ r. or_bare r (is_on_way (with_rows nodes k v) p)) (rows_with_rows nodes k p v)
    ∙ ap (λ b. or_bare (cond (is_at (text_cmp p) k) (Some v) (rows_at nodes p)) (nat_le 1 (length p) && b)) (below_with nodes k p v)
    ∙ by (is_at (text_cmp p) k) (rows_at nodes p) (nat_le 1 (length p)) (is_below p k) (has_below nodes p)
    ∙ ap (λ r. or_bare (cond (is_at (text_cmp p) k) (Some v) r) (nat_le 1 (length p) && is_below p k)) (sym (rows_closed nodes are p))
    ∙ ap (λ r. or_bare r (nat_le 1 (length p) && is_below p k)) (sym (rows_with_rows (closed nodes) k p v))
    ∙ ap (or_bare (rows_at (with_rows (closed nodes) k v) p)) (sym (has_ancestors k p))
    ∙ sym (rows_with_paths (with_rows (closed nodes) k v) (ancestors k) p))
  where
    by : (e : Bool) (r : Option Rows) (n b h : Bool) → or_bare (cond e (Some v) r) (n && (b || h)) ≡ or_bare (cond e (Some v) (or_bare r (n && h))) (n && b)
    by true r n b h = refl
    by false (Some x) n b h = refl
    by false None true true true = refl
    by false None true true false = refl
    by false None true false true = refl
    by false None true false false = refl
    by false None false b h = refl

pub closed_added : (nodes : Objects) (k name : List ℕ) (slot : ℕ) → AreNodes nodes → AreNodes (with_rows nodes k (insert_entry text_cmp (unwrap_or (rows_at nodes k) []) name slot))
    → closed (with_rows nodes k (insert_entry text_cmp (unwrap_or (rows_at nodes k) []) name slot)) ≡ added (closed nodes) k name slot
unfolding added
closed_added nodes k name slot are then =
    closed_with nodes k (insert_entry text_cmp (unwrap_or (rows_at nodes k) []) name slot) are then
    ∙ ap (λ (r : Rows). with_paths (with_rows (closed nodes) k (insert_entry text_cmp r name slot)) (ancestors k)) (sym (rows_same nodes are k))

-- ---- an object's interfaces changed

pub set_nodes : (nodes : Objects) (k : List ℕ) (v : Rows) → AreNodes nodes → AreNames v → AreNodes (set_value (is_at (text_cmp k)) nodes v)
set_nodes nodes k v are names = record {
  sorted = subst (λ l. IsStrictlySortedBy text_cmp l) (sym (set_keys (is_at (text_cmp k)) nodes v)) are.sorted;
  valid = set_valid nodes k v names are.valid;
}

there_closed : (nodes : Objects) → AreNodes nodes → (p : List ℕ) → is_some (rows_at nodes p) ≡ true → is_some (rows_at (closed nodes) p) ≡ true
there_closed nodes are p there = ap is_some (rows_closed nodes are p) ∙ some_bare (rows_at nodes p) (is_on_way nodes p) ∙ or_left (is_some (rows_at nodes p)) (is_on_way nodes p) there

pub closed_set : (nodes : Objects) (k : List ℕ) (v : Rows) → AreNodes nodes → AreNodes (set_value (is_at (text_cmp k)) nodes v) → is_some (rows_at nodes k) ≡ true
    → closed (set_value (is_at (text_cmp k)) nodes v) ≡ set_value (is_at (text_cmp k)) (closed nodes) v
closed_set nodes k v are then there =
    same_lists (closed (set_value (is_at (text_cmp k)) nodes v)) (set_value (is_at (text_cmp k)) (closed nodes) v)
    (closed_sorted (set_value (is_at (text_cmp k)) nodes v) then)
    (subst (λ l. IsStrictlySortedBy text_cmp l) (sym (set_keys (is_at (text_cmp k)) (closed nodes) v)) (closed_sorted nodes are))
    (λ p. rows_closed (set_value (is_at (text_cmp k)) nodes v) then p
    ∙ ap (λ r. or_bare r (is_on_way (set_value (is_at (text_cmp k)) nodes v) p)) (rows_set nodes k p v there)
    ∙ ap (λ b. or_bare (cond (is_at (text_cmp p) k) (Some v) (rows_at nodes p)) (nat_le 1 (length p) && b)) (below_set (is_at (text_cmp k)) nodes p v)
    ∙ by (is_at (text_cmp p) k) (rows_at nodes p) (is_on_way nodes p)
    ∙ ap (cond (is_at (text_cmp p) k) (Some v)) (sym (rows_closed nodes are p))
    ∙ sym (rows_set (closed nodes) k p v (there_closed nodes are k there)))
  where
    by : (e : Bool) (r : Option Rows) (o : Bool) → or_bare (cond e (Some v) r) o ≡ cond e (Some v) (or_bare r o)
    by true r o = refl
    by false r o = refl

-- ---- a path taken out

remove_here : (es : Objects) (k : List ℕ) → IsStrictlySortedBy text_cmp (keys_of es) → rows_at (remove_entry (is_at (text_cmp k)) es) k ≡ None
unfolding IsStrictlySortedBy
remove_here [] k s = refl
remove_here (e ∷ es) k s = by (is_at (text_cmp k) e.0) refl (remove_here es k s.1)
  where
    by : (b : Bool) → is_at (text_cmp k) e.0 ≡ b → rows_at (remove_entry (is_at (text_cmp k)) es) k ≡ None → rows_at (cond b es (e ∷ remove_entry (is_at (text_cmp k)) es)) k ≡ None
    by true h later = none_before k e.0 es s.0 (λ l. less_self e.0 (subst (λ (x : List ℕ). text_cmp e.0 x ≡ Less) (same_at k e.0 h) l))
    by false h later = cond-false (is_at (text_cmp k) e.0) (Some e.1) (rows_at (remove_entry (is_at (text_cmp k)) es) k) h ∙ later

pub rows_remove : (es : Objects) (k p : List ℕ) → IsStrictlySortedBy text_cmp (keys_of es) → rows_at (remove_entry (is_at (text_cmp k)) es) p ≡ cond (is_at (text_cmp p) k) None (rows_at es p)
rows_remove es k p s = by_same p k (rows_at (remove_entry (is_at (text_cmp k)) es) p) None (rows_at es p)
    (λ e. subst (λ (x : List ℕ). rows_at (remove_entry (is_at (text_cmp k)) es) x ≡ None) (sym e) (remove_here es k s))
    (λ ne. remove_other k p ne es)

remove_all : (P : List ℕ → Type 0) (t : List ℕ → Bool) (es : Objects) → AllByRecursion P (keys_of es) → AllByRecursion P (keys_of (remove_entry t es))
remove_all P t [] h = tt
remove_all P t (e ∷ es) h = by (t e.0) (remove_all P t es h.1)
  where
    by : (b : Bool) → AllByRecursion P (keys_of (remove_entry t es)) → AllByRecursion P (keys_of (cond b es (e ∷ remove_entry t es)))
    by true k = h.1
    by false k = (h.0, k)

remove_sorted : (t : List ℕ → Bool) (es : Objects) → IsStrictlySortedBy text_cmp (keys_of es) → IsStrictlySortedBy text_cmp (keys_of (remove_entry t es))
unfolding IsStrictlySortedBy
remove_sorted t [] s = s
remove_sorted t (e ∷ es) s = by (t e.0) (remove_sorted t es s.1)
  where
    by : (b : Bool) → IsStrictlySortedBy text_cmp (keys_of (remove_entry t es)) → IsStrictlySortedBy text_cmp (keys_of (cond b es (e ∷ remove_entry t es)))
    by true k = s.1
    by false k = (remove_all (λ y. text_cmp e.0 y ≡ Less) t es s.0, k)

pub remove_nodes : (nodes : Objects) (k : List ℕ) → AreNodes nodes → AreNodes (remove_entry (is_at (text_cmp k)) nodes)
remove_nodes nodes k are = record { sorted = remove_sorted (is_at (text_cmp k)) nodes are.sorted; valid = all_without IsObject (is_at (text_cmp k)) nodes are.valid }

below_remove : (es : Objects) (k p : List ℕ) → is_some (rows_at es k) ≡ true → has_below es p ≡ (is_below p k || has_below (remove_entry (is_at (text_cmp k)) es) p)
below_remove [] k p there = absurd (both_ways false refl there)
below_remove (e ∷ es) k p there = by (is_at (text_cmp k) e.0) refl there (λ t. below_remove es k p t)
  where
    swap : (a b c : Bool) → (a || (b || c)) ≡ (b || (a || c))
    swap true true c = refl
    swap true false c = refl
    swap false b c = refl

    by : (b : Bool) → is_at (text_cmp k) e.0 ≡ b → is_some (cond b (Some e.1) (rows_at es k)) ≡ true → (is_some (rows_at es k) ≡ true → has_below es p ≡ (is_below p k || has_below (remove_entry (is_at (text_cmp k)) es) p))
        → (is_below p e.0 || has_below es p) ≡ (is_below p k || has_below (cond b es (e ∷ remove_entry (is_at (text_cmp k)) es)) p)
    by true h t later = ap (λ (x : List ℕ). is_below p x || has_below es p) (sym (same_at k e.0 h))
    by false h t later = ap (λ b. is_below p e.0 || b) (later t) ∙ swap (is_below p e.0) (is_below p k) (has_below (remove_entry (is_at (text_cmp k)) es) p)

none_from : (r : Option Rows) → is_some r ≡ false → r ≡ None
none_from None h = refl
none_from (Some x) h = absurd (both_ways false refl (sym h))

-- without it, where it is there and nothing is below
abbrev without : Objects → List ℕ → Objects
without nodes k = remove_entry (is_at (text_cmp k)) nodes

module _ (nodes : Objects) (k : List ℕ) (are : AreNodes nodes) (there : is_some (rows_at nodes k) ≡ true) (bare : has_below nodes k ≡ false) where
  none_left : has_below (without nodes k) k ≡ false
  none_left = by (is_below k k) (has_below (without nodes k) k) (sym (below_remove nodes k k there) ∙ bare)
    where
      by : (a b : Bool) → (a || b) ≡ false → b ≡ false
      by true b h = absurd (both_ways false refl (sym h))
      by false b h = h

  closed_rest : (p : List ℕ) → rows_at (without (closed nodes) k) p ≡ cond (is_at (text_cmp p) k) None (or_bare (rows_at nodes p) (nat_le 1 (length p) && (is_below p k || has_below (without nodes k) p)))
  closed_rest p =
      rows_remove (closed nodes) k p (closed_sorted nodes are)
      ∙ ap (cond (is_at (text_cmp p) k) None) (rows_closed nodes are p ∙ ap (λ b. or_bare (rows_at nodes p) (nat_le 1 (length p) && b)) (below_remove nodes k p there))

  -- each path on the way to it is there without it
  pub closed_out : ((p : List ℕ) → nat_le 1 (length p) ≡ true → is_below p k ≡ true → (is_some (rows_at (without nodes k) p) || has_below (without nodes k) p) ≡ true) → closed (without nodes k) ≡ without (closed nodes) k
  closed_out covers =
      same_lists (closed (without nodes k)) (without (closed nodes) k) (closed_sorted (without nodes k) (remove_nodes nodes k are)) (remove_sorted (is_at (text_cmp k)) (closed nodes) (closed_sorted nodes are))
      (λ p. rows_closed (without nodes k) (remove_nodes nodes k are) p
      ∙ ap (λ r. or_bare r (is_on_way (without nodes k) p)) (rows_remove nodes k p are.sorted)
      ∙ by (is_at (text_cmp p) k) (rows_at nodes p) (nat_le 1 (length p)) (is_below p k) (has_below (without nodes k) p)
      (λ e. subst (λ (x : List ℕ). has_below (without nodes k) x ≡ false) (sym (same_at p k e)) none_left)
      (λ n u. sym (ap (λ r. is_some r || has_below (without nodes k) p) (rows_remove nodes k p are.sorted)) ∙ covers p n u)
      ∙ sym (closed_rest p))
    where
      by : (e : Bool) (r : Option Rows) (n b h : Bool) → (e ≡ true → h ≡ false) → (n ≡ true → b ≡ true → (is_some (cond e None r) || h) ≡ true) → or_bare (cond e None r) (n && h) ≡ cond e None (or_bare r (n && (b || h)))
      by true r true b h f g = ap (or_bare None) (f refl)
      by true r false b h f g = refl
      by false (Some x) n b h f g = refl
      by false None true true true f g = refl
      by false None true true false f g = absurd (both_ways false refl (g refl refl))
      by false None true false h f g = refl
      by false None false b h f g = refl

  module _ (q : List ℕ) (way : ancestors k ≡ q ∷ ancestors q) where
    way_of : (p : List ℕ) → (nat_le 1 (length p) && is_below p k) ≡ (is_at (text_cmp p) q || (nat_le 1 (length p) && is_below p q))
    way_of p = sym (has_ancestors k p) ∙ ap (λ l. has l p) way ∙ ap (λ b. is_at (text_cmp p) q || b) (has_ancestors q p)

    pub parent_is : (nat_le 1 (length q) ≡ true) × (is_below q k ≡ true)
    parent_is = and_parts (nat_le 1 (length q)) (is_below q k) (way_of q ∙ or_left (is_at (text_cmp q) q) (nat_le 1 (length q) && is_below q q) (at_itself q))

    -- the parent is there without it, and so each path on the way
    pub covered : (is_some (rows_at (without nodes k) q) || has_below (without nodes k) q) ≡ true → (p : List ℕ) → nat_le 1 (length p) ≡ true → is_below p k ≡ true → (is_some (rows_at (without nodes k) p) || has_below (without nodes k) p) ≡ true
    covered held p n u = by (is_at (text_cmp p) q) refl (sym (way_of p) ∙ both (nat_le 1 (length p)) (is_below p k) n u)
      where
        both : (a b : Bool) → a ≡ true → b ≡ true → (a && b) ≡ true
        both true b i j = j
        both false b i j = absurd (both_ways false refl i)

        above : is_below p q ≡ true → (b : Bool) → is_some (rows_at (without nodes k) q) ≡ b → (b || has_below (without nodes k) q) ≡ true → has_below (without nodes k) p ≡ true
        above u true e h = has_below_true (without nodes k) p q e u
        above u false e h = let found = below_by (without nodes k) q h in has_below_true (without nodes k) p found.0 found.1 (above_above p q found.0 u found.2)

        by : (c : Bool) → is_at (text_cmp p) q ≡ c → (c || (nat_le 1 (length p) && is_below p q)) ≡ true → (is_some (rows_at (without nodes k) p) || has_below (without nodes k) p) ≡ true
        by true e h = subst (λ (x : List ℕ). (is_some (rows_at (without nodes k) x) || has_below (without nodes k) x) ≡ true) (sym (same_at p q e)) held
        by false e h = or_right (is_some (rows_at (without nodes k) p)) (has_below (without nodes k) p) (above (and_parts (nat_le 1 (length p)) (is_below p q) h).1 (is_some (rows_at (without nodes k) q)) refl held)

    -- its parent in its place
    pub closed_replaced : (is_some (rows_at (without nodes k) q) || has_below (without nodes k) q) ≡ false → AreNodes (insert_entry text_cmp (without nodes k) q []) → closed (insert_entry text_cmp (without nodes k) q []) ≡ without (closed nodes) k
    closed_replaced missing then =
        same_lists (closed (insert_entry text_cmp (without nodes k) q [])) (without (closed nodes) k) (closed_sorted (insert_entry text_cmp (without nodes k) q []) then) (remove_sorted (is_at (text_cmp k)) (closed nodes) (closed_sorted nodes are))
        (λ p. rows_closed (insert_entry text_cmp (without nodes k) q []) then p
        ∙ ap (λ r. or_bare r (is_on_way (insert_entry text_cmp (without nodes k) q []) p)) (rows_insert (without nodes k) q p [])
        ∙ ap (λ b. or_bare (cond (is_at (text_cmp p) q) (Some []) (rows_at (without nodes k) p)) (nat_le 1 (length p) && b)) (below_insert (without nodes k) q p [])
        ∙ ap (λ r. or_bare (cond (is_at (text_cmp p) q) (Some []) r) (nat_le 1 (length p) && (is_below p q || has_below (without nodes k) p))) (rows_remove nodes k p are.sorted)
        ∙ by (is_at (text_cmp p) k) (is_at (text_cmp p) q) (rows_at nodes p) (nat_le 1 (length p)) (is_below p k) (is_below p q) (has_below (without nodes k) p)
        (λ e. subst (λ (x : List ℕ). (is_at (text_cmp x) q ≡ false) × (is_below x q ≡ false) × (has_below (without nodes k) x ≡ false)) (sym (same_at p k e)) (apart_at, apart_below, none_left))
        (λ e i. sym (ap (λ b. is_some (cond b None (rows_at nodes p))) e)
        ∙ sym (ap is_some (rows_remove nodes k p are.sorted)) ∙ ap (λ (x : List ℕ). is_some (rows_at (without nodes k) x)) (same_at p q i) ∙ first (is_some (rows_at (without nodes k) q)) (has_below (without nodes k) q) missing)
        (way_of p)
        ∙ sym (closed_rest p))
      where
        first : (a b : Bool) → (a || b) ≡ false → a ≡ false
        first true b h = h
        first false b h = refl

        apart_at : is_at (text_cmp k) q ≡ false
        apart_at = false_from_ne_true (is_at (text_cmp k) q) (λ h. ((is_below-Decides q k).0 parent_is.1).0 (sym (same_at k q h)))

        apart_below : is_below k q ≡ false
        apart_below = false_from_ne_true (is_below k q) (λ h. let a = (front_of_path [] k q parent_is.1).1 in let b = (front_of_path [] q k h).1 in omega (arith, a, b))

        by : (e i : Bool) (r : Option Rows) (n b u h : Bool) → (e ≡ true → (i ≡ false) × (u ≡ false) × (h ≡ false)) → (e ≡ false → i ≡ true → is_some r ≡ false) → (n && b) ≡ (i || (n && u))
            → or_bare (cond i (Some []) (cond e None r)) (n && (u || h)) ≡ cond e None (or_bare r (n && (b || h)))
        by true true r n b u h f g w = absurd (both_ways true (f refl).0 refl)
        by true false r n b u true f g w = absurd (both_ways true (f refl).2 refl)
        by true false r n b true false f g w = absurd (both_ways true (f refl).1 refl)
        by true false r true b false false f g w = refl
        by true false r false b false false f g w = refl
        by false true (Some x) n b u h f g w = absurd (both_ways true (g refl refl) refl)
        by false true None true true u h f g w = refl
        by false true None true false u h f g w = absurd (both_ways false refl w)
        by false true None false b u h f g w = absurd (both_ways false refl w)
        by false false (Some x) n b u h f g w = refl
        by false false None true b u h f g w = ap (λ c. cond (c || h) (Some []) None) (sym w)
        by false false None false b u h f g w = refl
