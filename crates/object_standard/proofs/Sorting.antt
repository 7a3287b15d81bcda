-- What properties are in their order.
use Rattle.std.proofs.Common.{◌≡◌, refl, ap, ◌∙◌, ℕ, List, [], ◌∷◌, ◌++◌, Some, None, Bool, true, false, cond}
use Rattle.std.proofs.lemmas.Bool.{cond-true, cond-false}
use Rattle.std.proofs.lemmas.List.Sums.{fold-append}
use Rattle.std.specs.Cmp.Lexicographic.{nat_list_cmp_total}
use Rattle.std.specs.List.{AllByRecursion, fold}
use Rattle.std.specs.List.Sorted.{IsStrictlySortedBy}
use Rattle.std.specs.Map.{lookup, keys_of}
use Rattle.std.specs.Ordering.{is_eq, match_ordering, ordering_reverse}
use Rattle.std.specs.declared.cmp.Ordering.{Ordering}
use Rattle.std.specs.declared.cmp.Ordering.TheVariants.{Less, Equal, Greater}
use Rattle.std.specs.BTreeMap.{is_at, insert_entry}
use Rattle.wire_tree.specs.Datum.{Datum}
use Rattle.object_tree.specs.Texts.{text_cmp}
use Rattle.object_tree.proofs.Entries.{at_itself, insert_other}
use Rattle.object_tree.proofs.Whole.{all_then}
use Rattle.object_standard.specs.Properties.{sorted, with_property}

abbrev Properties : Type 0
Properties = List (List ℕ × Datum)

-- ---- ascending

all_insert : (P : List ℕ → Type 0) (k : List ℕ) (v : Datum) (es : Properties) → AllByRecursion P (keys_of es) → P k → AllByRecursion P (keys_of (insert_entry text_cmp es k v))
all_insert P k v [] all this = (this, all)
all_insert P k v (e ∷ es) all this = by (text_cmp k e.0) (all_insert P k v es all.1 this)
  where
    by : (o : Ordering) → AllByRecursion P (keys_of (insert_entry text_cmp es k v)) → AllByRecursion P (keys_of (match_ordering o ((k, v) ∷ e ∷ es) ((e.0, v) ∷ es) (e ∷ insert_entry text_cmp es k v)))
    by Less later = (this, all)
    by Equal later = all
    by Greater later = (all.0, later)

insert_ascending : (k : List ℕ) (v : Datum) (es : Properties) → IsStrictlySortedBy text_cmp (keys_of es) → IsStrictlySortedBy text_cmp (keys_of (insert_entry text_cmp es k v))
unfolding IsStrictlySortedBy
insert_ascending k v [] s = (s, s)
insert_ascending k v (e ∷ es) s = by (text_cmp k e.0) refl (insert_ascending k v es s.1)
  where
    by : (o : Ordering) → text_cmp k e.0 ≡ o → IsStrictlySortedBy text_cmp (keys_of (insert_entry text_cmp es k v))
        → IsStrictlySortedBy text_cmp (keys_of (match_ordering o ((k, v) ∷ e ∷ es) ((e.0, v) ∷ es) (e ∷ insert_entry text_cmp es k v)))
    by Less h later = ((h, all_then (λ y. text_cmp e.0 y ≡ Less) (λ y. text_cmp k y ≡ Less) (keys_of es) s.0 (λ y below. nat_list_cmp_total.trans k e.0 y h below)), s)
    by Equal h later = s
    by Greater h later = (all_insert (λ y. text_cmp e.0 y ≡ Less) k v es s.0 (nat_list_cmp_total.antisymm e.0 k ∙ ap ordering_reverse h), later)

fold_ascending : (es ps : Properties) → IsStrictlySortedBy text_cmp (keys_of es) → IsStrictlySortedBy text_cmp (keys_of (fold with_property es ps))
unfolding IsStrictlySortedBy
fold_ascending es [] s = s
fold_ascending es (p ∷ ps) s = fold_ascending (with_property es p) ps (insert_ascending p.0 p.1 es s)

pub sorted_ascending : (ps : Properties) → IsStrictlySortedBy text_cmp (keys_of (sorted ps))
unfolding IsStrictlySortedBy
sorted_ascending ps = fold_ascending [] ps tt

-- ---- of one name the later one

insert_gives : (k : List ℕ) (v : Datum) (es : Properties) → lookup (is_at (text_cmp k)) (insert_entry text_cmp es k v) ≡ Some v
insert_gives k v [] = cond-true (is_at (text_cmp k) k) (Some v) None (at_itself k)
insert_gives k v (e ∷ es) = by (text_cmp k e.0) refl (insert_gives k v es)
  where
    by : (o : Ordering) → text_cmp k e.0 ≡ o → lookup (is_at (text_cmp k)) (insert_entry text_cmp es k v) ≡ Some v
        → lookup (is_at (text_cmp k)) (match_ordering o ((k, v) ∷ e ∷ es) ((e.0, v) ∷ es) (e ∷ insert_entry text_cmp es k v)) ≡ Some v
    by Less h later = cond-true (is_at (text_cmp k) k) (Some v) (lookup (is_at (text_cmp k)) (e ∷ es)) (at_itself k)
    by Equal h later = cond-true (is_at (text_cmp k) e.0) (Some v) (lookup (is_at (text_cmp k)) es) (ap is_eq h)
    by Greater h later = cond-false (is_at (text_cmp k) e.0) (Some e.1) (lookup (is_at (text_cmp k)) (insert_entry text_cmp es k v)) (ap is_eq h) ∙ later

-- what isn't put in again stays
fold_other : (q : List ℕ) (es ps : Properties) → lookup (is_at (text_cmp q)) ps ≡ None → lookup (is_at (text_cmp q)) (fold with_property es ps) ≡ lookup (is_at (text_cmp q)) es
fold_other q es [] none = refl
fold_other q es (p ∷ ps) none = by (is_at (text_cmp q) p.0) refl none (fold_other q (with_property es p) ps)
  where
    by : (b : Bool) → is_at (text_cmp q) p.0 ≡ b → cond b (Some p.1) (lookup (is_at (text_cmp q)) ps) ≡ None
        → (lookup (is_at (text_cmp q)) ps ≡ None → lookup (is_at (text_cmp q)) (fold with_property (with_property es p) ps) ≡ lookup (is_at (text_cmp q)) (with_property es p))
        → lookup (is_at (text_cmp q)) (fold with_property (with_property es p) ps) ≡ lookup (is_at (text_cmp q)) es
    by true h e later = absurd (cc)
    by false h e later = later e ∙ insert_other p.0 q p.1 h es

pub sorted_later : (before behind : Properties) (name : List ℕ) (value : Datum) → lookup (is_at (text_cmp name)) behind ≡ None
    → lookup (is_at (text_cmp name)) (sorted (before ++ (name, value) ∷ behind)) ≡ Some value
sorted_later before behind name value none =
    ap (lookup (is_at (text_cmp name))) (fold-append with_property [] before ((name, value) ∷ behind))
    ∙ fold_other name (with_property (sorted before) (name, value)) behind none
    ∙ insert_gives name value (sorted before)

pub sorted_no_other : (ps : Properties) (name : List ℕ) → lookup (is_at (text_cmp name)) ps ≡ None → lookup (is_at (text_cmp name)) (sorted ps) ≡ None
sorted_no_other ps name none = fold_other name [] ps none
