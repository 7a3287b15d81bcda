-- What stands at a path's place, and what the tree has there.
use Rattle.std.proofs.Common.{◌≡◌, refl, sym, ◌∙◌, ap, ap₂, ℕ, suc, ◌+◌, add-one, ◌≤◌, nat_le, List, [], length, Bool, true, false, cond, ◌&&◌, Option, Some, None, is_some, option_map, option_and_then, unwrap_or, arith}
use Rattle.std.specs.List.{slice_get}
use Rattle.std.specs.Map.{lookup}
use Rattle.std.specs.declared.string.String.{String}
use Rattle.std.specs.BTreeMap.{is_at}
use Rattle.std.proofs.lemmas.Bool.{cond-false, both_ways}
use Rattle.std.proofs.lemmas.Bool.Decides.{nat_tests}
use Rattle.object_tree.specs.Objects.{Objects, Rows, text_cmp, is_below, has_below, rows_at, slot_at}
use Rattle.object_tree.specs.Keyed.{listed}
use Rattle.object_tree.specs.Closed.{AreNodes, closed, place}
use Rattle.object_tree.proofs.Closed.{or_bare}
use Rattle.object_tree.proofs.Found.{is_on_way, rows_closed, has_below_closed}
use Rattle.object_tree.proofs.Placed.{at_place, at_end, behind, below_next}

module _ (nodes : Objects) (path : List ℕ) (are : AreNodes nodes) where
  pub closed_below : has_below (closed nodes) path ≡ unwrap_or (option_map (λ o. is_below path o.0) (slice_get nodes (behind nodes path))) false
  closed_below = has_below_closed nodes path are ∙ below_next nodes path are

  -- where it isn't there itself
  not_there : 1 ≤ length path → is_some (rows_at nodes path) ≡ false → rows_at (closed nodes) path ≡ cond (has_below nodes path) (Some []) None
  not_there one gone = rows_closed nodes are path ∙ by (rows_at nodes path) (nat_le 1 (length path)) (has_below nodes path) gone (grind (arith, nat_tests))
    where
      by : (r : Option Rows) (n h : Bool) → is_some r ≡ false → n ≡ true → or_bare r (n && h) ≡ cond h (Some []) None
      by (Some x) n h g e = absurd (both_ways false refl (sym g))
      by None true h g e = refl
      by None false h g e = absurd (both_ways false refl e)

  next_of : is_some (rows_at nodes path) ≡ false → behind nodes path ≡ place nodes path
  next_of gone = cond-false (is_some (rows_at nodes path)) (suc (place nodes path)) (place nodes path) gone

  pub got_else : (o : List ℕ × Rows) → 1 ≤ length path → is_some (rows_at nodes path) ≡ false → slice_get nodes (place nodes path) ≡ Some o → rows_at (closed nodes) path ≡ cond (is_below path o.0) (Some []) None
  got_else o one gone is =
      not_there one gone
      ∙ ap (λ b. cond b (Some []) None) (below_next nodes path are ∙ ap (λ s. unwrap_or (option_map (λ (o : List ℕ × Rows). is_below path o.0) s) false) (ap (slice_get nodes) (next_of gone) ∙ is))

  pub got_none : 1 ≤ length path → slice_get nodes (place nodes path) ≡ None → rows_at (closed nodes) path ≡ None
  got_none one is =
      let gone = ap is_some (at_end nodes path is) in
      not_there one gone
      ∙ ap (λ b. cond b (Some []) None) (below_next nodes path are ∙ ap (λ s. unwrap_or (option_map (λ (o : List ℕ × Rows). is_below path o.0) s) false) (ap (slice_get nodes) (next_of gone) ∙ is))

  pub got_there : (o : List ℕ × Rows) → is_some (rows_at nodes path) ≡ true → slice_get nodes (place nodes path) ≡ Some o → (rows_at nodes path ≡ Some o.1) × (rows_at (closed nodes) path ≡ Some o.1)
  got_there o there is =
      let at = at_place nodes path o are.sorted is in
      let held = some (is_at (text_cmp path) o.0) (rows_at nodes path) at there in
      (held, rows_closed nodes are path ∙ ap (λ r. or_bare r (is_on_way nodes path)) held)
    where
      some : (b : Bool) (r : Option Rows) → r ≡ cond b (Some o.1) None → is_some r ≡ true → r ≡ Some o.1
      some true r e h = e
      some false r e h = absurd (both_ways true (sym h ∙ ap is_some e) refl)

  -- an interface that the object at the path has is one of those put in
  pub slot_closed : (name : List ℕ) → slot_at (closed nodes) path name ≡ slot_at nodes path name
  slot_closed name = ap (λ r. option_and_then (λ (rows : Rows). lookup (is_at (text_cmp name)) rows) r) (rows_closed nodes are path) ∙ by (rows_at nodes path) (is_on_way nodes path)
    where
      by : (r : Option Rows) (b : Bool) → option_and_then (λ (rows : Rows). lookup (is_at (text_cmp name)) rows) (or_bare r b) ≡ option_and_then (λ (rows : Rows). lookup (is_at (text_cmp name)) rows) r
      by (Some x) b = refl
      by None true = refl
      by None false = refl

  pub slot_none : (name : List ℕ) → is_some (rows_at nodes path) ≡ false → slot_at (closed nodes) path name ≡ None
  slot_none name gone = slot_closed name ∙ by (rows_at nodes path) gone
    where
      by : (r : Option Rows) → is_some r ≡ false → option_and_then (λ (rows : Rows). lookup (is_at (text_cmp name)) rows) r ≡ None
      by None g = refl
      by (Some x) g = absurd (both_ways false refl (sym g))

  pub none_whole : 1 ≤ length path → is_some (rows_at nodes path) ≡ false → has_below (closed nodes) path ≡ false → rows_at (closed nodes) path ≡ None
  none_whole one gone bare = not_there one gone ∙ ap (λ b. cond b (Some []) None) (sym (has_below_closed nodes path are) ∙ bare)

-- ---- of the list itself

module _ {Y : Type 0} (es a b : List (String Y × Rows)) (path : List ℕ) (i : ℕ) (same : a ≡ es) (put : i ≡ place (listed a) path) where
  pub spot : (r : Option (List ℕ × Rows)) → b ≡ es → slice_get (listed b) i ≡ r → slice_get (listed es) (place (listed es) path) ≡ r
  spot r items is = sym (ap₂ (λ (x : List (String Y × Rows)) (n : ℕ). slice_get (listed x) n) items (put ∙ ap (λ (x : List (String Y × Rows)). place (listed x) path) same)) ∙ is

  pub at_spot : i ≡ place (listed es) path
  at_spot = put ∙ ap (λ (x : List (String Y × Rows)). place (listed x) path) same

pub held : {Y : Type 0} (es a : List (String Y × Rows)) (path : List ℕ) (t w : Bool) → a ≡ es → t ≡ is_some (rows_at (listed a) path) → t ≡ w → is_some (rows_at (listed es) path) ≡ w
held {Y} es a path t w same put is = sym (put ∙ ap (λ (x : List (String Y × Rows)). is_some (rows_at (listed x) path)) same) ∙ is

-- the place after the path, as the code counts
pub by_there : (objects : Objects) (path : List ℕ) (t : Bool) (i after : ℕ) → i ≡ place objects path → is_some (rows_at objects path) ≡ t → after ≡ cond t (i + 1) i → after ≡ behind objects path
by_there objects path true i after put there is = is ∙ add-one i ∙ ap suc put ∙ ap (λ (b : Bool). cond b (suc (place objects path)) (place objects path)) (sym there)
by_there objects path false i after put there is = is ∙ put ∙ ap (λ (b : Bool). cond b (suc (place objects path)) (place objects path)) (sym there)
