use Rattle.std.proofs.Common.{◌≡◌, sym, ◌∙◌, ap, ap₂, List, ℕ, Bool, Some, None, is_some, string_bytes, true, false, cond, Option}
use Rattle.std.specs.BTreeMap.{is_at}
use Rattle.std.specs.List.{slice_get}
use Rattle.object_tree.specs.Keyed.{listed}
use Rattle.object_tree.specs.Objects.{Rows, text_cmp, is_same}
use Rattle.object_tree.proofs.Closed.{at_same}
use Rattle.object_tree.proofs.Entries.{at_swap}
use Rattle.object_tree.proofs.Listed.{listed_is, listed_past}
use Rattle.object_tree.proofs.Placed.{at_place, at_end}
use Rattle.object_tree.proofs.nodes.find.Goals as goal

is_there : (b : Bool) (r : Rows) (o : Option Rows) → o ≡ cond b (Some r) None → b ≡ is_some o
is_there true r o e = sym (ap is_some e)
is_there false r o e = sym (ap is_some e)

pub returns-in-Some : goal.returns-in-Some
returns-in-Some c =
    let at = listed_is c.args.list.now c.place-at.result c.in-Some.field-0.now c.in-Some.ensures.lookup.3.0 c.in-Some.ensures.lookup.1 in
    let put = c.place-at.ensures in
    let found = at_place (listed c.args.list.now) c.args.path.now _ c.requires.sorted (ap (λ i. slice_get (listed c.args.list.now) i) (sym put) ∙ at) in
    let same : c.eq.result ≡ is_at (text_cmp c.args.path.now) (string_bytes c.in-Some.field-0.now.0) =
    c.eq.ensures ∙ ap (λ (t : List ℕ). is_same t c.args.path.now) c.as_str.ensures.value ∙ sym (at_same (string_bytes c.in-Some.field-0.now.0) c.args.path.now) ∙ at_swap (string_bytes c.in-Some.field-0.now.0) c.args.path.now in
    ap₂ (λ (i : ℕ) (b : Bool). (i, b)) put (same ∙ is_there (is_at (text_cmp c.args.path.now) (string_bytes c.in-Some.field-0.now.0)) c.in-Some.field-0.now.1 _ found)

pub returns-in-None : goal.returns-in-None
returns-in-None c =
    let put = c.place-at.ensures in
    let past = listed_past c.args.list.now c.place-at.result c.in-None.ensures.lookup.3 in
    ap₂ (λ (i : ℕ) (b : Bool). (i, b)) put (sym (ap is_some (at_end (listed c.args.list.now) c.args.path.now (ap (λ i. slice_get (listed c.args.list.now) i) (sym put) ∙ past))))
