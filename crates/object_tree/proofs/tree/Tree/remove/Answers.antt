use Rattle.std.proofs.Common.{◌≡◌, subst, sym, ◌∙◌, ap, arith, false, unwrap_or, [], option_and_then}
use Rattle.std.specs.BTreeMap.{is_at}
use Rattle.std.specs.Map.{lookup, remove_entry}
use Rattle.object_tree.specs.Objects.{Objects, Rows, IsTree, has_below, slot_at, text_cmp, rows_at, rows_without, manager_name, is_gone_without}
use Rattle.object_tree.proofs.Entries.{remove_set, lookup_set}
use Rattle.object_tree.proofs.Changed.{below_set}
use Rattle.object_tree.proofs.Valid.{rows_left, names_at}
use Rattle.object_tree.proofs.Whole.{set_stays, gone_stays}
use Rattle.object_tree.proofs.Removing.{stays_at_root, stays_with_paths, stays_with_rows, is_gone, slot_there, object_kept, object_gone}
use Rattle.object_tree.proofs.tree.Tree.remove.Goals.{then-eq-via-then-eq, then-eq-via-else-eq+then-has_below, then-eq-via-else-eq+else-has_below+then-not-bare}
use Rattle.object_tree.proofs.tree.Tree.remove.Goals as goal

pub invariant_of-self-then-eq : goal.invariant_of-self-then-eq
invariant_of-self-then-eq c =
    subst (λ (o : Objects). IsTree o) (sym c.in_ok-slot.ensures.rest)
    (set_stays c.self.inside.nodes c.as_str-path.result.now (rows_without c.self.inside.nodes c.as_str-path.result.now c.as_str.result.now)
    (rows_left (is_at (text_cmp c.as_str.result.now)) (unwrap_or (rows_at c.self.inside.nodes c.as_str-path.result.now) []) (names_at c.self.inside.nodes c.as_str-path.result.now c.self.invariant.valid)) c.self.invariant)

pub returns-then-eq-clause-there : goal.returns-then-eq-clause-there
returns-then-eq-clause-there c =
    let o = c.self.inside.nodes in
    let p = c.as_str-path.result.now in
    let n = c.as_str.result.now in
    let gone : is_gone_without c.self.inside.nodes c.as_str-path.result.now c.as_str.result.now ≡ false = elim c.then-eq.branch [ then-eq-via-then-eq w ↦ stays_at_root c.self.inside.nodes c.as_str-path.result.now c.as_str.result.now (grind arith) | then-eq-via-else-eq+then-has_below w ↦ stays_with_paths c.self.inside.nodes c.as_str-path.result.now c.as_str.result.now (grind arith) | then-eq-via-else-eq+else-has_below+then-not-bare w ↦ stays_with_rows c.self.inside.nodes c.as_str-path.result.now c.as_str.result.now (grind arith) ] in
    object_kept c.self.inside.nodes c.args.self.now c.as_str-path.result.now c.args.path.now c.as_str.result.now c.args.name.now c.remove_row.new.self c.self.view_is c.as_str-path.ensures.value c.as_str.ensures.value c.in_ok-slot.ensures.rest gone

pub remove-manager-requires-clause-bare : goal.remove-manager-requires-clause-bare
remove-manager-requires-clause-bare c =
    let bare : has_below c.self.inside.nodes c.as_str-path.result.now ≡ false = grind arith in
    ap (λ (o : Objects). has_below o c.as_str-path.result.now) c.in_ok-slot.ensures.rest
    ∙ below_set (is_at (text_cmp c.as_str-path.result.now)) c.self.inside.nodes c.as_str-path.result.now (rows_without c.self.inside.nodes c.as_str-path.result.now c.as_str.result.now) ∙ bare

pub invariant_of-self-2 : goal.invariant_of-self-2
invariant_of-self-2 c =
    let rows = rows_without c.self.inside.nodes c.as_str-path.result.now c.as_str.result.now in
    let left : c.remove-manager.new.self ≡ remove_entry (is_at (text_cmp c.as_str-path.result.now)) c.self.inside.nodes =
    c.remove-manager.ensures.rest ∙ ap (remove_entry (is_at (text_cmp c.as_str-path.result.now))) c.in_ok-slot.ensures.rest
    ∙ remove_set (is_at (text_cmp c.as_str-path.result.now)) c.self.inside.nodes (rows_without c.self.inside.nodes c.as_str-path.result.now c.as_str.result.now) in
    subst (λ (o : Objects). IsTree o) (sym left) (gone_stays c.self.inside.nodes c.as_str-path.result.now (grind arith) (grind arith) c.self.invariant)

pub returns-clause-there : goal.returns-clause-there
returns-clause-there c =
    let there = slot_there c.self.inside.nodes c.as_str-path.result.now c.as_str.result.now c.in_ok-slot.slot c.in_ok-slot.ensures.slot in
    let put = lookup_set (is_at (text_cmp c.as_str-path.result.now)) c.self.inside.nodes (rows_without c.self.inside.nodes c.as_str-path.result.now c.as_str.result.now) there in
    let manager : c.remove-manager.result ≡ lookup (is_at (text_cmp manager_name)) (rows_without c.self.inside.nodes c.as_str-path.result.now c.as_str.result.now) =
    c.remove-manager.ensures.manager ∙ ap (λ (o : Objects). slot_at o c.as_str-path.result.now manager_name) c.in_ok-slot.ensures.rest
    ∙ ap (λ r. option_and_then (λ (rows : Rows). lookup (is_at (text_cmp manager_name)) rows) r) put in
    object_gone c.self.inside.nodes c.args.self.now c.as_str-path.result.now c.args.path.now c.as_str.result.now c.args.name.now c.remove-manager.new.self c.remove-manager.result c.self.view_is c.as_str-path.ensures.value c.as_str.ensures.value
    (c.remove-manager.ensures.rest ∙ ap (remove_entry (is_at (text_cmp c.as_str-path.result.now))) c.in_ok-slot.ensures.rest) manager
    (is_gone c.self.inside.nodes c.as_str-path.result.now c.as_str.result.now (grind arith) (grind arith) (grind arith))
