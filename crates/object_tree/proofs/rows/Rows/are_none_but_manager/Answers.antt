use Rattle.std.proofs.Common.{sym, ◌∙◌, ap, arith, is_some}
use Rattle.std.specs.BTreeMap.{is_at}
use Rattle.std.specs.Map.{lookup}
use Rattle.object_tree.specs.Objects.{manager_name, are_none_but_manager, text_cmp}
use Rattle.object_tree.proofs.Few.{one_row, more_rows}
use Rattle.object_tree.proofs.Keyed.{keyed, length_keyed, sorted_keyed}
use Rattle.object_tree.proofs.rows.Rows.are_none_but_manager.Goals as goal

pub returns-in-1 : goal.returns-in-1
returns-in-1 c =
    let count = length_keyed c.self.inside.slots.entries in
    let told = one_row (keyed c.self.inside.slots.entries) (grind arith) in
    let same = ap are_none_but_manager c.self.view_is in
    c.is_some.ensures ∙ ap is_some c.manager.ensures ∙ ap (λ rows. is_some (lookup (is_at (text_cmp manager_name)) rows)) (sym c.self.view_is) ∙ told ∙ same

pub returns-in_default : goal.returns-in_default
returns-in_default c =
    let count = length_keyed c.self.inside.slots.entries in
    more_rows (keyed c.self.inside.slots.entries) (grind arith) (sorted_keyed c.self.inside.slots.entries c.len.ensures.ordered) ∙ ap are_none_but_manager c.self.view_is
