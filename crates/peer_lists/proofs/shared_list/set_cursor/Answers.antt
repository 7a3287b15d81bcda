-- Nothing changes where the stream is not there.
use Rattle.std.proofs.{Common.{sym, ◌∙◌, ap, subst, Some, is_some, btree_map_len}, lemmas.Bool.false≢true}
use Rattle.std.specs.{Ordering.nat_cmp, BTreeMap.{keys, is_at, IsOrdered}, Option.{option_copied_mut}}
use Rattle.peer_lists.proofs.Counting.{set_value_none}
use Rattle.peer_lists.proofs.shared_list.set_cursor.Goals as goal

pub returns-in_default : goal.returns-in_default
returns-in_default c =
    let same = c.get_mut.follows.holds-at-none in
    let none = sym c.get_mut.ensures.value ∙ ap option_copied_mut c.in_default.is in (
      ap (λ m. m.entries) same ∙ sym (set_value_none (is_at (nat_cmp c.args.stream)) c.args.cursors.now.entries (Some c.args.cursor) none),
      ap keys same,
      ap btree_map_len same,
      λ there. absurd (false≢true (sym (ap is_some none) ∙ there)),
      subst (IsOrdered nat_cmp) (sym same) c.get_mut.ensures.ordered,
    )
