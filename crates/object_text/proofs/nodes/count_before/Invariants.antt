use Rattle.std.proofs.Common.{◌≡◌, ◌+◌, drop}
use Rattle.std.specs.List.{prefix_len}
use Rattle.std.specs.Ordering.{is_lt}
use Rattle.object_tree.specs.Objects.{text_cmp}
use Rattle.object_text.proofs.nodes.count_before.Given as goal

abbrev pub invariant-loop-each : goal.invariant-loop-each
invariant-loop-each l =
    (l.count ≡ l.each-index) × (prefix_len (λ i. is_lt (text_cmp i.name l.name)) l.interfaces ≡ l.count + prefix_len (λ i. is_lt (text_cmp i.name l.name)) (drop l.each-index l.interfaces))
