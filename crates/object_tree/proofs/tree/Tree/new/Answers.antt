use Rattle.std.proofs.Common.{subst, sym}
use Rattle.object_tree.specs.Objects.{Objects, IsTree}
use Rattle.object_tree.proofs.Removing.{first_tree}
use Rattle.object_tree.proofs.tree.Tree.new.Goals as goal

pub invariant_of-result : goal.invariant_of-result
invariant_of-result c = subst (λ (o : Objects). IsTree o) (sym c.in_ok-nodes.ensures) first_tree
