use Rattle.std.proofs.Common.{subst, sym, arith}
use Rattle.object_tree.specs.Objects.{Objects, IsTree}
use Rattle.object_tree.proofs.Grown.{added_tree}
use Rattle.object_tree.proofs.tree.Tree.add.Goals as goal

pub invariant_of-self-2 : goal.invariant_of-self-2
invariant_of-self-2 c =
    subst (λ (o : Objects). IsTree o) (sym c.in_ok-add.ensures.done) (added_tree c.self.inside.nodes c.as_str.result.now c.as_str-2.result.now c.args.slot (grind arith) (grind arith) c.self.invariant)
