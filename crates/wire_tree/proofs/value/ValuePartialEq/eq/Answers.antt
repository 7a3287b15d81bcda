use Rattle.std.specs.Bool.{one_answer}
use Rattle.wire_tree.specs.EqualTells.{same_decides}
use Rattle.wire_tree.proofs.value.ValuePartialEq.eq.Goals as goal

pub returns : goal.returns
returns c = rw (← c.self.view_is, ← c.other.view_is) (one_answer c.is_same.result _ c.is_same.ensures (same_decides _ _))
