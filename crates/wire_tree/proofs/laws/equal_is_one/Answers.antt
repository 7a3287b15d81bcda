use Rattle.wire_tree.specs.EqualTells.{same_decides}
use Rattle.wire_tree.proofs.laws.equal_is_one.Goals as goal

pub returns : goal.returns
returns c = same_decides
