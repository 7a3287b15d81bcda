use Rattle.wire_tree.proofs.Types.{texts_tell}
use Rattle.wire_tree.proofs.typed.is_same_type.Goals as goal

pub returns : goal.returns
returns c = texts_tell c.eq.result c.args.value_type.now c.args.other.now c.node.ensures.valid c.node-2.ensures.valid c.eq.ensures
