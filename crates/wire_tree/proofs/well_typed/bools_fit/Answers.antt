use Rattle.wire_tree.proofs.Packed.{booleans-fit}
use Rattle.wire_tree.proofs.well_typed.bools_fit.Goals as goal

pub returns : goal.returns
returns c = booleans-fit c.args.items.now
