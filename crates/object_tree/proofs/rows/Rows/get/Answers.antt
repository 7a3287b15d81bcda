use Rattle.std.proofs.Common.{arith}
use Rattle.object_tree.proofs.Keyed.{lookup_keyed}
use Rattle.object_tree.proofs.rows.Rows.get.Goals as goal

pub returns : goal.returns
returns c = let found = lookup_keyed c.args.name.now c.self.inside.slots.entries in grind arith
