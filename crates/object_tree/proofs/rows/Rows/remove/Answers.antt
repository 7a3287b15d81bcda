use Rattle.std.proofs.Common.{arith}
use Rattle.object_tree.proofs.Keyed.{lookup_keyed, remove_keyed}
use Rattle.object_tree.proofs.rows.Rows.remove.Goals as goal

pub returns-clause-slot : goal.returns-clause-slot
returns-clause-slot c = let found = lookup_keyed c.args.name.now c.self.inside.slots.entries in grind arith

pub returns-clause-rest : goal.returns-clause-rest
returns-clause-rest c = let left = remove_keyed c.args.name.now c.self.inside.slots.entries in grind arith
