use Rattle.std.proofs.Common.{arith}
use Rattle.object_tree.proofs.Keyed.{insert_keyed}
use Rattle.object_tree.proofs.rows.Rows.insert.Goals as goal

pub returns-clause-done : goal.returns-clause-done
returns-clause-done c = let put = insert_keyed c.self.inside.slots.entries c.in_ok-key.key c.args.slot in grind arith
