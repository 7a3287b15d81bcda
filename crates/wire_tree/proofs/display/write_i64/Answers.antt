use Rattle.std.proofs.Common.{rules}
use Rattle.std.specs.Int.{w64}
use Rattle.std.proofs.lemmas.Int.{to_z-of_z}
use Rattle.wire_tree.proofs.display.write_i64.Goals as goal

pub returns : goal.returns
returns g c = rw (to_z-of_z w64 c.args.x c.ranges.x) (search rules)
