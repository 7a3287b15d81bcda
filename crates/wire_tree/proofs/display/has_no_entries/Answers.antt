use Rattle.wire_tree.proofs.Printed.{entries_empty}
use Rattle.wire_tree.proofs.display.has_no_entries.Goals as goal

pub returns : goal.returns
returns c = entries_empty c.args.pairs.now c.is_empty.result c.is_empty.ensures
