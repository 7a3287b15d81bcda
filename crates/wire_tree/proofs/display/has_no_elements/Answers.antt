use Rattle.std.proofs.Common.{refl}
use Rattle.wire_tree.specs.DatumView.{datum_of}
use Rattle.wire_tree.proofs.Printed.{empty_seen}
use Rattle.wire_tree.proofs.display.has_no_elements.Goals as goal

pub returns : goal.returns
returns c = empty_seen datum_of c.args.trees.now _ c.is_empty.result refl c.is_empty.ensures
