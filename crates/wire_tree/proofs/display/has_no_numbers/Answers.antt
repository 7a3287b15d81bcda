use Rattle.wire_tree.specs.Datum.{num}
use Rattle.wire_tree.specs.Packed.{numbers_bits, numbers_type}
use Rattle.wire_tree.proofs.Printed.{empty_told}
use Rattle.wire_tree.proofs.display.has_no_numbers.Goals as goal

pub returns : goal.returns
returns c = empty_told (num (numbers_type c.args.numbers.now)) (numbers_bits c.args.numbers.now) c.is_empty.result c.is_empty.ensures
