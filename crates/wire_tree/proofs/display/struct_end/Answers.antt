use Rattle.wire_tree.proofs.Printed.{end_of_one, end_of_others}
use Rattle.wire_tree.proofs.display.struct_end.Goals as goal

pub returns-then-fields-eq1 : goal.returns-then-fields-eq1
returns-then-fields-eq1 c = end_of_one c.args.fields.now c.if-fields-eq1.true

pub returns-else-fields-eq1 : goal.returns-else-fields-eq1
returns-else-fields-eq1 c = end_of_others c.args.fields.now c.if-fields-eq1.false
