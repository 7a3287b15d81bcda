use Rattle.std.proofs.Common.{◌++◌, ◌∙◌, ap}
use Rattle.wire_signature.specs.SingleType.{type_text}
use Rattle.wire_tree.specs.Datum.{type_of}
use Rattle.wire_tree.specs.DatumView.{datum_of}
use Rattle.wire_tree.proofs.typed.type_text.Goals as goal

pub returns : goal.returns
returns c = c.in_ok-write_type.ensures ∙ ap (λ r. r ++ type_text (type_of (datum_of c.args.tree.now))) c.new-text.ensures.bytes
