use Rattle.std.proofs.Common.{sym, ◌∙◌, ap}
use Rattle.wire_tree.specs.Datum.{type_of}
use Rattle.wire_tree.proofs.Lists.{list_of-data_of}
use Rattle.wire_signature.specs.SingleType.{array as array_of}
use Rattle.wire_argument.specs.Kinds.{elements_in}
use Rattle.wire_argument.proofs.kind.trees_in.Goals as goal

pub returns-then-is_written : goal.returns-then-is_written
returns-then-is_written c =
    let d = rw c.in-Some.is at c.in_ok-element.ensures.some in
    λ kind f w. (
      c.into_vec.ensures ∙ sym (list_of-data_of c.in-Some.elements) ∙ ap elements_in (sym d),
      ap type_of d ∙ ap array_of ((c.is_written.ensures kind f w).0 c.if-is_written.true),
    )
