use Rattle.std.proofs.Common.{arith, length, ◌%◌, ◌==◌, ◌∙◌, ap}
use Rattle.wire_number.proofs.Steps.{bytes_from}
use Rattle.wire_encoding.proofs.Packed.{fixed_test}
use Rattle.wire_encoding.proofs.fixed.are_packed.Goals as goal

pub returns-in_default : goal.returns-in_default
returns-in_default c place h =
    ap (λ size. length c.args.bytes.now % size == 0) c.alignment.ensures
    ∙ fixed_test _ _ place _ c.requires c.in_default.not-Boolean (bytes_from c.args.bytes.now (λ i. omega (arith, c.type_inv.bytes i))) h
