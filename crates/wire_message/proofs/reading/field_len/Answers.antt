use Rattle.std.proofs.Common.{arith}
use Rattle.wire_number.proofs.Steps.{bytes_from}
use Rattle.wire_encoding.proofs.Exact.{found_alone}
use Rattle.wire_message.proofs.HeaderFields.{field_type-text, length-by}
use Rattle.wire_message.proofs.reading.field_len.Goals as goal

pub returns-clause-found : goal.returns-clause-found
returns-clause-found c =
    length-by c.args.order c.args.place c.args.bytes.now c.skip_by_text.result (bytes_from c.args.bytes.now (λ i. omega (arith, c.type_inv.bytes i))) c.skip_by_text.ensures.within
    (found_alone _ _ _ _ _ _ field_type-text c.skip_by_text.ensures.found) c.skip_by_text.ensures.none
