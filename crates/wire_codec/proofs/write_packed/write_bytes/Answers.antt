use Rattle.std.proofs.Common.{arith, sym}
use Rattle.wire_number.proofs.Steps.{bytes_from}
use Rattle.wire_codec.proofs.PackedWrites.{bytes_text}
use Rattle.wire_codec.proofs.Writes.{same_text}
use Rattle.wire_codec.proofs.write_packed.write_bytes.Goals as goal

pub returns : goal.returns
returns c =
    same_text _ c.args.bytes.now _ _ _ _ _ (sym (bytes_text c.args.encoder.now.order c.args.bytes.now (bytes_from c.args.bytes.now (λ i. omega (arith, c.type_inv.bytes i)))))
    (λ k. k) (λ k. k) c.put.ensures
