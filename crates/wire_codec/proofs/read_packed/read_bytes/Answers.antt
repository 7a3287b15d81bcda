use Rattle.std.proofs.Common.{Some, map, arith, ◌∙◌, ap, sym}
use Rattle.wire_number.proofs.Steps.{bytes_from}
use Rattle.wire_tree.specs.Datum.{byte, num}
use Rattle.wire_codec.proofs.PackedReads.{bytes_packed}
use Rattle.wire_codec.proofs.read_packed.read_bytes.Goals as goal

pub returns : goal.returns
returns c = λ order place.
    bytes_packed order place c.args.bytes.now (bytes_from c.args.bytes.now (λ i. omega (arith, c.type_inv.bytes i)))
    ∙ ap (λ xs. Some (map (num byte) xs)) (sym c.in_ok-from_slice.ensures.items)
