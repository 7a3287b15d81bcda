use Rattle.std.proofs.Common.{arith}
use Rattle.std.proofs.lemmas.Result.{err_from_is_err_and}
use Rattle.wire_tree.specs.DatumView.{datum_of}
use Rattle.wire_number.specs.ReaderView.{cursor_of}
use Rattle.wire_number.proofs.Steps.{bytes_from}
use Rattle.wire_encoding.proofs.Exact.{decoded_from, explained_from}
use Rattle.wire_codec.proofs.decoding.decode.Goals as goal

pub returns-in_err-tree-clause-error : goal.returns-in_err-tree-clause-error
returns-in_err-tree-clause-error c =
    let p = err_from_is_err_and c.from_residual.result c.from_residual.ensures.1 in
    rw (p.1, p.2) (explained_from _ _ _ _ _ _ c.new-reader.ensures c.in_err-tree.ensures)

pub from_valid-value-requires : goal.from_valid-value-requires
from_valid-value-requires c =
    (decoded_from _ _ _ _ (cursor_of c.new-reader.result) (datum_of c.in_ok-tree.tree, cursor_of c.in_ok-tree.after) c.new-reader.ensures c.node.ensures.valid
    (bytes_from c.args.bytes.now (λ i. omega (arith, c.type_inv.bytes i))) c.in_ok-tree.ensures).found.valid

pub overflow_sub-result : goal.overflow_sub-result
overflow_sub-result c =
    (decoded_from _ _ _ _ (cursor_of c.new-reader.result) (datum_of c.in_ok-tree.tree, cursor_of c.in_ok-tree.after) c.new-reader.ensures c.node.ensures.valid
    (bytes_from c.args.bytes.now (λ i. omega (arith, c.type_inv.bytes i))) c.in_ok-tree.ensures).before

pub returns : goal.returns
returns c =
    let k = decoded_from _ _ _ _ (cursor_of c.new-reader.result) (datum_of c.in_ok-tree.tree, cursor_of c.in_ok-tree.after) c.new-reader.ensures c.node.ensures.valid
    (bytes_from c.args.bytes.now (λ i. omega (arith, c.type_inv.bytes i))) c.in_ok-tree.ensures in
    rw c.from_valid-value.ensures (record { found = k.found; within = k.within; only = k.only; error = tt })
