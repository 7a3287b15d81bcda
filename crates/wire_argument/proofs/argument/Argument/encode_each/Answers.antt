use Rattle.std.proofs.Common.{arith}
use Rattle.std.proofs.lemmas.Result.{err_from_is_err_and}
use Rattle.wire_tree.proofs.Checked.{well_typed-item}
use Rattle.wire_codec.proofs.Writes.{write_next, write_done, write_refused}
use Rattle.wire_argument.proofs.argument.Argument.encode_each.Goals as goal

pub loop-each-init : goal.loop-each-init
loop-each-init g c = λ r new h. h

pub encode-requires : goal.encode-requires
encode-requires g c = record {
  well_typed = well_typed-item g.Self.Argument.datum c.args.items.now c.loop-each.each-index c.each-item.result c.requires.well_typed c.loop-each-test.true c.each-item.is;
}

pub returns-in_err-encode : goal.returns-in_err-encode
returns-in_err-encode g c =
    let p = err_from_is_err_and c.from_residual.result c.from_residual.ensures.1 in
    rw (p.1, p.2)
    (write_refused g.Self.Argument.datum _ _ c.loop-each.each-index _ _ c.loop-each.invariant c.each-item.result _ _ c.loop-each-test.true c.each-item.is c.in_err-encode.ensures)

pub loop-each-preserved : goal.loop-each-preserved
loop-each-preserved g c =
    write_next g.Self.Argument.datum _ _ c.loop-each.each-index _ _ c.loop-each.invariant c.each-item.result _ c.loop-each-test.true c.each-item.is c.in_ok-encode.ensures

pub returns : goal.returns
returns g c = write_done g.Self.Argument.datum _ _ c.loop-each.each-index _ _ c.loop-each.invariant (omega arith)
