use Rattle.std.proofs.Common.{◌<◌, length, arith}
use Rattle.std.proofs.lemmas.Bool.Decides.{nat_tests}
use Rattle.wire_number.specs.ReaderView.{cursor_of}
use Rattle.wire_message.proofs.Stepping.{next-takes, going-done, going-fails, going-first, going-more, field-ends}
use Rattle.wire_message.proofs.reading.offsets_in.Goals as goal

pub loop-left-init : goal.loop-left-init
loop-left-init c =
    going-first c.args.order c.args.bytes.now c.args.end c.none-offsets.result (cursor_of c.reader_of-left.result) (λ i. omega (arith, c.type_inv.bytes i)) c.requires.from c.requires.there
    c.reader_of-left.ensures c.none-offsets.ensures

pub returns-in_err-field-clause-found : goal.returns-in_err-field-clause-found
returns-in_err-field-clause-found c =
    let some : 0 < length c.loop-left.left.rest.now = grind (arith, nat_tests) in
    rw c.from_residual.ensures (going-fails _ _ _ _ (cursor_of c.loop-left.left) c.loop-left.invariant some c.in_err-field.ensures)

pub set_field-requires : goal.set_field-requires
set_field-requires c =
    (field-ends _ _ _ _ (cursor_of c.loop-left.left) (cursor_of c.in_ok-field.after) c.in_ok-field.field c.requires.there c.loop-left.invariant c.in_ok-field.ensures).0.0

pub loop-left-preserved : goal.loop-left-preserved
loop-left-preserved c =
    let ends = field-ends _ _ _ _ (cursor_of c.loop-left.left) (cursor_of c.in_ok-field.after) c.in_ok-field.field c.requires.there c.loop-left.invariant c.in_ok-field.ensures in
    going-more _ _ _ _ _ (cursor_of c.loop-left.left) _ c.loop-left.invariant c.in_ok-field.ensures
    (c.set_field.ensures.field c.args.bytes.now ends.0.1) (c.set_field.ensures.spans c.args.end c.loop-left.invariant.spans ends.1)

pub loop-left-smaller : goal.loop-left-smaller
loop-left-smaller c = next-takes _ (cursor_of c.loop-left.left) _ c.loop-left.invariant.low c.in_ok-field.ensures

pub returns-clause-found : goal.returns-clause-found
returns-clause-found c = going-done _ _ _ _ (cursor_of c.loop-left.left) c.loop-left.invariant (grind (arith, nat_tests))
