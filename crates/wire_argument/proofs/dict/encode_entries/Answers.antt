use Rattle.std.proofs.Common.{map, arith, subst}
use Rattle.std.proofs.lemmas.Result.{err_from_is_err_and}
use Rattle.wire_tree.specs.Datum.{entries_of, entry, AreWellTyped}
use Rattle.wire_tree.proofs.Checked.{well_typed-item}
use Rattle.wire_codec.proofs.Writes.{Writing, write_next, write_done, write_refused}
use Rattle.wire_argument.specs.Kinds.{both}
use Rattle.wire_argument.proofs.Dicts.{entries_by}
use Rattle.wire_argument.proofs.dict.encode_entries.Goals as goal

pub loop-each-init : goal.loop-each-init
loop-each-init g c =
    subst (λ ds. Writing (entries_of (map (both g.K.Argument.datum g.V.Argument.datum) c.args.entries.now)) ds c.args.encoder.now c.args.encoder.now)
    (entries_by g.K.Argument.datum g.V.Argument.datum c.args.entries.now) (λ r new h. h)

pub encode_entry-requires : goal.encode_entry-requires
encode_entry-requires g c =
    let s = well_typed-item (λ e. entry (both g.K.Argument.datum g.V.Argument.datum e)) c.args.entries.now c.loop-each.each-index c.each-item.result
    (subst AreWellTyped (entries_by g.K.Argument.datum g.V.Argument.datum c.args.entries.now) c.requires.well_typed) c.loop-each-test.true c.each-item.is in
    record { key = s.0; value = s.1.0 }

pub returns-in_err-encode_entry : goal.returns-in_err-encode_entry
returns-in_err-encode_entry g c =
    let p = err_from_is_err_and c.from_residual.result c.from_residual.ensures.1 in
    rw (p.1, p.2)
    (write_refused (λ e. entry (both g.K.Argument.datum g.V.Argument.datum e)) _ _ c.loop-each.each-index _ _ c.loop-each.invariant c.each-item.result _ _ c.loop-each-test.true
    c.each-item.is c.in_err-encode_entry.ensures)

pub loop-each-preserved : goal.loop-each-preserved
loop-each-preserved g c =
    write_next (λ e. entry (both g.K.Argument.datum g.V.Argument.datum e)) _ _ c.loop-each.each-index _ _ c.loop-each.invariant c.each-item.result _ c.loop-each-test.true
    c.each-item.is c.in_ok-encode_entry.ensures

pub returns : goal.returns
returns g c = write_done (λ e. entry (both g.K.Argument.datum g.V.Argument.datum e)) _ _ c.loop-each.each-index _ _ c.loop-each.invariant (omega arith)
