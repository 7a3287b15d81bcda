use Rattle.std.proofs.Common.{◌∙◌, ap, arith}
use Rattle.peer_gen.specs.Counted.{with_entry}
use Rattle.peer_gen.proofs.Counting.{one_more}
use Rattle.peer_gen.proofs.counts.counts_of.Goals as goal

pub loop-entry-preserved : goal.loop-entry-preserved
loop-entry-preserved c =
    let inv = c.loop-entry.invariant in
    let e = c.entry-item in
    let done = c.with_entry-counts in
    record {
      value = one_more c.args.serials.now c.args.entries.now c.loop-entry.entry-index e.result c.loop-entry.counts done.result (omega arith) inv.value (done.ensures.value ∙ ap (with_entry c.args.serials.now c.loop-entry.counts) e.is);
      calls = omega arith;
      replies = omega arith;
      signals = omega arith;
      items = omega arith;
      sum = omega arith;
    }
