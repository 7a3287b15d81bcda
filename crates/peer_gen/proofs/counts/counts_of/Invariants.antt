use Rattle.std.proofs.Common.{◌≡◌, ◌*◌, ◌^◌, ◌≤◌, take}
use Rattle.peer_gen.specs.Counted.{counts_of}
use Rattle.peer_gen.proofs.counts.counts_of.Given as goal

abbrev pub invariant-loop-entry : goal.invariant-loop-entry
invariant-loop-entry l = record {
  value : l.counts ≡ counts_of l.serials (take l.entry-index l.entries);
  calls : l.counts.calls ≤ l.entry-index;
  replies : l.counts.replies ≤ l.entry-index;
  signals : l.counts.signals ≤ l.entry-index;
  items : l.counts.items ≤ l.entry-index;
  sum : l.counts.sum ≤ l.entry-index * 2 ^ 96;
}
