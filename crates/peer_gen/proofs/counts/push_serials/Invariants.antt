use Rattle.std.proofs.Common.{◌≡◌, ◌++◌, take}
use Rattle.peer_gen.specs.Counted.{serials_of}
use Rattle.peer_gen.proofs.counts.push_serials.Given as goal

abbrev pub invariant-loop-entry : goal.invariant-loop-entry
invariant-loop-entry l = l.serials.items ≡ l.initial.serials.items ++ serials_of (take l.entry-index l.entries)
