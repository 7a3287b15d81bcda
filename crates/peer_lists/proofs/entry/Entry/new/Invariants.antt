-- So many copies were made.
use Rattle.std.proofs.Common.{◌≡◌, length}
use Rattle.peer_lists.specs.Entries.{AreCopies}
use Rattle.peer_lists.proofs.entry.Entry.new.Given as goal

abbrev pub invariant-loop : goal.invariant-loop
invariant-loop l = record { copies : AreCopies l.message l.copies.items; count : length l.copies.items ≡ l.counter }
