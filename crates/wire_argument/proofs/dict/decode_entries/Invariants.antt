use Rattle.std.proofs.Common.{◌≡◌, ◌-◌, length}
use Rattle.wire_number.specs.Reading.{made}
use Rattle.wire_number.specs.ReaderView.{cursor_of}
use Rattle.wire_encoding.specs.Reading.{many_at}
use Rattle.wire_encoding.proofs.Loops.{joined}
use Rattle.wire_argument.specs.Entries.{pair_at}
use Rattle.wire_argument.specs.Kinds.{both}
use Rattle.wire_argument.proofs.dict.decode_entries.Given as goal

-- the entries so far, and those in what is left, are all
abbrev pub invariant-loop : goal.invariant-loop
invariant-loop g l =
    many_at (length l.elements.rest.now) (λ c. made (both g.K.Argument.read g.V.Argument.read) (pair_at l.room l.order g.K.Key.basic g.V.Argument.kind c)) (cursor_of l.elements)
    ≡ joined l.entries.items
    (many_at (length l.elements.rest.now - l.counter) (λ c. made (both g.K.Argument.read g.V.Argument.read) (pair_at l.room l.order g.K.Key.basic g.V.Argument.kind c)) (cursor_of l.left))
