use Rattle.std.proofs.Common.{◌≡◌, ◌-◌, length}
use Rattle.wire_number.specs.Reading.{made}
use Rattle.wire_number.specs.ReaderView.{cursor_of}
use Rattle.wire_encoding.specs.Reading.{many_at, value_at}
use Rattle.wire_encoding.proofs.Loops.{joined}
use Rattle.wire_argument.proofs.argument.Argument.decode_each.Given as goal

-- the elements so far, and those in what is left, are all
abbrev pub invariant-loop : goal.invariant-loop
invariant-loop g l =
    many_at (length l.elements.rest.now) (λ c. made g.Self.Argument.read (value_at l.room l.order g.Self.Argument.kind c)) (cursor_of l.elements)
    ≡ joined l.items.items (many_at (length l.elements.rest.now - l.counter) (λ c. made g.Self.Argument.read (value_at l.room l.order g.Self.Argument.kind c)) (cursor_of l.left))
