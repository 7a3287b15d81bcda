use Rattle.std.proofs.Common.{◌≡◌, ◌+◌, ◌-◌, ◌*◌, length, map}
use Rattle.std.specs.Vec.{vec_capacity, vec_len}
use Rattle.wire_tree.specs.Datum.{width}
use Rattle.wire_number.specs.ReaderView.{cursor_of}
use Rattle.wire_encoding.specs.Reading.{many_at}
use Rattle.wire_encoding.proofs.Loops.{joined}
use Rattle.wire_codec.specs.Packed.{plain_at}
use Rattle.wire_codec.proofs.read_packed.read_numbers.Given as goal

-- what is read so far, and what stands in what is left, are all; there is room for each that is to come
abbrev pub invariant-loop : goal.invariant-loop
invariant-loop g l = record {
  found : many_at (length l.elements.rest.now) (plain_at g.T.Number.fixed l.order) (cursor_of l.elements)
      ≡ joined (map g.T.Number.bits l.items.items) (many_at (length l.elements.rest.now - l.counter) (plain_at g.T.Number.fixed l.order) (cursor_of l.left));
  left : length l.left.rest.now + l.counter * width g.T.Number.fixed ≡ length l.elements.rest.now;
  long : vec_len l.items ≡ l.counter;
  room : vec_capacity l.items ≡ l.count;
  round : map g.T.Number.of_bits (map g.T.Number.bits l.items.items) ≡ l.items.items;
}
