use Rattle.std.proofs.Common.{◌≡◌, ◌*◌, ◌++◌, map, take, drop}
use Rattle.wire_tree.specs.Datum.{width}
use Rattle.wire_codec.specs.Packed.{numbers_text}
use Rattle.wire_codec.proofs.write_packed.fill.Given as goal

-- the bytes of the numbers so far, and behind them what stood there
abbrev pub invariant-loop-item : goal.invariant-loop-item
invariant-loop-item g l = record {
  place : l.place ≡ l.item-index * width g.T.Number.fixed;
  text : l.bytes ≡ numbers_text g.T.Number.fixed l.order (map g.T.Number.bits (take l.item-index l.items)) ++ drop l.place l.fn.bytes;
}
