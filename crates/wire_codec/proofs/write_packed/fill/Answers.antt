use Rattle.std.proofs.Common.{◌≡◌, ℕ, ◌+◌, ◌*◌, ◌++◌, List, map, take, drop, length, sym, ◌∙◌, ap, arith}
use Rattle.wire_tree.specs.Datum.{FixedType, width}
use Rattle.wire_codec.proofs.PackedWrites.{one_filled, width_more}
use Rattle.wire_codec.proofs.write_packed.fill.Goals as goal

pub loop-item-preserved : goal.loop-item-preserved
loop-item-preserved g c =
    let n : FixedType = g.T.Number.fixed in
    let wide : c.width-width.result ≡ width n = c.width-width.ensures.exact ∙ ap width c.fixed.ensures in
    record {
      place = width_more n c.loop-item.item-index c.loop-item.place c.width-width.result c.loop-item.invariant.place wide;
      text = one_filled n c.args.order g.T.Number.bits c.args.items.now c.loop-item.item-index c.item-item.result c.loop-item.place c.width-width.result c.args.bytes.now c.loop-item.bytes
          c.put_at.new.bytes c.loop-item-test.true c.item-item.is c.loop-item.invariant.place wide c.loop-item.invariant.text c.put_at.ensures;
    }
