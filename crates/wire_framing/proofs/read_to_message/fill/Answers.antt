use Rattle.std.proofs.Common.{rules, arith, ◌+◌, length, ◌∙◌}
use Rattle.wire_framing.proofs.Asked.{asks_then, widens_then}
use Rattle.wire_framing.proofs.Steps.{went_then, filled_more}
use Rattle.wire_framing.proofs.read_to_message.fill.Goals as goal

pub loop-at-preserved : goal.loop-at-preserved
loop-at-preserved g c =
    let inv = c.loop-at.invariant in
    let first = g.S.Source.view c.args.source.now in
    let now = g.S.Source.view c.loop-at.source in
    let then = g.S.Source.view c.read.new.self in
    let read = c.in-Ok.ensures in
    let joined = filled_more c.loop-at.at c.in-Ok.count c.loop-at.buf c.read.new.buf inv.within read.bytes.0 in
    record {
      within = search rules;
      kept = search rules;
      went = went_then _ _ _ first now then joined inv.went read.bytes.1 read.bytes.3 read.bytes.4;
      asks = asks_then first now then c.loop-at.at 1 (c.loop-at.at + c.in-Ok.count) inv.asks read.asks (search rules);
      width = widens_then first now then 65536 (length c.read.new.buf) 65536 inv.width read.width (omega arith) (search rules);
      same = read.same ∙ inv.same;
    }
