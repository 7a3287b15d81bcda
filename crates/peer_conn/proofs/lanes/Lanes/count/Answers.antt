use Rattle.std.proofs.Common.{length, sym, ◌∙◌, ap}
use Rattle.peer_conn.proofs.Numbers.{count-places}
use Rattle.peer_conn.proofs.lanes.Lanes.count.Goals as goal

pub returns : goal.returns
returns c = ap length c.places.ensures ∙ sym (count-places 0 c.args.lane c.args.self.now)
