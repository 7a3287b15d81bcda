-- On an open peer as many serials are pending as the map has, on a closed one none.
use Rattle.std.proofs.Common.{◌∙◌, ap, is_some}
use Rattle.peer_calls.proofs.Waiting.{pending_none, pending_count}
use Rattle.peer_calls.proofs.calls.PendingMethodCallsTaken.count.Goals as goal

pub returns-in-Some : goal.returns-in-Some
returns-in-Some c = pending_none c.self.inside.slots c.self.inside.closing c.args.self.now c.self.view_is (ap is_some c.in-Some.is)

pub returns-in-None : goal.returns-in-None
returns-in-None c =
    c.len.ensures.len
    ∙ pending_count c.self.inside.waiting c.self.inside.slots c.self.inside.closing c.args.self.now c.self.view_is (ap is_some c.in-None.is)
    c.len.ensures.ordered c.self.invariant
