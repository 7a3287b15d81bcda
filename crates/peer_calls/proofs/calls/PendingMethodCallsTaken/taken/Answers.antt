-- On an open peer the map has the serials that are pending.
use Rattle.std.proofs.Common.{◌∙◌}
use Rattle.peer_calls.proofs.Index.{pending_open, pending_shut}
use Rattle.peer_calls.proofs.calls.PendingMethodCallsTaken.taken.Goals as goal

pub returns-then-is_none : goal.returns-then-is_none
returns-then-is_none c =
    c.contains_key.ensures
    ∙ pending_open c.self.inside.waiting c.self.inside.slots c.self.inside.closing c.args.self.now c.args.serial c.self.view_is c.if-is_none.ensures c.self.invariant

pub returns-else-is_none : goal.returns-else-is_none
returns-else-is_none c =
    c.if-is_none.false ∙ pending_shut c.self.inside.slots c.self.inside.closing c.args.self.now c.args.serial c.self.view_is c.if-is_none.ensures
