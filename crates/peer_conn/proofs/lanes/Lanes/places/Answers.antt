use Rattle.std.proofs.Common.{◌∙◌, ap}
use Rattle.peer_conn.specs.Invariant.{places}
use Rattle.peer_conn.proofs.Numbers.{kept-some, kept-none}
use Rattle.peer_conn.proofs.lanes.Lanes.places.Goals as goal

pub returns-in-Some : goal.returns-in-Some
returns-in-Some c =
    c.as_slice.ensures.value ∙ kept-some c.self.inside.lanes c.args.lane c.self.inside.owners.items c.in-Some.places.now c.in-Some.ensures.value (c.self.invariant c.args.lane)
    ∙ ap (places 0 c.args.lane) c.self.view_is

pub returns-in-None : goal.returns-in-None
returns-in-None c =
    kept-none c.self.inside.lanes c.args.lane c.self.inside.owners.items c.in-None.ensures.value (c.self.invariant c.args.lane) ∙ ap (places 0 c.args.lane) c.self.view_is
