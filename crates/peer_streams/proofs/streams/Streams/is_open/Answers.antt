-- Something is known of a stream that is open.
use Rattle.std.proofs.Common.{◌∙◌}
use Rattle.peer_streams.specs.Keeping.{Parts}
use Rattle.peer_streams.proofs.{StreamsMade.{there_so}, LookedUp.{active_view, is_there, usable_found}}
use Rattle.peer_streams.proofs.streams.Streams.is_open.Goals as goal

pub returns : goal.returns
returns c p left =
    let parts : Parts = record { made = c.self.inside.made; states = c.self.inside.states.entries; lists = c.self.inside.lists } in
    c.is_some.ensures ∙ is_there (λ q. q.now) (active_view parts c.args.stream) c.usable.result
    ∙ there_so p c.args.stream _ (usable_found c.self.invariant c.args.self.now c.self.view_is p left c.args.stream _ c.usable.ensures)
