-- The fullest stream of the rule's list holds the most.
use Rattle.std.proofs.Common.{Bor}
use Rattle.std.specs.Option.{option_map}
use Rattle.peer_streams.specs.Names.{Rule}
use Rattle.peer_streams.proofs.FullStreams.{stored_lists}
use Rattle.peer_streams.proofs.streams.Streams.stored.Goals as goal

pub returns : goal.returns
returns c p left =
    stored_lists c.self.invariant c.args.self.now c.self.view_is p left (option_map (λ (r : Bor Rule). r.now) c.args.rule) c.most.result c.most.ensures.within c.most.ensures.reached
