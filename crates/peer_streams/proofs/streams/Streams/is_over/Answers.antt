-- Some stream is over exactly where one of a list is.
use Rattle.peer_streams.proofs.FullStreams.{over_lists}
use Rattle.peer_streams.proofs.streams.Streams.is_over.Goals as goal

pub returns : goal.returns
returns c = over_lists c.self.invariant c.args.self.now c.self.view_is c.args.main c.is_over.result c.is_over.ensures.over c.is_over.ensures.within
