use Rattle.std.proofs.Common.{◌≡◌, ◌-◌, drop, take}
use Rattle.peer_conn.proofs.state.PeerState.put_since.Given as goal

abbrev pub invariant-loop-index : goal.invariant-loop-index
invariant-loop-index l = l.posts.items ≡ take (l.index - l.count) (drop l.count l.self.core.outbox)
