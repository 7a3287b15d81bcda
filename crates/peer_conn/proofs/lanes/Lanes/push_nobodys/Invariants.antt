use Rattle.std.proofs.Common.{◌≡◌, ◌++◌, replicate, None}
use Rattle.peer_conn.proofs.lanes.Lanes.push_nobodys.Given as goal

abbrev pub invariant-loop : goal.invariant-loop
invariant-loop l = l.self ≡ l.initial.self ++ replicate l.counter None
