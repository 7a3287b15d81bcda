-- Streams that are held open are handed in; else nothing changes.
use Rattle.std.proofs.Common.{subst, Some, None, IfOk}
use Rattle.peer_route.specs.Plan.{ends}
use Rattle.peer_conn.specs.Invariant.{Did}
use Rattle.peer_conn.proofs.RuleStreams.{first_closed, second_closed, handed_one, handed_two}
use Rattle.peer_conn.proofs.state.PeerState.end.Goals as goal

pub returns-in_default-clause-did : goal.returns-in_default-clause-did
returns-in_default-clause-did c t lane s =
    rw (c.plainly.ensures, c.unknown.ensures) (first_closed c.args.self.now c.hand_in.new.self t lane c.args.stream c.args.second s c.hand_in.ensures.left (rw c.in_default.is at c.hand_in.ensures.stream))

pub returns-in_default-second-clause-did : goal.returns-in_default-second-clause-did
returns-in_default-second-clause-did c t lane s =
    let handed = handed_one c.args.self.now c.hand_in.new.self t c.args.stream c.in-Some.first s c.hand_in.ensures.left (rw c.in-Some.is at c.hand_in.ensures.stream) in
    rw c.in_default-second.is
    (subst (λ k. IfOk c.close_streams.result (Did c.close_streams.new.self t lane (ends t.past k (Some None)))) handed.0
    (c.close_streams.ensures.did t lane (rw (handed.0) handed.1)))

pub returns-in_default-hand_in-clause-did : goal.returns-in_default-hand_in-clause-did
returns-in_default-hand_in-clause-did c t lane s =
    rw (c.plainly-in_default-hand_in.ensures, c.unknown-in_default-hand_in.ensures, c.in-Some-second.is)
    (second_closed c.args.self.now c.hand_in.new.self c.hand_in-2.new.self c.hand_back.new.self t lane c.args.stream c.in-Some-second.second c.in-Some.first s c.hand_in.ensures.left (rw c.in-Some.is at c.hand_in.ensures.stream)
    c.hand_in-2.ensures.left (rw c.in_default-hand_in.is at c.hand_in-2.ensures.stream) c.hand_back.ensures)

pub returns-clause-did : goal.returns-clause-did
returns-clause-did c t lane s =
    let handed = handed_two c.args.self.now c.hand_in.new.self c.hand_in-2.new.self t c.args.stream c.in-Some-second.second c.in-Some.first c.in-Some-hand_in.other s c.hand_in.ensures.left (rw c.in-Some.is at c.hand_in.ensures.stream)
    c.hand_in-2.ensures.left (rw c.in-Some-hand_in.is at c.hand_in-2.ensures.stream) in
    rw c.in-Some-second.is
    (subst (λ k. IfOk c.close_streams-2.result (Did c.close_streams-2.new.self t lane (ends t.past k (Some (Some c.in-Some-second.second))))) handed.0
    (subst (λ j. IfOk c.close_streams-2.result (Did c.close_streams-2.new.self t lane (ends t.past c.in-Some.first (Some (Some j))))) handed.1
    (c.close_streams-2.ensures.did t lane (rw (handed.0, handed.1) handed.2))))
