use Rattle.std.proofs.Common.{sym, ◌∙◌, subst}
use Rattle.peer_core.proofs.Core.{streams_len}
use Rattle.peer_streams.specs.History.{Plain}
use Rattle.peer_core.specs.{History.{Made, after}, Refinement.Refines}
use Rattle.peer_conn.specs.Invariant.{StateInvariant}
use Rattle.peer_conn.proofs.Quietly.{makes_did}
use Rattle.peer_conn.proofs.state.PeerState.stream.Goals as goal

pub returns-clause-did : goal.returns-clause-did
returns-clause-did c t s =
    let before : StateInvariant _ t = subst (λ v. StateInvariant v t) (sym c.self.view_is) s in
    makes_did _ c.made.new.self t c.args.lane Plain c.in_ok-stream.stream c.made.result before tt (c.in_ok-stream.ensures.number ∙ streams_len c.self.inside.route t.past before.keeps.left)
    (subst (λ v. Refines v (after (Made Plain) t.past)) (sym c.made.ensures.rest.0) (c.in_ok-stream.ensures.left t.past before.keeps.left)) c.made.ensures.held c.made.ensures.given c.made.ensures.answer
