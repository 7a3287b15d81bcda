use Rattle.std.proofs.Common.{sym, subst, refl, Ok, Err, IfOk}
use Rattle.peer_streams.specs.{History.Cloned, Refinement.ClonesBy}
use Rattle.peer_core.specs.{History.{Made, after, streams_of}, Refinement.Refines}
use Rattle.peer_route.specs.Plan.{where_open, makes, on_stream}
use Rattle.peer_conn.specs.{Invariant.{PeerStateView, StateInvariant, Did}, Names.{Answer, StreamOp}}
use Rattle.peer_conn.proofs.{Held.{held_open, held_closed}, Quietly.{makes_did, answers_did, uncloned_did, closed_did}}
use Rattle.peer_conn.proofs.state.PeerState.clone_stream.Goals as goal

pub returns-in_default-clause-did : goal.returns-in_default-clause-did
returns-in_default-clause-did c t s =
    let before : StateInvariant _ t = subst (λ v. StateInvariant v t) (sym c.self.view_is) s in
    rw (c.plainly.ensures, c.unknown.ensures) (closed_did _ t c.args.lane c.args.stream _ (held_closed t.past c.self.inside.handles.items c.args.stream _ before.keeps.held c.as_slice.ensures.value (rw c.in_default.is at c.open_stream.ensures)) s.keeps)

pub returns-in-Ok-clause-did : goal.returns-in-Ok-clause-did
returns-in-Ok-clause-did c t s =
    let before : StateInvariant _ t = subst (λ v. StateInvariant v t) (sym c.self.view_is) s in
    let named = (held_open t.past c.self.inside.handles.items c.args.stream _ c.in-Some.stream.now before.keeps.held c.as_slice.ensures.value (rw c.in-Some.is at c.open_stream.ensures)).1 in
    let cloned = subst (λ k. ClonesBy (Refines c.clone_stream.new.self (after (Made (Cloned k)) t.past)) c.self.inside.route c.clone_stream.new.self k (streams_of t.past) (Ok c.in-Ok.clone)) named (c.in-Ok.ensures t.past before.keeps.left) in
    subst (λ b. IfOk c.made.result (Did c.made.new.self t c.args.lane (where_open b (makes t c.args.lane (Cloned c.args.stream))))) (sym cloned.0)
    (makes_did _ c.made.new.self t c.args.lane (Cloned c.args.stream) c.in-Ok.clone c.made.result before cloned.0 cloned.1
    (subst (λ v. Refines v (after (Made (Cloned c.args.stream)) t.past)) (sym c.made.ensures.rest.0) cloned.2) c.made.ensures.held c.made.ensures.given c.made.ensures.answer)

pub returns-in-Err-clause-did : goal.returns-in-Err-clause-did
returns-in-Err-clause-did c t s =
    let before : StateInvariant _ t = subst (λ v. StateInvariant v t) (sym c.self.view_is) s in
    let named = (held_open t.past c.self.inside.handles.items c.args.stream _ c.in-Some.stream.now before.keeps.held c.as_slice.ensures.value (rw c.in-Some.is at c.open_stream.ensures)).1 in
    let now : PeerStateView = record { core = c.clone_stream.new.self; calls = c.self.inside.calls; streams = c.self.inside.streams; server = c.self.inside.server; makes = c.self.inside.makes; handles = c.self.inside.handles.items; given = c.self.inside.given.items } in
    answers_did Answer.Refused now t c.args.lane (on_stream t c.args.lane StreamOp.Clone c.args.stream) c.in-Err.error c.refused.result c.refused.ensures
    (uncloned_did _ now t c.args.lane c.args.stream c.in-Err.error before refl refl
    (subst (λ k. ClonesBy (Refines c.clone_stream.new.self (after (Made (Cloned k)) t.past)) c.self.inside.route c.clone_stream.new.self k (streams_of t.past) (Err c.in-Err.error)) named (c.in-Err.ensures t.past before.keeps.left)))
