-- The next call is taken.
use Rattle.std.proofs.Common.{◌≡◌, sym, ◌∙◌, ap, refl, subst, ℕ, Some, None, false, Ok}
use Rattle.peer_conn.specs.{Names.{MessageView, Polled}, Invariant.{PeerStateView, Keeps, StateInvariant}}
use Rattle.peer_core.specs.{History.{Past, after_all}, Asked.{take_answer, take_events}}
use Rattle.peer_route.specs.Replay.{Replay}
use Rattle.peer_conn.proofs.Called.{next_take}
use Rattle.peer_conn.proofs.state.PeerState.take_call.Goals as goal

pub returns-in-Some-clause-keeps : goal.returns-in-Some-clause-keeps
returns-in-Some-clause-keeps c = λ p k m keeps is next.
    let v = c.args.self.now in
    let t : Replay = record { past = p; calls = v.calls; streams = v.streams; server = v.server; setting = record { bus = false; name = None; takes_fds = false; queue = None } } in
    let stands : StateInvariant v t = record { keeps = keeps; calls = refl; streams = refl; server = refl } in
    let did = c.take.ensures.did t 0 stands in
    let server : Some c.in-Some.server ≡ Some k = sym c.in-Some.is ∙ ap (λ (v : PeerStateView). v.server) c.self.view_is ∙ is in
    let same : c.in-Some.server ≡ k = cc in
    let took : take_answer p c.in-Some.server ≡ Ok (Polled.Now m) = ap (take_answer p) same ∙ next_take p k m next in
    subst (λ j. Keeps c.take.new.self (after_all (take_events j (Ok (Polled.Now m))) p)) same
    (subst (λ r. Keeps c.take.new.self (after_all (take_events c.in-Some.server r) p)) took did.1)
