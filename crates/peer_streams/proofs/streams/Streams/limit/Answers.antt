-- By what is known of the stream, and its rule's capacity.
use Rattle.std.proofs.Common.{◌∙◌, sym, ap, ℕ, Option, Some, None, Ok, unwrap_or}
use Rattle.std.specs.Option.{ok_or}
use Rattle.peer_streams.specs.{Names.{Error}, Subscriptions.{limit_in}, Keeping.{Parts, limit_at}}
use Rattle.peer_streams.proofs.{StreamsMade.{limit_so}, LookedUp.{active_view, limit_of_wants, usable_found}}
use Rattle.peer_streams.proofs.streams.Streams.limit.Goals as goal

pub returns-in_err-state : goal.returns-in_err-state
returns-in_err-state c p left main =
    ap (λ (o : Option ℕ). ok_or o Error.UnknownHandle) c.from_residual.ensures
    ∙ limit_so p c.args.stream c.args.main None (usable_found c.self.invariant c.args.self.now c.self.view_is p left c.args.stream None (rw c.in_err-state.was at c.usable.ensures)) main

pub returns-in-Some : goal.returns-in-Some
returns-in-Some c p left main =
    let parts : Parts = record { made = c.self.inside.made; states = c.self.inside.states.entries; lists = c.self.inside.lists } in
    let st = c.in_ok-state.state.now in
    ap (λ n. Ok n)
    (c.limit.ensures ∙ ap (λ r. unwrap_or (limit_in parts.lists.rules r) 0) c.inner.ensures ∙ ap (limit_at parts.lists c.args.main) (sym c.in-Some.is) ∙ sym (limit_of_wants parts c.args.main st.rule))
    ∙ limit_so p c.args.stream c.args.main (Some (active_view parts c.args.stream st))
    (usable_found c.self.invariant c.args.self.now c.self.view_is p left c.args.stream (Some st) (rw c.in_ok-state.was at c.usable.ensures)) main

pub returns-in-None : goal.returns-in-None
returns-in-None c p left main =
    let parts : Parts = record { made = c.self.inside.made; states = c.self.inside.states.entries; lists = c.self.inside.lists } in
    let st = c.in_ok-state.state.now in
    ap (λ n. Ok n) (ap (limit_at parts.lists c.args.main) (sym c.in-None.is) ∙ sym (limit_of_wants parts c.args.main st.rule))
    ∙ limit_so p c.args.stream c.args.main (Some (active_view parts c.args.stream st))
    (usable_found c.self.invariant c.args.self.now c.self.view_is p left c.args.stream (Some st) (rw c.in_ok-state.was at c.usable.ensures)) main
