-- By what is known of the stream, and what it holds.
use Rattle.std.proofs.Common.{◌≡◌, ◌∙◌, Some, None}
use Rattle.peer_streams.specs.{Keeping.{Parts, held_of}}
use Rattle.peer_streams.proofs.{StreamsMade.{next_so}, LookedUp.{active_view, first_messages, usable_found}}
use Rattle.peer_streams.proofs.streams.Streams.next_message.Goals as goal

pub returns-in_err-state : goal.returns-in_err-state
returns-in_err-state c p left =
    rw c.from_residual.ensures
    (next_so p c.args.stream None (usable_found c.self.invariant c.args.self.now c.self.view_is p left c.args.stream None (rw c.in_err-state.was at c.usable.ensures)))

pub returns : goal.returns
returns c p left =
    let parts : Parts = record { made = c.self.inside.made; states = c.self.inside.states.entries; lists = c.self.inside.lists } in
    let st = c.in_ok-state.state.now in
    c.first.ensures ∙ first_messages (held_of parts.lists st.rule c.args.stream)
    ∙ next_so p c.args.stream (Some (active_view parts c.args.stream st))
    (usable_found c.self.invariant c.args.self.now c.self.view_is p left c.args.stream (Some st) (rw c.in_ok-state.was at c.usable.ensures))
