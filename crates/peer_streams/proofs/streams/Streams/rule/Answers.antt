-- By what is known of the stream.
use Rattle.std.proofs.Common.{◌∙◌, sym, Some, None}
use Rattle.peer_streams.specs.Keeping.{Parts}
use Rattle.peer_streams.proofs.{StreamsMade.{rule_so}, LookedUp.{active_view, rule_of_wants, usable_found}}
use Rattle.peer_streams.proofs.streams.Streams.rule.Goals as goal

pub returns-in-None : goal.returns-in-None
returns-in-None c p left = rule_so p c.args.stream None (usable_found c.self.invariant c.args.self.now c.self.view_is p left c.args.stream None (rw c.in-None.is at c.usable.ensures))

pub returns-in-Some : goal.returns-in-Some
returns-in-Some c p left =
    let parts : Parts = record { made = c.self.inside.made; states = c.self.inside.states.entries; lists = c.self.inside.lists } in
    let st = c.in-Some.state.now in
    c.as_ref.ensures.value ∙ sym (rule_of_wants parts st.rule)
    ∙ rule_so p c.args.stream (Some (active_view parts c.args.stream st)) (usable_found c.self.invariant c.args.self.now c.self.view_is p left c.args.stream (Some st) (rw c.in-Some.is at c.usable.ensures))
