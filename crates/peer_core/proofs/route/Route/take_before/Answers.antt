-- A take by position is the same event as one without.
use Rattle.std.proofs.Common.{◌∙◌, ap, subst, sym}
use Rattle.wire_message.specs.Polls.{by_position}
use Rattle.peer_core.specs.{Asked.take_events, Refinement.Refines, History.after_all}
use Rattle.peer_core.proofs.Core.{takes_so}
use Rattle.peer_core.proofs.route.Route.take_before.Goals as goal

pub returns-clause-answer : goal.returns-clause-answer
returns-clause-answer c h left = c.by_position.ensures ∙ ap by_position (c.take.ensures.answer h left)

pub returns-clause-left : goal.returns-clause-left
returns-clause-left c h left =
    let k = c.args.stream.now in
    subst (λ xs. Refines c.take.new.self (after_all xs h)) (sym (ap (take_events k) c.by_position.ensures ∙ takes_so k c.take.result)) (c.take.ensures.left h left)
