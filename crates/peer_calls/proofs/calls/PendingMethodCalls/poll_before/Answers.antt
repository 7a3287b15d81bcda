-- A poll by position is the same event as one without.
use Rattle.std.proofs.Common.{◌∙◌, ap, subst, sym}
use Rattle.wire_message.specs.Polls.{by_position}
use Rattle.peer_calls.specs.{Calls.poll_events, Refinement.RefinesCalls, History.after_all}
use Rattle.peer_calls.proofs.CallsAfter.{polls_so}
use Rattle.peer_calls.proofs.calls.PendingMethodCalls.poll_before.Goals as goal

pub returns-clause-answer : goal.returns-clause-answer
returns-clause-answer c h left = c.by_position.ensures ∙ ap by_position (c.poll.ensures.answer h left)

pub returns-clause-left : goal.returns-clause-left
returns-clause-left c h left =
    subst (λ xs. RefinesCalls c.poll.new.self (after_all xs h)) (sym (ap (poll_events c.args.call) c.by_position.ensures ∙ polls_so c.args.call c.poll.result)) (c.poll.ensures.left h left)
