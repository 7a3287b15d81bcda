use Rattle.std.proofs.Common.{◌≡◌, sym, ◌∙◌, subst, arith}
use Rattle.object_interface.specs.Answering.{answers}
use Rattle.object_interface.proofs.Messages.{Few, all_answered, few_answers}
use Rattle.object_interface.proofs.answered.Answered.new.Goals as goal

pub returns-clause-messages : goal.returns-clause-messages
returns-clause-messages c =
    all_answered c.args.call.now c.args.member.now c.args.answer c.in-Some.done _ _ _ _ _ _ _
    c.new-messages.ensures.items c.in_ok-push_signals.ensures c.in_ok-push_reply.ensures c.in_ok-push_signals-2.ensures
    (sym c.into_done.ensures ∙ c.in-Some.is) (grind arith) (grind arith) (grind arith)

pub returns-clause-few : goal.returns-clause-few
returns-clause-few c = subst Few (sym (returns-clause-messages c)) (few_answers c.args.call.now c.args.member.now c.args.answer)
