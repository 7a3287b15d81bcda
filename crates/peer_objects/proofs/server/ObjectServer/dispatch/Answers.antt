-- What was answered, and is given up where there is no room for its number.
use Rattle.peer_objects.proofs.Left.{served_disturbs}
use Rattle.peer_objects.proofs.server.ObjectServer.dispatch.Goals as goal

pub returns-in_err-await_reply-clause-disturbed : goal.returns-in_err-await_reply-clause-disturbed
returns-in_err-await_reply-clause-disturbed g c =
    served_disturbs g.B.Interface.meaning g.B.Interface.state c.from_residual-in_err-await_reply.result c.args.machine_id (c.args.self.now.0, c.args.self.now.1) (c.answer_any.new.self.0, c.answer_any.new.self.1)
    (c.await_reply.new.self.0, c.await_reply.new.self.1) c.args.message.now c.in_ok-answered.answered.messages.items c.in_ok-answered.answered.notifier c.await_reply.ensures.tree c.await_reply.ensures.slots c.in_ok-answered.ensures.served
