-- What the service says is answered, and what it announces is put.
use Rattle.peer_turns.proofs.Announcing.{asks_quiet, asked_objects}
use Rattle.peer_turns.proofs.objects.asked.Goals as goal

pub begin_objects-requires-clause-unawaited : goal.begin_objects-requires-clause-unawaited
begin_objects-requires-clause-unawaited g c = (asks_quiet g.R.Registry.meanings c.args.op.now c.in_ok-answer.answer _ c.args.service.now c.ask.new.service c.in_ok-answer.ensures.asks).0

pub begin_objects-requires-clause-bare : goal.begin_objects-requires-clause-bare
begin_objects-requires-clause-bare g c = (asks_quiet g.R.Registry.meanings c.args.op.now c.in_ok-answer.answer _ c.args.service.now c.ask.new.service c.in_ok-answer.ensures.asks).1

pub returns-clause-objects : goal.returns-clause-objects
returns-clause-objects g c =
    asked_objects c.begin_objects.result g.R.Registry.meanings c.args.state.now c.args.op.now c.args.command.now.lane c.args.command.now.words c.in_ok-answer.answer c.in_ok-answer.announced.items c.args.service.now c.ask.new.service
    c.requires.other c.requires.asks c.in_ok-answer.ensures.asks c.begin_objects.ensures.command c.begin_objects.ensures.delivers
