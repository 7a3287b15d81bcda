-- A command that asks nothing of objects leaves them.
use Rattle.peer_turns.proofs.Turned.{begun_still}
use Rattle.peer_turns.proofs.objects.begin.Goals as goal

pub returns-in_default : goal.returns-in_default
returns-in_default g c = record {
  command = c.begin.ensures.command;
  unwritten = c.begin.ensures.unwritten;
  going = c.begin.ensures.going;
  objects = begun_still c.begin.result g.R.Registry.meanings c.args.state.now c.args.command.now.lane c.args.command.now.words c.args.service.now c.in_default.not-Objects c.begin.ensures.command;
}
