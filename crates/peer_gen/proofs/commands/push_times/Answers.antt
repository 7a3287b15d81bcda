use Rattle.std.proofs.Common.{ap}
use Rattle.peer_gen.specs.Generated.{command}
use Rattle.peer_gen.proofs.Blocks.{times_more}
use Rattle.peer_gen.proofs.commands.push_times.Goals as goal

pub loop-time-preserved : goal.loop-time-preserved
loop-time-preserved c =
    times_more c.args.commands.now.items c.loop-time.commands.items c.push.new.commands.items (command c.args.words.now) (command c.in_ok-try_clone.field-0) c.loop-time._time
    c.loop-time.invariant (ap command c.in_ok-try_clone.ensures) c.in_ok-push.ensures
