-- The signals so far stand behind the messages that were there.
use Rattle.std.proofs.Common.{◌≡◌, ◌++◌, map}
use Rattle.object_interface.specs.Answering.{signal_of}
use Rattle.object_interface.proofs.answered.push_signals.Given as goal

abbrev pub invariant-loop-signal : goal.invariant-loop-signal
invariant-loop-signal l = l.messages.items ≡ l.initial.messages.items ++ map (signal_of l.call) l.yielded
