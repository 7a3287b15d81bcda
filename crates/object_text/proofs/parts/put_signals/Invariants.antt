use Rattle.std.proofs.Common.{◌≡◌, ◌++◌, string_bytes, take}
use Rattle.std.specs.Prelude.{flat_map}
use Rattle.object_text.specs.Text.{signal_text}
use Rattle.object_text.proofs.parts.put_signals.Given as goal

abbrev pub invariant-loop-signal : goal.invariant-loop-signal
invariant-loop-signal l = string_bytes l.out ≡ string_bytes l.initial.out ++ flat_map (signal_text l.indent) (take l.signal-index l.signals)
