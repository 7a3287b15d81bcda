use Rattle.std.proofs.Common.{map, take}
use Rattle.std.specs.Fmt.{IsPlainFormatter, HasWritten}
use Rattle.rule_match.specs.Text.{argument_text}
use Rattle.rule_match.specs.Printing.{joined}
use Rattle.rule_match.proofs.display.write_arguments.Given as goal

abbrev pub invariant-loop-i : goal.invariant-loop-i
invariant-loop-i g l =
    IsPlainFormatter l.initial.f → HasWritten g.W.Write.write_str_gives l.initial.f (joined l.first (map (argument_text l.end) (take l.i l.arguments))) l.f
