use Rattle.std.proofs.Common.{refl}
use Rattle.rule_match.specs.Text.{argument_text}
use Rattle.rule_match.proofs.Printed.{more_written, all_written}
use Rattle.rule_match.proofs.display.write_arguments.Goals as goal

pub loop-i-preserved : goal.loop-i-preserved
loop-i-preserved g c = λ plain.
    let before = c.loop-i.invariant plain in
    more_written _ (argument_text c.args.end.now) c.args.arguments.now _ _ _ c.args.first c.both.result c.loop-i.i c.index-arguments-i.result c.loop-i-test.true
    c.both.ensures c.index-arguments-i.is before (c.in_ok-write_argument.ensures before.plain refl)

pub returns : goal.returns
returns g c = λ plain ok. all_written _ (argument_text c.args.end.now) c.args.arguments.now _ _ c.args.first c.loop-i.i c.loop-i-test.false (c.loop-i.invariant plain)
