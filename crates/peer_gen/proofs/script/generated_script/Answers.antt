use Rattle.std.proofs.Common.{ap, sym, subst, length, arith}
use Rattle.std.specs.List.{AllByRecursion}
use Rattle.peer_words.specs.declared.words.Command.{Command}
use Rattle.peer_words.specs.OfRun.{IsOfRun}
use Rattle.peer_gen.specs.Generated.{blocks}
use Rattle.peer_gen.proofs.Runs.{all_run, are_few}
use Rattle.peer_gen.proofs.script.generated_script.Goals as goal

pub returns-clause-runs : goal.returns-clause-runs
returns-clause-runs c = subst (AllByRecursion (λ (w : Command). IsOfRun w.words)) (sym c.in_ok-commands.ensures) (all_run (blocks c.args.count))

pub returns-clause-few : goal.returns-clause-few
returns-clause-few c = omega (arith, ap length c.in_ok-commands.ensures, are_few c.args.count)
