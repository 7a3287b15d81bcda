use Rattle.std.proofs.Common.{refl}
use Rattle.rule_match.specs.declared.part.Part.TheVariants as parts
use Rattle.rule_match.specs.Part.{part_of}
use Rattle.rule_match.proofs.Utf8.{argument_read, argument_refused}
use Rattle.rule_match.proofs.component.arg_part.Goals as goal

pub returns-in-Ok-clause-part : goal.returns-in-Ok-clause-part
unfolding part_of
returns-in-Ok-clause-part c = argument_read parts.Arg (λ a. refl) c.args.index c.args.value.now c.in-Ok.argument c.in-Ok.ensures.argument

pub returns-in-Err-clause-part : goal.returns-in-Err-clause-part
unfolding part_of
returns-in-Err-clause-part c = argument_refused parts.Arg (λ a. refl) c.args.index c.args.value.now c.in-Err.e c.in-Err.ensures.fault
