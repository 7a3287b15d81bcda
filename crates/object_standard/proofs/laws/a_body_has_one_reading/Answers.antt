use Rattle.object_standard.proofs.Bodies.{one_reading, one_naming}
use Rattle.object_standard.proofs.laws.a_body_has_one_reading.Goals as goal

pub returns-clause-values : goal.returns-clause-values
returns-clause-values c = one_reading

pub returns-clause-names : goal.returns-clause-names
returns-clause-names c = one_naming
