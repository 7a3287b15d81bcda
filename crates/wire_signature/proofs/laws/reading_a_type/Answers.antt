use Rattle.wire_signature.proofs.Exact.{type_in-takes, type_in-again}
use Rattle.wire_signature.proofs.laws.reading_a_type.Goals as goal

pub returns-clause-found : goal.returns-clause-found
returns-clause-found c = λ t b e. type_in-takes b t e

pub returns-clause-all : goal.returns-clause-all
returns-clause-all c = λ t b e. type_in-again t b e
