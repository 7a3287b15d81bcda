use Rattle.wire_signature.proofs.Exact.{types_in-takes, types_in-again}
use Rattle.wire_signature.proofs.laws.reading_a_signature.Goals as goal

pub returns-clause-found : goal.returns-clause-found
returns-clause-found c = λ ts b e. types_in-takes b ts e

pub returns-clause-all : goal.returns-clause-all
returns-clause-all c = λ ts b e. types_in-again ts b e
