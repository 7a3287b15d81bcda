use Rattle.std.proofs.Common.{arith}
use Rattle.wire_message.specs.declared.error.IoKind.TheVariants.{Ended}
use Rattle.wire_message.proofs.Grammar.{found_of, length_of, only_of}
use Rattle.wire_message.proofs.front.header_front.Goals as goal

pub returns-clause-found : goal.returns-clause-found
returns-clause-found c = found_of c.args.bytes.now Ended _ (λ i. omega (arith, c.type_inv.bytes i)) c.front_of.ensures.exact c.front_of.ensures.length

pub returns-clause-length : goal.returns-clause-length
returns-clause-length c = length_of c.args.bytes.now _ (returns-clause-found c)

pub returns-clause-only : goal.returns-clause-only
returns-clause-only c = λ r n p f. only_of (λ x. x.0) c.args.bytes.now Ended _ r n c.front_of.ensures.exact p f
