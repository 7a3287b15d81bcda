use Rattle.std.proofs.Common.{ℕ, sym, subst, arith}
use Rattle.wire_message.specs.Head.{IsFoundFront}
use Rattle.wire_message.proofs.Moved.{found_stands}
use Rattle.wire_message.proofs.front.head_parts.Goals as goal

pub returns-in-Some-clause-stands : goal.returns-in-Some-clause-stands
returns-in-Some-clause-stands c =
    found_stands c.args.bytes.now c.in_ok-total.total c.in-Some.parts (λ i. omega (arith, c.type_inv.bytes i))
    (subst (λ (n : ℕ). IsFoundFront c.args.bytes.now n c.in-Some.parts) (sym c.in_ok-total.ensures.1) c.in-Some.ensures.some)
