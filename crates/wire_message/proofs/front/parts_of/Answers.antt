use Rattle.std.proofs.Common.{arith, refl, ◌∙◌, ap, take}
use Rattle.std.specs.Int.{w32}
use Rattle.wire_number.specs.declared.endian.Endian.{Endian}
use Rattle.wire_number.specs.Number.{number_at}
use Rattle.wire_message.specs.Front.{total}
use Rattle.wire_message.specs.declared.error.IoKind.TheVariants.{Ended}
use Rattle.wire_message.proofs.Grammar.{outcome-made}
use Rattle.wire_message.proofs.Moved.{message-found}
use Rattle.wire_message.proofs.front.parts_of.Goals as goal

pub returns-clause-some : goal.returns-clause-some
returns-clause-some c =
    let bytes = c.args.bytes.now in
    let found =
    message-found bytes (take (total bytes) bytes) (total bytes) c.in-Some-message_type.kind c.in-Some.offsets c.byte_order-order.result c.known_flags.result c.read_u32.result
    (λ i. omega (arith, c.type_inv.bytes i)) c.requires.length c.requires.right c.requires.there refl
    c.in-Some-message_type.ensures c.in-Some.ensures.found c.in-Some.ensures.spans refl c.byte_order-order.ensures c.known_flags.ensures
    (c.read_u32.ensures ∙ ap (λ (o : Endian). number_at w32 o 8 bytes) c.byte_order-order.ensures) in
    record {
      whole = refl;
      there = c.requires.there;
      stands = found.0;
      outcome = outcome-made bytes Ended c.requires.length c.requires.right c.requires.there ∙ found.1;
    }
