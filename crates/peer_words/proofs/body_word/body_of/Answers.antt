use Rattle.std.proofs.Common.{arith}
use Rattle.wire_number.proofs.Steps.{bytes_from}
use Rattle.peer_words.proofs.BodyWords.{is_signature, all_read, some_left, none_read}
use Rattle.peer_words.proofs.body_word.body_of.Goals as goal

pub whole_body-requires : goal.whole_body-requires
whole_body-requires c = is_signature c.args.signature.now c.in-Ok.values.items _ c.types.ensures.valid c.in-Ok.ensures.found

pub returns-in_ok-whole_body-in-Ok : goal.returns-in_ok-whole_body-in-Ok
returns-in_ok-whole_body-in-Ok c =
    all_read c.args.signature.now _ c.in-Ok.values.items c.args.bytes.now c.in-Ok.count c.in_ok-whole_body-in-Ok.ensures c.if-count-bytes.true c.in-Ok.ensures.found

pub returns-else-count-bytes : goal.returns-else-count-bytes
returns-else-count-bytes c =
    some_left c.args.signature.now c.in-Ok.values.items c.args.bytes.now c.in-Ok.count c.types.ensures.valid
    (bytes_from c.args.bytes.now (λ i. omega (arith, c.type_inv.bytes i))) c.in-Ok.ensures.only c.if-count-bytes.false

pub returns-in-Err-Malformed : goal.returns-in-Err-Malformed
returns-in-Err-Malformed c =
    none_read c.args.signature.now c.args.bytes.now c.types.ensures.valid (bytes_from c.args.bytes.now (λ i. omega (arith, c.type_inv.bytes i))) (rw c.in-Err-Malformed.field-0-is at c.in-Err-Malformed.ensures.error)
