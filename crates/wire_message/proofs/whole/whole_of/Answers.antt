use Rattle.std.proofs.Common.{ℕ, ◌∙◌, arith}
use Rattle.std.proofs.lemmas.Result.{err_from_is_err_and}
use Rattle.wire_message.specs.Front.{MessageView}
use Rattle.wire_message.specs.Whole.{whole_outcome}
use Rattle.wire_message.specs.declared.received.Received.{Received}
use Rattle.wire_message.proofs.Refusals.{told-of, whole-refused}
use Rattle.wire_message.proofs.whole.whole_of.Goals as goal

pub returns-in_err-received : goal.returns-in_err-received
returns-in_err-received c =
    let p = err_from_is_err_and c.from_residual.result c.from_residual.ensures.1 in
    let bytes = c.args.bytes.now in
    rw (p.1, p.2) (told-of (λ (x : Received × ℕ). x.0) (λ (m : MessageView). m) _ (whole_outcome c.args.order bytes) c.in_err-received.field-0.0 c.in_err-received.ensures.exact
    (whole-refused c.args.order bytes c.in_err-received.field-0.0 (omega arith) (c.if-bytes-order_byte.false ∙ c.order_byte.ensures)))
