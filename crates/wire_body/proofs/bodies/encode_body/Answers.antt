use Rattle.std.proofs.lemmas.Result.{err_from_is_err_and}
use Rattle.wire_body.proofs.BodyLaws.{body_deep, body_refused}
use Rattle.wire_body.proofs.bodies.encode_body.Goals as goal

pub returns-then-not-is_shallow : goal.returns-then-not-is_shallow
returns-then-not-is_shallow c = body_deep c.args.body.now _ c.is_shallow.ensures.1 c.if-not-is_shallow.true

pub returns-in_err-append_body : goal.returns-in_err-append_body
returns-in_err-append_body c =
    let p = err_from_is_err_and c.from_residual.result c.from_residual.ensures.1 in
    rw (p.1, p.2) (body_refused _ c.args.order c.args.body.now (c.is_shallow.ensures.0 c.if-not-is_shallow.false) c.in_err-append_body.ensures.0)
