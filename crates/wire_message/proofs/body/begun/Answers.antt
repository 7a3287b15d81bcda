use Rattle.wire_message.proofs.BodyFound.{begins_unsigned, no_signature, tells_begun}
use Rattle.wire_message.proofs.body.begun.Goals as goal

pub decode_arguments-requires : goal.decode_arguments-requires
decode_arguments-requires g c = c.in-Ok.ensures.valid

pub returns-in-Ok : goal.returns-in-Ok
returns-in-Ok g c = tells_begun c.decode_arguments.result g.T.ToBody.read c.args.order g.T.ToBody.kinds c.args.bytes.now c.in-Ok.ensures.valid c.decode_arguments.ensures.found c.decode_arguments.ensures.error

pub returns : goal.returns
returns g c = begins_unsigned c.args.order g.T.ToBody.kinds c.args.bytes.now (no_signature c.in-Err.field-0 g.T.ToBody.kinds c.put_signature.new.out c.in-Err.ensures)
