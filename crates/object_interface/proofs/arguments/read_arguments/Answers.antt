use Rattle.object_interface.proofs.Bodies.{no_body_of}
use Rattle.object_interface.proofs.arguments.read_arguments.Goals as goal

pub returns : goal.returns
returns g c = no_body_of c.in-Err.error g.T.ToBody.read g.T.ToBody.kinds c.args.message.now c.body.result c.body.ensures c.in-Err.ensures c.in_default.not-Memory
