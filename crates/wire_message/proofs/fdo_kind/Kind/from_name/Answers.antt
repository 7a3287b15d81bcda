use Rattle.wire_message.proofs.StandardNames.{first_is}
use Rattle.wire_message.proofs.fdo_kind.Kind.from_name.Goals as goal

pub returns : goal.returns
returns c = first_is _ c.args.text.now c.first_named.ensures.none c.first_named.ensures.some
