use Rattle.wire_message.proofs.Adding.{none_added}
use Rattle.wire_message.proofs.writing.put_number.Goals as goal

pub returns-in-None : goal.returns-in-None
returns-in-None c = rw c.in-None.is (none_added c.args.order c.args.out.now.items c.args.offsets.now)
