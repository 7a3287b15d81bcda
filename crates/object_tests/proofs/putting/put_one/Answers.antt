use Rattle.std.proofs.Common.{[], ◌∷◌, false}
use Rattle.wire_message.specs.Outgoing.{sent_by}
use Rattle.peer_calls.specs.Issuing.{posted}
use Rattle.object_tests.proofs.Serials.{one_serial}
use Rattle.object_tests.proofs.putting.put_one.Goals as goal

pub returns : goal.returns
returns c p left =
    let told = c.in_ok-issued.ensures p left in
    (told.0, told.1, one_serial p (posted false (sent_by c.args.route.now.name false c.args.outgoing)) told.0 c.in_ok-issued.issued told.1 told.2, told.3)
