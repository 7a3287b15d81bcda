use Rattle.std.proofs.Common.{◌≡◌, ap}
use Rattle.wire_message.specs.Front.{MessageView}
use Rattle.wire_message.specs.BuilderView.{built}
use Rattle.wire_message.proofs.BodyLaws.{builds-it}
use Rattle.wire_message.proofs.builder.Builder.build_of.Goals as goal

pub returns-clause-built : goal.returns-clause-built
returns-clause-built g c =
    let given = rw (c.after-drawn.ensures, c.last.ensures) at c.in_ok-serial.ensures.numbers in
    builds-it c.args.self (g.C.Content.text c.args.self.order c.args.content.now) (g.C.Content.sound c.args.content.now) (g.C.Content.fits c.args.self.order c.args.content.now) c.args.fds.now
    (g.T.Taken.is_taken c.args.taken.now) c.args.serials.now c.own_or_next.new.serials c.in_ok-serial.serial c.in_ok-message.message given.0 given.1 c.in_ok-message.ensures.made

pub returns-clause-exact : goal.returns-clause-exact
unfolding built
returns-clause-exact g c =
    let serial : c.in_ok-message.message.serial ≡ c.in_ok-serial.serial = ap (λ (m : MessageView). m.serial) c.in_ok-message.ensures.made.2 in
    rw serial (rw (c.after-drawn.ensures, c.last.ensures) at c.in_ok-serial.ensures.exact)
