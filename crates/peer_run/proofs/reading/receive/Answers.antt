use Rattle.std.proofs.Common.{◌∙◌, ap, arith}
use Rattle.peer_run.proofs.HalfStep.{takes_own, keeps_none, rest_read}
use Rattle.peer_run.proofs.reading.receive.Goals as goal

pub returns-clause-takes : goal.returns-clause-takes
returns-clause-takes g c =
    takes_own c.args.seq c.receive_message.result _ _ _ (omega (arith, c.ranges.seq.fits)) (λ e. (c.receive_message.ensures.last e).2)
    (rw (c.requires.empty) at c.receive_message.ensures.takes) c.receive_message.ensures.message c.receive_message.ensures.error

pub returns-clause-ended : goal.returns-clause-ended
returns-clause-ended g c = λ never.
    keeps_none c.args.seq c.receive_message.result _ _ _ never (omega (arith, c.ranges.seq.fits)) (λ e. (c.receive_message.ensures.last e).1 ∙ c.requires.empty)
    (rw (c.requires.empty) at c.receive_message.ensures.takes)

pub returns-clause-rest : goal.returns-clause-rest
returns-clause-rest g c =
    rest_read c.args.seq c.receive_message.result _ _ _ c.requires.first (omega (arith, c.ranges.seq.fits))
    (λ e. (ap g.S.Source.view (c.receive_message.ensures.last e).0, (c.receive_message.ensures.last e).2))
    (c.receive_message.ensures.spends c.requires.empty) (rw (c.requires.empty) at c.receive_message.ensures.takes) c.receive_message.ensures.error
