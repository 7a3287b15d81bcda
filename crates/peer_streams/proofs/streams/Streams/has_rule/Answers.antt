-- A rule has a list exactly where a stream of it is open, or being opened.
use Rattle.std.proofs.Common.{◌∙◌, ap}
use Rattle.peer_streams.specs.History.{is_subscribed}
use Rattle.peer_streams.proofs.HeldStreams.{rule_had}
use Rattle.peer_streams.proofs.streams.Streams.has_rule.Goals as goal

pub returns : goal.returns
returns c p left =
    rule_had c.self.invariant c.args.self.now c.self.view_is p left c.inner.result.now c.has.result c.has.ensures.has c.has.ensures.used ∙ ap (is_subscribed p.read p.streams) c.inner.ensures
