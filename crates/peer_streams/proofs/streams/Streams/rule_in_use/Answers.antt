-- The streams of a rule, but for these, are the others of its list.
use Rattle.std.proofs.Common.{◌∙◌, ap, Some}
use Rattle.peer_streams.specs.{History.{is_subscribed}, Streams.{gone_if}}
use Rattle.peer_streams.proofs.HeldStreams.{rule_used}
use Rattle.peer_streams.proofs.streams.Streams.rule_in_use.Goals as goal

pub returns : goal.returns
returns c p left =
    rule_used c.self.invariant c.args.self.now c.self.view_is p left c.inner.result.now (Some c.args.stream) c.args.before c.has_other.result c.has_other.ensures.other c.has_other.ensures.no_other
    ∙ ap (is_subscribed p.read (gone_if (Some c.args.stream) (gone_if c.args.before p)).streams) c.inner.ensures
