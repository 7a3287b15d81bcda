-- Where the message was given, it is taken back.
use Rattle.std.proofs.{Common.{◌∙◌, sym, ap, if◌then◌else◌, option_map}}
use Rattle.peer_lists.specs.Holdings.{held_by, with_message}
use Rattle.peer_streams.proofs.subscriptions.Subscription.take_back.Goals as goal

pub returns-then-self : goal.returns-then-self
returns-then-self c =
    λ yes m s t. record {
      limit = t.limit;
      held = c.take_back.ensures s.list m (λ k. t.held k ∙ ap (λ b. if b then option_map (with_message m) (held_by s.list k) else held_by s.list k) (sym t.noted ∙ c.if-self.true));
    }
