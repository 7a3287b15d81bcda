-- A stream holds more than it may exactly where some rule is counted.
use Rattle.std.proofs.{Common.{◌≡◌, ◌<◌, ◌≤◌, ℕ, List, length, unwrap_or, subst, arith, Some}, lemmas.Bool.{ltb-true, ltb-false}}
use Rattle.peer_streams.specs.{Names.{MessageView, Rule}, Subscriptions.{Subscribed, limit_in, held_in}}
use Rattle.peer_streams.proofs.{SubscribedCounts.{counted, over_one, within_each}}
use Rattle.peer_streams.proofs.subscriptions.Subscriptions.is_full.Goals as goal

pub returns-clause-over : goal.returns-clause-over
returns-clause-over c =
    λ yes.
    subst (λ (v : Subscribed). (r : Rule) × (k : ℕ) × (ms : List MessageView) × (held_in v r k ≡ Some (Some ms)) × (unwrap_or (limit_in v r) 0 < length ms)) c.self.view_is
    (over_one c.self.inside.rules.entries c.self.invariant.apart c.self.invariant.told (omega (arith, ltb-true 0 c.self.inside.full yes, c.self.invariant.counted)))

pub returns-clause-within : goal.returns-clause-within
returns-clause-within c =
    λ no.
    let none : counted c.self.inside.rules.entries ≡ 0 = omega (arith, ltb-false 0 c.self.inside.full no, c.self.invariant.counted) in
    subst (λ (v : Subscribed). (r : Rule) (k : ℕ) (ms : List MessageView) → held_in v r k ≡ Some (Some ms) → length ms ≤ unwrap_or (limit_in v r) 0) c.self.view_is
    (within_each c.self.inside.rules.entries none)
