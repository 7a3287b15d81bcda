use Rattle.std.proofs.Common.{◌≡◌, length}
use Rattle.rule_match.specs.Walking.{IsWalk}
use Rattle.rule_match.proofs.walk.Walk.pass.Given as goal

abbrev pub invariant-loop-self : goal.invariant-loop-self
invariant-loop-self l = IsWalk l.self × (l.self.source ≡ l.fn.self.source)

abbrev pub decreases-loop-self : goal.decreases-loop-self
decreases-loop-self l = length l.self.types.now
