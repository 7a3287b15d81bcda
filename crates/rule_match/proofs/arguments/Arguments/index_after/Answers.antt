use Rattle.rule_match.proofs.After.{last_after}
use Rattle.rule_match.proofs.arguments.Arguments.index_after.Goals as goal

pub returns-in-len1-up : goal.returns-in-len1-up
returns-in-len1-up c =
    rw (← c.self.view_is, ← c.as_slice.ensures.value, last_after c.as_slice.result.now c.last-item.result c.in-len1-up.len_at_least c.last-item.is) c.checked_add.ensures
