-- A stream of a rule.
use Rattle.std.proofs.Common.{Some}
use Rattle.peer_streams.proofs.lists.Lists.is_over.Goals as goal

pub returns-else-most-main-clause-over : goal.returns-else-most-main-clause-over
returns-else-most-main-clause-over c full = let at = c.is_full.ensures.over full in (Some at.0, at.1, at.2, at.3, at.4)
