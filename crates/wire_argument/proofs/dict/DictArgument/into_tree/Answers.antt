use Rattle.std.proofs.Common.{map, ap, ◌∙◌}
use Rattle.wire_tree.proofs.Lists.{pairs_of-entries_of}
use Rattle.wire_argument.specs.Kinds.{both}
use Rattle.wire_argument.proofs.dict.DictArgument.into_tree.Goals as goal

pub returns-clause-round : goal.returns-clause-round
returns-clause-round g c =
    rw (← c.into_vec.ensures)
    (ap (map (both g.K.Argument.read g.V.Argument.read)) (pairs_of-entries_of (map (both g.K.Argument.datum g.V.Argument.datum) c.into_vec.result.items)) ∙ c.in_ok-trees.ensures.round)
