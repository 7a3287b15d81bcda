use Rattle.std.proofs.Common.{ap, ◌∙◌}
use Rattle.wire_tree.proofs.Lists.{list_of-data_of}
use Rattle.wire_body.proofs.Inside.{field_types}
use Rattle.wire_body.proofs.structs.StructArgument.into_tree.Goals as goal

pub into_trees-requires : goal.into_trees-requires
into_trees-requires g c = field_types g.T.ToBody.kinds c.requires

pub returns-clause-round : goal.returns-clause-round
returns-clause-round g c =
    rw (← c.into_fields.ensures) (ap g.T.ToBody.read (list_of-data_of (g.T.ToBody.datums c.into_fields.result)) ∙ c.in_ok-trees.ensures.round)
