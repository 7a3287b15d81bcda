use Rattle.std.proofs.Common.{refl, sym, ◌∙◌}
use Rattle.peer_boxes.specs.Boxes.{LevelSets}
use Rattle.peer_boxes.proofs.level.LevelInterface.set_mut.Goals as goal

-- src/level.rt:164:5
pub returns-in_ok-answer-in-Some-clause-told : goal.returns-in_ok-answer-in-Some-clause-told
returns-in_ok-answer-in-Some-clause-told c =
    LevelSets.Sets c.in-Some.level (sym c.eq.ensures ∙ c.if-eq.true) (sym c.level_in.ensures ∙ c.in-Some.is) refl c.in_ok-answer-in-Some.ensures
