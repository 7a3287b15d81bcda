use Rattle.std.proofs.Common.{refl, sym, ap, ◌∙◌, Some, Ok}
use Rattle.peer_boxes.specs.Boxes.{LevelGets}
use Rattle.peer_boxes.proofs.level.LevelInterface.get.Goals as goal

-- src/level.rt:121:5
pub returns-in_ok-level_value-clause-told : goal.returns-in_ok-level_value-clause-told
returns-in_ok-level_value-clause-told c =
    LevelGets.Level c.args.self.now.value (sym c.eq.ensures ∙ c.if-eq.true) refl (ap (λ v. Some (Ok v)) c.in_ok-level_value.ensures)
