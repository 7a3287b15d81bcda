use Rattle.std.proofs.Common.{sym, subst, List, Option}
use Rattle.peer_service.specs.Service.{BoxView, StandAtTheirNumbers}
use Rattle.peer_service.proofs.PutBack.{put_stand}
use Rattle.peer_service.proofs.service.Service.remove.Goals as goal

pub invariant_of-self : goal.invariant_of-self
invariant_of-self g c =
    subst (λ (l : List (Option BoxView)). StandAtTheirNumbers l) (sym c.put.ensures) (put_stand c.self.inside.shelf.items _ c.self.invariant)
