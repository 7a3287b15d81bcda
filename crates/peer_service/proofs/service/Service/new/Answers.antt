use Rattle.std.proofs.Common.{◌≡◌, sym, subst, List, Option, arith}
use Rattle.peer_service.specs.Service.{BoxView, shelf_from, StandAtTheirNumbers}
use Rattle.peer_service.proofs.Numbers.{first_stand}
use Rattle.peer_service.proofs.service.Service.new.Goals as goal

pub invariant_of-result : goal.invariant_of-result
invariant_of-result g c =
    let shelf : c.in_ok-shelf.shelf.items ≡ shelf_from g.B.Interface.state 0 c.args.boxes.items = grind arith in
    subst (λ (l : List (Option BoxView)). StandAtTheirNumbers l) (sym shelf) (first_stand g.B.Interface.state c.args.boxes.items)
