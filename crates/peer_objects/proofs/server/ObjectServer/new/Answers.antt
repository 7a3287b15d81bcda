use Rattle.std.proofs.Common.{◌≡◌, ◌∷◌, [], sym, subst, arith}
use Rattle.object_tree.specs.Objects.{Objects, root}
use Rattle.peer_objects.specs.Serving.{AreKept, Slots}
use Rattle.peer_objects.proofs.Kept.{none_kept}
use Rattle.peer_objects.proofs.server.ObjectServer.new.Goals as goal

pub invariant_of-result : goal.invariant_of-result
invariant_of-result g c =
    let tree : c.in_ok-tree.tree ≡ (root, []) ∷ [] = grind arith in
    subst (λ (o : Objects). AreKept (λ b. (g.B.Interface.meaning b).title) o c.new-2.result.items) (sym tree)
    (subst (λ (l : Slots g.row.B.Denot). AreKept (λ b. (g.B.Interface.meaning b).title) ((root, []) ∷ []) l) (sym c.new-2.ensures.items) (none_kept (λ b. (g.B.Interface.meaning b).title)))
