use Rattle.std.proofs.Common.{◌≡◌, ◌∷◌, [], ◌++◌, length, Some, sym, subst, arith}
use Rattle.object_tree.specs.Objects.{Objects, added}
use Rattle.peer_objects.specs.Serving.{AreKept, Slots}
use Rattle.peer_objects.proofs.Kept.{added_kept}
use Rattle.peer_objects.proofs.server.ObjectServer.put_in.Goals as goal

pub invariant_of-self-in-Ok-true : goal.invariant_of-self-in-Ok-true
invariant_of-self-in-Ok-true g c =
    let tree : c.add-added.new.self ≡ added c.self.inside.tree c.args.path.now c.name.result (length c.self.inside.slots.items) = grind arith in
    let slots : c.push_reserved.new.self.items ≡ c.self.inside.slots.items ++ Some c.args.object ∷ [] = grind arith in
    subst (λ (o : Objects). AreKept (λ b. (g.B.Interface.meaning b).title) o c.push_reserved.new.self.items) (sym tree)
    (subst (λ (l : Slots g.row.B.Denot). AreKept (λ b. (g.B.Interface.meaning b).title) (added c.self.inside.tree c.args.path.now c.name.result (length c.self.inside.slots.items)) l) (sym slots)
    (added_kept (λ b. (g.B.Interface.meaning b).title) c.self.inside.tree c.self.inside.slots.items c.args.path.now c.name.result c.args.object (sym c.name.ensures) c.self.invariant))
