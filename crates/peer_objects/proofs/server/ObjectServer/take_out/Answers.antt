use Rattle.std.proofs.Common.{◌≡◌, Some, None, slice_set, sym, subst, arith}
use Rattle.object_tree.specs.Objects.{Objects, slot_at, removed, gone_manager}
use Rattle.peer_objects.specs.Serving.{AreKept, Slots, emptied}
use Rattle.peer_objects.proofs.Kept.{removed_kept}
use Rattle.peer_objects.proofs.server.ObjectServer.take_out.Goals.{in-Some-manager+in-Some-1, in-Some-manager+in-None-1, in_default-manager}
use Rattle.peer_objects.proofs.server.ObjectServer.take_out.Goals as goal

pub invariant_of-self-2 : goal.invariant_of-self-2
invariant_of-self-2 g c =
    let here : slot_at c.self.inside.tree c.args.path.now c.args.name.now ≡ Some c.in-Some.removal.slot = grind arith in
    let tree : c.match-removal.self-inside.tree ≡ removed c.self.inside.tree c.args.path.now c.args.name.now = elim c.match-removal.branch [ in-Some-manager+in-Some-1 w ↦ grind arith | in-Some-manager+in-None-1 w ↦ grind arith | in_default-manager w ↦ grind arith ] in
    let slots : c.match-removal.self-inside.slots.items ≡ emptied (gone_manager c.self.inside.tree c.args.path.now c.args.name.now) (slice_set c.self.inside.slots.items c.in-Some.removal.slot None) = elim c.match-removal.branch [ in-Some-manager+in-Some-1 w ↦ grind arith | in-Some-manager+in-None-1 w ↦ grind arith | in_default-manager w ↦ grind arith ] in
    subst (λ (o : Objects). AreKept (λ b. (g.B.Interface.meaning b).title) o c.match-removal.self-inside.slots.items) (sym tree)
    (subst (λ (l : Slots g.row.B.Denot). AreKept (λ b. (g.B.Interface.meaning b).title) (removed c.self.inside.tree c.args.path.now c.args.name.now) l) (sym slots)
    (removed_kept (λ b. (g.B.Interface.meaning b).title) c.self.inside.tree c.self.inside.slots.items c.args.path.now c.args.name.now c.in-Some.removal.slot here c.self.invariant))

pub returns : goal.returns
returns g c = record {
  slot = c.in-Some.removal.slot;
  there = grind arith;
  kept = grind arith;
  told = grind arith;
  left = grind arith;
}
