use Rattle.std.proofs.Common.{◌≡◌, sym, ◌∙◌, ap, subst, ℕ, List, [], ◌∷◌, ◌++◌, append_assoc, Bool, ◌||◌}
use Rattle.std.specs.List.{AllByRecursion, AllZip}
use Rattle.object_tree.specs.Objects.{Objects, Rows, below, is_below}
use Rattle.object_standard.specs.declared.object_manager.ManagedObject.{ManagedObject}
use Rattle.peer_objects.specs.Serving.{Slots, AreKept}
use Rattle.peer_objects.specs.Placing.{ServerView}
use Rattle.peer_objects.specs.Standard.{ManagesObject}
use Rattle.peer_objects.proofs.Every.{RowsKept, all_kept, all_filter, behind, told_more}
use Rattle.peer_objects.proofs.server.ObjectServer.managed_below.Goals as goal

pub manage-requires-after_bounds : goal.manage-requires-after_bounds
manage-requires-after_bounds g c κs within =
    let s = c.args.self.now in
    let whole : AreKept (λ b. (g.B.Interface.meaning b).title) s.0 s.1 =
    subst (λ (v : ServerView g.row.B.Denot). AreKept (λ b. (g.B.Interface.meaning b).title) v.0 v.1) c.self.view_is c.self.invariant in
    let is : c.loop-object.object-iterator.rest.items ≡ c.in-Some.object ∷ c.next.new.self.rest.items = c.in-Some.ensures.steps.0 in
    let all : c.loop-object.yielded ++ c.in-Some.object ∷ c.next.new.self.rest.items ≡ below s.0 c.args.path.now = ap (λ ts. c.loop-object.yielded ++ ts) (sym is) ∙ c.loop-object.invariant.all in
    let kept : AllByRecursion (λ (o : List ℕ × Rows). RowsKept s.1 o.1) (below s.0 c.args.path.now) =
    all_filter (λ (o : List ℕ × Rows). RowsKept s.1 o.1) (λ (o : List ℕ × Rows). is_below c.args.path.now o.0) s.0 (all_kept (λ b. (g.B.Interface.meaning b).title) s.0 s.1 whole) in
    behind (λ (o : List ℕ × Rows). RowsKept s.1 o.1) c.loop-object.yielded c.in-Some.object c.next.new.self.rest.items (subst (AllByRecursion (λ (o : List ℕ × Rows). RowsKept s.1 o.1)) (sym all) kept)

pub loop-object-preserved : goal.loop-object-preserved
loop-object-preserved g c =
    let inv = c.loop-object.invariant in
    let is : c.loop-object.object-iterator.rest.items ≡ c.in-Some.object ∷ c.next.new.self.rest.items = c.in-Some.ensures.steps.0 in
    let R : List ℕ × Rows → ManagedObject → Type 0 = ManagesObject g.B.Interface.meaning g.B.Interface.state c.args.self.now.1 in record {
      all = append_assoc c.loop-object.yielded (c.in-Some.object ∷ []) c.next.new.self.rest.items ∙ ap (λ ts. c.loop-object.yielded ++ ts) (sym is) ∙ inv.all;
      told = subst (AllZip R (c.loop-object.yielded ++ c.in-Some.object ∷ [])) (sym c.in_ok-push.ensures.items) (told_more R c.loop-object.yielded c.loop-object.list.items c.in-Some.object c.in_ok-manage.field-0 inv.told c.in_ok-manage.ensures);
    }
