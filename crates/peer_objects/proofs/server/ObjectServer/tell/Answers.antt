use Rattle.std.proofs.Common.{◌≡◌, refl, sym, ◌∙◌, ap, subst, ℕ, List, [], ◌∷◌, ◌++◌, append_assoc, slice_get, true}
use Rattle.std.specs.List.{AllZip}
use Rattle.object_interface.specs.declared.description.DescribedInterface.{DescribedInterface}
use Rattle.peer_objects.specs.Reaching.{is_kept}
use Rattle.peer_objects.specs.Standard.{Describes}
use Rattle.peer_objects.proofs.Every.{RowsKept, behind, told_more}
use Rattle.peer_objects.proofs.server.ObjectServer.tell.Goals as goal

pub describe-requires-after_bounds : goal.describe-requires-after_bounds
describe-requires-after_bounds g c κs within =
    let is : c.loop-name.name-iterator.rest.items ≡ (c.in-Some.name, c.in-Some.slot) ∷ c.next.new.self.rest.items = c.in-Some.ensures.steps.0 in
    let all : c.loop-name.yielded ++ (c.in-Some.name, c.in-Some.slot) ∷ c.next.new.self.rest.items ≡ c.args.object.now.1 = ap (λ ts. c.loop-name.yielded ++ ts) (sym is) ∙ c.loop-name.invariant.all in
    behind (λ (row : List ℕ × ℕ). is_kept (slice_get c.args.self.now.1 row.1) ≡ true) c.loop-name.yielded (c.in-Some.name, c.in-Some.slot) c.next.new.self.rest.items (subst (λ (rows : List (List ℕ × ℕ)). RowsKept c.args.self.now.1 rows) (sym all) c.requires)

pub loop-name-preserved : goal.loop-name-preserved
loop-name-preserved g c =
    let inv = c.loop-name.invariant in
    let row : List ℕ × ℕ = (c.in-Some.name, c.in-Some.slot) in
    let is : c.loop-name.name-iterator.rest.items ≡ row ∷ c.next.new.self.rest.items = c.in-Some.ensures.steps.0 in
    let R : List ℕ × ℕ → DescribedInterface → Type 0 = λ row i. (i.name ≡ row.0) × Describes g.B.Interface.meaning g.B.Interface.state c.args.self.now.1 row i.description in
    let one : DescribedInterface = record { name = c.in-Some.name; description = c.in_ok-description.description } in record {
      all = append_assoc c.loop-name.yielded (row ∷ []) c.next.new.self.rest.items ∙ ap (λ ts. c.loop-name.yielded ++ ts) (sym is) ∙ inv.all;
      told = subst (AllZip R (c.loop-name.yielded ++ row ∷ [])) (sym c.in_ok-push.ensures.done) (told_more R c.loop-name.yielded c.loop-name.interfaces row one inv.told (refl, c.in_ok-description.ensures));
    }
