use Rattle.std.proofs.Common.{◌≡◌, ◌∙◌, sym, ap, subst, ℕ, List, [], ◌∷◌, ◌++◌, length, Option, append_assoc, arith}
use Rattle.object_interface.specs.Meaning.{Same}
use Rattle.peer_service.specs.Service.{BoxView, meaning_at}
use Rattle.peer_service.proofs.Numbers.{same_next, shelf_length, shelf_more}
use Rattle.peer_service.proofs.shelf.numbered.Goals as goal

pub new-requires-after_bounds : goal.new-requires-after_bounds
new-requires-after_bounds g c κs within =
    let next : c.loop-object.object-iterator.rest.items ≡ c.in-Some.object ∷ c.next.new.self.rest.items = c.in-Some.ensures.steps.0 in
    let split : c.args.boxes.items ≡ c.loop-object.yielded ++ c.in-Some.object ∷ c.next.new.self.rest.items = sym c.loop-object.invariant.1 ∙ ap (λ (l : List g.row.B.Denot). c.loop-object.yielded ++ l) next in
    let stands : c.len-number.result ≡ length c.loop-object.shelf.items = grind arith in
    let number : c.len-number.result ≡ length c.loop-object.yielded = stands ∙ ap (λ (l : List (Option BoxView)). length l) c.loop-object.invariant.0 ∙ shelf_length g.B.Interface.state 0 c.loop-object.yielded in
    same_next g.B.Interface.meaning c.loop-object.yielded c.in-Some.object c.next.new.self.rest.items (g.R.Registry.meanings c.len-number.result)
    (subst (λ (l : List g.row.B.Denot). Same (meaning_at g.B.Interface.meaning l (length c.loop-object.yielded)) (g.R.Registry.meanings c.len-number.result)) split
    (subst (λ (n : ℕ). Same (meaning_at g.B.Interface.meaning c.args.boxes.items n) (g.R.Registry.meanings c.len-number.result)) number (c.requires c.len-number.result)))

pub loop-object-preserved : goal.loop-object-preserved
loop-object-preserved g c =
    let more = shelf_more g.B.Interface.state 0 c.loop-object.yielded c.in-Some.object in
    let stands : c.len-number.result ≡ length c.loop-object.shelf.items = grind arith in
    let number : c.len-number.result ≡ length c.loop-object.yielded = stands ∙ ap (λ (l : List (Option BoxView)). length l) c.loop-object.invariant.0 ∙ shelf_length g.B.Interface.state 0 c.loop-object.yielded in
    let next : c.loop-object.object-iterator.rest.items ≡ c.in-Some.object ∷ c.next.new.self.rest.items = c.in-Some.ensures.steps.0 in
    (grind arith, append_assoc c.loop-object.yielded (c.in-Some.object ∷ []) c.next.new.self.rest.items ∙ ap (λ (l : List g.row.B.Denot). c.loop-object.yielded ++ l) (sym next) ∙ c.loop-object.invariant.1)
