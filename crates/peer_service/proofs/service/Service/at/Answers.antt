use Rattle.std.proofs.Common.{◌≡◌, ◌∙◌, sym, subst, ap, ℕ, List, Option, Some, ◌∷◌, option_and_then, slice_get, arith}
use Rattle.peer_objects.specs.Announcing.{AnnouncesAdded}
use Rattle.peer_service.specs.Service.{BoxView, ServiceView, StandAtTheirNumbers, on_shelf, numbered}
use Rattle.peer_objects.specs.Placing.{ServerView, Places}
use Rattle.peer_service.proofs.WithNumbers.{announces}
use Rattle.peer_service.proofs.PutBack.{put_back_is, taken_stand}
use Rattle.peer_service.proofs.service.Service.at.Goals as goal

-- a service by its parts
abbrev view : Option (List ℕ) → ServerView BoxView → List (Option BoxView) → ServiceView
view machine server shelf = record { machine = machine; objects = server.0; slots = server.1; shelf = shelf; notified = server.2 }

pub returns-in-Ok-Exists-clause-left : goal.returns-in-Ok-Exists-clause-left
returns-in-Ok-Exists-clause-left g c =
    let server : c.at.new.self ≡ c.self.inside.server = grind arith in
    let taken : option_and_then (λ o. o) (slice_get c.self.inside.shelf.items c.args.number) ≡ Some c.in-Some.object = grind arith in
    let back = put_back_is c.self.inside.shelf.items c.args.number c.in-Some.object c.self.invariant taken in
    let shelf : c.put.new.shelf.items ≡ c.self.inside.shelf.items = grind arith in
    ap (λ (s : ServerView BoxView). view c.self.inside.machine s c.put.new.shelf.items) server ∙ ap (λ (l : List (Option BoxView)). view c.self.inside.machine c.self.inside.server l) shelf ∙ c.self.view_is

pub invariant_of-self-in-Err : goal.invariant_of-self-in-Err
invariant_of-self-in-Err g c =
    let taken : option_and_then (λ o. o) (slice_get c.self.inside.shelf.items c.args.number) ≡ Some c.in-Some.object = grind arith in
    let back = put_back_is c.self.inside.shelf.items c.args.number c.in-Some.object c.self.invariant taken in
    let shelf : c.put-in-Err.new.shelf.items ≡ c.self.inside.shelf.items = grind arith in
    subst (λ (l : List (Option BoxView)). StandAtTheirNumbers l) (sym shelf) c.self.invariant

pub returns-clause-left : goal.returns-clause-left
returns-clause-left g c =
    let server : c.at.new.self ≡ c.self.inside.server = grind arith in
    let taken : option_and_then (λ o. o) (slice_get c.self.inside.shelf.items c.args.number) ≡ Some c.in-Some.object = grind arith in
    let back = put_back_is c.self.inside.shelf.items c.args.number c.in-Some.object c.self.invariant taken in
    let shelf : c.put-in-Err.new.shelf.items ≡ c.self.inside.shelf.items = grind arith in
    ap (λ (s : ServerView BoxView). view c.self.inside.machine s c.put-in-Err.new.shelf.items) server ∙ ap (λ (l : List (Option BoxView)). view c.self.inside.machine c.self.inside.server l) shelf ∙ c.self.view_is

pub invariant_of-self : goal.invariant_of-self
invariant_of-self g c =
    subst (λ (l : List (Option BoxView)). StandAtTheirNumbers l) (sym c.take.ensures.left) (taken_stand c.self.inside.shelf.items c.args.number c.self.invariant)

pub invariant_of-self-in-Ok-Exists : goal.invariant_of-self-in-Ok-Exists
invariant_of-self-in-Ok-Exists g c =
    let taken : option_and_then (λ o. o) (slice_get c.self.inside.shelf.items c.args.number) ≡ Some c.in-Some.object = grind arith in
    let back = put_back_is c.self.inside.shelf.items c.args.number c.in-Some.object c.self.invariant taken in
    let shelf : c.put.new.shelf.items ≡ c.self.inside.shelf.items = grind arith in
    subst (λ (l : List (Option BoxView)). StandAtTheirNumbers l) (sym shelf) c.self.invariant

pub returns-in-Ok-Added-clause-announces : goal.returns-in-Ok-Added-clause-announces
returns-in-Ok-Added-clause-announces g c =
    let taken : option_and_then (λ o. o) (slice_get c.self.inside.shelf.items c.args.number) ≡ Some c.in-Some.object = grind arith in
    let placed = subst (λ a. Places (λ (b : BoxView). numbered b.number (g.R.Registry.meanings b.number)) (λ (b : BoxView). b.number ∷ b.state) c.self.inside.server c.at.new.self c.in_ok-path.path c.in-Some.object a) c.in-Ok-Added.field-0-is c.in-Ok-Added.ensures.placed in
    subst (λ (v : ServiceView). (x : BoxView) × (on_shelf v c.args.number ≡ Some x) × AnnouncesAdded (λ (b : BoxView). g.R.Registry.meanings b.number) (λ (b : BoxView). b.state) v.objects c.args.path.now x v.slots c.in-Ok-Added.announced.items)
    c.self.view_is (
      c.in-Some.object,
      taken,
      subst (λ (p : List ℕ). AnnouncesAdded (λ (b : BoxView). g.R.Registry.meanings b.number) (λ (b : BoxView). b.state) c.self.inside.server.0 p c.in-Some.object c.self.inside.server.1 c.in-Ok-Added.announced.items)
          c.in_ok-path.ensures.ok.0 (announces g.R.Registry.meanings c.self.inside.server.0 c.in_ok-path.path c.in-Some.object c.self.inside.server.1 c.in-Ok-Added.announced.items placed.1),
    )
