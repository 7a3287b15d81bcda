-- What the server answers, by what is seen of the service.
use Rattle.std.proofs.Common.{◌≡◌, ℕ, List, Option, IfOk, OnErr, subst}
use Rattle.object_interface.specs.declared.answered.Answered.{Answered}
use Rattle.peer_objects.specs.Served.{Serves, Disturbs}
use Rattle.peer_service.specs.Service.{BoxView, ServiceView, number_at}
use Rattle.peer_service.proofs.WithNumbers.{served, disturbed, numbers}
use Rattle.peer_service.proofs.service.Service.dispatch.Goals as goal

pub returns-clause-served : goal.returns-clause-served
returns-clause-served g c =
    subst (λ (v : ServiceView). IfOk c.dispatch.result (λ (d : Answered). Serves (λ (b : BoxView). g.R.Registry.meanings b.number) (λ (b : BoxView). b.state) v.machine (v.objects, v.slots) (c.dispatch.new.self.0, c.dispatch.new.self.1) c.args.message.now d.messages.items d.notifier))
    c.self.view_is
    (subst (λ (x : Option (List ℕ)). IfOk c.dispatch.result (λ (d : Answered). Serves (λ (b : BoxView). g.R.Registry.meanings b.number) (λ (b : BoxView). b.state) x (c.self.inside.server.0, c.self.inside.server.1) (c.dispatch.new.self.0, c.dispatch.new.self.1) c.args.message.now d.messages.items d.notifier))
    c.lent-machine.ensures (served g.R.Registry.meanings c.dispatch.result _ (c.self.inside.server.0, c.self.inside.server.1) (c.dispatch.new.self.0, c.dispatch.new.self.1) c.args.message.now c.dispatch.ensures.served))

pub returns-clause-disturbed : goal.returns-clause-disturbed
returns-clause-disturbed g c =
    subst (λ (v : ServiceView). OnErr c.dispatch.result (Disturbs (λ (b : BoxView). g.R.Registry.meanings b.number) (λ (b : BoxView). b.state) (v.objects, v.slots) (c.dispatch.new.self.0, c.dispatch.new.self.1) c.args.message.now))
    c.self.view_is (disturbed g.R.Registry.meanings c.dispatch.result (c.self.inside.server.0, c.self.inside.server.1) (c.dispatch.new.self.0, c.dispatch.new.self.1) c.args.message.now c.dispatch.ensures.disturbed)

pub returns-clause-numbers : goal.returns-clause-numbers
returns-clause-numbers g c =
    subst (λ (v : ServiceView). (k : ℕ) → number_at c.dispatch.new.self.1 k ≡ number_at v.slots k)
    c.self.view_is (numbers g.R.Registry.meanings c.dispatch.result _ (c.self.inside.server.0, c.self.inside.server.1) (c.dispatch.new.self.0, c.dispatch.new.self.1) c.args.message.now c.dispatch.ensures.served c.dispatch.ensures.disturbed)
