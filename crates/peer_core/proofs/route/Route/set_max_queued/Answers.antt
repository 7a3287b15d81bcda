-- One with a rule raises its rule's capacity, one without the main one.
use Rattle.peer_core.specs.{History.streams_of, Asked.is_open, Refinement.{RouteView, Refines}}
use Rattle.std.proofs.Common.{◌≡◌, sym, ◌∙◌, subst, true}
use Rattle.peer_core.proofs.{Core.{ask_so, left_asked}, route.Route.set_max_queued.Goals.{then-not-ask, else-not-ask}}
use Rattle.peer_core.proofs.route.Route.set_max_queued.Goals as goal

pub returns-then-not-is_open-clause-answer : goal.returns-then-not-is_open-clause-answer
returns-then-not-is_open-clause-answer c h left =
    let was = subst (λ (v : RouteView). Refines v h) (sym c.self.view_is) left in
    sym (ask_so h c.args.stream.now _ (sym (rw c.number-number.ensures at (c.is_open.ensures (streams_of h) was.streams)) ∙ c.if-not-is_open.true))

pub returns-clause-answer : goal.returns-clause-answer
returns-clause-answer c h left =
    let was = subst (λ (v : RouteView). Refines v h) (sym c.self.view_is) left in
    sym (ask_so h c.args.stream.now _ (sym (rw c.number-number.ensures at (c.is_open.ensures (streams_of h) was.streams)) ∙ c.if-not-is_open.false))

pub returns-clause-left : goal.returns-clause-left
returns-clause-left c h left =
    let was = subst (λ (v : RouteView). Refines v h) (sym c.self.view_is) left in
    let k = c.args.stream.now in
    let there : is_open h k ≡ true = sym (rw c.number-number.ensures at (c.is_open.ensures (streams_of h) was.streams)) ∙ c.if-not-is_open.false in
    let all = left_asked _ c.ask.new.self k c.args.max c.ask.result h there (rw c.number-number.ensures at (c.ask.ensures.has (streams_of h) was.streams (rw (sym c.number-number.ensures) at there))) was (rw c.number-number.ensures at (c.ask.ensures.raised (streams_of h) was.streams (rw (sym c.number-number.ensures) at there))) in
    elim c.if-not-ask.branch [
      | then-not-ask w ↦ rw (w.self-is, w.max-self-inside.ensures) (rw w.if-not-ask.true at all)
      | else-not-ask w ↦ rw w.self-is (rw w.if-not-ask.false at all)
    ]
