-- The stream is asked, and what is shown is what it says.
use Rattle.peer_core.specs.{History.streams_of, Names.{OpenState, Opened}, Handles.OpeningView, Asked.opening_answer, Bus.IsShownAs, Refinement.{RouteView, Refines}}
use Rattle.std.proofs.Common.{◌≡◌, refl, sym, ◌∙◌, ap, subst}
use Rattle.peer_core.proofs.{Core.left_opened, route.Route.poll_open.Goals.{in-Unknown, in-NotYet, in-Open, in-Refused, in-Over}}
use Rattle.peer_core.proofs.route.Route.poll_open.Goals as goal

shown_by : (o : OpeningView) (state answer one : OpenState) (shown result : Opened) → state ≡ answer → state ≡ one → result ≡ shown → IsShownAs o one shown → IsShownAs o answer result
shown_by o state answer one shown result e is same x = subst (λ s. IsShownAs o s result) (sym is ∙ e) (subst (λ r. IsShownAs o one r) (sym same) x)

pub returns-clause-shown : goal.returns-clause-shown
returns-clause-shown c h left =
    let was = subst (λ (v : RouteView). Refines v h) (sym c.self.view_is) left in
    let k = c.args.opening.stream in
    let e : c.ask_open.result ≡ opening_answer h k = rw (c.number.ensures ∙ ap (λ (o : OpeningView). o.stream) c.opening.view_is) at (c.ask_open.ensures.told (streams_of h) was.streams (c.closing-closing.ensures ∙ was.calls.closing)) in
    elim c.match-ask_open.branch [
      | in-Unknown w ↦ shown_by c.args.opening c.ask_open.result (opening_answer h k) _ _ c.match-ask_open.result e w.in-Unknown.is w.result-is refl
      | in-NotYet w ↦ shown_by c.args.opening c.ask_open.result (opening_answer h k) _ _ c.match-ask_open.result e w.in-NotYet.is w.result-is refl
      | in-Open w ↦ shown_by c.args.opening c.ask_open.result (opening_answer h k) _ _ c.match-ask_open.result e w.in-Open.is w.result-is w.into_stream.ensures
      | in-Refused w ↦ shown_by c.args.opening c.ask_open.result (opening_answer h k) _ _ c.match-ask_open.result e w.in-Refused.is w.result-is refl
      | in-Over w ↦ shown_by c.args.opening c.ask_open.result (opening_answer h k) _ _ c.match-ask_open.result e w.in-Over.is w.result-is refl
    ]

pub returns-clause-left : goal.returns-clause-left
returns-clause-left c h left =
    let was = subst (λ (v : RouteView). Refines v h) (sym c.self.view_is) left in
    left_opened _ c.ask_open.new.self c.args.opening.stream (opening_answer h c.args.opening.stream) h was (rw (c.number.ensures ∙ ap (λ (o : OpeningView). o.stream) c.opening.view_is) at (c.ask_open.ensures.left (streams_of h) was.streams (c.closing-closing.ensures ∙ was.calls.closing)))
