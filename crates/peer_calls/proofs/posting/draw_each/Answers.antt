-- One message more has its serial, or none is left for it.
use Rattle.wire_message.proofs.Edits.{all_push}
use Rattle.peer_calls.proofs.Drawn.{Drawing, drawing_more, drawing_refused, drawing_done, next_dropped, next_posted, made_more}
use Rattle.std.proofs.{Common.{arith, ◌≡◌, [], ◌<◌, ◌+◌, ℕ, Vec, Global, drop, length, sym, ◌∙◌, ap, subst, drop_of_length-le}, lemmas.Result.err_from_is_err_and, lemmas.List.length_push}
use Rattle.std.specs.List.{AllByRecursion}
use Rattle.peer_calls.specs.Placing.{posts}
use Rattle.peer_calls.proofs.posting.draw_each.Goals as goal

pub returns-in_err-draw-clause-drawn : goal.returns-in_err-draw-clause-drawn
returns-in_err-draw-clause-drawn c h name served left =
    let q = err_from_is_err_and c.from_residual.result c.from_residual.ensures.1 in
    let rest = next_posted c.args.internal name served _ _ _ (next_dropped c.args.list.now c.loop-outgoing.outgoing-index c.outgoing-item.result c.loop-outgoing-test.true c.outgoing-item.is) in
    let x = subst (λ ds. Drawing (posts c.args.internal name served c.args.list.now) h c.loop-outgoing.drawn.items ds c.loop-outgoing.calls c.loop-outgoing.serials) rest (c.loop-outgoing.invariant.0 h name served left) in
    rw (q.1, q.2) (drawing_refused (λ (v : Vec ℕ Global). v.items) _ h _ _ _ _ c.draw.new.calls _ c.draw.new.serials c.in_err-draw.field-0.0 x (c.in_err-draw.ensures.drawn x.now name served x.counted))

pub loop-outgoing-preserved : goal.loop-outgoing-preserved
loop-outgoing-preserved c = (
  λ h name served left.
      let rest = next_posted c.args.internal name served _ _ _ (next_dropped c.args.list.now c.loop-outgoing.outgoing-index c.outgoing-item.result c.loop-outgoing-test.true c.outgoing-item.is) in
      let x = subst (λ ds. Drawing (posts c.args.internal name served c.args.list.now) h c.loop-outgoing.drawn.items ds c.loop-outgoing.calls c.loop-outgoing.serials) rest (c.loop-outgoing.invariant.0 h name served left) in
      let one = c.in_ok-draw.ensures.drawn x.now name served x.counted in
      subst (λ ns. Drawing (posts c.args.internal name served c.args.list.now) h ns (posts c.args.internal name served (drop (c.loop-outgoing.outgoing-index + 1) c.args.list.now)) c.draw.new.calls c.draw.new.serials)
      (sym c.in_ok-push.ensures.items) (drawing_more _ h _ _ _ _ c.draw.new.calls _ c.draw.new.serials c.in_ok-draw.field-0 x one.0 one.1),
  subst (AllByRecursion (λ serial. 0 < serial)) (sym c.in_ok-push.ensures.items) (all_push (λ serial. 0 < serial) c.loop-outgoing.drawn.items c.in_ok-draw.field-0 c.in_ok-draw.ensures.some c.loop-outgoing.invariant.1),
  ap length c.in_ok-push.ensures.items ∙ length_push c.loop-outgoing.drawn.items c.in_ok-draw.field-0 ∙ ap (λ n. n + 1) c.loop-outgoing.invariant.2,
  made_more _ _ _ c.loop-outgoing.invariant.3 c.in_ok-draw.ensures.made,
)

pub returns-clause-drawn : goal.returns-clause-drawn
returns-clause-drawn c h name served left =
    let none : drop c.loop-outgoing.outgoing-index c.args.list.now ≡ [] = drop_of_length-le c.args.list.now (omega (arith, c.loop-outgoing-test.false)) in
    drawing_done (posts c.args.internal name served c.args.list.now) h c.loop-outgoing.drawn.items c.loop-outgoing.calls c.loop-outgoing.serials
    (subst (λ rest. Drawing (posts c.args.internal name served c.args.list.now) h c.loop-outgoing.drawn.items (posts c.args.internal name served rest) c.loop-outgoing.calls c.loop-outgoing.serials) none (c.loop-outgoing.invariant.0 h name served left))
