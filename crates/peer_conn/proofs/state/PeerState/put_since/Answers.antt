use Rattle.std.proofs.{Common.{◌≡◌, ◌∙◌, ap, sym, arith, slice_get, Some, ◌++◌, [], ◌∷◌}, lemmas.Grind.common_steps}
use Rattle.peer_conn.proofs.Posted.{put_next}
use Rattle.peer_conn.proofs.state.PeerState.put_since.Goals as goal

pub loop-index-preserved : goal.loop-index-preserved
loop-index-preserved c =
    let at : slice_get c.args.self.now.core.outbox c.loop-index.index ≡ Some c.in_ok-clone-in-Some.field-0 = grind (arith, common_steps) in
    c.in_ok-push-in-Some.ensures.items ∙ ap (λ ms. ms ++ c.in_ok-clone-in-Some.field-0 ∷ []) c.loop-index.invariant
    ∙ sym (put_next c.args.self.now.core.outbox c.args.count c.loop-index.index c.in_ok-clone-in-Some.field-0 (omega (arith, c.loop-index.auto.index)) at)
