use Rattle.std.proofs.{Common.{◌++◌, [], ◌∷◌, ◌∙◌, ap, sym, replicate, None, append_assoc}, lemmas.Grind.replicate_next}
use Rattle.peer_conn.proofs.lanes.Lanes.push_nobodys.Goals as goal

pub loop-preserved : goal.loop-preserved
loop-preserved c =
    c.in_ok-push.ensures.ok ∙ ap (λ ns. ns ++ None ∷ []) c.loop.invariant ∙ append_assoc c.args.self.now (replicate c.loop.counter None) (None ∷ [])
    ∙ ap (λ ns. c.args.self.now ++ ns) (sym (replicate_next c.loop.counter None))
