use Rattle.std.proofs.Common.{◌≡◌, List, ℕ, [], ◌∷◌, ◌++◌, length, sym, ◌∙◌, ap, Option}
use Rattle.peer_conn.specs.Invariant.{places}
use Rattle.peer_conn.proofs.Numbers.{kept-push}
use Rattle.peer_conn.proofs.lanes.Lanes.push.Goals as goal

pub invariant_of-self-2 : goal.invariant_of-self-2
invariant_of-self-2 c lane =
    let at : c.len.result ≡ length c.self.inside.owners.items = c.len.ensures ∙ c.reserve.ensures.len ∙ c.self.inside.owners.ok.0 in
    kept-push c.self.inside.lanes c.keep.new.lanes c.self.inside.owners.items c.args.owner c.len.result lane at (c.in_ok-keep.ensures.ok lane) (c.self.invariant lane)
    ∙ ap (λ (xs : List (Option ℕ)). places 0 lane (xs ++ c.args.owner ∷ [])) (sym c.reserve.ensures.items) ∙ ap (places 0 lane) (sym c.in-Ok.ensures.items)
