-- The stream's rule is told of, or it has none, or need not be.
use Rattle.peer_core.specs.{History.streams_of, Refinement.{RouteView, Refines}, BusCall.match_call}
use Rattle.std.proofs.{Common.{arith, length, ◌∙◌, sym, ap, subst, codes, map, if◌then◌else◌, [], ◌∷◌, ◌++◌, Some, None}, lemmas.List.append-nil, lemmas.Result.err_from_is_err_and}
use Rattle.peer_core.proofs.{BusMessages.{remove_is, remove_match}, Leavings.leaves_so, route.Route.add_removal.Goals.{in_default-via-in-Some+else-must_tell, in_default-via-in_default}}
use Rattle.peer_core.proofs.route.Route.add_removal.Goals as goal

pub match_message-requires : goal.match_message-requires
match_message-requires c = remove_is

pub returns-in_err-match_message-in-Some-clause-made : goal.returns-in_err-match_message-in-Some-clause-made
returns-in_err-match_message-in-Some-clause-made c h left there =
    let q = err_from_is_err_and c.from_residual.result c.from_residual.ensures.1 in
    let w = subst (λ (v : RouteView). Refines v h) (sym c.self.view_is) left in
    let told = sym (leaves_so h c.args.before c.args.stream (Some c.in-Some.rule.now) (c.in-Some.ensures (streams_of h) w.streams) there) ∙ c.must_tell.ensures h left ∙ ap (λ b. if b then c.in-Some.rule.now ∷ [] else []) c.if-must_tell.true in
    rw (q.1, q.2, c.in_err-match_message-in-Some.ensures.error) (omega (arith, ap length told))

pub returns-in_err-push-in-Some-clause-made : goal.returns-in_err-push-in-Some-clause-made
returns-in_err-push-in-Some-clause-made c h left there =
    let q = err_from_is_err_and c.from_residual-in_err-push-in-Some.result c.from_residual-in_err-push-in-Some.ensures.1 in
    let w = subst (λ (v : RouteView). Refines v h) (sym c.self.view_is) left in
    let told = sym (leaves_so h c.args.before c.args.stream (Some c.in-Some.rule.now) (c.in-Some.ensures (streams_of h) w.streams) there) ∙ c.must_tell.ensures h left ∙ ap (λ b. if b then c.in-Some.rule.now ∷ [] else []) c.if-must_tell.true in
    rw (q.1, q.2) (omega (arith, ap length told))

pub returns-in_ok-push-in-Some-clause-made : goal.returns-in_ok-push-in-Some-clause-made
returns-in_ok-push-in-Some-clause-made c h left there =
    let w = subst (λ (v : RouteView). Refines v h) (sym c.self.view_is) left in
    let told = sym (leaves_so h c.args.before c.args.stream (Some c.in-Some.rule.now) (c.in-Some.ensures (streams_of h) w.streams) there) ∙ c.must_tell.ensures h left ∙ ap (λ b. if b then c.in-Some.rule.now ∷ [] else []) c.if-must_tell.true in
    let old = c.args.messages.now.items in
    c.in_ok-push-in-Some.ensures.items
    ∙ ap (λ l. old ++ l ∷ []) (c.in_ok-match_message-in-Some.ensures.message ∙ ap (match_call (codes "RemoveMatch") None) c.inner.ensures)
    ∙ ap (λ rs. old ++ map (remove_match None) rs) (sym told)

pub returns-in_default-clause-made : goal.returns-in_default-clause-made
returns-in_default-clause-made c h left there =
    let w = subst (λ (v : RouteView). Refines v h) (sym c.self.view_is) left in
    let old = c.args.messages.now.items in
    elim c.in_default.branch [
      | in_default-via-in-Some+else-must_tell u ↦
          let none = sym (leaves_so h c.args.before c.args.stream (Some u.in-Some.rule.now) (u.in-Some.ensures (streams_of h) w.streams) there) ∙ u.must_tell.ensures h left ∙ ap (λ b. if b then u.in-Some.rule.now ∷ [] else []) u.if-must_tell.false in
          sym (ap (λ rs. old ++ map (remove_match None) rs) none ∙ append-nil old)
      | in_default-via-in_default u ↦
          let none = sym (leaves_so h c.args.before c.args.stream None (u.in_default.ensures (streams_of h) w.streams) there) in
          sym (ap (λ rs. old ++ map (remove_match None) rs) none ∙ append-nil old)
    ]
