-- The first stream has a rule, or the second, if there is one.
use Rattle.peer_core.specs.{History.streams_of, Asked.{are_open, has_rule}, Refinement.{RouteView, Refines}}
use Rattle.std.proofs.Common.{◌≡◌, ◌∙◌, sym, ap, subst, ◌||◌, true, false, option_map, unwrap_or}
use Rattle.peer_core.proofs.Leavings.{first_open, two_open, has_so}
use Rattle.peer_core.proofs.route.Route.has_rules.Goals as goal

pub returns-then-is_some : goal.returns-then-is_some
returns-then-is_some c h left there =
    let w = subst (λ (v : RouteView). Refines v h) (sym c.self.view_is) left in
    let one = has_so (λ r. r.now) h c.args.stream c.rule.result c.is_some.result c.is_some.ensures (c.rule.ensures (streams_of h) w.streams) (first_open h c.args.stream c.args.second there) in
    ap (λ b. b || unwrap_or (option_map (has_rule h) c.args.second) false) (sym c.if-is_some.true ∙ one)

pub returns-in-Some : goal.returns-in-Some
returns-in-Some c h left there =
    let w = subst (λ (v : RouteView). Refines v h) (sym c.self.view_is) left in
    let one = has_so (λ r. r.now) h c.args.stream c.rule.result c.is_some.result c.is_some.ensures (c.rule.ensures (streams_of h) w.streams) (first_open h c.args.stream c.args.second there) in
    let both = two_open h c.args.stream c.in-Some.second (subst (λ o. are_open h c.args.stream o ≡ true) c.in-Some.is there) in
    let other = has_so (λ r. r.now) h c.in-Some.second c.rule-in-Some.result c.is_some-in-Some.result c.is_some-in-Some.ensures (c.rule-in-Some.ensures (streams_of h) w.streams) both.1 in
    other ∙ ap (λ j. unwrap_or (option_map (has_rule h) j) false) (sym c.in-Some.is) ∙ ap (λ b. b || unwrap_or (option_map (has_rule h) c.args.second) false) (sym c.if-is_some.false ∙ one)

pub returns-in-None : goal.returns-in-None
returns-in-None c h left there =
    let w = subst (λ (v : RouteView). Refines v h) (sym c.self.view_is) left in
    let one = has_so (λ r. r.now) h c.args.stream c.rule.result c.is_some.result c.is_some.ensures (c.rule.ensures (streams_of h) w.streams) (first_open h c.args.stream c.args.second there) in
    ap (λ j. unwrap_or (option_map (has_rule h) j) false) (sym c.in-None.is) ∙ ap (λ b. b || unwrap_or (option_map (has_rule h) c.args.second) false) (sym c.if-is_some.false ∙ one)
