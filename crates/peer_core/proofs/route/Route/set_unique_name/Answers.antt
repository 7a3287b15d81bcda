-- The peer that had no name has this.
use Rattle.std.proofs.{Common.{◌≡◌, sym, ap, ◌∙◌, subst, refl, Option, None, Some, is_some, false}, lemmas.Bool.true≢false}
use Rattle.peer_core.specs.{History.{Named, after}, Refinement.{RouteView, Refines}}
use Rattle.peer_core.proofs.Openings.{left_named}
use Rattle.peer_core.proofs.route.Route.set_unique_name.Goals as goal

none_there : {A : Type 0} (o : Option A) → is_some o ≡ false → o ≡ None
none_there None e = refl
none_there (Some x) e = absurd (true≢false e)

pub returns-clause-named : goal.returns-clause-named
returns-clause-named c is h left =
    let Q : RouteView → Type 0 = λ v. Refines (record v { name = Some c.args.name }) (after (Named c.args.name) h) in
    let none = none_there c.self.inside.name (sym c.is_some.ensures ∙ c.if-is_some.false) in
    subst Q (sym c.self.view_is) (left_named c.args.self.now c.args.name h (ap (λ (v : RouteView). v.name) (sym c.self.view_is) ∙ none) left)
