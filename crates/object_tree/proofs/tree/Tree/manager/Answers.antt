use Rattle.std.proofs.Common.{sym, ◌∙◌, ap, rules}
use Rattle.object_tree.specs.Objects.{Objects, manager_of}
use Rattle.object_tree.proofs.Managing.{found_there, found_above, none_above}
use Rattle.object_tree.proofs.tree.Tree.manager.Goals as goal

pub up-init : goal.up-init
up-init c = (search rules, ap (manager_of c.self.inside.nodes) c.as_str-front.ensures.value)

pub returns-in-Some-manager_at : goal.returns-in-Some-manager_at
returns-in-Some-manager_at c =
    sym (found_there c.self.inside.nodes c.up.front.now c.in-Some.above.now c.in-Some-manager_at.manager c.manager_at.result c.in-Some.ensures.0 c.manager_at.ensures c.in-Some-manager_at.is)
    ∙ c.up.invariant.1 ∙ ap (λ (o : Objects). manager_of o c.args.path.now) c.self.view_is

pub up-preserved : goal.up-preserved
up-preserved c = (search rules, sym (found_above c.self.inside.nodes c.up.front.now c.in-Some.above.now c.manager_at.result c.in-Some.ensures.0 c.manager_at.ensures c.in_default-manager_at.is) ∙ c.up.invariant.1)

pub returns : goal.returns
returns c = sym (none_above c.self.inside.nodes c.up.front.now c.in_default.ensures) ∙ c.up.invariant.1 ∙ ap (λ (o : Objects). manager_of o c.args.path.now) c.self.view_is
