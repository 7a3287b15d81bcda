use Rattle.std.proofs.Common.{◌≡◌, sym, ◌∙◌, ap, ap₂, subst, [], ◌∷◌, ◌++◌, List, ℕ}
use Rattle.object_tree.specs.Closed.{AreNodes, closed}
use Rattle.object_tree.specs.Keyed.{listed}
use Rattle.object_tree.specs.Objects.{Objects, Rows, root}
use Rattle.object_tree.proofs.Found.{first_nodes, first_closed}
use Rattle.object_tree.proofs.nodes.Nodes.new.Goals as goal

pub invariant_of-result : goal.invariant_of-result
invariant_of-result c =
    let is : listed c.push.new.self.items ≡ (root, []) ∷ [] =
    ap listed (c.in_ok-push.ensures.items ∙ ap (λ es. es ++ (c.in_ok-from_str.field-0, c.new.result) ∷ []) c.new-list.ensures.items)
    ∙ ap₂ (λ (p : List ℕ) (r : Rows). (p, r) ∷ []) c.in_ok-from_str.ensures.ok c.new.ensures in
    (subst (λ (o : Objects). AreNodes o) (sym is) first_nodes, c.new-2.ensures)

pub returns : goal.returns
returns c =
    let is : listed c.push.new.self.items ≡ (root, []) ∷ [] =
    ap listed (c.in_ok-push.ensures.items ∙ ap (λ es. es ++ (c.in_ok-from_str.field-0, c.new.result) ∷ []) c.new-list.ensures.items)
    ∙ ap₂ (λ (p : List ℕ) (r : Rows). (p, r) ∷ []) c.in_ok-from_str.ensures.ok c.new.ensures in
    ap closed is ∙ first_closed
