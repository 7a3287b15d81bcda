use Rattle.std.proofs.Common.{◌≡◌, sym, ◌∙◌, ap, ap₂, subst, rules, List, ℕ, ◌∷◌, [], ◌++◌, ◌+◌, IsTrue, string_bytes}
use Rattle.wire_names.specs.Names.{is_object_path}
use Rattle.object_tree.specs.Closed.{bare_at, ways}
use Rattle.object_tree.specs.Keyed.{listed}
use Rattle.object_tree.specs.Objects.{Objects, Rows, IsObject, is_below}
use Rattle.object_tree.proofs.Listed.{listed_is}
use Rattle.object_tree.proofs.Walked.{so_far, walk_stop, walk_step, valid_at}
use Rattle.object_tree.proofs.nodes.push_below.Goals as goal

pub returns-then-not-is_below : goal.returns-then-not-is_below
returns-then-not-is_below c =
    let at = listed_is c.args.nodes.now c.next.at c.index-nodes-at.result c.next-test.true c.index-nodes-at.is in
    let beside = sym (c.is_below.ensures ∙ ap (is_below c.args.path.now) c.deref.ensures) ∙ c.if-not-is_below.true in
    sym (walk_stop c.args.path.now (listed c.args.nodes.now) c.next.list.items c.next.last.now c.next.at _ at beside) ∙ c.next.invariant.1

pub push_ways-requires-clause-path : goal.push_ways-requires-clause-path
push_ways-requires-clause-path c =
    let at = listed_is c.args.nodes.now c.next.at c.index-nodes-at.result c.next-test.true c.index-nodes-at.is in
    subst (λ (p : List ℕ). IsTrue (is_object_path p)) (sym c.deref-in-next.ensures) (valid_at (listed c.args.nodes.now) c.next.at _ c.requires.nodes.valid at).path

pub new-requires : goal.new-requires
new-requires c =
    let at = listed_is c.args.nodes.now c.next.at c.index-nodes-at.result c.next-test.true c.index-nodes-at.is in
    subst (λ (p : List ℕ). IsObject (p, c.index-nodes-at.result.1)) (sym c.deref-in-next-2.ensures) (valid_at (listed c.args.nodes.now) c.next.at _ c.requires.nodes.valid at)

pub next-preserved : goal.next-preserved
next-preserved c =
    let at = listed_is c.args.nodes.now c.next.at c.index-nodes-at.result c.next-test.true c.index-nodes-at.is in
    let under = sym (c.is_below.ensures ∙ ap (is_below c.args.path.now) c.deref.ensures) ∙ c.if-not-is_below.false in
    let key : List ℕ = string_bytes c.index-nodes-at.result.0 in
    let list : c.push.new.self.items ≡ (c.next.list.items ++ bare_at (ways c.next.last.now (string_bytes c.index-nodes-at.result.0))) ++ (string_bytes c.index-nodes-at.result.0, c.index-nodes-at.result.1) ∷ [] =
    c.in_ok-push.ensures.items ∙ ap₂ (λ (l : Objects) (o : List ℕ × Rows). l ++ o ∷ []) (c.in_ok-push_ways.ensures ∙ ap (λ (p : List ℕ). c.next.list.items ++ bare_at (ways c.next.last.now p)) c.deref-in-next.ensures)
    (c.new.ensures ∙ ap (λ (p : List ℕ). (p, c.index-nodes-at.result.1)) c.deref-in-next-2.ensures) in (
      search rules,
      ap₂ (λ (l : Objects) (p : List ℕ). so_far c.args.path.now (listed c.args.nodes.now) l p (c.next.at + 1)) list c.deref-last.ensures
          ∙ walk_step c.args.path.now (listed c.args.nodes.now) c.next.list.items c.next.last.now c.next.at (string_bytes c.index-nodes-at.result.0, c.index-nodes-at.result.1) at under ∙ c.next.invariant.1,
      subst (λ (p : List ℕ). IsTrue (is_object_path p)) (sym c.deref-last.ensures) (valid_at (listed c.args.nodes.now) c.next.at _ c.requires.nodes.valid at).path,
    )
