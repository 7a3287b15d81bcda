use Rattle.std.proofs.Common.{◌≡◌, ◌+◌, ◌-◌, ◌*◌, ◌∙◌, ◌++◌, ℕ, List, ◌∷◌, sym, ap, subst, string_bytes, codes, length, take, drop, map, reverse, Some, None, slice_get, Bor}
use Rattle.std.specs.Prelude.{flat_map}
use Rattle.object_text.specs.Text.{line, opening, closing, interface_text}
use Rattle.object_text.specs.Nodes.{told, last_element}
use Rattle.object_text.proofs.Finishing.{begins, depth, finish, closes_beside, closes_last, opens_none, opens_below, opened}
use Rattle.object_text.proofs.nodes.put_nodes.Goals as goal
use Rattle.object_text.proofs.nodes.put_nodes.Goals.{in-Some+then-is_below, in_default}

-- what a lent path is
abbrev path_of : Bor (List ℕ) → List ℕ
path_of p = p.now

pub loop-above-preserved : goal.loop-above-preserved
loop-above-preserved c =
    closes_beside c.args.standing.now path_of c.loop-above.open.items c.pop.new.self.items c.in-Some.above.now c.args.objects.now c.loop-object.object-index c.object-item.result c.as_str-path.result.now
    (string_bytes c.loop-above.out) (string_bytes c.put_closing.new.out) _
    (subst (λ (l : List (Bor (List ℕ))). Some c.in-Some.above.now ≡ slice_get l (length l - 1)) c.deref.ensures.value c.in-Some.ensures.value)
    (c.pop.ensures.rest ∙ ap (λ n. take (n - 1) c.loop-above.open.items) c.loop-above.open.ok.0)
    c.loop-object-test.true c.object-item.is c.as_str-path.ensures.value (sym c.is_below.ensures ∙ c.if-is_below.false)
    c.loop-above.invariant
    (c.in_ok-put_closing.ensures ∙ ap (λ n. string_bytes c.loop-above.out ++ line (2 + 2 * n) (closing (codes "node"))) (c.len.ensures ∙ c.pop.new.self.ok.0))

pub loop-object-preserved : goal.loop-object-preserved
loop-object-preserved c =
    let items = c.loop-above.open.items in
    let o = c.object-item.result in
    let count = c.len-in-loop-object.ensures ∙ c.loop-above.open.ok.0 in
    let can = elim c.match-last.branch as (λ _. finish c.args.standing.now (reverse (map path_of items)) (drop c.loop-object.object-index c.args.objects.now) ≡ begins c.args.standing.now (depth (reverse (map path_of items))) o ++ finish c.args.standing.now (o.path ∷ reverse (map path_of items)) (drop (c.loop-object.object-index + 1) c.args.objects.now)) [
      | in-Some+then-is_below w ↦ opens_below c.args.standing.now path_of items w.in-Some.above.now c.args.objects.now c.loop-object.object-index o c.as_str-path.result.now
          (subst (λ (l : List (Bor (List ℕ))). Some w.in-Some.above.now ≡ slice_get l (length l - 1)) c.deref.ensures.value w.in-Some.ensures.value)
          c.loop-object-test.true c.object-item.is c.as_str-path.ensures.value (sym w.is_below.ensures ∙ w.if-is_below.true)
      | in_default w ↦ opens_none c.args.standing.now path_of items c.args.objects.now c.loop-object.object-index o
          (subst (λ (l : List (Bor (List ℕ))). None ≡ slice_get l (length l - 1)) c.deref.ensures.value w.in_default.ensures.value)
          c.loop-object-test.true c.object-item.is
    ] in
    ap (λ l. string_bytes c.put_interfaces.new.out ++ finish c.args.standing.now (reverse (map path_of l)) (drop (c.loop-object.object-index + 1) c.args.objects.now)) c.in_ok-push.ensures.items
    ∙ opened c.args.standing.now path_of items c.as_str-path.result c.args.objects.now c.loop-object.object-index o
    (string_bytes c.loop-above.out) (string_bytes c.put_opening.new.out) (string_bytes c.put_interfaces.new.out) _
    c.as_str-path.ensures.value can c.loop-above.invariant
    (c.in_ok-put_opening.ensures ∙ ap (λ n. string_bytes c.loop-above.out ++ line (2 + 2 * n) (opening (codes "node") c.last_element.result.now)) count
    ∙ ap (λ e. string_bytes c.loop-above.out ++ line (2 + 2 * length items) (opening (codes "node") e)) (c.last_element.ensures ∙ ap last_element c.as_str-path.ensures.value))
    (c.in_ok-put_interfaces.ensures ∙ ap (λ n. string_bytes c.put_opening.new.out ++ flat_map (interface_text ((2 + 2 * n) + 2)) (told c.args.standing.now c.as_slice.result.now)) count
    ∙ ap (λ own. string_bytes c.put_opening.new.out ++ flat_map (interface_text ((2 + 2 * length items) + 2)) (told c.args.standing.now own)) c.as_slice.ensures)

pub loop-out-preserved : goal.loop-out-preserved
loop-out-preserved c =
    closes_last c.args.standing.now path_of c.loop-out.open.items c.pop-in-loop-out.new.self.items c.pop-in-loop-out.result
    (string_bytes c.loop-out.out) (string_bytes c.put_closing-in-loop-out.new.out) _
    c.pop-in-loop-out.ensures.items (sym c.is_some.ensures ∙ c.loop-out-test.true) c.loop-out.invariant
    (c.in_ok-put_closing-2.ensures ∙ ap (λ n. string_bytes c.loop-out.out ++ line (2 + 2 * n) (closing (codes "node"))) (c.len-in-loop-out.ensures ∙ c.pop-in-loop-out.new.self.ok.0))
