use Rattle.std.proofs.Common.{◌∷◌, [], ◌++◌, map, subst, sym, ap, ◌∙◌, append_assoc}
use Rattle.std.proofs.lemmas.Result.{err_from_is_err_and}
use Rattle.wire_tree.specs.Datum.{type_of}
use Rattle.wire_tree.specs.DatumView.{datum_of}
use Rattle.wire_body.specs.Arguments.{AllAreTypes}
use Rattle.wire_body.proofs.Values.{one_refused, map-more, well_typed-more}
use Rattle.wire_body.proofs.message.values_of.Goals as goal

pub returns-in_err-from_tree-clause-told : goal.returns-in_err-from_tree-clause-told
returns-in_err-from_tree-clause-told c =
    let p = err_from_is_err_and c.from_residual.result c.from_residual.ensures.1 in
    let types = subst (λ ts. AllAreTypes (map type_of (map datum_of ts))) c.in-Some.ensures.steps.0 c.loop-tree.invariant.types in
    one_refused c.from_residual.result p.0 datum_of c.loop-tree.yielded c.next.new.self.rest.items c.args.trees.items c.in-Some.tree p.1
    (ap (λ ts. c.loop-tree.yielded ++ ts) (sym c.in-Some.ensures.steps.0) ∙ c.loop-tree.invariant.all) types.0 (rw p.2 c.in_err-from_tree.ensures)

pub loop-tree-preserved : goal.loop-tree-preserved
loop-tree-preserved c = record {
  so_far = c.in_ok-push.ensures.items ∙ ap (λ vs. vs ++ c.in_ok-from_tree.field-0 ∷ []) c.loop-tree.invariant.so_far
      ∙ ap (λ v. map datum_of c.loop-tree.yielded ++ v ∷ []) c.in_ok-from_tree.ensures.0 ∙ sym (map-more datum_of c.loop-tree.yielded c.in-Some.tree);
  well_typed = well_typed-more datum_of c.loop-tree.yielded c.in-Some.tree c.loop-tree.invariant.well_typed c.in_ok-from_tree.ensures.1.well_typed;
  types = (subst (λ ts. AllAreTypes (map type_of (map datum_of ts))) c.in-Some.ensures.steps.0 c.loop-tree.invariant.types).1;
  all = append_assoc c.loop-tree.yielded (c.in-Some.tree ∷ []) c.next.new.self.rest.items
      ∙ ap (λ ts. c.loop-tree.yielded ++ ts) (sym c.in-Some.ensures.steps.0) ∙ c.loop-tree.invariant.all;
}
