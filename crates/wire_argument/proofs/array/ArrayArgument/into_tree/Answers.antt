use Rattle.std.proofs.Common.{◌≡◌, map, IfOk, sym, subst}
use Rattle.wire_tree.specs.Datum.{list_of, data_of}
use Rattle.wire_tree.proofs.Lists.{list_of-data_of}
use Rattle.wire_argument.proofs.array.ArrayArgument.into_tree.Goals as goal

pub returns-clause-round : goal.returns-clause-round
returns-clause-round g c =
    let items = c.into_vec-items.result.items in
    subst (λ xs. IfOk c.into_array.result (λ tree. map g.T.Argument.read (list_of (data_of (map g.T.Argument.datum xs))) ≡ xs)) c.into_vec-items.ensures
    (subst (λ ys. IfOk c.into_array.result (λ tree. map g.T.Argument.read ys ≡ items)) (sym (list_of-data_of (map g.T.Argument.datum items))) c.into_array.ensures.round)
