use Rattle.std.proofs.Common.{◌≡◌, map, IfOk, sym, subst}
use Rattle.wire_tree.specs.Datum.{list_of, data_of}
use Rattle.wire_tree.proofs.Lists.{list_of-data_of}
use Rattle.wire_argument.proofs.array.ArrayArgument.check.Goals as goal

pub returns-clause-round : goal.returns-clause-round
returns-clause-round g c =
    let items = c.as_slice.result.now in
    subst (λ xs. IfOk c.check_each.result (λ x. map g.T.Argument.read (list_of (data_of (map g.T.Argument.datum xs))) ≡ xs)) c.as_slice.ensures
    (subst (λ ys. IfOk c.check_each.result (λ x. map g.T.Argument.read ys ≡ items)) (sym (list_of-data_of (map g.T.Argument.datum items))) c.check_each.ensures.round)
