use Rattle.std.proofs.Common.{arith, ap, ◌∙◌}
use Rattle.std.proofs.lemmas.Result.{err_from_is_err_and}
use Rattle.wire_tree.proofs.Lists.{list_of-data_of}
use Rattle.wire_body.proofs.Inside.{are_well_typed, fields_refused, fields_held}
use Rattle.wire_body.proofs.structs.StructArgument.check.Goals as goal

pub returns-in_err-check-clause-told : goal.returns-in_err-check-clause-told
returns-in_err-check-clause-told g c =
    let p = err_from_is_err_and c.from_residual.result c.from_residual.ensures.1 in
    rw (← c.self.view_is) (fields_refused (Unit {0}) c.from_residual.result p.0 _ (g.T.ToBody.datums c.self.inside.fields) c.args.room c.saturating_sub.result p.1 p.2 (omega arith) c.in_err-check.ensures.told)

pub returns-then-room-eq0-clause-told : goal.returns-then-room-eq0-clause-told
returns-then-room-eq0-clause-told g c = rw (← c.self.view_is) (are_well_typed (g.T.ToBody.datums c.self.inside.fields) c.in_ok-check.ensures.told.0, omega arith)

pub returns-clause-told : goal.returns-clause-told
returns-clause-told g c =
    rw (← c.self.view_is) (fields_held (g.T.ToBody.datums c.self.inside.fields) c.args.room c.saturating_sub.result (omega arith) c.in_ok-check.ensures.told (omega arith))

pub returns-clause-round : goal.returns-clause-round
returns-clause-round g c =
    rw (← c.self.view_is) (ap g.T.ToBody.read (list_of-data_of (g.T.ToBody.datums c.self.inside.fields)) ∙ c.in_ok-check.ensures.round)
