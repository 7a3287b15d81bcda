use Rattle.std.proofs.Common.{sym, ap, ◌∙◌}
use Rattle.std.proofs.lemmas.Result.{err_from_is_err_and}
use Rattle.wire_tree.specs.Datum.{data_of}
use Rattle.wire_tree.specs.Datum.{struct as struct_datum}
use Rattle.wire_tree.specs.DatumView.{datum_of}
use Rattle.wire_body.proofs.Inside.{inside_well_typed, fields_taken, fields_not_taken}
use Rattle.wire_body.proofs.structs.StructArgument.from_tree.Goals as goal

pub of_fields-requires : goal.of_fields-requires
of_fields-requires g c = inside_well_typed _ _ c.in-Some.ensures.some c.requires

pub returns-in_err-fields-in-Some : goal.returns-in_err-fields-in-Some
returns-in_err-fields-in-Some g c =
    let p = err_from_is_err_and c.from_residual.result c.from_residual.ensures.1 in
    fields_not_taken g.T.ToBody.read (datum_of c.args.tree) c.of_fields.result g.T.ToBody.kinds
    (c.in-Some.ensures.some ∙ ap (λ ds. struct_datum (data_of ds)) (sym c.of_fields.ensures)) c.from_residual.result p.0 _ p.1 p.2 c.in_err-fields-in-Some.ensures _

pub returns-in_ok-fields-in-Some : goal.returns-in_ok-fields-in-Some
returns-in_ok-fields-in-Some g c =
    fields_taken g.T.ToBody.read (datum_of c.args.tree) c.of_fields.result g.T.ToBody.kinds
    (c.in-Some.ensures.some ∙ ap (λ ds. struct_datum (data_of ds)) (sym c.of_fields.ensures)) c.in_ok-fields-in-Some.fields c.in_ok-fields-in-Some.ensures
