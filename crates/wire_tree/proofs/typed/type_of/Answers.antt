use Rattle.std.proofs.Common.{◌∙◌}
use Rattle.wire_tree.specs.Datum.{type_of}
use Rattle.wire_tree.specs.DatumView.{datum_of}
use Rattle.wire_tree.proofs.Types.{own_tells}
use Rattle.wire_tree.proofs.typed.type_of.Goals as goal

pub returns-in-Ok : goal.returns-in-Ok
returns-in-Ok c =
    own_tells c.if_own.result (type_of (datum_of c.args.tree.now)) c.in-Ok.value_type c.as_str.result.now c.in-Ok.ensures.told (c.as_str.ensures.value ∙ c.in_ok-text.ensures) c.if_own.ensures.own
