use Rattle.std.proofs.Common.{[], ◌∷◌}
use Rattle.wire_tree.specs.Datum.{text, object_path}
use Rattle.object_standard.specs.ObjectManager.{added_values}
use Rattle.object_standard.proofs.Told.{interfaces_datum, added_are, ok_is}
use Rattle.object_standard.proofs.object_manager.added_body.Goals as goal

pub returns : goal.returns
returns c =
    ok_is c.body_of.result (text object_path c.in_ok-told.told.0 ∷ interfaces_datum c.in_ok-told.told.1 ∷ []) (added_values c.args.object)
    (added_are c.in_ok-told.told c.args.object c.in_ok-told.ensures) c.body_of.ensures
