use Rattle.std.proofs.Common.{[], ◌∷◌, ◌∙◌}
use Rattle.wire_tree.specs.Datum.{text, string}
use Rattle.object_standard.specs.Properties.{changed_values, names_value}
use Rattle.object_standard.proofs.Told.{properties_datum, changed_are, ok_is}
use Rattle.object_standard.proofs.properties.changed_body.Goals as goal

pub returns : goal.returns
returns c =
    ok_is c.body_of.result (text string c.in_ok-name.name ∷ properties_datum c.in_ok-changed.changed ∷ names_value c.from_vec.result ∷ []) (changed_values c.args.interface.now c.args.changed c.args.invalidated.items)
    (changed_are c.in_ok-name.name c.args.interface.now c.in_ok-changed.changed c.args.changed c.from_vec.result c.args.invalidated.items (c.in_ok-name.ensures ∙ c.as_str.ensures.value) c.in_ok-changed.ensures c.from_vec.ensures) c.body_of.ensures
