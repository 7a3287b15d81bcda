use Rattle.std.proofs.Common.{[], ◌∷◌, ap}
use Rattle.object_standard.specs.Properties.{properties_value}
use Rattle.object_standard.proofs.Told.{properties_datum, properties_are, ok_is}
use Rattle.object_standard.proofs.properties.properties_body.Goals as goal

pub returns : goal.returns
returns c =
    ok_is c.body_of.result (properties_datum c.in_ok-sorted.field-0 ∷ []) (properties_value c.args.properties ∷ [])
    (ap (λ d. d ∷ []) (properties_are c.in_ok-sorted.field-0 c.args.properties c.in_ok-sorted.ensures)) c.body_of.ensures
