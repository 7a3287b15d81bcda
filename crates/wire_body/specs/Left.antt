-- The values that have not been taken yet.
use Rattle.std.specs.Prelude.{List, map}
use Rattle.std.specs.Vec.Iter.{into_iter_items}
use Rattle.wire_tree.specs.Datum.{Datum}
use Rattle.wire_tree.specs.DatumView.{datum_of}
use Rattle.wire_body.specs.Arguments.{AreAllWellTyped}
use Rattle.wire_body.specs.declared.arguments.Rest.{Rest}
use Rattle.wire_body.specs.declared.arguments.Rest.TheVariants.{Values, Fields}

-- the values that are left: of a body, or the fields of a struct
abbrev pub rest_data : Rest → List Datum
rest_data (Values v) = into_iter_items v
rest_data (Fields f) = map datum_of (into_iter_items f)

-- The fields of a struct are well typed, as the values of a body are by themselves.
abbrev pub AreSound : Rest → Type 0
AreSound (Values v) = Unit {0}
AreSound (Fields f) = AreAllWellTyped (map datum_of (into_iter_items f))
