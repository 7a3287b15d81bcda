-- Bus names by their two kinds (D-Bus Specification, "Valid Names", "Bus names").
use Rattle.std.specs.Prelude.{ℕ, List, if◌then◌else◌}
use Rattle.wire_names.specs.Names.{is_unique_name}
use Rattle.wire_names.specs.declared.bus.BusName.{BusName}
use Rattle.wire_names.specs.declared.bus.BusName.TheVariants.{Unique, WellKnown}
use Rattle.wire_names.specs.declared.bus.OwnedBusName.{OwnedBusName}
use Rattle.wire_names.specs.declared.bus.OwnedBusName.TheVariants.{Unique as owned_unique, WellKnown as owned_well_known}

-- the name that a text is: one that is in both grammars is a unique name
abbrev pub bus_name_of : List ℕ → BusName
bus_name_of text = if is_unique_name text then Unique text else WellKnown text

-- the text of a bus name, whichever of the two it is
abbrev pub text_of : BusName → List ℕ
text_of (Unique text) = text
text_of (WellKnown text) = text

-- the owned name of that text and kind
abbrev pub owned_of : BusName → OwnedBusName
owned_of (Unique text) = owned_unique text
owned_of (WellKnown text) = owned_well_known text

-- the text of one that owns it
abbrev pub text_of_owned : OwnedBusName → List ℕ
text_of_owned (owned_unique text) = text
text_of_owned (owned_well_known text) = text
