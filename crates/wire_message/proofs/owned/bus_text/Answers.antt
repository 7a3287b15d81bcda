use Rattle.wire_message.proofs.Setting.{unique_bus, well_known_bus}
use Rattle.wire_message.proofs.owned.bus_text.Goals as goal

pub returns-in-Unique-clause-valid : goal.returns-in-Unique-clause-valid
returns-in-Unique-clause-valid c = unique_bus c.into_text.result c.into_text.ensures.valid

pub returns-in-WellKnown-clause-valid : goal.returns-in-WellKnown-clause-valid
returns-in-WellKnown-clause-valid c = well_known_bus c.into_text-in-WellKnown.result c.into_text-in-WellKnown.ensures.valid
