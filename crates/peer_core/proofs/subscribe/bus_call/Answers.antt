-- The names are names.
use Rattle.peer_core.proofs.BusMessages.{path_is, interface_is, bus_is}
use Rattle.peer_core.proofs.subscribe.bus_call.Goals as goal

pub unreachable-requires : goal.unreachable-requires
unreachable-requires c = c.in_default.ensures.0 path_is

pub unreachable-requires-in_default-try_from : goal.unreachable-requires-in_default-try_from
unreachable-requires-in_default-try_from c = c.in_default-try_from.ensures.0 interface_is

pub unreachable-requires-in_default-try_from-2 : goal.unreachable-requires-in_default-try_from-2
unreachable-requires-in_default-try_from-2 c = c.in_default-try_from-2.ensures.0 bus_is
