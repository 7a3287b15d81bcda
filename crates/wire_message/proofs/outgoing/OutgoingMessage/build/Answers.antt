-- An outgoing message, or a text that is too long for one.
use Rattle.std.proofs.Common.{ap}
use Rattle.wire_message.specs.Outgoing.{values_of}
use Rattle.wire_message.proofs.Built.{built_outgoing, long_outgoing}
use Rattle.wire_message.proofs.outgoing.OutgoingMessage.build.Goals as goal

pub returns-in-Values : goal.returns-in-Values
returns-in-Values c =
    built_outgoing _ _ _ _ _ _ _ _ _ _ _ _ _ _ _ c.from_peer.ensures c.serial-builder.ensures c.as_slice.ensures.value (ap values_of c.in-Values.is) c.self.view_is c.requires.shallow
    c.build_body_uncounted.ensures.built

pub returns-in-Long : goal.returns-in-Long
returns-in-Long c = long_outgoing _ _ _ _ _ _ _ _ (ap values_of c.in-Long.is) c.self.view_is c.is_long.ensures
