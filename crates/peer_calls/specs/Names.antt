-- The names that definitions and proofs here use of the crates below, and of the types of the code. A variant is written behind its type, as in
-- the code.
pub use Rattle.wire_message.specs.{SerialOrder.{AllTaken, Draws, IsNext, serial_after}, Front.MessageView, Replying.replies_to, declared.error.Error.Error, declared.error.IoKind.IoKind, declared.polled.Polled.Polled}
pub use Rattle.wire_number.specs.Limits.{greatest_serial}
pub use Rattle.wire_signature.specs.declared.error.VariantError.{VariantError}
pub use Rattle.rule_match.specs.Rule.{Rule}
pub use Rattle.peer_calls.specs.{declared.slot_table.Slot.Slot, declared.slot_table.Slot.TheVariants.{Gone, Replied, Waiting}, declared.posting.Issued.Issued, declared.writer.Writer.Writer}
