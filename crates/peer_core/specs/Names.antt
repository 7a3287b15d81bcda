-- The names that definitions and proofs here use of the crates below, and of the types of the code. A variant is written behind its type, as in
-- the code.
pub use Rattle.wire_message.specs.{BuilderView.BuilderView, Field.no_fields, Front.MessageView, declared.error.Error.Error, declared.error.IoKind.IoKind, declared.kind.MessageType.MessageType, declared.polled.Polled.Polled}
pub use Rattle.wire_names.specs.Names.{IsBusName, IsInterfaceName, IsObjectPath}
pub use Rattle.wire_number.specs.declared.endian.Endian.TheVariants.{Little}
pub use Rattle.wire_signature.specs.declared.error.VariantError.{VariantError}
pub use Rattle.wire_tree.specs.Datum.{IsTextOf, string, text}
pub use Rattle.rule_match.specs.Rule.{Rule}
pub use Rattle.peer_calls.specs.{declared.slot_table.Slot.Slot, declared.posting.Issued.Issued, declared.writer.Writer.Writer}
pub use Rattle.peer_streams.specs.declared.progress.OpenState.{OpenState}
pub use Rattle.peer_core.specs.{declared.unsubscribe.Spent.Spent, declared.subscribe.Opened.Opened, declared.subscribe.Opens.Opens}
