-- The names that definitions and proofs here use of the crates below, and of the types of the code. A variant is written behind its type, as in
-- the code.
pub use Rattle.wire_message.specs.{BuilderView.{BuilderView, are_misplaced, flagged}, NewBuilders.{error_builder, reply_builder}, Field.no_fields, Front.MessageView, Primary.head_of, declared.error.Error.Error, declared.error.IoKind.IoKind, declared.kind.MessageType.MessageType}
pub use Rattle.wire_names.specs.Names.{is_bus_name, is_error_name, is_interface_name, is_member_name, is_object_path}
pub use Rattle.wire_number.specs.{Reading.Cursor, declared.endian.Endian.Endian, declared.endian.Endian.TheVariants.{Big, Little}}
pub use Rattle.wire_signature.specs.{Parsing.types_in, SingleType.{IsSignature, SingleType, SingleTypes, SignatureText, basic, letter, no_single_types, single_types, single_types_of, type_text, types_text}, declared.error.VariantError.VariantError}
pub use Rattle.wire_encoding.specs.{Each.EncodeEach, Reading.{fields_at, value_at}}
pub use Rattle.wire_tree.specs.Datum.{Datum, type_of}
pub use Rattle.peer_words.specs.{declared.answer.Answer.Answer, declared.words.CallFlags.CallFlags, declared.words.Outgoing.Outgoing, declared.words.OutgoingKind.OutgoingKind, declared.words.Words.Words}
