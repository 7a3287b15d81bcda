-- The names that definitions and proofs here use of the crates below, and of the types of the code. A variant is written behind its type, as in
-- the code.
pub use Rattle.wire_message.specs.{Front.MessageView, Outcome.{IsReadError, IsReadRefusal, Tells, ending_of, outcome, received_bytes}, declared.error.Error.Error, declared.error.IoKind.IoKind, declared.received.Received.Received}
pub use Rattle.rule_match.specs.{Bytes.rule_in_bytes, Rule.Rule}
pub use Rattle.wire_framing.specs.{Receive.{HasCause, IsReceived, Spends, spent}, Sink.{Part, RoomBreaks, RoomFalls, RoomStays, asked_again}, Source.MayRise, Views.{SinkView, SourceView}, Writing.{Sends, cause, has_descriptors, is_unsupported}, declared.write_half.Writing.TheVariants.Fine, declared.write_half.Writing.Writing}
pub use Rattle.peer_words.specs.{declared.answer.Answer.Answer, declared.answer.Entry.Entry, declared.words.Command.Command, declared.words.ObjectOp.ObjectOp, declared.words.StreamOp.StreamOp, declared.words.Words.Words}
pub use Rattle.peer_calls.specs.declared.writer.Writer.{Writer}
pub use Rattle.peer_script.specs.{Again.command_of, Reading.{IsWithin, PassesLimit, given, script_of}, Script.{Broke, Gave, Given, Script, ScriptText, is_bus, line_count, name_of}, Transcript.transcript_text}
