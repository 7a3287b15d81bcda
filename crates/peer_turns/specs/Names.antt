-- The names that definitions and proofs here use of the crates below, and of the types of the code. A variant is written behind its type, as in
-- the code.
pub use Rattle.wire_message.specs.{Front.MessageView, declared.error.Error.Error, declared.error.IoKind.IoKind, declared.received.Received.Received}
pub use Rattle.peer_words.specs.{declared.answer.Answer.Answer, declared.answer.Entry.Entry, declared.words.Command.Command, declared.words.ObjectOp.ObjectOp, declared.words.Words.Words}
pub use Rattle.peer_calls.specs.declared.writer.Writer.{Writer}
pub use Rattle.peer_script.specs.Again.{command_of}
