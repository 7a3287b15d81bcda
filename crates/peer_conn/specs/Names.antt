-- The names that definitions and proofs here use of the crates below, and of the types of the code. A variant is written behind its type, as in
-- the code.
pub use Rattle.wire_message.specs.{BuilderView.{BuilderView, are_misplaced}, Front.{Front, IgnoredFront, MessageView}, Outcome.IsReadRefusal, declared.error.Error.Error, declared.error.IoKind.IoKind, declared.polled.Polled.Polled, declared.received.Received.Received}
pub use Rattle.wire_tree.specs.Datum.{Datum}
pub use Rattle.rule_match.specs.{Bytes.rule_in_bytes, Rule.Rule}
pub use Rattle.peer_words.specs.{declared.answer.Answer.Answer, declared.answer.Entry.Entry, declared.words.StreamOp.StreamOp, declared.words.Words.Words}
pub use Rattle.peer_core.specs.declared.unsubscribe.Spent.{Spent}
pub use Rattle.peer_calls.specs.declared.writer.Writer.{Writer}
pub use Rattle.peer_streams.specs.declared.progress.OpenState.{OpenState}
pub use Rattle.peer_conn.specs.{declared.acting.Acted.Acted, declared.acting.Makes.Makes, declared.handles.StreamHandle.StreamHandle}
