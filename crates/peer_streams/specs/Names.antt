-- The names that definitions and proofs here use of the crates below, and of the types of the code. A variant is written behind its type, as in
-- the code.
pub use Rattle.wire_message.specs.{Front.{MessageView, kind_code}, Replying.{replies_to, is_return}, declared.error.Error.Error, declared.kind.MessageType.MessageType, declared.polled.Polled.Polled}
pub use Rattle.wire_names.specs.{declared.bus.OwnedBusName.OwnedBusName, declared.bus.OwnedBusName.TheVariants.{Unique, WellKnown}}
pub use Rattle.rule_match.specs.{Accepting.accepts, Rule.{Rule, bus_signal}, declared.place.PathSpec.PathSpec, declared.place.PathSpec.TheVariants.{Path, PathNamespace}}
pub use Rattle.peer_streams.specs.{declared.progress.OpenState.OpenState, declared.progress.Progress.Progress, declared.subscriptions.Subscription.Subscription, declared.stream_state.StreamState.StreamState}
