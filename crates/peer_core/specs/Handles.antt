-- What contracts see of what who asks for streams holds. A stream is its number among the streams.
use Rattle.std.specs.Prelude.{ℕ}

-- a stream that waits for the return to its AddMatch: the stream, the message's place in the outbox, and its serial
pub record OpeningView : Type 0 where
  pub stream : ℕ
  pub index : ℕ
  pub serial : ℕ
