-- What a source and a sink of bytes tell of themselves, at one moment. None says that it isn't told.
use Rattle.std.specs.Prelude.{ℕ, Bool, List, Option}

-- what a source tells
pub record SourceView : Type 0 where
  -- the bytes that are left before the first failing call, or before the end
  pub left : Option (List ℕ)
  -- whether a failing call comes after them; told only where the bytes are
  pub stop : Option Bool
  -- how many calls have failed; it never falls, and stays at 2^64 - 1
  pub faults : ℕ
  -- how often the source was asked
  pub asked : Option ℕ
  -- the length of the widest buffer that a read had
  pub widest : Option ℕ

-- what a sink tells
pub record SinkView : Type 0 where
  -- the bytes that the sink holds
  pub held : Option (List ℕ)
  -- `Some (Some k)`: the sink takes k more bytes before the one write that fails; `Some None`: no write fails. Told only
  -- where the bytes are
  pub room : Option (Option ℕ)
  -- how many calls have failed; it never falls, and stays at 2^64 - 1
  pub faults : ℕ
  -- how often the sink was asked to close; the count stays at 2^64 - 1
  pub closes : Option ℕ
