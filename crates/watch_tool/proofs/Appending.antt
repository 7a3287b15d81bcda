-- A sink only gains bytes, whatever a step answers.
use Rattle.std.proofs.Common.{ℕ, ◌≡◌, inl, inr, sym, subst, List, [], ◌++◌, take, Result, Ok, Err}
use Rattle.std.proofs.KnownBytes.{Appends-nil, Appends-trans}
use Rattle.std.specs.Io.KnownBytes.{Appends}
use Rattle.wire_framing.specs.Views.{SinkView}
use Rattle.wire_message.specs.declared.error.Error.{Error}
use Rattle.watch_tool.specs.Report.{end_line}
use Rattle.watch_tool.specs.Watching.{Shows, Closes}
use Rattle.watch_tool.specs.declared.error.WatchError.{WatchError}
use Rattle.watch_tool.specs.declared.error.WatchError.TheVariants.{Memory, ReadFault, WriteFault}

-- the sink gained some bytes
abbrev pub GainsSome : SinkView → SinkView → Type 0
GainsSome old new = (text : List ℕ) × Appends old.held new.held text

pub some_nothing : (sink : SinkView) → GainsSome sink sink
some_nothing sink = ([], Appends-nil sink.held)

pub some_then : (first mid last : SinkView) → GainsSome first mid → GainsSome mid last → GainsSome first last
some_then first mid last p q = (p.0 ++ q.0, Appends-trans first.held mid.held last.held p.0 q.0 p.1 q.1)

some_same : (old new : SinkView) → new ≡ old → GainsSome old new
some_same old new same = subst (GainsSome old) (sym same) (some_nothing old)

pub shows_some : {A : Type 0} (result : Result A WatchError) (bytes : List ℕ) (old new : SinkView) → Shows result bytes old new → GainsSome old new
shows_some (Ok done) bytes old new s = (bytes, s.0)
shows_some (Err Memory) bytes old new s = (take s.0 bytes, s.2.0)
shows_some (Err ReadFault) bytes old new s = absurd s
shows_some (Err WriteFault) bytes old new s = (take s.0 bytes, s.1.0.gone)

pub closes_some : (result : Result Error WatchError) (error : Error) (old new : SinkView) → Closes result error old new → GainsSome old new
closes_some (Ok closing) error old new c = (end_line error, c.2.0)
closes_some (Err Memory) error old new (inl c) = some_same old new c.1
closes_some (Err Memory) error old new (inr c) = (take c.1 (end_line error), c.2.0.gone)
closes_some (Err ReadFault) error old new c = some_same old new c.1
closes_some (Err WriteFault) error old new c = (take c.1 (end_line error), c.2.0.gone)
