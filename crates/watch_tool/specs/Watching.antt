-- What a monitor answers, and what it leaves in the source and in the sink.
use Rattle.std.specs.Prelude.{ℕ, Bool, ◌≡◌, ◌≢◌, ◌-◌, ◌^◌, ◌<◌, ◌≤◌, ◌⊎◌, true, false, List, length, take, Option, Some, None, Result, Ok, Err}
use Rattle.wire_message.specs.Front.{MessageView}
use Rattle.wire_message.specs.declared.error.Error.{Error}
use Rattle.wire_message.specs.declared.error.Error.TheVariants as errors
use Rattle.wire_message.specs.declared.error.IoKind.TheVariants as kinds
use Rattle.wire_framing.specs.Views.{SourceView, SinkView}
use Rattle.wire_framing.specs.Source.{MayRise}
use Rattle.wire_framing.specs.Sink.{Stops, WritesAll}
use Rattle.wire_framing.specs.declared.sink.Refusal.TheVariants as refusals
use Rattle.rule_match.specs.Rule.{Rule}
use Rattle.watch_tool.specs.Traffic.{traffic, IsRead}
use Rattle.watch_tool.specs.Report.{lines, end_line, report}
use Rattle.watch_tool.specs.Reading.{TakesPart}
use Rattle.watch_tool.specs.declared.error.WatchError.{WatchError}
use Rattle.watch_tool.specs.declared.error.WatchError.TheVariants.{Memory, ReadFault, WriteFault}

-- a source and a sink, before and after a call
pub record Ends : Type 0 where
  pub source : SourceView
  pub source' : SourceView
  pub sink : SinkView
  pub sink' : SinkView

-- the sink gained exactly these bytes
abbrev pub Gains : List ℕ → SinkView → SinkView → Type 0
Gains bytes old new = WritesAll {A = Unit {0}} (Ok tt) bytes old new

-- ---- where the source reports its bytes

-- The text that a sink gained before a read fault: the lines of some first messages of these bytes, and no last line.
-- A source that reports where a read fails fails only there: then these are all messages of the bytes, and no more come
-- since the bytes end. Of another source, these are all messages whose bytes it gave, but for the last read: what the
-- source gave after the fronts that were read is at most one front.
pub record IsBeforeFault (rules : List Rule) (bytes : List ℕ) (source source' : SourceView) (text : List ℕ) : Type 0 where
  pub messages : List MessageView
  pub rest : List ℕ
  pub read : IsRead bytes messages rest
  pub is : text ≡ lines rules messages
  pub may : source.stop ≢ Some false
  pub all : source.stop ≡ Some true → messages ≡ (traffic bytes).messages
  pub ended : source.stop ≡ Some true → (traffic bytes).closing ≡ errors.InputOutput kinds.Ended
  pub gone : source.stop ≡ None → TakesPart rest source'.left

-- A read failed, and the sink gained such a text.
abbrev pub ReadStops : List Rule → List ℕ → Ends → Type 0
ReadStops rules bytes ends =
    (text : List ℕ) × IsBeforeFault rules bytes ends.source ends.source' text × Gains text ends.sink ends.sink'

-- all messages but the last
abbrev pub earlier : List MessageView → List MessageView
earlier messages = take (length messages - 1) messages

-- A write failed after these messages were read. Of the report the sink gained a proper prefix: the lines of all messages
-- but the last, and perhaps more. Unless the lines of all messages are in it, what follows the last front that was read
-- is still in the source.
pub record WriteStops (rules : List Rule) (bytes : List ℕ) (ends : Ends) : Type 0 where
  pub messages : List MessageView
  pub rest : List ℕ
  pub read : IsRead bytes messages rest
  pub count : ℕ
  pub stops : Stops refusals.Failed (report rules bytes) ends.sink ends.sink' count
  pub written : length (lines rules (earlier messages)) ≤ count
  pub left : count < length (lines rules (traffic bytes).messages) → ends.source'.left ≡ Some rest

-- What a monitor answers where the source has these bytes. Ok: why no more messages came, and exactly the report was
-- written. Memory: a proper prefix of the report.
abbrev pub Watches : Result Error WatchError → List Rule → List ℕ → Ends → Type 0
Watches (Ok error) rules bytes ends =
    (error ≡ (traffic bytes).closing) × Gains (report rules bytes) ends.sink ends.sink'
Watches (Err Memory) rules bytes ends =
    (count : ℕ) × Stops refusals.Memory (report rules bytes) ends.sink ends.sink' count
Watches (Err ReadFault) rules bytes ends = ReadStops rules bytes ends
Watches (Err WriteFault) rules bytes ends = WriteStops rules bytes ends

-- As many fronts were read of the bytes as are read of any traffic.
pub record IsFull (bytes : List ℕ) : Type 0 where
  pub messages : List MessageView
  pub rest : List ℕ
  pub read : IsRead bytes messages rest
  pub most : length read.fronts ≡ 2 ^ 64 - 2

-- The answer hides no failing read. Where the source reports one after these bytes, the end of the bytes isn't the reason
-- why no more messages came, unless as many fronts were read as are read of any traffic.
abbrev pub HidesNoFault : Result Error WatchError → List ℕ → Option Bool → Type 0
HidesNoFault (Ok (errors.InputOutput kinds.Ended)) bytes (Some true) = IsFull bytes
HidesNoFault result bytes stop = Unit {0}

-- ---- of any source

-- A read fault comes only where the source's count of faults rose, a write fault only where the sink's did; else the
-- sink's stays.
abbrev pub IsCaused : {A : Type 0} → Result A WatchError → Ends → Type 0
IsCaused (Err ReadFault) ends = MayRise ends.source.faults ends.source'.faults × (ends.sink'.faults ≡ ends.sink.faults)
IsCaused (Err WriteFault) ends = (ends.source.faults ≤ ends.source'.faults) × MayRise ends.sink.faults ends.sink'.faults
IsCaused result ends = (ends.source.faults ≤ ends.source'.faults) × (ends.sink'.faults ≡ ends.sink.faults)

-- ---- the steps

-- Some bytes were written; or, in a proper prefix, they weren't, since the sink failed or there was no memory.
abbrev pub Writes : {A : Type 0} → Result A WatchError → List ℕ → SinkView → SinkView → Type 0
Writes (Ok done) bytes old new = Gains bytes old new
Writes (Err Memory) bytes old new = (count : ℕ) × Stops refusals.Memory bytes old new count
Writes (Err WriteFault) bytes old new = (count : ℕ) × Stops refusals.Failed bytes old new count
Writes (Err ReadFault) bytes old new = ⊥

-- The lines of a front were written, perhaps none; or, in a prefix, they weren't.
abbrev pub Shows : {A : Type 0} → Result A WatchError → List ℕ → SinkView → SinkView → Type 0
Shows (Err Memory) bytes old new = (count : ℕ) × (count ≤ length bytes) × Gains (take count bytes) old new
Shows result bytes old new = Writes result bytes old new

-- what an error of a read says of the monitor: it stops
abbrev pub failure_of : Error → Option WatchError
failure_of errors.Memory = Some Memory
failure_of (errors.InputOutput kinds.Fault) = Some ReadFault
failure_of error = None

-- What follows a read that found no front: the last line, or nothing where the read failed or ran out of memory.
abbrev pub Closes : Result Error WatchError → Error → SinkView → SinkView → Type 0
Closes (Ok closing) error old new = (closing ≡ error) × (failure_of error ≡ None) × Gains (end_line error) old new
Closes (Err Memory) error old new =
    ((failure_of error ≡ Some Memory) × (new ≡ old))
    ⊎ ((failure_of error ≡ None) × (count : ℕ) × Stops refusals.Memory (end_line error) old new count)
Closes (Err ReadFault) error old new = (failure_of error ≡ Some ReadFault) × (new ≡ old)
Closes (Err WriteFault) error old new =
    (failure_of error ≡ None) × (count : ℕ) × Stops refusals.Failed (end_line error) old new count
