-- Reading a script: line by line, with the first line outside the table or out of its order.
use Rattle.std.specs.Prelude.{ℕ, ◌≡◌, ◌+◌, ◌<◌, ◌≤◌, ◌⊎◌, Bool, true, false, ◌&&◌, nat_le, if◌then◌else◌, List, [], ◌∷◌, ◌++◌, length, map, ◌≢◌, Option, Some, None, IfSome, Result, Ok, Err}
use Rattle.peer_words.specs.declared.words.Command.{Command}
use Rattle.wire_framing.specs.{declared.memory.Piece.Piece, declared.memory.Piece.TheVariants.{Bytes, Fault}, Views.SourceView, Source.MayRise}
use Rattle.peer_script.specs.{declared.kind.PeerKind.PeerKind, declared.line.Line.Line, declared.line.Line.TheVariants.{Peer, Capacity, Machine, Fds, OutFault, In, InFault, Do, Sent}, declared.reading.Stage.Stage, declared.reading.Stage.TheVariants.{Start, Head, Queued, Known, Sink, Pieces, Commands, Over}, declared.reading.Progress.Progress, declared.script.Setup.Setup, declared.error.ScriptError.ScriptError, Script.{Given, Gave, Broke, Script, line_of, line_count, parts}}
use Rattle.peer_script.specs.declared.kind.PeerKind.TheVariants as kinds
use Rattle.peer_script.specs.declared.error.ScriptError.TheVariants as errors

-- how far a script has come, and what it said so far
pub record Step : Type 0 where
  pub stage : Stage
  pub script : Script

-- before the first line: nothing was said yet, and `direct` or `bus` is wanted
abbrev pub begun : Step
begun = record { stage = Start; script = record { kind = kinds.Direct None; queue = None; machine = None; fds = false; outfault = None; given = []; commands = [] } }

-- the stages, in their order
abbrev pub rank : Stage → ℕ
rank Start = 0
rank Head = 1
rank Queued = 2
rank Known = 3
rank Sink = 4
rank Pieces = 5
rank Commands = 6
rank Over = 7

-- the first stage at which a line may come
abbrev pub first_stage : Line → Stage
first_stage (Peer kind) = Start
first_stage other = Head

-- the last one
abbrev pub last_stage : Line → Stage
last_stage (Peer kind) = Start
last_stage (Capacity limit) = Head
last_stage (Machine id) = Queued
last_stage Fds = Known
last_stage (OutFault count) = Sink
last_stage (In piece) = Pieces
last_stage InFault = Pieces
last_stage (Do command) = Commands
last_stage Sent = Commands

-- the stage once it came
abbrev pub next_stage : Line → Stage
next_stage (Peer kind) = Head
next_stage (Capacity limit) = Queued
next_stage (Machine id) = Known
next_stage Fds = Sink
next_stage (OutFault count) = Pieces
next_stage (In piece) = Pieces
next_stage InFault = Pieces
next_stage (Do command) = Commands
next_stage Sent = Over

-- a line may come at this stage, by the order of a script's lines
abbrev pub may_come : Stage → Line → Bool
may_come stage line = nat_le (rank (first_stage line)) (rank stage) && nat_le (rank stage) (rank (last_stage line))

-- what a line adds to what was read before it
abbrev pub with_line : Line → Script → Script
with_line (Peer kind) s = record s { kind = kind }
with_line (Capacity limit) s = record s { queue = Some limit }
with_line (Machine id) s = record s { machine = Some id }
with_line Fds s = record s { fds = true }
with_line (OutFault count) s = record s { outfault = Some count }
with_line (In piece) s = record s { given = s.given ++ Gave piece ∷ [] }
with_line InFault s = record s { given = s.given ++ Broke ∷ [] }
with_line (Do command) s = record s { commands = s.commands ++ command ∷ [] }
with_line Sent s = s

-- one line more, where it may come at this stage
unfoldable pub take_line : Stage → Script → Option Line → Option Step
take_line stage s None = None
take_line stage s (Some line) = if may_come stage line then Some (record { stage = next_stage line; script = with_line line s }) else None

-- a text may end at each stage but the first
abbrev pub may_end : Stage → Bool
may_end Start = false
may_end p = true

-- the script of a text that ends here, or the number of the line that isn't ended or is missing
abbrev pub end_of : Stage → Script → ℕ → List ℕ → Result Script ℕ
end_of stage s n [] = if may_end stage then Ok s else Err n
end_of stage s n (b ∷ bs) = Err n

-- what the lines behind the n-th give, or n, where the n-th is outside the table or out of order
abbrev pub then_read : Option Step → ℕ → (Step → Result Script ℕ) → Result Script ℕ
then_read (Some r) n more = more r
then_read None n more = Err n

-- The script of the lines from the n-th on, after what was read before: or the number of the first line outside. Behind the
-- last 0x0a nothing may stand.
abbrev pub read_lines : Step → ℕ → List (List ℕ) → Result Script ℕ
read_lines r n [] = Err n
read_lines r n (rest ∷ []) = end_of r.stage r.script n rest
read_lines r n (line ∷ next ∷ lines) = then_read (take_line r.stage r.script (line_of line)) n (λ q. read_lines q (n + 1) (next ∷ lines))

-- The script of a text, or the number of its first line outside the table or out of order, from 1 on: one past the last
-- where a needed line is missing.
unfoldable pub script_of : List ℕ → Result Script ℕ
script_of bytes = read_lines begun 1 (parts bytes)

-- ---- what the calls answer

-- what a source's pieces are
abbrev pub given_of : Piece → Given
given_of (Bytes v) = Gave v.items
given_of Fault = Broke

-- what a source gives by its pieces, in order: bytes, and reads that fail
abbrev pub given : List Piece → List Given
given pieces = map given_of pieces

-- the script that a setup and commands are
abbrev pub script_with : Setup → List Command → Script
script_with setup commands = record {
  kind = setup.kind;
  queue = setup.queue;
  machine = setup.machine;
  fds = setup.fds;
  outfault = setup.outfault;
  given = given setup.pieces.items;
  commands = commands;
}

-- what was read so far
abbrev pub said : Progress → Script
said p = script_with p.setup p.commands.items

-- The first line, without its end, and what stands behind that; or there is no end.
abbrev pub SplitsLine : {A : Type 0} → (A → List ℕ) → (A → List ℕ) → List ℕ → Option A → Type 0
SplitsLine line more text (Some x) = (parts text ≡ line x ∷ parts (more x)) × (length (more x) < length text)
SplitsLine line more text None = parts text ≡ text ∷ []

-- True: the line was taken. False: it may not come.
abbrev pub TakesLine : {E : Type 0} → Result Bool E → Progress → Progress → Line → Type 0
TakesLine (Ok true) old new line = take_line old.stage (said old) (Some line) ≡ Some (record { stage = new.stage; script = said new })
TakesLine (Ok false) old new line = take_line old.stage (said old) (Some line) ≡ None
TakesLine (Err e) old new line = Unit {0}

-- Ok: the text's script. Line: the first line that is outside or out of order.
abbrev pub TellsText : {A : Type 0} → (A → Script) → List ℕ → Result A ScriptError → Type 0
TellsText script bytes (Ok x) = script_of bytes ≡ Ok (script x)
TellsText script bytes (Err (errors.Line n)) = script_of bytes ≡ Err n
TellsText script bytes (Err errors.Memory) = Unit {0}
TellsText script bytes (Err e) = ⊥

-- a text within the limits: 1,000,000 lines and 1,073,741,824 bytes
pub record IsWithin (bytes : List ℕ) : Type 0 where
  pub small : length bytes ≤ 1073741824
  pub few : line_count bytes ≤ 1000000

-- more bytes or more lines than a script has
abbrev pub PassesLimit : List ℕ → Type 0
PassesLimit bytes = (1073741824 < length bytes) ⊎ (1000000 < line_count bytes)

-- Over the whole input: the limits are told before the text is looked at.
abbrev pub TellsScript : {A : Type 0} → (A → Script) → List ℕ → Result A ScriptError → Type 0
TellsScript script bytes (Ok x) = IsWithin bytes × (script_of bytes ≡ Ok (script x))
TellsScript script bytes (Err (errors.Line n)) = IsWithin bytes × (script_of bytes ≡ Err n)
TellsScript script bytes (Err errors.Limit) = PassesLimit bytes
TellsScript script bytes (Err e) = Unit {0}

-- An input fault comes only where the count of faults rose, which never falls. Where a failing call comes before the end,
-- the text isn't looked at.
abbrev pub FaultsTell : {A : Type 0} → Result A ScriptError → SourceView → SourceView → Type 0
FaultsTell (Err errors.InputFault) old new = MayRise old.faults new.faults
FaultsTell (Err errors.Limit) old new = old.faults ≤ new.faults
FaultsTell (Err errors.Memory) old new = old.faults ≤ new.faults
FaultsTell r old new = (old.stop ≢ Some true) × (old.faults ≤ new.faults)

-- The whole input, or why not. A fault comes behind all bytes that are told, where it is told itself.
abbrev pub ReadsInput : {A : Type 0} → (A → List ℕ) → Result A ScriptError → SourceView → Type 0
ReadsInput items (Ok v) source = IfSome source.left (λ bytes. bytes ≡ items v) × IsWithin (items v)
ReadsInput items (Err errors.Limit) source = IfSome source.left PassesLimit
ReadsInput items (Err errors.InputFault) source = source.stop ≢ None → IfSome source.left IsWithin
ReadsInput items (Err (errors.Line n)) source = ⊥
ReadsInput items (Err errors.Memory) source = Unit {0}
