-- Transcripts as scripts: the command of an entry, and the entries whose lines are read again.
use Rattle.std.specs.{Prelude.{ℕ, ◌≡◌, ◌<◌, ◌≤◌, ◌^◌, Bool, false, List, length, map, Ok, Option, Some, None, IfSome, IsTrue}, List.All}
use Rattle.peer_words.specs.{declared.words.Outgoing.Outgoing, declared.words.OutgoingKind.OutgoingKind, declared.words.CallOp.CallOp, declared.words.StreamOp.StreamOp, declared.words.ObjectOp.ObjectOp, declared.words.Words.Words, declared.words.Command.Command, declared.answer.Answer.Answer, declared.answer.Entry.Entry}
use Rattle.peer_words.specs.declared.words.OutgoingKind.TheVariants as outgoing
use Rattle.peer_words.specs.declared.words.CallOp.TheVariants as calls
use Rattle.peer_words.specs.declared.words.StreamOp.TheVariants as ops
use Rattle.peer_words.specs.declared.words.ObjectOp.TheVariants as objects
use Rattle.peer_words.specs.declared.words.Words.TheVariants as words
use Rattle.peer_words.specs.declared.answer.Answer.TheVariants as answers
use Rattle.wire_message.specs.{Front.MessageView, Texts.message_line, declared.error.Error.Error}
use Rattle.wire_message.specs.declared.error.Error.TheVariants as errors
use Rattle.wire_names.specs.Names.{IsUniqueName}
use Rattle.peer_script.specs.{declared.kind.PeerKind.PeerKind, Script.{Given, Gave, Broke, Script, is_absent, is_machine_id}, Reading.script_of, Transcript.{or_empty, transcript_text}}
use Rattle.peer_script.specs.declared.kind.PeerKind.TheVariants as kinds

-- the command that an entry answers
abbrev pub command_of : Entry → Command
command_of e = record { lane = e.lane; words = e.words }

-- bytes, of which there is at least one
pub record SomeBytes (text : List ℕ) : Type 0 where
  pub some : 0 < length text
  pub bytes : All (λ b. b < 256) text

-- a text that isn't the word for none
pub record Present (text : List ℕ) : Type 0 where
  pub some : SomeBytes text
  pub other : is_absent text ≡ false

-- a text that may be left out is no empty one, and isn't the word for none
abbrev pub IsOptional : Option (List ℕ) → Type 0
IsOptional None = Unit {0}
IsOptional (Some text) = Present text

-- a text that must be there, which may be the word for none
abbrev pub IsThere : Option (List ℕ) → Type 0
IsThere None = ⊥
IsThere (Some text) = SomeBytes text

-- a signal has an interface
abbrev pub IsInterface : OutgoingKind → Option (List ℕ) → Type 0
IsInterface outgoing.Call name = IsOptional name
IsInterface outgoing.Signal name = IsThere name

-- the words of a call or of a signal
pub record OutgoingText (o : Outgoing) : Type 0 where
  pub destination : IsOptional o.destination
  pub path : SomeBytes o.path
  pub interface : IsInterface o.kind o.interface
  pub member : SomeBytes o.member
  pub body : IsOptional o.body

-- a number that is below 2^64, where there is one
abbrev pub IsCount : Option ℕ → Type 0
IsCount None = Unit {0}
IsCount (Some count) = count < 2 ^ 64

-- the position that it names, if it names one, is below 2^64
abbrev pub HasCallText : CallOp → Type 0
HasCallText (calls.Before before) = before < 2 ^ 64
HasCallText op = Unit {0}

-- its texts are words, and its numbers are below 2^64
abbrev pub HasStreamText : StreamOp → Type 0
HasStreamText (ops.Reply body) = IsOptional body
HasStreamText (ops.Error name body) = SomeBytes name × IsOptional body
HasStreamText (ops.TakeBefore before) = before < 2 ^ 64
HasStreamText (ops.Queue limit) = limit < 2 ^ 64
HasStreamText (ops.Unstream second) = IsCount second
HasStreamText op = Unit {0}

-- its texts are words, and its number is below 2^64; `serve` has none
abbrev pub HasObjectText : ObjectOp → Type 0
HasObjectText (objects.At path number) = SomeBytes path × (number < 2 ^ 64)
HasObjectText (objects.Remove path interface) = SomeBytes path × IsOptional interface
HasObjectText (objects.Interface path interface) = SomeBytes path × IsOptional interface
HasObjectText objects.Serve = Unit {0}

-- words that a line of a script says
abbrev pub HasText : Words → Type 0
HasText (words.Send outgoing) = OutgoingText outgoing
HasText words.Read = Unit {0}
HasText (words.OfCall call op) = (call < 2 ^ 64) × HasCallText op
HasText words.Stream = Unit {0}
HasText (words.Open max_queued rule) = IsCount max_queued × SomeBytes rule
HasText (words.OfStream stream op) = (stream < 2 ^ 64) × HasStreamText op
HasText (words.MainQueue limit) = limit < 2 ^ 64
HasText (words.Objects op) = HasObjectText op
HasText words.Close = Unit {0}
HasText (words.Live line) = ⊥

-- the name of a missing parameter is of bytes
abbrev pub HasBytes : Error → Type 0
HasBytes (errors.MissingParameter name) = All (λ b. b < 256) name.now
HasBytes error = Unit {0}

-- the numbers of a message that was read are below 2^64, and its line is of bytes
abbrev pub IsShown : Option MessageView → Type 0
IsShown None = Unit {0}
IsShown (Some m) = (m.position < 2 ^ 64) × (length m.bytes < 2 ^ 64) × All (λ b. b < 256) (message_line m)

-- the numbers of an answer are below 2^64, and its texts are bytes; `read` is the message that the entry read
abbrev pub HasNumbers : Option MessageView → Answer → Type 0
HasNumbers read (answers.Called call serial) = (call < 2 ^ 64) × (serial < 2 ^ 64)
HasNumbers read (answers.Sent serial) = serial < 2 ^ 64
HasNumbers read (answers.MethodError m) = (m.position < 2 ^ 64) × All (λ b. b < 256) (or_empty m.error_name)
HasNumbers read answers.Got = IsShown read
HasNumbers read (answers.Passed bytes) = length bytes < 2 ^ 64
HasNumbers read (answers.Reply position) = position < 2 ^ 64
HasNumbers read (answers.InvalidReply position) = position < 2 ^ 64
HasNumbers read (answers.Refused error) = HasBytes error
HasNumbers read (answers.SendFailed error) = HasBytes error
HasNumbers read (answers.Closed error) = HasBytes error
HasNumbers read (answers.Streaming number) = number < 2 ^ 64
HasNumbers read (answers.Opening number serial) = (number < 2 ^ 64) × (serial < 2 ^ 64)
HasNumbers read (answers.Item position) = position < 2 ^ 64
HasNumbers read (answers.Gone last) = IsCount last
HasNumbers read (answers.Slot slot) = slot < 2 ^ 64
HasNumbers read (answers.Served position) = position < 2 ^ 64
HasNumbers read (answers.Silent position) = position < 2 ^ 64
HasNumbers read other = Unit {0}

-- an entry of a command that a script can hold
pub record CanBeRead (e : Entry) : Type 0 where
  pub lane : e.lane ≤ 63
  pub text : HasText e.words
  pub numbers : HasNumbers e.read e.answer

-- a piece that a script can hold: it has at least one byte
abbrev pub IsGiven : Given → Type 0
IsGiven (Gave piece) = SomeBytes piece
IsGiven Broke = Unit {0}

-- a unique name of bytes, where there is one
abbrev pub IsName : PeerKind → Type 0
IsName (kinds.Direct None) = Unit {0}
IsName (kinds.Direct (Some name)) = SomeBytes name × IsUniqueName name
IsName (kinds.Bus name) = SomeBytes name × IsUniqueName name

-- the id of a machine, where there is one
abbrev pub IsMachine : Option (List ℕ) → Type 0
IsMachine machine = IfSome machine (λ id. IsTrue (is_machine_id id))

-- The transcript is read again as the script of its header lines and of its entries' commands.
abbrev pub TranscriptsAreRead : Type 0
TranscriptsAreRead =
    (s : Script) (entries : List Entry) (sent : List ℕ)
    → IsName s.kind → IsCount s.queue → IsMachine s.machine → IsCount s.outfault → All IsGiven s.given → All CanBeRead entries → All (λ b. b < 256) sent
    → script_of (transcript_text s entries sent) ≡ Ok (record s { commands = map command_of entries })
