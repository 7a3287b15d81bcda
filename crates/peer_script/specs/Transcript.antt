-- The transcript: the header lines as read, one line for each entry in order, and one `sent` line with all bytes that were
-- sent. Each line ends with 0x0a.
use Rattle.std.specs.{Prelude.{ℕ, Bool, true, false, not, ◌&&◌, ◌==◌, nat_le, if◌then◌else◌, List, [], ◌∷◌, ◌++◌, length, codes, decimal, Option, Some, None}, List.flat_map}
use Rattle.wire_message.specs.{ErrorTexts.io_text, Front.MessageView, Texts.message_line, declared.error.Error.Error}
use Rattle.wire_message.specs.declared.error.Error.TheVariants as errors
use Rattle.peer_words.specs.{declared.words.Outgoing.Outgoing, declared.words.OutgoingKind.OutgoingKind, declared.words.CallOp.CallOp, declared.words.StreamOp.StreamOp, declared.words.ObjectOp.ObjectOp, declared.words.Live.Live, declared.words.Words.Words, declared.answer.Answer.Answer, declared.answer.Entry.Entry, Hex.{hex_two, hex_word}}
use Rattle.peer_words.specs.declared.words.OutgoingKind.TheVariants as outgoing
use Rattle.peer_words.specs.declared.words.CallOp.TheVariants as calls
use Rattle.peer_words.specs.declared.words.StreamOp.TheVariants as ops
use Rattle.peer_words.specs.declared.words.ObjectOp.TheVariants as objects
use Rattle.peer_words.specs.declared.words.Live.TheVariants as live
use Rattle.peer_words.specs.declared.words.Words.TheVariants as words
use Rattle.peer_words.specs.declared.answer.Answer.TheVariants as answers
use Rattle.peer_script.specs.{Word.{text_word, optional_word, flags_word}, declared.kind.PeerKind.PeerKind, declared.script.Setup.Setup, Script.{Given, Gave, Broke, Script}, Reading.script_with}
use Rattle.peer_script.specs.declared.kind.PeerKind.TheVariants as peers

-- a text, or the empty one where there is none
abbrev pub or_empty : Option (List ℕ) → List ℕ
or_empty None = []
or_empty (Some text) = text

-- a byte of what is shown: from 0x20 to 0x7e it stands for itself, but for the backslash
abbrev pub shown_byte : ℕ → List ℕ
shown_byte b = if nat_le 32 b && nat_le b 126 && not (b == 92) then b ∷ [] else 92 ∷ hex_two b

-- a text as it is shown: a byte outside 0x20 to 0x7e, and the backslash, as a backslash and two digits
abbrev pub shown_text : List ℕ → List ℕ
shown_text text = flat_map shown_byte text

-- the word of an error: its variant's name, with the kind for InputOutput and the parameter's name for MissingParameter
abbrev pub error_word : Error → List ℕ
error_word errors.InterfaceNotFound = codes "InterfaceNotFound"
error_word (errors.InputOutput kind) = codes "InputOutput." ++ io_text kind
error_word errors.InvalidField = codes "InvalidField"
error_word errors.ExcessData = codes "ExcessData"
error_word (errors.Variant kind) = codes "Variant"
error_word (errors.Names kind) = codes "Names"
error_word errors.IncorrectEndian = codes "IncorrectEndian"
error_word errors.InvalidReply = codes "InvalidReply"
error_word (errors.MethodError name detail message) = codes "MethodError"
error_word errors.MissingField = codes "MissingField"
error_word errors.InvalidGUID = codes "InvalidGUID"
error_word errors.Unsupported = codes "Unsupported"
error_word (errors.FDO error) = codes "FDO"
error_word errors.NameTaken = codes "NameTaken"
error_word errors.InvalidMatchRule = codes "InvalidMatchRule"
error_word (errors.Failure text) = codes "Failure"
error_word (errors.MissingParameter name) = codes "MissingParameter." ++ text_word name.now
error_word (errors.InterfaceExists name path) = codes "InterfaceExists"
error_word errors.Memory = codes "Memory"
error_word errors.SerialsSpent = codes "SerialsSpent"
error_word errors.UnknownHandle = codes "UnknownHandle"
error_word errors.Busy = codes "Busy"

-- a number, or the word `-` where there is none
abbrev pub optional_decimal : Option ℕ → List ℕ
optional_decimal None = 45 ∷ []
optional_decimal (Some number) = decimal number

-- ---- the words of a command

-- the command's name: `call` for a method call, `signal` for a signal
abbrev pub kind_word : OutgoingKind → List ℕ
kind_word outgoing.Call = codes "call"
kind_word outgoing.Signal = codes "signal"

-- the words of a call or of a signal: `call D P I M F B` or `signal D P I M F B`
abbrev pub outgoing_words : Outgoing → List (List ℕ)
outgoing_words o =
    kind_word o.kind ∷ optional_word o.destination ∷ text_word o.path ∷ optional_word o.interface ∷ text_word o.member ∷ flags_word o.flags ∷ optional_word o.body ∷ []

-- the words that ask something of the call C: `poll C`, `before C Q` or `drop C`
abbrev pub call_words : List ℕ → CallOp → List (List ℕ)
call_words call calls.Poll = codes "poll" ∷ call ∷ []
call_words call (calls.Before before) = codes "before" ∷ call ∷ decimal before ∷ []
call_words call calls.Drop = codes "drop" ∷ call ∷ []

-- the words that ask something of the stream S, such as `take S` or `reply S B`
abbrev pub stream_words : List ℕ → StreamOp → List (List ℕ)
stream_words stream (ops.Reply body) = codes "reply" ∷ stream ∷ optional_word body ∷ []
stream_words stream (ops.Error name body) = codes "error" ∷ stream ∷ text_word name ∷ optional_word body ∷ []
stream_words stream ops.Take = codes "take" ∷ stream ∷ []
stream_words stream (ops.TakeBefore before) = codes "takebefore" ∷ stream ∷ decimal before ∷ []
stream_words stream ops.Clone = codes "clone" ∷ stream ∷ []
stream_words stream ops.Opened = codes "opened" ∷ stream ∷ []
stream_words stream (ops.Queue limit) = codes "queue" ∷ stream ∷ decimal limit ∷ []
stream_words stream (ops.Unstream None) = codes "unstream" ∷ stream ∷ []
stream_words stream (ops.Unstream (Some second)) = codes "unstream" ∷ stream ∷ decimal second ∷ []

-- the words that ask something of the peer's objects: `at P N`, `remove P I`, `iface P I` or `serve`
abbrev pub object_words : ObjectOp → List (List ℕ)
object_words (objects.At path number) = codes "at" ∷ text_word path ∷ decimal number ∷ []
object_words (objects.Remove path interface) = codes "remove" ∷ text_word path ∷ optional_word interface ∷ []
object_words (objects.Interface path interface) = codes "iface" ∷ text_word path ∷ optional_word interface ∷ []
object_words objects.Serve = codes "serve" ∷ []

-- no line of a script is read as one of these
abbrev pub live_words : Live → List (List ℕ)
live_words (live.Written index) = codes "written" ∷ decimal index ∷ []
live_words (live.Fault index) = codes "fault" ∷ decimal index ∷ []
live_words (live.Unique name) = codes "unique" ∷ text_word name ∷ []
live_words (live.Await call) = codes "await" ∷ decimal call ∷ []
live_words (live.Next stream) = codes "next" ∷ decimal stream ∷ []
live_words live.Worker = codes "worker" ∷ []

-- the words of an entry's command, without its lane
abbrev pub entry_words : Words → List (List ℕ)
entry_words (words.Send outgoing) = outgoing_words outgoing
entry_words words.Read = codes "read" ∷ []
entry_words (words.OfCall call op) = call_words (decimal call) op
entry_words words.Stream = codes "stream" ∷ []
entry_words (words.Open max_queued rule) = codes "open" ∷ optional_decimal max_queued ∷ text_word rule ∷ []
entry_words (words.OfStream stream op) = stream_words (decimal stream) op
entry_words (words.MainQueue limit) = codes "mainqueue" ∷ decimal limit ∷ []
entry_words (words.Objects op) = object_words op
entry_words words.Close = codes "close" ∷ []
entry_words (words.Live line) = live_words line

-- words with a space before each
abbrev pub spaced : List (List ℕ) → List ℕ
spaced ws = flat_map (λ w. 32 ∷ w) ws

-- ---- answers

-- the message that was read: its position, its length and its line
abbrev pub got_text : Option MessageView → List ℕ
got_text None = codes "got"
got_text (Some m) = codes "got " ++ decimal m.position ++ 32 ∷ [] ++ decimal (length m.bytes) ++ 32 ∷ [] ++ shown_text (message_line m)

-- the word that says whether something is so, such as whether the peer was given the name that `unique NAME` says: `true` or `false`
abbrev pub truth_word : Bool → List ℕ
truth_word true = codes "true"
truth_word false = codes "false"

-- what stands behind `gone`: the serial of the last RemoveMatch, where one was sent
abbrev pub last_text : Option ℕ → List ℕ
last_text None = []
last_text (Some serial) = codes " serial " ++ decimal serial

-- an answer's text; `read` is the message that the entry read
unfoldable pub answer_text : Option MessageView → Answer → List ℕ
answer_text read (answers.Called call serial) = codes "call " ++ decimal call ++ codes " serial " ++ decimal serial
answer_text read (answers.Sent serial) = codes "sent " ++ decimal serial
answer_text read (answers.Refused error) = codes "refused " ++ error_word error
answer_text read (answers.SendFailed error) = codes "sendfailed " ++ error_word error
answer_text read answers.Got = got_text read
answer_text read (answers.Passed bytes) = codes "passed " ++ decimal (length bytes)
answer_text read (answers.Closed error) = codes "closed " ++ error_word error
answer_text read (answers.Reply position) = codes "reply " ++ decimal position
answer_text read (answers.MethodError m) = codes "methoderror " ++ decimal m.position ++ 32 ∷ [] ++ text_word (or_empty m.error_name)
answer_text read (answers.InvalidReply position) = codes "invalidreply " ++ decimal position
answer_text read answers.NotYet = codes "notyet"
answer_text read answers.NoneBefore = codes "nonebefore"
answer_text read answers.Busy = codes "busy"
answer_text read answers.Dropped = codes "dropped"
answer_text read (answers.Streaming number) = codes "stream " ++ decimal number
answer_text read (answers.Opening number serial) = codes "opening " ++ decimal number ++ codes " serial " ++ decimal serial
answer_text read answers.Opened = codes "opened"
answer_text read (answers.Item position) = codes "item " ++ decimal position
answer_text read answers.Empty = codes "empty"
answer_text read answers.Ended = codes "ended"
answer_text read (answers.Gone last) = codes "gone" ++ last_text last
answer_text read answers.Set = codes "ok"
answer_text read answers.Added = codes "added"
answer_text read answers.Exists = codes "exists"
answer_text read (answers.Removed gone) = codes "removed " ++ truth_word gone
answer_text read (answers.Slot slot) = codes "slot " ++ decimal slot
answer_text read (answers.Served position) = codes "served " ++ decimal position
answer_text read (answers.Silent position) = codes "silent " ++ decimal position
answer_text read answers.Shut = codes "closed"
answer_text read (answers.Named given) = truth_word given
answer_text read answers.Nothing = 45 ∷ []

-- the line of an entry: `LANE WORDS = ANSWER`
unfoldable pub entry_text : Entry → List ℕ
entry_text e = decimal e.lane ++ spaced (entry_words e.words) ++ codes " = " ++ answer_text e.read e.answer ++ 10 ∷ []

-- what the source gives: its bytes, or `infault`
unfoldable pub given_text : Given → List ℕ
given_text (Gave piece) = codes "in " ++ hex_word piece ++ 10 ∷ []
given_text Broke = codes "infault" ++ 10 ∷ []

-- the first line: `direct`, `direct NAME` or `bus NAME`
unfoldable pub peer_text : PeerKind → List ℕ
peer_text (peers.Direct None) = codes "direct" ++ 10 ∷ []
peer_text (peers.Direct (Some name)) = codes "direct " ++ text_word name ++ 10 ∷ []
peer_text (peers.Bus name) = codes "bus " ++ text_word name ++ 10 ∷ []

-- the line `queue N`, where the script sets the main capacity
unfoldable pub capacity_text : Option ℕ → List ℕ
capacity_text None = []
capacity_text (Some limit) = codes "queue " ++ decimal limit ++ 10 ∷ []

-- the line `machine HEX`, where the script sets the id of the machine
unfoldable pub machine_text : Option (List ℕ) → List ℕ
machine_text None = []
machine_text (Some id) = codes "machine " ++ id ++ 10 ∷ []

-- the line `fds`, where the sink takes file descriptors
unfoldable pub fds_text : Bool → List ℕ
fds_text true = codes "fds" ++ 10 ∷ []
fds_text false = []

-- the line `outfault N`, where the sink takes N bytes and then fails a write
unfoldable pub outfault_text : Option ℕ → List ℕ
outfault_text None = []
outfault_text (Some count) = codes "outfault " ++ decimal count ++ 10 ∷ []

-- all bytes that were sent, or `-`
abbrev pub sent_word : List ℕ → List ℕ
sent_word [] = 45 ∷ []
sent_word (b ∷ bs) = hex_word (b ∷ bs)

-- the transcript: the script's header lines, one line for each entry, and one `sent` line with all bytes that were sent
unfoldable pub transcript_text : Script → List Entry → List ℕ → List ℕ
transcript_text s entries sent =
    peer_text s.kind ++ capacity_text s.queue ++ machine_text s.machine ++ fds_text s.fds ++ outfault_text s.outfault ++ flat_map given_text s.given
    ++ flat_map entry_text entries ++ codes "sent " ++ sent_word sent ++ 10 ∷ []

-- the transcript of a setup
abbrev pub transcript_with : Setup → List Entry → List ℕ → List ℕ
transcript_with setup entries sent = transcript_text (script_with setup []) entries sent
