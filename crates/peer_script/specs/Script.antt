-- Script text: a list of lines, each ended by one byte 0x0a: `direct`, perhaps with the peer's unique name, or `bus` with it, perhaps
-- how many messages a stream may hold, perhaps the id of its machine, perhaps the line that its sink takes descriptors, perhaps the bytes that the sink takes, what the
-- source gives, the commands, and perhaps one `sent` line, which is passed over.
use Rattle.std.specs.{Prelude.{ℕ, ◌≡◌, ◌+◌, ◌-◌, ◌<◌, Bool, true, false, not, ◌&&◌, ◌||◌, ◌==◌, nat_le, cond, if◌then◌else◌, List, [], ◌∷◌, ◌++◌, length, take, map, codes, Option, Some, None, is_some, option_map}, List.{slice_split, list_any, count_by}, Char.is_ascii_uppercase}
use Rattle.wire_names.specs.{Names.is_unique_name, Guid.is_guid}
use Rattle.peer_words.specs.{declared.words.Words.Words, declared.words.CallFlags.CallFlags, declared.words.OutgoingKind.OutgoingKind, declared.words.CallOp.CallOp, declared.words.StreamOp.StreamOp, declared.words.ObjectOp.ObjectOp, declared.words.Command.Command, Hex.bytes_of}
use Rattle.peer_words.specs.declared.words.Words.TheVariants as words
use Rattle.peer_words.specs.declared.words.OutgoingKind.TheVariants as outgoing
use Rattle.peer_words.specs.declared.words.CallOp.TheVariants as calls
use Rattle.peer_words.specs.declared.words.StreamOp.TheVariants as ops
use Rattle.peer_words.specs.declared.words.ObjectOp.TheVariants as objects
use Rattle.peer_script.specs.{declared.line.Line.Line, declared.kind.PeerKind.PeerKind, declared.line.Line.TheVariants.{Peer, Capacity, Machine, Fds, OutFault, In, InFault, Do, Sent}, Word.{same, words_of, number_of, text_of, flags_word}}
use Rattle.peer_script.specs.declared.kind.PeerKind.TheVariants as kinds

-- one line of the source: a piece of its bytes, or a read that fails there
pub data Given : Type 0 where
  Gave : (piece : List ℕ) → Given
  Broke : Given

-- What a script says: whether the peer stands on a message bus, and its unique name, where it has one; how many messages a stream may hold, where that is set;
-- the id of its machine, where it is set; whether its sink takes file descriptors; after how many bytes the sink fails a write, where it does; what the source gives;
-- the commands.
pub record Script : Type 0 where
  pub kind : PeerKind
  pub queue : Option ℕ
  pub machine : Option (List ℕ)
  pub fds : Bool
  pub outfault : Option ℕ
  pub given : List Given
  pub commands : List Command

-- the peer stands on a message bus
abbrev pub is_bus : PeerKind → Bool
is_bus (kinds.Direct name) = false
is_bus (kinds.Bus name) = true

-- its unique name, where it has one
abbrev pub name_of : PeerKind → Option (List ℕ)
name_of (kinds.Direct name) = name
name_of (kinds.Bus name) = Some name

-- ---- a line

-- the word `-`, which stands for what is absent
abbrev pub is_absent : List ℕ → Bool
is_absent word = same word (45 ∷ [])

-- a text or a number that may be absent, and is there; None where it can't be read
abbrev pub present : {A : Type 0} → Option A → Option (Option A)
present o = option_map Some o

-- a text, or the word `-` where there is none
abbrev pub optional_of : List ℕ → Option (Option (List ℕ))
optional_of word = if is_absent word then Some None else present (text_of word)

-- a number, or the word `-` where there is none
abbrev pub optional_number : List ℕ → Option (Option ℕ)
optional_number word = if is_absent word then Some None else present (number_of word)

-- the word has this letter
abbrev pub has_letter : ℕ → List ℕ → Bool
has_letter letter word = list_any (λ b. b == letter) word

-- the flags that the letters of a word name
abbrev pub named_flags : List ℕ → CallFlags
named_flags word =
    record {
      no_reply_expected = has_letter 110 word;
      no_auto_start = has_letter 97 word;
      allow_interactive_auth = has_letter 105 word;
      big = has_letter 98 word;
      descriptor = has_letter 100 word;
    }

-- the flags whose one spelling a word is
abbrev pub flags_of : List ℕ → Option CallFlags
flags_of word = if same word (flags_word (named_flags word)) then Some (named_flags word) else None

-- ---- the words of a command

-- what is sent, by the command's name
abbrev pub kind_of : List ℕ → Option OutgoingKind
kind_of name =
    if same name (codes "call") then Some outgoing.Call
    else if same name (codes "signal") then Some outgoing.Signal
    else None

-- A signal has an interface, so that a `-` there is a text.
abbrev pub interface_of : OutgoingKind → List ℕ → Option (Option (List ℕ))
interface_of outgoing.Call word = optional_of word
interface_of outgoing.Signal word = present (text_of word)

-- the call or the signal of the parts `D P I M F B`; None where one of them can't be read
abbrev pub outgoing_of : OutgoingKind → Option (Option (List ℕ)) → Option (List ℕ) → Option (Option (List ℕ)) → Option (List ℕ) → Option CallFlags → Option (Option (List ℕ)) → Option Words
outgoing_of kind (Some destination) (Some path) (Some interface) (Some member) (Some flags) (Some body) =
    Some (words.Send (record { kind = kind; destination = destination; path = path; interface = interface; member = member; flags = flags; body = body }))
outgoing_of kind destination path interface member flags body = None

-- `call D P I M F B` and `signal D P I M F B`, behind the name
abbrev pub sending : OutgoingKind → List (List ℕ) → Option Words
sending kind (destination ∷ path ∷ interface ∷ member ∷ flags ∷ body ∷ []) =
    outgoing_of kind (optional_of destination) (text_of path) (interface_of kind interface) (text_of member) (flags_of flags) (optional_of body)
sending kind others = None

-- what `open Q R` asks, by its capacity and its rule; None where one of them can't be read
abbrev pub open_of : Option (Option ℕ) → Option (List ℕ) → Option Words
open_of (Some max_queued) (Some rule) = Some (words.Open max_queued rule)
open_of max_queued rule = None

-- what `at P N` asks, by its path and its number; None where one of them can't be read
abbrev pub at_of : Option (List ℕ) → Option ℕ → Option ObjectOp
at_of (Some path) (Some number) = Some (objects.At path number)
at_of path number = None

-- what `remove P I` asks, by its path and its interface; None where one of them can't be read
abbrev pub remove_of : Option (List ℕ) → Option (Option (List ℕ)) → Option ObjectOp
remove_of (Some path) (Some interface) = Some (objects.Remove path interface)
remove_of path interface = None

-- what `iface P I` asks, by its path and its interface; None where one of them can't be read
abbrev pub iface_of : Option (List ℕ) → Option (Option (List ℕ)) → Option ObjectOp
iface_of (Some path) (Some interface) = Some (objects.Interface path interface)
iface_of path interface = None

-- what is asked of the peer's objects at a path, by the name, the path and the word behind it: `at P N`, `remove P I`, `iface P I`; a path may be the text `-`
abbrev pub object_op : List ℕ → List ℕ → List ℕ → Option ObjectOp
object_op name path word =
    if same name (codes "at") then at_of (text_of path) (number_of word)
    else if same name (codes "remove") then remove_of (text_of path) (optional_of word)
    else if same name (codes "iface") then iface_of (text_of path) (optional_of word)
    else None

-- what asks nothing of a call or of a stream: `read`, `stream`, `close`, `mainqueue N`, `open Q R`, and what is asked of objects, `serve` or
-- with a path; a rule may be the text `-`
abbrev pub plain : List ℕ → List (List ℕ) → Option Words
plain name [] =
    if same name (codes "read") then Some words.Read
    else if same name (codes "stream") then Some words.Stream
    else if same name (codes "serve") then Some (words.Objects objects.Serve)
    else if same name (codes "close") then Some words.Close
    else None
plain name (limit ∷ []) = if same name (codes "mainqueue") then option_map words.MainQueue (number_of limit) else None
plain name (first ∷ second ∷ []) =
    if same name (codes "open") then open_of (optional_number first) (text_of second) else option_map words.Objects (object_op name first second)
plain name others = None

-- what is asked of a call, by the name and what stands behind the number: `poll C`, `drop C`, `before C Q`
abbrev pub call_op : List ℕ → List (List ℕ) → Option CallOp
call_op name [] =
    if same name (codes "poll") then Some calls.Poll
    else if same name (codes "drop") then Some calls.Drop
    else None
call_op name (word ∷ []) = if same name (codes "before") then option_map calls.Before (number_of word) else None
call_op name others = None

-- what `error S NAME B` asks, by its name and its body; None where one of them can't be read
abbrev pub error_op : Option (List ℕ) → Option (Option (List ℕ)) → Option StreamOp
error_op (Some name) (Some body) = Some (ops.Error name body)
error_op name body = None

-- what is asked of a stream with one more number
abbrev pub numbered_op : List ℕ → Option ℕ → Option StreamOp
numbered_op name number =
    if same name (codes "takebefore") then option_map ops.TakeBefore number
    else if same name (codes "queue") then option_map ops.Queue number
    else if same name (codes "unstream") then option_map ops.Unstream (present number)
    else None

-- what is asked of a stream: `take S`, `opened S`, `clone S`, `unstream S`, `takebefore S Q`, `queue S N`, `unstream S T`, `reply S B`,
-- `error S NAME B`
abbrev pub stream_op : List ℕ → List (List ℕ) → Option StreamOp
stream_op name [] =
    if same name (codes "take") then Some ops.Take
    else if same name (codes "opened") then Some ops.Opened
    else if same name (codes "clone") then Some ops.Clone
    else if same name (codes "unstream") then Some (ops.Unstream None)
    else None
stream_op name (word ∷ []) =
    if same name (codes "reply") then option_map ops.Reply (optional_of word) else numbered_op name (number_of word)
stream_op name (error ∷ body ∷ []) = if same name (codes "error") then error_op (text_of error) (optional_of body) else None
stream_op name others = None

-- the call, or the stream, with this number
abbrev pub asking : Option ℕ → Option CallOp → Option StreamOp → Option Words
asking (Some number) (Some op) other = Some (words.OfCall number op)
asking (Some number) None (Some op) = Some (words.OfStream number op)
asking number call stream = None

-- what is asked of a call or of a stream, whose number stands behind the command's name
abbrev pub asking_words : List ℕ → List (List ℕ) → Option Words
asking_words name (number ∷ more) = asking (number_of number) (call_op name more) (stream_op name more)
asking_words name [] = None

-- the first of the two that is there
abbrev pub or_else : {A : Type 0} → Option A → Option A → Option A
or_else (Some x) other = Some x
or_else None other = other

-- a command by its name, `call`, `signal` or another, and the words behind that
abbrev pub named_words : Option OutgoingKind → List ℕ → List (List ℕ) → Option Words
named_words (Some kind) name more = sending kind more
named_words None name more = or_else (plain name more) (asking_words name more)

-- the words of a command, without its lane; no name and count of words is in two of the groups
unfoldable pub command_words : List (List ℕ) → Option Words
command_words [] = None
command_words (name ∷ more) = named_words (kind_of name) name more

-- the command of these words in this lane, where there are any
abbrev pub in_lane : ℕ → Option Words → Option Command
in_lane lane o = option_map (λ w. record { lane = lane; words = w }) o

-- a command behind its lane, a number from 0 to 63; without one it is of lane 0
abbrev pub with_lane : Option ℕ → List ℕ → List (List ℕ) → Option Command
with_lane (Some lane) word rest = if nat_le lane 63 then in_lane lane (command_words rest) else None
with_lane None word rest = in_lane 0 (command_words (word ∷ rest))

-- a command's words, behind a lane of at most 63 where the first word is a number; else it is of lane 0
abbrev pub lane_words : List (List ℕ) → Option Command
lane_words [] = None
lane_words (word ∷ rest) = with_lane (number_of word) word rest

-- what stands before the first ` = `; what stands from there on is passed over
abbrev pub before_answer : List ℕ → List ℕ
before_answer [] = []
before_answer (a ∷ []) = a ∷ []
before_answer (a ∷ b ∷ []) = a ∷ b ∷ []
before_answer (a ∷ b ∷ c ∷ rest) = if (a == 32) && (b == 61) && (c == 32) then [] else a ∷ before_answer (b ∷ c ∷ rest)

-- the command that a line is: `[LANE ]WORDS[ = TEXT]`
abbrev pub command_line : List ℕ → Option Command
command_line line = lane_words (words_of (before_answer line))

-- a name behind `direct` or `bus` is a unique name
abbrev pub unique_of : Option (List ℕ) → Option (List ℕ)
unique_of (Some name) = if is_unique_name name then Some name else None
unique_of None = None

-- the id of a machine: a GUID without an upper-case letter
abbrev pub is_machine_id : List ℕ → Bool
is_machine_id word = is_guid word && not (list_any is_ascii_uppercase word)

-- the word behind `machine` is such an id
abbrev pub machine_of : List ℕ → Option (List ℕ)
machine_of word = if is_machine_id word then Some word else None

-- the line `sent HEX` or `sent -`, by the word behind `sent`
abbrev pub sent_line : List ℕ → Option Line
sent_line word = if is_absent word || is_some (bytes_of word) then Some Sent else None

-- the header lines and the `sent` line, by their words
unfoldable pub head_line : List (List ℕ) → Option Line
head_line (name ∷ []) =
    if same name (codes "direct") then Some (Peer (kinds.Direct None))
    else if same name (codes "fds") then Some Fds
    else if same name (codes "infault") then Some InFault
    else None
head_line (name ∷ word ∷ []) =
    if same name (codes "direct") then option_map (λ name. Peer (kinds.Direct (Some name))) (unique_of (text_of word))
    else if same name (codes "bus") then option_map (λ name. Peer (kinds.Bus name)) (unique_of (text_of word))
    else if same name (codes "in") then option_map In (bytes_of word)
    else if same name (codes "queue") then option_map Capacity (number_of word)
    else if same name (codes "machine") then option_map Machine (machine_of word)
    else if same name (codes "outfault") then option_map OutFault (number_of word)
    else if same name (codes "sent") then sent_line word
    else None
head_line others = None

-- what a line is, where it is in the table; no line is both
unfoldable pub line_of : List ℕ → Option Line
line_of line = or_else (head_line (words_of line)) (option_map Do (command_line line))

-- ---- a text

-- the lines of a text, each ended by 0x0a; `rest` is what stands behind the last
abbrev pub parts : List ℕ → List (List ℕ)
parts bytes = slice_split (λ b. b == 10) bytes

-- the last line of a text isn't ended: the last byte isn't 0x0a
abbrev pub is_open : List ℕ → Bool
is_open [] = false
is_open (b ∷ []) = not (b == 10)
is_open (b ∷ c ∷ rest) = is_open (c ∷ rest)

-- How many lines a text has: each byte 0x0a ends one, and bytes behind the last one are one more.
unfoldable pub line_count : List ℕ → ℕ
line_count text = count_by (λ b. b == 10) text + cond (is_open text) 1 0

-- the line `queue N`, where the script sets the main capacity
abbrev pub capacity_lines : Option ℕ → List Line
capacity_lines (Some limit) = Capacity limit ∷ []
capacity_lines None = []

-- the line `machine HEX`, where the script sets the id of the machine
abbrev pub machine_lines : Option (List ℕ) → List Line
machine_lines (Some id) = Machine id ∷ []
machine_lines None = []

-- the line `fds`, where the sink takes file descriptors
abbrev pub fds_lines : Bool → List Line
fds_lines true = Fds ∷ []
fds_lines false = []

-- the line `outfault N`, where the sink takes N bytes and then fails a write
abbrev pub outfault_lines : Option ℕ → List Line
outfault_lines (Some count) = OutFault count ∷ []
outfault_lines None = []

-- the line of what the source gives: `in HEX` of bytes, `infault` of a read that fails
abbrev pub given_line : Given → Line
given_line (Gave piece) = In piece
given_line Broke = InFault

-- the last line, `sent HEX` or `sent -`, where there is one
abbrev pub sent_lines : Bool → List Line
sent_lines true = Sent ∷ []
sent_lines false = []

-- the lines of a script, in their order
abbrev pub script_lines : Script → Bool → List Line
script_lines s sent = Peer s.kind ∷ capacity_lines s.queue ++ machine_lines s.machine ++ fds_lines s.fds ++ outfault_lines s.outfault ++ map given_line s.given ++ map Do s.commands ++ sent_lines sent

-- The bytes are the text of this script: each line is ended, and the lines are `direct` or `bus`, perhaps `queue`, perhaps `machine`,
-- perhaps `fds`, perhaps `outfault`, the source's lines, the commands, and perhaps one `sent`.
pub record ScriptText (bytes : List ℕ) (s : Script) : Type 0 where
  pub lines : List (List ℕ)
  pub sent : Bool
  pub ended : parts bytes ≡ lines ++ [] ∷ []
  pub each : map line_of lines ≡ map Some (script_lines s sent)

-- the first n lines of a text, each of them ended, are the first n of some script
pub record Begins (bytes : List ℕ) (n : ℕ) : Type 0 where
  pub script : Script
  pub sent : Bool
  pub ended : n < length (parts bytes)
  pub each : map line_of (take n (parts bytes)) ≡ map Some (take n (script_lines script sent))

-- Line n of a text, from 1 on, is the first outside: the lines before it begin a script, with it they don't, and the text isn't
-- a script's.
pub record FirstOutside (bytes : List ℕ) (n : ℕ) : Type 0 where
  pub numbered : 0 < n
  pub before : Begins bytes (n - 1)
  pub outside : Begins bytes n → ⊥
  pub other : (s : Script) → ScriptText bytes s → ⊥
