-- Each line of a transcript is read again, and so is the whole.
use Rattle.std.proofs.{Common.{ℕ, ◌≡◌, ◌/◌, ◌%◌, ◌^◌, ◌<◌, Bool, true, false, not, ◌&&◌, ◌||◌, nat_eq, nat_le, if◌then◌else◌, List, [], ◌∷◌, ◌++◌, length, map, Option, Some, None, is_some, codes, decimal, refl, sym, ap, subst, ◌∙◌, arith, append_assoc, append-nil}, lemmas.Bool.Decides.nat_tests, lemmas.List.Elements.{All-head, All-tail, All-from_recursion}}
use Rattle.std.specs.{List.{list_all, flat_map, All}, Char.is_ascii_hexdigit}
use Rattle.wire_names.specs.Guid.{is_guid}
use Rattle.wire_message.specs.{ErrorTexts.io_text, Front.MessageView, Texts.message_line, declared.error.Error.Error, declared.error.IoKind.IoKind}
use Rattle.wire_message.specs.declared.error.Error.TheVariants as errors
use Rattle.wire_message.specs.declared.error.IoKind.TheVariants as kinds
use Rattle.peer_words.specs.{declared.words.Words.Words, declared.words.Command.Command, declared.answer.Answer.Answer, declared.answer.Entry.Entry, Hex.{bytes_of, hex_digit, hex_two, hex_word}}
use Rattle.peer_words.specs.declared.answer.Answer.TheVariants as answers
use Rattle.peer_script.specs.{declared.kind.PeerKind.PeerKind, declared.line.Line.Line, declared.line.Line.TheVariants.{Peer, Capacity, Machine, Fds, OutFault, In, InFault, Do, Sent}, Word.{same, words_of, number_of, text_word}, Script.{is_machine_id, Given, Gave, Broke, Script, ScriptText, given_line, capacity_lines, machine_lines, fds_lines, outfault_lines, parts, lane_words, command_words, command_line, head_line, line_of, script_lines}, Transcript.{or_empty, shown_byte, shown_text, error_word, spaced, entry_words, got_text, truth_word, last_text, answer_text, entry_text, given_text, peer_text, capacity_text, machine_text, fds_text, outfault_text, sent_word, transcript_text}, Again.{command_of, HasBytes, IsShown, HasNumbers, CanBeRead, IsGiven, IsName, IsCount, IsMachine}}
use Rattle.peer_script.specs.declared.kind.PeerKind.TheVariants as peers
use Rattle.peer_words.proofs.Spelled.{bytes_again}
use Rattle.peer_script.proofs.{Grammar.mapped, Digits.{number_again, decimal_digits}, Spelling.{text_again}, Commands.{digit_byte, hex_bytes, text_bytes, text_is_word, number_is_word, command_again, no_head}, Again.{word_byte, line_byte, both, first, second, weaker, joined, word_line, digits_word, line_part, IsWord, named, words_again, words_alone, before_again}}

-- ---- a line, and a text of lines

-- the text's lines are read as these, whatever stands behind it
record Lines (text : List ℕ) (ls : List Line) : Type 0 where
  lines : List (List ℕ)
  parted : (rest : List ℕ) → parts (text ++ rest) ≡ lines ++ parts rest
  each : map line_of lines ≡ map Some ls

nothing : Lines [] []
nothing = record { lines = []; parted = λ rest. refl; each = refl }

one : (line : List ℕ) (l : Line) → list_all line_byte line ≡ true → line_of line ≡ Some l → Lines (line ++ 10 ∷ []) (l ∷ [])
one line l b e =
    record { lines = line ∷ []; parted = λ rest. ap parts (append_assoc line (10 ∷ []) rest) ∙ line_part line rest b; each = ap (λ x. x ∷ []) e }

behind : (a b : List ℕ) (ls ms : List Line) → Lines a ls → Lines b ms → Lines (a ++ b) (ls ++ ms)
behind a b ls ms x y =
    record {
      lines = x.lines ++ y.lines;
      parted = λ rest. ap parts (append_assoc a b rest) ∙ x.parted (b ++ rest) ∙ ap (λ l. x.lines ++ l) (y.parted rest) ∙ sym (append_assoc x.lines y.lines (parts rest));
      each = mapped line_of x.lines y.lines ∙ ap (λ l. l ++ map line_of y.lines) x.each ∙ ap (λ l. map Some ls ++ l) y.each ∙ sym (mapped Some ls ms);
    }

many : {A : Type 0} (P : A → Type 0) (text : A → List ℕ) (line : A → Line) → ((x : A) → P x → Lines (text x) (line x ∷ [])) → (xs : List A) → All P xs
    → Lines (flat_map text xs) (map line xs)
many P text line f [] h = nothing
many P text line f (x ∷ xs) h =
    behind (text x) (flat_map text xs) (line x ∷ []) (map line xs) (f x (All-head P x xs h)) (many P text line f xs (All-tail P x xs h))

-- a line of words, of which the header lines are
spaced_bytes : (ws : List (List ℕ)) → All IsWord ws → list_all line_byte (spaced ws) ≡ true
spaced_bytes [] h = refl
spaced_bytes (w ∷ ws) h = joined line_byte (32 ∷ w) (spaced ws) (word_line w (All-head IsWord w ws h).bytes) (spaced_bytes ws (All-tail IsWord w ws h))

head_again : (line : List ℕ) (l : Line) → head_line (words_of line) ≡ Some l → line_of line ≡ Some l
unfolding line_of
head_again line l e = rw e refl

pair : (name word : List ℕ) (l : Line) → IsWord name → IsWord word → head_line (name ∷ word ∷ []) ≡ Some l → Lines ((name ++ 32 ∷ word) ++ 10 ∷ []) (l ∷ [])
pair name word l n w e =
    one (name ++ 32 ∷ word) l (joined line_byte name (32 ∷ word) (word_line name n.bytes) (word_line word w.bytes))
    (head_again (name ++ 32 ∷ word) l
    (ap (λ x. head_line (words_of (name ++ 32 ∷ x))) (sym (append-nil word)) ∙ ap head_line (words_alone name (word ∷ []) n (All-from_recursion IsWord (word ∷ []) (w, tt))) ∙ e))

-- ---- the header lines

and_no : (v : Bool) → (v && false) ≡ false
and_no true = refl
and_no false = refl

peer_lines : (kind : PeerKind) → IsName kind → Lines (peer_text kind) (Peer kind ∷ [])
unfolding peer_text line_of head_line
peer_lines (peers.Direct None) h = one (codes "direct") (Peer (peers.Direct None)) refl refl
peer_lines (peers.Direct (Some name)) h =
    pair (codes "direct") (text_word name) (Peer (peers.Direct (Some name))) (named (codes "direct") refl) (text_is_word name h.0) (rw (text_again name h.0.some h.0.bytes, h.1) refl)
peer_lines (peers.Bus name) h =
    pair (codes "bus") (text_word name) (Peer (peers.Bus name)) (named (codes "bus") refl) (text_is_word name h.0) (rw (text_again name h.0.some h.0.bytes, h.1) refl)

queue_lines : (queue : Option ℕ) → IsCount queue → Lines (capacity_text queue) (capacity_lines queue)
unfolding capacity_text head_line
queue_lines None h = nothing
queue_lines (Some n) h = pair (codes "queue") (decimal n) (Capacity n) (named (codes "queue") refl) (number_is_word n h) (rw (number_again n h) refl)

id_bytes : (id : List ℕ) → list_all is_ascii_hexdigit id ≡ true → list_all word_byte id ≡ true
id_bytes id h = weaker is_ascii_hexdigit word_byte (λ b e. grind (arith, nat_tests)) id h

id_other : (id : List ℕ) → length id ≡ 32 → same id (61 ∷ []) ≡ false
id_other [] h = refl
id_other (b ∷ []) h = absurd (omega arith)
id_other (b ∷ c ∷ id) h = and_no (nat_eq b 61)

id_is_word : (id : List ℕ) → is_machine_id id ≡ true → IsWord id
unfolding is_guid
id_is_word id h =
    let guid = first (is_guid id) _ h in
    let long : length id ≡ 32 = grind (arith, nat_tests) in
    record { bytes = id_bytes id (second (nat_eq (length id) 32) _ guid); some = omega arith; other = id_other id long }

machine_lines_are : (machine : Option (List ℕ)) → IsMachine machine → Lines (machine_text machine) (machine_lines machine)
unfolding machine_text head_line
machine_lines_are None h = nothing
machine_lines_are (Some id) h = pair (codes "machine") id (Machine id) (named (codes "machine") refl) (id_is_word id h) (rw h refl)

sink_lines : (fds : Bool) → Lines (fds_text fds) (fds_lines fds)
unfolding fds_text line_of head_line
sink_lines true = one (codes "fds") Fds refl refl
sink_lines false = nothing

fault_lines : (out : Option ℕ) → IsCount out → Lines (outfault_text out) (outfault_lines out)
unfolding outfault_text head_line
fault_lines None h = nothing
fault_lines (Some n) h = pair (codes "outfault") (decimal n) (OutFault n) (named (codes "outfault") refl) (number_is_word n h) (rw (number_again n h) refl)

hex_is_word : (bytes : List ℕ) → 0 < length bytes → All (λ b. b < 256) bytes → IsWord (hex_word bytes)
hex_is_word [] some h = absurd (omega arith)
hex_is_word (b ∷ bytes) some h = record { bytes = hex_bytes (b ∷ bytes) h; some = omega arith; other = and_no (nat_eq (hex_digit (b / 16)) 61) }

given_lines : (g : Given) → IsGiven g → Lines (given_text g) (given_line g ∷ [])
unfolding given_text line_of head_line
given_lines (Gave p) h =
    pair (codes "in") (hex_word p) (In p) (named (codes "in") refl) (hex_is_word p h.some h.bytes) (rw (bytes_again p h.some h.bytes) refl)
given_lines Broke h = one (codes "infault") InFault refl refl

sent_by : (p q : Bool) → q ≡ true → (if p || q then Some Sent else None) ≡ Some Sent
sent_by true q e = refl
sent_by false q e = rw e refl

sent_again : (word : List ℕ) → is_some (bytes_of word) ≡ true → head_line (codes "sent" ∷ word ∷ []) ≡ Some Sent
unfolding head_line
sent_again word e = sent_by (same word (45 ∷ [])) (is_some (bytes_of word)) e

sent_lines_are : (sent : List ℕ) → All (λ b. b < 256) sent → Lines ((codes "sent " ++ sent_word sent) ++ 10 ∷ []) (Sent ∷ [])
unfolding line_of head_line
sent_lines_are [] h = one (codes "sent -") Sent refl refl
sent_lines_are (b ∷ bytes) h =
    pair (codes "sent") (hex_word (b ∷ bytes)) Sent (named (codes "sent") refl) (hex_is_word (b ∷ bytes) (omega arith) h)
    (sent_again (hex_word (b ∷ bytes)) (ap is_some (bytes_again (b ∷ bytes) (omega arith) h)))

-- ---- the line of an entry: what it says

number_line : (n : ℕ) → n < 2 ^ 64 → list_all line_byte (decimal n) ≡ true
number_line n h = word_line (decimal n) (digits_word (decimal n) (decimal_digits n h))

shown_by : (b : ℕ) (v : Bool) → b < 256 → (nat_le 32 b && nat_le b 126 && not (nat_eq b 92)) ≡ v → list_all line_byte (if v then b ∷ [] else 92 ∷ hex_two b) ≡ true
shown_by b true h e = grind (arith, nat_tests)
shown_by b false h e = word_line (92 ∷ hex_two b) (both _ _ (digit_byte (b / 16) (omega arith)) (both _ _ (digit_byte (b % 16) (omega arith)) refl))

shown_line : (text : List ℕ) → All (λ b. b < 256) text → list_all line_byte (shown_text text) ≡ true
shown_line [] h = refl
shown_line (b ∷ text) h =
    joined line_byte (shown_byte b) (shown_text text) (shown_by b _ (All-head (λ b. b < 256) b text h) refl) (shown_line text (All-tail (λ b. b < 256) b text h))

io_line : (kind : IoKind) → list_all line_byte (io_text kind) ≡ true
io_line kinds.Ended = refl
io_line k = refl

error_line : (error : Error) → HasBytes error → list_all line_byte (error_word error) ≡ true
error_line (errors.InputOutput kind) h = joined line_byte (codes "InputOutput.") (io_text kind) refl (io_line kind)
error_line (errors.MissingParameter name) h = joined line_byte (codes "MissingParameter.") (text_word name.now) refl (word_line (text_word name.now) (text_bytes name.now h))
error_line e h = refl

-- what was made, and its serial
made_line : (what : List ℕ) (n serial : ℕ) → list_all line_byte what ≡ true → n < 2 ^ 64 → serial < 2 ^ 64
    → list_all line_byte (what ++ decimal n ++ codes " serial " ++ decimal serial) ≡ true
made_line what n serial w h k =
    joined line_byte (what ++ decimal n ++ codes " serial ") (decimal serial)
    (joined line_byte (what ++ decimal n) (codes " serial ") (joined line_byte what (decimal n) w (number_line n h)) refl) (number_line serial k)

got_line : (read : Option MessageView) → IsShown read → list_all line_byte (got_text read) ≡ true
got_line None h = refl
got_line (Some m) h =
    let place = codes "got " ++ decimal m.position in
    let first : list_all line_byte place ≡ true = joined line_byte (codes "got ") (decimal m.position) refl (number_line m.position h.0) in
    let second = joined line_byte place (32 ∷ []) first refl in
    let third = joined line_byte (place ++ 32 ∷ []) (decimal (length m.bytes)) second (number_line (length m.bytes) h.1) in
    let fourth = joined line_byte (place ++ 32 ∷ [] ++ decimal (length m.bytes)) (32 ∷ []) third refl in
    joined line_byte (place ++ 32 ∷ [] ++ decimal (length m.bytes) ++ 32 ∷ []) (shown_text (message_line m)) fourth (shown_line (message_line m) h.2)

truth_line : (is_so : Bool) → list_all line_byte (truth_word is_so) ≡ true
truth_line true = refl
truth_line false = refl

last_line : (last : Option ℕ) → IsCount last → list_all line_byte (last_text last) ≡ true
last_line None h = refl
last_line (Some serial) h = joined line_byte (codes " serial ") (decimal serial) refl (number_line serial h)

answer_line : (read : Option MessageView) (a : Answer) → HasNumbers read a → list_all line_byte (answer_text read a) ≡ true
unfolding answer_text
answer_line read (answers.Called call serial) h = made_line (codes "call ") call serial refl h.0 h.1
answer_line read (answers.Opening number serial) h = made_line (codes "opening ") number serial refl h.0 h.1
answer_line read (answers.MethodError m) h =
    let first = joined line_byte (codes "methoderror ") (decimal m.position) refl (number_line m.position h.0) in
    let second = joined line_byte (codes "methoderror " ++ decimal m.position) (32 ∷ []) first refl in
    joined line_byte (codes "methoderror " ++ decimal m.position ++ 32 ∷ []) (text_word (or_empty m.error_name)) second (word_line (text_word (or_empty m.error_name)) (text_bytes (or_empty m.error_name) h.1))
answer_line read answers.Got h = got_line read h
answer_line read (answers.Passed bytes) h = joined line_byte (codes "passed ") (decimal (length bytes)) refl (number_line (length bytes) h)
answer_line read (answers.Named given) h = truth_line given
answer_line read (answers.Removed gone) h = joined line_byte (codes "removed ") (truth_word gone) refl (truth_line gone)
answer_line read (answers.Gone last) h = joined line_byte (codes "gone") (last_text last) refl (last_line last h)
answer_line read (answers.Refused error) h = joined line_byte (codes "refused ") (error_word error) refl (error_line error h)
answer_line read (answers.SendFailed error) h = joined line_byte (codes "sendfailed ") (error_word error) refl (error_line error h)
answer_line read (answers.Closed error) h = joined line_byte (codes "closed ") (error_word error) refl (error_line error h)
answer_line read (answers.Sent n) h = joined line_byte (codes "sent ") (decimal n) refl (number_line n h)
answer_line read (answers.Reply n) h = joined line_byte (codes "reply ") (decimal n) refl (number_line n h)
answer_line read (answers.InvalidReply n) h = joined line_byte (codes "invalidreply ") (decimal n) refl (number_line n h)
answer_line read (answers.Streaming n) h = joined line_byte (codes "stream ") (decimal n) refl (number_line n h)
answer_line read (answers.Slot n) h = joined line_byte (codes "slot ") (decimal n) refl (number_line n h)
answer_line read (answers.Served n) h = joined line_byte (codes "served ") (decimal n) refl (number_line n h)
answer_line read (answers.Silent n) h = joined line_byte (codes "silent ") (decimal n) refl (number_line n h)
answer_line read (answers.Item n) h = joined line_byte (codes "item ") (decimal n) refl (number_line n h)
answer_line read a h = refl

-- ---- the line of an entry is its command's

lane_again : (lane : ℕ) (word : List ℕ) (rest : List (List ℕ)) (w : Words) → number_of word ≡ Some lane → nat_le lane 63 ≡ true → command_words rest ≡ Some w
    → lane_words (word ∷ rest) ≡ Some (record { lane = lane; words = w })
lane_again lane word rest w e f g = rw (e, f, g) refl

line_by : (line : List ℕ) (c : Command) → head_line (words_of line) ≡ None → command_line line ≡ Some c → line_of line ≡ Some (Do c)
unfolding line_of
line_by line c h e = rw (h, e) refl

line_joined : (lane ws answer : List ℕ) → (((lane ++ ws) ++ codes " = ") ++ answer) ++ 10 ∷ [] ≡ (lane ++ (ws ++ 32 ∷ 61 ∷ 32 ∷ answer)) ++ 10 ∷ []
line_joined lane ws answer = simp append_assoc

entry_lines : (e : Entry) → CanBeRead e → Lines (entry_text e) (Do (command_of e) ∷ [])
unfolding entry_text
entry_lines e r =
    let lane = decimal e.lane in
    let ws = entry_words e.words in
    let answer = answer_text e.read e.answer in
    let small : e.lane < 2 ^ 64 = omega (arith, r.lane) in
    let first = number_is_word e.lane small in
    let read = command_again e.words r.text in
    let are = All-from_recursion IsWord ws read.are in
    subst (λ text. Lines text (Do (command_of e) ∷ [])) (sym (line_joined lane (spaced ws) answer))
    (one (lane ++ (spaced ws ++ 32 ∷ 61 ∷ 32 ∷ answer)) (Do (command_of e))
    (joined line_byte lane _ (number_line e.lane small) (joined line_byte (spaced ws) (32 ∷ 61 ∷ 32 ∷ answer) (spaced_bytes ws are) (answer_line e.read e.answer r.numbers)))
    (line_by _ (command_of e)
    (ap head_line (words_again lane ws (61 ∷ 32 ∷ answer) first are) ∙ no_head lane (61 ∷ []) ws (words_of answer) e.words read.again)
    (ap (λ l. lane_words (words_of l)) (before_again lane ws answer first are) ∙ ap lane_words (words_alone lane ws first are)
    ∙ lane_again e.lane lane ws e.words (number_again e.lane small) (grind (arith, nat_tests)) read.again)))

-- ---- the whole

last_joined : (text name sent : List ℕ) → ((text ++ name) ++ sent) ++ 10 ∷ [] ≡ (text ++ ((name ++ sent) ++ 10 ∷ [])) ++ []
last_joined text name sent = simp (append_assoc, append-nil)

script_text : (text sent : List ℕ) (s : Script) → Lines (text ++ ((codes "sent " ++ sent) ++ 10 ∷ [])) (script_lines s true) → ScriptText (((text ++ codes "sent ") ++ sent) ++ 10 ∷ []) s
script_text text sent s l =
    record { lines = l.lines; sent = true; ended = ap parts (last_joined text (codes "sent ") sent) ∙ l.parted []; each = l.each }

mapped_commands : (es : List Entry) → map (λ e. Do (command_of e)) es ≡ map Do (map command_of es)
mapped_commands [] = refl
mapped_commands (e ∷ es) = ap (λ l. Do (command_of e) ∷ l) (mapped_commands es)

pub transcript_again : (s : Script) (es : List Entry) (sent : List ℕ)
    → IsName s.kind → IsCount s.queue → IsMachine s.machine → IsCount s.outfault → All IsGiven s.given → All CanBeRead es → All (λ b. b < 256) sent
    → ScriptText (transcript_text s es sent) (record s { commands = map command_of es })
unfolding transcript_text
transcript_again s es sent n q i o p e bytes =
    let head = behind _ _ _ _ (behind _ _ _ _ (peer_lines s.kind n) (queue_lines s.queue q)) (machine_lines_are s.machine i) in
    let sink = behind _ _ _ _ (behind _ _ _ _ head (sink_lines s.fds)) (fault_lines s.outfault o) in
    let source = behind _ _ _ _ sink (many IsGiven given_text given_line given_lines s.given p) in
    let entries = subst (Lines (flat_map entry_text es)) (mapped_commands es) (many CanBeRead entry_text (λ x. Do (command_of x)) entry_lines es e) in
    script_text _ (sent_word sent) _ (behind _ _ _ _ (behind _ _ _ _ source entries) (sent_lines_are sent bytes))
