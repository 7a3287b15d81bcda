-- The words of a command are words of a line, and are read again.
use Rattle.std.proofs.{Common.{ℕ, ◌≡◌, ◌/◌, ◌%◌, ◌^◌, ◌<◌, Bool, true, false, if◌then◌else◌, List, [], ◌∷◌, ◌++◌, Option, Some, None, codes, decimal, refl, ap, arith}, lemmas.Bool.Decides.nat_tests, lemmas.List.Elements.{All-head, All-tail}, lemmas.Fmt.decimal_nonempty}
use Rattle.std.specs.List.{list_all, flat_map, All, AllByRecursion}
use Rattle.peer_words.specs.{declared.words.CallFlags.CallFlags, declared.words.OutgoingKind.OutgoingKind, declared.words.Outgoing.Outgoing, declared.words.CallOp.CallOp, declared.words.StreamOp.StreamOp, declared.words.ObjectOp.ObjectOp, declared.words.Words.Words, Hex.{hex_digit, hex_two, hex_word}}
use Rattle.peer_words.specs.declared.words.OutgoingKind.TheVariants as outgoing
use Rattle.peer_words.specs.declared.words.CallOp.TheVariants as calls
use Rattle.peer_words.specs.declared.words.StreamOp.TheVariants as ops
use Rattle.peer_words.specs.declared.words.ObjectOp.TheVariants as objects
use Rattle.peer_words.specs.declared.words.Words.TheVariants as words
use Rattle.peer_script.specs.{Word.{same, text_of, is_plain, text_byte, text_word, optional_word, flag_letters, flags_word}, Script.{present, optional_number, kind_of, interface_of, command_words, head_line}, Transcript.{optional_decimal, kind_word, outgoing_words, call_words, stream_words, object_words, entry_words}, Again.{SomeBytes, IsOptional, IsThere, IsInterface, IsCount, OutgoingText, HasCallText, HasStreamText, HasObjectText, HasText}}
use Rattle.peer_script.proofs.{Digits.{number_again, decimal_digits}, Spelling.{number_present, text_again, number_other, text_other, text_some}, Calls.{optional_again, flags_again, dash_some}, Again.{word_byte, both, joined, digits_word, IsWord, named}}

-- ---- words

pub digit_byte : (k : ℕ) → k < 16 → word_byte (hex_digit k) ≡ true
digit_byte k h = grind (arith, nat_tests)

pub hex_bytes : (bytes : List ℕ) → All (λ b. b < 256) bytes → list_all word_byte (hex_word bytes) ≡ true
hex_bytes [] h = refl
hex_bytes (b ∷ bytes) h =
    let small = All-head (λ b. b < 256) b bytes h in
    both _ _ (digit_byte (b / 16) (omega arith))
    (both _ _ (digit_byte (b % 16) (omega arith)) (hex_bytes bytes (All-tail (λ b. b < 256) b bytes h)))

byte_word : (b : ℕ) (v : Bool) → b < 256 → is_plain b ≡ v → list_all word_byte (if v then b ∷ [] else 92 ∷ hex_two b) ≡ true
byte_word b true h e = grind (arith, nat_tests)
byte_word b false h e = both _ _ (digit_byte (b / 16) (omega arith)) (both _ _ (digit_byte (b % 16) (omega arith)) refl)

bytes_word : (text : List ℕ) → All (λ b. b < 256) text → list_all word_byte (flat_map text_byte text) ≡ true
bytes_word [] h = refl
bytes_word (b ∷ text) h =
    joined word_byte (text_byte b) (flat_map text_byte text) (byte_word b (is_plain b) (All-head (λ b. b < 256) b text h) refl) (bytes_word text (All-tail (λ b. b < 256) b text h))

text_bytes_by : (text : List ℕ) (v : Bool) → All (λ b. b < 256) text → list_all word_byte (if v then codes "\\3d" else flat_map text_byte text) ≡ true
text_bytes_by text true h = refl
text_bytes_by text false h = bytes_word text h

pub text_bytes : (text : List ℕ) → All (λ b. b < 256) text → list_all word_byte (text_word text) ≡ true
unfolding text_word
text_bytes text h = text_bytes_by text (same text (61 ∷ [])) h

pub text_is_word : (text : List ℕ) → SomeBytes text → IsWord (text_word text)
text_is_word text h =
    let again = text_again text h.some h.bytes in
    record { bytes = text_bytes text h.bytes; some = text_some (text_word text) text again; other = text_other (text_word text) text again }

pub number_is_word : (n : ℕ) → n < 2 ^ 64 → IsWord (decimal n)
number_is_word n h = record { bytes = digits_word (decimal n) (decimal_digits n h); some = decimal_nonempty n h; other = number_other n h }

dash_is_word : IsWord (45 ∷ [])
dash_is_word = record { bytes = refl; some = omega arith; other = refl }

optional_is_word : (o : Option (List ℕ)) → IsOptional o → IsWord (optional_word o)
optional_is_word None h = dash_is_word
optional_is_word (Some text) h = text_is_word text h.some

flags_are_word : (f : CallFlags) → IsWord (flags_word f)
flags_are_word f = let read = flags_again f in record { bytes = read.bytes; some = dash_some (flag_letters f); other = read.other }

there_is_word : (o : Option (List ℕ)) → IsThere o → IsWord (optional_word o)
there_is_word None h = absurd h
there_is_word (Some text) h = text_is_word text h

there_again : (o : Option (List ℕ)) → IsThere o → present (text_of (optional_word o)) ≡ Some o
there_again None h = absurd h
there_again (Some text) h = ap present (text_again text h.some h.bytes)

interface_is_word : (kind : OutgoingKind) (o : Option (List ℕ)) → IsInterface kind o → IsWord (optional_word o)
interface_is_word outgoing.Call o h = optional_is_word o h
interface_is_word outgoing.Signal o h = there_is_word o h

interface_again : (kind : OutgoingKind) (o : Option (List ℕ)) → IsInterface kind o → interface_of kind (optional_word o) ≡ Some o
interface_again outgoing.Call o h = optional_again o h
interface_again outgoing.Signal o h = there_again o h

count_is_word : (o : Option ℕ) → IsCount o → IsWord (optional_decimal o)
count_is_word None h = dash_is_word
count_is_word (Some n) h = number_is_word n h

-- a number isn't the word for none
count_again : (o : Option ℕ) → IsCount o → optional_number (optional_decimal o) ≡ Some o
count_again None h = refl
count_again (Some n) h = rw (number_present n h, number_again n h) refl

-- ---- the words of a command

-- they are words of a line, and are read as this command
pub record ReadAs (ws : List (List ℕ)) (w : Words) : Type 0 where
  pub are : AllByRecursion IsWord ws
  pub again : command_words ws ≡ Some w

kind_is_word : (kind : OutgoingKind) → IsWord (kind_word kind)
kind_is_word outgoing.Call = named (codes "call") refl
kind_is_word outgoing.Signal = named (codes "signal") refl

kind_again : (kind : OutgoingKind) → kind_of (kind_word kind) ≡ Some kind
kind_again outgoing.Call = refl
kind_again outgoing.Signal = refl

outgoing_again : (o : Outgoing) → OutgoingText o → ReadAs (outgoing_words o) (words.Send o)
unfolding command_words
outgoing_again o h =
    record {
      are = (
        kind_is_word o.kind,
        (
          optional_is_word o.destination h.destination,
          (
            text_is_word o.path h.path,
            (
              interface_is_word o.kind o.interface h.interface,
              (text_is_word o.member h.member, (flags_are_word o.flags, (optional_is_word o.body h.body, tt))),
            ),
          ),
        ),
      );
      again = rw (
        kind_again o.kind,
        optional_again o.destination h.destination,
        text_again o.path h.path.some h.path.bytes,
        interface_again o.kind o.interface h.interface,
        text_again o.member h.member.some h.member.bytes,
        (flags_again o.flags).again,
        optional_again o.body h.body,
      ) refl;
    }

call_again : (n : ℕ) (op : CallOp) → n < 2 ^ 64 → HasCallText op → ReadAs (call_words (decimal n) op) (words.OfCall n op)
unfolding command_words
call_again n calls.Poll h t = record { are = (named (codes "poll") refl, (number_is_word n h, tt)); again = rw (number_again n h) refl }
call_again n (calls.Before q) h t =
    record { are = (named (codes "before") refl, (number_is_word n h, (number_is_word q t, tt))); again = rw (number_again n h, number_again q t) refl }
call_again n calls.Drop h t = record { are = (named (codes "drop") refl, (number_is_word n h, tt)); again = rw (number_again n h) refl }

stream_again : (n : ℕ) (op : StreamOp) → n < 2 ^ 64 → HasStreamText op → ReadAs (stream_words (decimal n) op) (words.OfStream n op)
unfolding command_words
stream_again n (ops.Reply body) h t =
    record { are = (named (codes "reply") refl, (number_is_word n h, (optional_is_word body t, tt))); again = rw (number_again n h, optional_again body t) refl }
stream_again n (ops.Error e body) h t =
    record {
      are = (named (codes "error") refl, (number_is_word n h, (text_is_word e t.0, (optional_is_word body t.1, tt))));
      again = rw (number_again n h, text_again e t.0.some t.0.bytes, optional_again body t.1) refl;
    }
stream_again n ops.Take h t = record { are = (named (codes "take") refl, (number_is_word n h, tt)); again = rw (number_again n h) refl }
stream_again n (ops.TakeBefore q) h t =
    record { are = (named (codes "takebefore") refl, (number_is_word n h, (number_is_word q t, tt))); again = rw (number_again n h, number_again q t) refl }
stream_again n ops.Clone h t = record { are = (named (codes "clone") refl, (number_is_word n h, tt)); again = rw (number_again n h) refl }
stream_again n ops.Opened h t = record { are = (named (codes "opened") refl, (number_is_word n h, tt)); again = rw (number_again n h) refl }
stream_again n (ops.Queue q) h t =
    record { are = (named (codes "queue") refl, (number_is_word n h, (number_is_word q t, tt))); again = rw (number_again n h, number_again q t) refl }
stream_again n (ops.Unstream None) h t = record { are = (named (codes "unstream") refl, (number_is_word n h, tt)); again = rw (number_again n h) refl }
stream_again n (ops.Unstream (Some q)) h t =
    record { are = (named (codes "unstream") refl, (number_is_word n h, (number_is_word q t, tt))); again = rw (number_again n h, number_again q t) refl }

object_again : (op : ObjectOp) → HasObjectText op → ReadAs (object_words op) (words.Objects op)
unfolding command_words
object_again (objects.At path n) h =
    record { are = (named (codes "at") refl, (text_is_word path h.0, (number_is_word n h.1, tt))); again = rw (text_again path h.0.some h.0.bytes, number_again n h.1) refl }
object_again (objects.Remove path interface) h =
    record {
      are = (named (codes "remove") refl, (text_is_word path h.0, (optional_is_word interface h.1, tt)));
      again = rw (text_again path h.0.some h.0.bytes, optional_again interface h.1) refl;
    }
object_again (objects.Interface path interface) h =
    record {
      are = (named (codes "iface") refl, (text_is_word path h.0, (optional_is_word interface h.1, tt)));
      again = rw (text_again path h.0.some h.0.bytes, optional_again interface h.1) refl;
    }
object_again objects.Serve h = record { are = (named (codes "serve") refl, tt); again = refl }

pub command_again : (w : Words) → HasText w → ReadAs (entry_words w) w
unfolding command_words
command_again (words.Send o) h = outgoing_again o h
command_again words.Read h = record { are = (named (codes "read") refl, tt); again = refl }
command_again (words.OfCall n op) h = call_again n op h.0 h.1
command_again words.Stream h = record { are = (named (codes "stream") refl, tt); again = refl }
command_again (words.Open max rule) h =
    record { are = (named (codes "open") refl, (count_is_word max h.0, (text_is_word rule h.1, tt))); again = rw (count_again max h.0, text_again rule h.1.some h.1.bytes) refl }
command_again (words.OfStream n op) h = stream_again n op h.0 h.1
command_again (words.MainQueue n) h = record { are = (named (codes "mainqueue") refl, (number_is_word n h, tt)); again = rw (number_again n h) refl }
command_again (words.Objects op) h = object_again op h
command_again words.Close h = record { are = (named (codes "close") refl, tt); again = refl }
command_again (words.Live line) h = absurd h

-- ---- no command's line is a header line

head_none : (a b c : List ℕ) (ws ds : List (List ℕ)) → head_line (a ∷ b ∷ (ws ++ c ∷ ds)) ≡ None
unfolding head_line
head_none a b c [] ds = refl
head_none a b c (w ∷ ws) ds = refl

pub no_head : (a c : List ℕ) (ws ds : List (List ℕ)) (w : Words) → command_words ws ≡ Some w → head_line (a ∷ (ws ++ c ∷ ds)) ≡ None
unfolding command_words
no_head a c [] ds w e = absurd (cc)
no_head a c (b ∷ ws) ds w e = head_none a b c ws ds
