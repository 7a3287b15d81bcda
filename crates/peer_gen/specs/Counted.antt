-- What is counted of a run: five numbers of its entries, oldest first, beside how many bytes were sent.
use Rattle.std.specs.Prelude.{ℕ, ◌+◌, ◌*◌, Bool, true, false, cond, List, [], ◌∷◌, ◌++◌, get_or, count_by, sum_by, flat_map}
use Rattle.std.specs.Prelude.{codes, decimal, Option, Some, None}
use Rattle.peer_words.specs.declared.words.Words.{Words}
use Rattle.peer_words.specs.declared.words.Words.TheVariants as words
use Rattle.peer_words.specs.declared.answer.Answer.{Answer}
use Rattle.peer_words.specs.declared.answer.Answer.TheVariants as answers
use Rattle.peer_words.specs.declared.answer.Entry.{Entry}
use Rattle.wire_message.specs.Front.{MessageView}
use Rattle.wire_message.specs.declared.kind.MessageType.{MessageType}
use Rattle.wire_message.specs.declared.kind.MessageType.TheVariants as types
use Rattle.peer_gen.specs.declared.counts.Counts.{Counts}

-- ---- entries

-- a call was sent
abbrev pub is_called : Answer → Bool
is_called (answers.Called call serial) = true
is_called other = false

-- the serial of the call that was sent, if one was
abbrev pub sent_serial : Answer → List ℕ
sent_serial (answers.Called call serial) = serial ∷ []
sent_serial other = []

-- a method return answers the polled call
abbrev pub is_replied : Answer → Bool
is_replied (answers.Reply position) = true
is_replied other = false

-- the position of the method return that answers the polled call, if one does
abbrev pub reply_position : Answer → Option ℕ
reply_position (answers.Reply position) = Some position
reply_position other = None

-- a stream yielded a message
abbrev pub is_item : Answer → Bool
is_item (answers.Item position) = true
is_item other = false

-- the number of the call, from 0 on, that the command asks something of
abbrev pub asked_call : Words → Option ℕ
asked_call (words.OfCall call op) = Some call
asked_call other = None

-- a message of this type is a signal (D-Bus Specification, "Types of messages")
abbrev pub is_signal : MessageType → Bool
is_signal types.Signal = true
is_signal other = false

-- a signal was read
abbrev pub is_signal_read : Option MessageView → Bool
is_signal_read (Some message) = is_signal message.kind
is_signal_read None = false

-- ---- serials

-- the serials of the calls that were sent, by the calls' numbers
abbrev pub serials_of : List Entry → List ℕ
serials_of entries = flat_map (λ e. sent_serial e.answer) entries

-- the serial of a call times the position of its reply; 0 where there is no reply, or no such call
abbrev pub product : (serials : List ℕ) (call position : Option ℕ) → ℕ
product serials (Some call) (Some position) = get_or serials call 0 * position
product serials call position = 0

-- the product of an entry: of the call that its command asks something of, and of the reply
abbrev pub entry_product : (serials : List ℕ) → Entry → ℕ
entry_product serials e = product serials (asked_call e.words) (reply_position e.answer)

-- ---- the numbers

-- The numbers of entries, where calls have these serials: the calls that were sent, the replies, the signals that were
-- read, the items, and the sum of serial times position over the replies.
abbrev pub counts_of : (serials : List ℕ) → List Entry → Counts
counts_of serials entries = record {
  calls = count_by (λ e. is_called e.answer) entries;
  replies = count_by (λ e. is_replied e.answer) entries;
  signals = count_by (λ e. is_signal_read e.read) entries;
  items = count_by (λ e. is_item e.answer) entries;
  sum = sum_by (entry_product serials) entries;
}

-- the line of these numbers, and of how many bytes were sent: `calls A replies B signals C items D sent E sum F`
abbrev pub counts_line : Counts → ℕ → List ℕ
counts_line counts sent =
    codes "calls " ++ decimal counts.calls
    ++ codes " replies " ++ decimal counts.replies
    ++ codes " signals " ++ decimal counts.signals
    ++ codes " items " ++ decimal counts.items
    ++ codes " sent " ++ decimal sent
    ++ codes " sum " ++ decimal counts.sum
    ++ 10 ∷ []

-- the line that is printed of the entries of a run, oldest first, and of how many bytes were sent
abbrev pub gen_line : List Entry → ℕ → List ℕ
gen_line entries sent = counts_line (counts_of (serials_of entries) entries) sent

-- ---- a step

-- the numbers with those of one entry more
abbrev pub with_entry : (serials : List ℕ) → Counts → Entry → Counts
with_entry serials counts e = record {
  calls = counts.calls + cond (is_called e.answer) 1 0;
  replies = counts.replies + cond (is_replied e.answer) 1 0;
  signals = counts.signals + cond (is_signal_read e.read) 1 0;
  items = counts.items + cond (is_item e.answer) 1 0;
  sum = counts.sum + entry_product serials e;
}
