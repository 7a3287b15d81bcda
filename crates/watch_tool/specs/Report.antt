-- What a monitor prints of recorded traffic.
use Rattle.std.specs.Prelude.{ℕ, Bool, true, false, List, [], ◌∷◌, ◌++◌, length, map, get_or, codes, decimal}
use Rattle.std.specs.List.{filter, flat_map, join_with_byte, range_with_len}
use Rattle.wire_message.specs.Front.{MessageView}
use Rattle.wire_message.specs.Texts.{message_line}
use Rattle.wire_message.specs.declared.error.Error.{Error}
use Rattle.rule_match.specs.Accepting.{accepts}
use Rattle.rule_match.specs.Rule.{Rule, no_parts}
use Rattle.peer_script.specs.Transcript.{shown_text, error_word}
use Rattle.watch_tool.specs.Traffic.{traffic}

-- the indices of the rules that match the message
abbrev pub matching : List Rule → MessageView → List ℕ
matching rules m = filter (λ k. accepts (get_or rules k no_parts) m) (range_with_len 0 (length rules))

-- whether there is an index
abbrev pub is_any : List ℕ → Bool
is_any [] = false
is_any (index ∷ indices) = true

-- Whether a message is printed: a rule matches it, or there are no rules.
abbrev pub is_shown : List Rule → MessageView → Bool
is_shown [] m = true
is_shown (rule ∷ rules) m = is_any (matching (rule ∷ rules) m)

-- the indices of the rules that match the message, with commas between them; `-` where there are no rules
abbrev pub rules_word : List Rule → MessageView → List ℕ
rules_word [] m = 45 ∷ []
rules_word (rule ∷ rules) m = join_with_byte 44 (map decimal (matching (rule ∷ rules) m))

-- the words before and after those of the rules
abbrev pub place_words : MessageView → List ℕ
place_words m = decimal m.position ++ 32 ∷ [] ++ decimal (length m.bytes) ++ 32 ∷ []

abbrev pub display_words : MessageView → List ℕ
display_words m = 32 ∷ [] ++ shown_text (message_line m) ++ 10 ∷ []

-- the line of a message: `POSITION LENGTH RULES DISPLAY`
unfoldable pub message_entry : List Rule → MessageView → List ℕ
message_entry rules m = place_words m ++ rules_word rules m ++ display_words m

-- the lines of those of the messages that are printed
abbrev pub lines : List Rule → List MessageView → List ℕ
lines rules messages = flat_map (message_entry rules) (filter (is_shown rules) messages)

-- the last line: `end E`, with the word of the reason why no more messages come
unfoldable pub end_line : Error → List ℕ
end_line error = codes "end " ++ error_word error ++ 10 ∷ []

-- What is printed of the traffic of these bytes: a line for each message that is shown, in order, and the last line.
unfoldable pub report : List Rule → List ℕ → List ℕ
report rules bytes = lines rules (traffic bytes).messages ++ end_line (traffic bytes).closing

-- ---- the steps

-- what the index of one rule more adds to those before it
abbrev pub index_word : (any : Bool) (index : ℕ) (matches : Bool) → List ℕ
index_word any index false = []
index_word false index true = decimal index
index_word true index true = 44 ∷ decimal index
