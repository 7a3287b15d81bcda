-- What a monitor has done after some fronts.
use Rattle.std.proofs.Common.{ℕ, suc, ◌≡◌, ◌+◌, ◌-◌, ◌^◌, ◌≤◌, ◌<◌, refl, sym, ◌∙◌, ap, subst, arith, List, [], ◌∷◌, ◌++◌, append-nil, append_assoc, length, length-append, drop, Some, Result, Ok}
use Rattle.std.proofs.lemmas.Grind.{flat_map-append}
use Rattle.std.proofs.lemmas.List.{flat_map_more}
use Rattle.std.proofs.lemmas.List.Elements.{filter-append}
use Rattle.std.specs.List.{filter, flat_map}
use Rattle.wire_framing.specs.Views.{SourceView, SinkView}
use Rattle.wire_message.specs.Front.{MessageView}
use Rattle.wire_message.specs.Outcome.{outcome, received_bytes}
use Rattle.wire_message.specs.declared.received.Received.{Received}
use Rattle.wire_message.specs.declared.received.Received.TheVariants.{Message, Passed}
use Rattle.wire_message.specs.declared.error.Error.{Error}
use Rattle.wire_message.specs.declared.error.IoKind.TheVariants as kinds
use Rattle.rule_match.specs.Rule.{Rule}
use Rattle.watch_tool.specs.Traffic.{Traffic, behind, messages_of, count_with, with_front, traffic_from, traffic, AreFronts, IsRead}
use Rattle.watch_tool.specs.Report.{is_shown, message_entry, lines}
use Rattle.watch_tool.specs.Reading.{Finds}
use Rattle.watch_tool.specs.Watching.{Gains}
use Rattle.watch_tool.proofs.Gaining.{gains_nothing, gains_then}

-- Of the bytes so many fronts were read, `count` messages among them, and the lines of these were written.
pub record Went (rules : List Rule) (bytes : List ℕ) (fronts count : ℕ) (start now : SourceView) (first sink : SinkView) : Type 0 where
  pub messages : List MessageView
  pub rest : List ℕ
  pub left : now.left ≡ Some rest
  pub stop : now.stop ≡ start.stop
  pub read : List Received
  pub found : AreFronts 0 read bytes rest
  pub number : length read ≡ fronts
  pub are : messages ≡ flat_map messages_of read
  pub counted : count ≡ length messages
  pub all : traffic bytes ≡ behind messages (traffic_from (2 ^ 64 - 2 - fronts) count rest)
  pub gained : Gains (lines rules messages) first sink

pub start_went : (rules : List Rule) (bytes : List ℕ) (start : SourceView) (sink : SinkView) → start.left ≡ Some bytes → Went rules bytes 0 0 start start sink sink
unfolding traffic
start_went rules bytes start sink left = record {
  messages = [];
  rest = bytes;
  left = left;
  stop = refl;
  read = [];
  found = refl;
  number = refl;
  are = refl;
  counted = refl;
  all = refl;
  gained = gains_nothing sink;
}

pub lines_append : (rules : List Rule) (ms ns : List MessageView) → lines rules (ms ++ ns) ≡ lines rules ms ++ lines rules ns
lines_append rules ms ns =
    ap (flat_map (message_entry rules)) (filter-append (is_shown rules) ms ns) ∙ flat_map-append (message_entry rules) (filter (is_shown rules) ms) (filter (is_shown rules) ns)

-- how many fronts may still be, as the loop counts them
one_less : (fronts : ℕ) → fronts < 2 ^ 64 - 2 → 2 ^ 64 - 2 - fronts ≡ suc (2 ^ 64 - 2 - (fronts + 1))
one_less fronts few = omega arith

pub next_traffic : (fronts count : ℕ) (rest : List ℕ) (found : Result Received Error) → fronts < 2 ^ 64 - 2 → outcome count rest kinds.Ended ≡ found
    → traffic_from (2 ^ 64 - 2 - fronts) count rest ≡ with_front (traffic_from (2 ^ 64 - 2 - (fronts + 1))) count rest found
next_traffic fronts count rest found few e =
    ap (λ n. traffic_from n count rest) (one_less fronts few) ∙ ap (with_front (traffic_from (2 ^ 64 - 2 - (fronts + 1))) count rest) e

behind_behind : (ms ns : List MessageView) (t : Traffic) → behind ms (behind ns t) ≡ behind (ms ++ ns) t
behind_behind ms ns t = ap (λ xs. record { messages = xs; closing = t.closing }) (sym (append_assoc ms ns t.messages))

count_is : (messages : List MessageView) (r : Received) (count : ℕ) → count ≡ length messages → count_with r count ≡ length (messages ++ messages_of r)
count_is messages (Message m) count e = omega (arith, e, length-append messages (m ∷ []))
count_is messages (Passed front) count e = e ∙ ap length (sym (append-nil messages))

pub count_le : (r : Received) (count : ℕ) → count_with r count ≤ count + 1
count_le (Message m) count = omega arith
count_le (Passed front) count = omega arith

counted_more : (r : Received) (count : ℕ) (messages : List MessageView) → count + length (messages_of r ++ messages) ≡ count_with r count + length messages
counted_more (Message m) count messages = omega (arith, length-append (m ∷ []) messages)
counted_more (Passed front) count messages = refl

-- a front more, behind those that were found
fronts_more : (count now : ℕ) (fronts : List Received) (bytes rest : List ℕ) (r : Received) → AreFronts count fronts bytes rest → now ≡ count + length (flat_map messages_of fronts)
    → outcome now rest kinds.Ended ≡ Ok r → AreFronts count (fronts ++ r ∷ []) bytes (drop (length (received_bytes r)) rest)
fronts_more count now [] bytes rest r found is next =
    let same : now ≡ count = omega (arith, is) in
    (ap (λ bs. outcome count bs kinds.Ended) (sym found) ∙ ap (λ n. outcome n rest kinds.Ended) (sym same) ∙ next, ap (drop (length (received_bytes r))) found)
fronts_more count now (f ∷ fronts) bytes rest r found is next =
    (found.0, fronts_more (count_with f count) now fronts (drop (length (received_bytes f)) bytes) rest r found.1 (is ∙ counted_more f count (flat_map messages_of fronts)) next)

-- a front more was read, and its lines were written
module _ (rules : List Rule) (bytes : List ℕ) (fronts count next : ℕ) (start now new : SourceView) (first sink : SinkView) (w : Went rules bytes fronts count start now first sink)
    (r : Received) (few : fronts < 2 ^ 64 - 2) (finds : Finds (Ok r) count w.rest now new) (is : next ≡ count_with r count) where
  abbrev rest' : List ℕ
  rest' = drop (length (received_bytes r)) w.rest

  next_all : traffic bytes ≡ behind (w.messages ++ messages_of r) (traffic_from (2 ^ 64 - 2 - (fronts + 1)) next rest')
  next_all =
      w.all
      ∙ ap (behind w.messages) (next_traffic fronts count w.rest (Ok r) few finds.0)
      ∙ behind_behind w.messages (messages_of r) (traffic_from (2 ^ 64 - 2 - (fronts + 1)) (count_with r count) rest')
      ∙ ap (λ n. behind (w.messages ++ messages_of r) (traffic_from (2 ^ 64 - 2 - (fronts + 1)) n rest')) (sym is)

  next_counted : next ≡ length (w.messages ++ messages_of r)
  next_counted = is ∙ count_is w.messages r count w.counted

  next_found : AreFronts 0 (w.read ++ r ∷ []) bytes rest'
  next_found = fronts_more 0 count w.read bytes w.rest r w.found (omega (arith, w.counted, ap length w.are)) finds.0

  next_number : length (w.read ++ r ∷ []) ≡ fronts + 1
  next_number = omega (arith, w.number, length-append w.read (r ∷ []))

  next_are : w.messages ++ messages_of r ≡ flat_map messages_of (w.read ++ r ∷ [])
  next_are = ap (λ ms. ms ++ messages_of r) w.are ∙ flat_map_more messages_of [] w.read r

  pub next_read : IsRead bytes (w.messages ++ messages_of r) rest'
  next_read = record {
    fronts = w.read ++ r ∷ [];
    found = next_found;
    within = omega (arith, few, next_number);
    are = next_are;
    all = next_all
        ∙ ap (λ n. behind (w.messages ++ messages_of r) (traffic_from (2 ^ 64 - 2 - (fronts + 1)) n rest')) next_counted
        ∙ ap (λ n. behind (w.messages ++ messages_of r) (traffic_from (2 ^ 64 - 2 - n) (length (w.messages ++ messages_of r)) rest')) (sym next_number);
  }

  pub next_traffic_is : traffic bytes ≡ behind (w.messages ++ messages_of r) (traffic_from (2 ^ 64 - 2 - (fronts + 1)) next rest')
  next_traffic_is = next_all

  pub next_went : (last : SinkView) → Gains (lines rules (messages_of r)) sink last → Went rules bytes (fronts + 1) next start new first last
  next_went last gained = record {
    messages = w.messages ++ messages_of r;
    rest = rest';
    left = finds.1;
    stop = finds.2 ∙ w.stop;
    read = w.read ++ r ∷ [];
    found = next_found;
    number = next_number;
    are = next_are;
    counted = next_counted;
    all = next_all;
    gained = subst (λ l. Gains l first last) (sym (lines_append rules w.messages (messages_of r))) (gains_then (lines rules w.messages) (lines rules (messages_of r)) first sink last w.gained gained);
  }

pub was_read : (rules : List Rule) (bytes : List ℕ) (fronts count : ℕ) (start now : SourceView) (first sink : SinkView) (w : Went rules bytes fronts count start now first sink) → fronts ≤ 2 ^ 64 - 2
    → IsRead bytes w.messages w.rest
was_read rules bytes fronts count start now first sink w within = record {
  fronts = w.read;
  found = w.found;
  within = omega (arith, within, w.number);
  are = w.are;
  all = w.all
      ∙ ap (λ n. behind w.messages (traffic_from (2 ^ 64 - 2 - fronts) n w.rest)) w.counted
      ∙ ap (λ n. behind w.messages (traffic_from (2 ^ 64 - 2 - n) (length w.messages) w.rest)) (sym w.number);
}

-- it took as many fronts as were counted
pub were_read : (rules : List Rule) (bytes : List ℕ) (fronts count : ℕ) (start now : SourceView) (first sink : SinkView) (w : Went rules bytes fronts count start now first sink) (within : fronts ≤ 2 ^ 64 - 2)
    → length (was_read rules bytes fronts count start now first sink w within).fronts ≡ fronts
unfolding was_read
were_read rules bytes fronts count start now first sink w within = w.number
