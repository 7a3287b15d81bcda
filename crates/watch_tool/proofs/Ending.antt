-- How a monitor ends, from what it has done.
use Rattle.std.proofs.Common.{ℕ, ◌≡◌, ◌≢◌, ◌+◌, ◌-◌, ◌^◌, ◌≤◌, ◌<◌, inl, inr, refl, sym, ◌∙◌, ap, subst, arith, Bool, true, false, List, [], ◌∷◌, ◌++◌, append-nil, append_assoc, length, length-append, take, drop, take-append-drop, Option, Some, None, IfSome, Result, Ok, Err}
use Rattle.std.proofs.Math.Seq.{take-append_seam}
use Rattle.std.proofs.lemmas.Bool.{cases_lt}
use Rattle.wire_framing.specs.Views.{SourceView, SinkView}
use Rattle.wire_framing.specs.Source.{MayRise, GrowsTo}
use Rattle.wire_framing.specs.Receive as receive
use Rattle.wire_framing.specs.Sink.{Stops}
use Rattle.wire_framing.specs.declared.sink.Refusal.TheVariants as refusals
use Rattle.wire_message.specs.Front.{MessageView}
use Rattle.wire_message.specs.Outcome.{outcome, received_bytes, IsReadRefusal}
use Rattle.wire_message.specs.declared.received.Received.{Received}
use Rattle.wire_message.specs.declared.received.Received.TheVariants.{Message, Passed}
use Rattle.wire_message.specs.declared.error.Error.{Error}
use Rattle.wire_message.specs.declared.error.Error.TheVariants as errors
use Rattle.wire_message.specs.declared.error.IoKind.TheVariants as kinds
use Rattle.rule_match.specs.Rule.{Rule}
use Rattle.watch_tool.specs.Traffic.{Traffic, closed_by, behind, messages_of, count_with, traffic_from, traffic, IsRead}
use Rattle.watch_tool.specs.Report.{lines, end_line, report}
use Rattle.watch_tool.specs.Reading.{TakesPart, Finds}
use Rattle.watch_tool.specs.Watching.{Ends, Gains, WriteStops, Watches, IsFull, HidesNoFault, IsCaused, earlier, Shows, Closes, failure_of}
use Rattle.watch_tool.specs.declared.error.WatchError.{WatchError}
use Rattle.watch_tool.specs.declared.error.WatchError.TheVariants.{Memory, ReadFault, WriteFault}
use Rattle.watch_tool.proofs.Gaining.{gains_nothing, gains_then, fails_after, runs_out_after, runs_out_within}
use Rattle.watch_tool.proofs.Went.{Went, next_traffic, lines_append, next_read, next_traffic_is, was_read, were_read}

-- ---- the report, as far as the traffic is known

some_end : (error : Error) → 0 < length (end_line error)
unfolding end_line
some_end error = omega arith

report_is : (rules : List Rule) (bytes : List ℕ) (messages : List MessageView) (later : Traffic) → traffic bytes ≡ behind messages later
    → report rules bytes ≡ lines rules messages ++ (lines rules later.messages ++ end_line later.closing)
unfolding report
report_is rules bytes messages later is =
    ap (λ (t : Traffic). lines rules t.messages ++ end_line t.closing) is
    ∙ ap (λ l. l ++ end_line later.closing) (lines_append rules messages later.messages)
    ∙ append_assoc (lines rules messages) (lines rules later.messages) (end_line later.closing)

-- what is left of the report, which is at least the last line
abbrev later_lines : List Rule → Traffic → List ℕ
later_lines rules later = lines rules later.messages ++ end_line later.closing

some_later : (rules : List Rule) (later : Traffic) → 0 < length (later_lines rules later)
some_later rules later = omega (arith, some_end later.closing, length-append (lines rules later.messages) (end_line later.closing))

closed_report : (rules : List Rule) (bytes : List ℕ) (messages : List MessageView) (error : Error) → traffic bytes ≡ behind messages (closed_by error)
    → report rules bytes ≡ lines rules messages ++ end_line error
closed_report rules bytes messages error is = report_is rules bytes messages (closed_by error) is

-- ---- messages but the last

earlier_is : (messages : List MessageView) (m : MessageView) → earlier (messages ++ m ∷ []) ≡ messages
earlier_is messages m =
    let one : length (messages ++ m ∷ []) - 1 ≡ length messages = omega (arith, length-append messages (m ∷ [])) in
    ap (λ n. take n (messages ++ m ∷ [])) one ∙ take-append_seam messages (m ∷ [])

earlier_le : (rules : List Rule) (messages : List MessageView) → length (lines rules (earlier messages)) ≤ length (lines rules messages)
earlier_le rules messages =
    let all : lines rules messages ≡ lines rules (earlier messages) ++ lines rules (drop (length messages - 1) messages) =
    ap (lines rules) (sym (take-append-drop (length messages - 1) messages)) ∙ lines_append rules (earlier messages) (drop (length messages - 1) messages) in
    omega (arith, ap length all, length-append (lines rules (earlier messages)) (lines rules (drop (length messages - 1) messages)))

-- ---- no front comes any more

-- what is known of the traffic behind the messages, by the reason why no front comes
pub record IsOver (stop : Option Bool) (error : Error) (rest : List ℕ) (left : Option (List ℕ)) (later : Traffic) : Type 0 where
  pub closing : failure_of error ≡ None → later ≡ closed_by error
  pub fault : failure_of error ≡ Some ReadFault
      → (stop ≢ Some false) × (stop ≡ Some true → later ≡ closed_by (errors.InputOutput kinds.Ended)) × (stop ≡ None → TakesPart rest left)

plain_found : (error : Error) (count : ℕ) (rest : List ℕ) (now new : SourceView) → failure_of error ≡ None → Finds (Err error) count rest now new → outcome count rest kinds.Ended ≡ Err error
plain_found errors.Memory count rest now new none finds = absurd (cc)
plain_found (errors.InputOutput kinds.Fault) count rest now new none finds = absurd (cc)
plain_found (errors.InputOutput kinds.Ended) count rest now new none finds = finds.1
plain_found error count rest now new none finds = finds

fault_found : (error : Error) (count : ℕ) (rest : List ℕ) (now new : SourceView) → failure_of error ≡ Some ReadFault → Finds (Err error) count rest now new
    → (now.stop ≢ Some false) × (now.stop ≡ Some true → outcome count rest kinds.Ended ≡ Err (errors.InputOutput kinds.Ended)) × (now.stop ≡ None → TakesPart rest new.left)
fault_found errors.Memory count rest now new is finds = absurd (cc)
fault_found (errors.InputOutput kinds.Fault) count rest now new is finds = finds
fault_found error count rest now new is finds = absurd (cc)

pub over_found : (fronts count : ℕ) (rest : List ℕ) (stop : Option Bool) (now new : SourceView) (error : Error) → fronts < 2 ^ 64 - 2 → now.stop ≡ stop → Finds (Err error) count rest now new
    → IsOver stop error rest new.left (traffic_from (2 ^ 64 - 2 - fronts) count rest)
over_found fronts count rest stop now new error few same finds = record {
  closing = λ none. next_traffic fronts count rest (Err error) few (plain_found error count rest now new none finds);
  fault = λ is.
      let found = fault_found error count rest now new is finds in
      (λ never. found.0 (same ∙ never), λ stops. next_traffic fronts count rest (Err (errors.InputOutput kinds.Ended)) few (found.1 (same ∙ stops)), λ none. found.2 (same ∙ none));
}

pub over_last : (fronts count : ℕ) (rest : List ℕ) (stop : Option Bool) (left : Option (List ℕ)) → 2 ^ 64 - 2 ≤ fronts
    → IsOver stop (errors.InputOutput kinds.Ended) rest left (traffic_from (2 ^ 64 - 2 - fronts) count rest)
over_last fronts count rest stop left most =
    let none : 2 ^ 64 - 2 - fronts ≡ 0 = omega arith in
    record {
      closing = λ is. ap (λ n. traffic_from n count rest) none;
      fault = λ is. absurd (cc);
    }

-- The last line was written, or why not.
module _ (rules : List Rule) (bytes : List ℕ) (fronts count : ℕ) (start now new : SourceView) (first sink last : SinkView) (w : Went rules bytes fronts count start now first sink)
    (within : fronts ≤ 2 ^ 64 - 2) (error : Error) (over : IsOver start.stop error w.rest new.left (traffic_from (2 ^ 64 - 2 - fronts) count w.rest)) where
  abbrev ends : Ends
  ends = record { source = start; source' = new; sink = first; sink' = last }

  abbrev later : Traffic
  later = traffic_from (2 ^ 64 - 2 - fronts) count w.rest

  closed : failure_of error ≡ None → traffic bytes ≡ behind w.messages (closed_by error)
  closed none = w.all ∙ ap (behind w.messages) (over.closing none)

  closed_is : failure_of error ≡ None → report rules bytes ≡ lines rules w.messages ++ end_line error
  closed_is none = closed_report rules bytes w.messages error (closed none)

  exactly : failure_of error ≡ None → report rules bytes ≡ (lines rules w.messages ++ end_line error) ++ []
  exactly none = closed_is none ∙ sym (append-nil (lines rules w.messages ++ end_line error))

  read : IsRead bytes w.messages w.rest
  read = was_read rules bytes fronts count start now first sink w within

  out_of_memory : Stops refusals.Memory (report rules bytes) first sink (length (lines rules w.messages) + 0)
  out_of_memory =
      runs_out_within (lines rules w.messages) [] (later_lines rules later) (report rules bytes) 0 first sink sink
      (report_is rules bytes w.messages later w.all ∙ ap (λ l. l ++ later_lines rules later) (sym (append-nil (lines rules w.messages)))) (some_later rules later) (omega arith) w.gained (gains_nothing sink)

  pub closes_watches : (result : Result Error WatchError) → Closes result error sink last → Watches result rules bytes ends
  closes_watches (Ok closing) c = (
    c.0 ∙ sym (ap (λ (t : Traffic). t.closing) (closed c.1)),
    subst (λ l. Gains l first last) (sym (closed_is c.1)) (gains_then (lines rules w.messages) (end_line error) first sink last w.gained c.2),
  )
  closes_watches (Err Memory) (inl c) = (length (lines rules w.messages) + 0, subst (λ v. Stops refusals.Memory (report rules bytes) first v (length (lines rules w.messages) + 0)) (sym c.1) out_of_memory)
  closes_watches (Err Memory) (inr c) =
      (length (lines rules w.messages) + c.1, runs_out_after (lines rules w.messages) (end_line error) [] (report rules bytes) c.1 first sink last (exactly c.0) w.gained c.2)
  closes_watches (Err ReadFault) c =
      let f = over.fault c.0 in (
        lines rules w.messages,
        record {
          messages = w.messages;
          rest = w.rest;
          read = read;
          is = refl;
          may = f.0;
          all = λ stops. sym (ap (λ (t : Traffic). t.messages) (w.all ∙ ap (behind w.messages) (f.1 stops)) ∙ append-nil w.messages);
          ended = λ stops. ap (λ (t : Traffic). t.closing) (w.all ∙ ap (behind w.messages) (f.1 stops));
          gone = f.2;
        },
        subst (λ v. Gains (lines rules w.messages) first v) (sym c.1) w.gained,
      )
  closes_watches (Err WriteFault) c = record {
    messages = w.messages;
    rest = w.rest;
    read = read;
    count = length (lines rules w.messages) + c.1;
    stops = fails_after (lines rules w.messages) (end_line error) [] (report rules bytes) c.1 first sink last (exactly c.0) w.gained c.2;
    written = let some = earlier_le rules w.messages in omega (arith, some);
    left = λ less.
        let all : (traffic bytes).messages ≡ w.messages = ap (λ (t : Traffic). t.messages) (closed c.0) ∙ append-nil w.messages in
        let long : length (lines rules (traffic bytes).messages) ≡ length (lines rules w.messages) = ap (λ ms. length (lines rules ms)) all in
        absurd (omega (arith, less, long));
  }

-- ---- no failing read is hidden

ended_found : (error : Error) (count : ℕ) (rest : List ℕ) (now new : SourceView) → Finds (Err error) count rest now new → error ≡ errors.InputOutput kinds.Ended → now.stop ≢ Some true
ended_found errors.Memory count rest now new finds is = absurd (cc)
ended_found (errors.InputOutput kinds.Fault) count rest now new finds is = absurd (cc)
ended_found (errors.InputOutput kinds.Ended) count rest now new finds is = finds.0
ended_found error count rest now new finds is = absurd (cc)

-- what was answered, and no failing read comes, or most fronts were read
answers_fault : (result : Result Error WatchError) (error : Error) (bytes : List ℕ) (stop : Option Bool) (sink last : SinkView)
    → (error ≡ errors.InputOutput kinds.Ended → stop ≡ Some true → IsFull bytes) → Closes result error sink last → HidesNoFault result bytes stop
answers_fault (Ok (errors.InputOutput kinds.Ended)) error bytes (Some true) sink last full c = full (sym c.0) refl
answers_fault result error bytes stop sink last full c = tt

-- an error hides none
pub error_hides_none : (result : Result Error WatchError) (error : WatchError) (left : Option (List ℕ)) (stop : Option Bool) → result ≡ Err error → IfSome left (λ bytes. HidesNoFault result bytes stop)
error_hides_none (Ok closing) error left stop is = cc
error_hides_none (Err other) error None stop is = tt
error_hides_none (Err other) error (Some bytes) stop is = tt

pub found_hides_none : (result : Result Error WatchError) (error : Error) (count : ℕ) (bytes rest : List ℕ) (stop : Option Bool) (now new : SourceView) (sink last : SinkView) → now.stop ≡ stop
    → Finds (Err error) count rest now new → Closes result error sink last → HidesNoFault result bytes stop
found_hides_none result error count bytes rest stop now new sink last same finds c =
    answers_fault result error bytes stop sink last (λ is. λ stops. absurd (ended_found error count rest now new finds is (same ∙ stops))) c

is_full : (rules : List Rule) (bytes : List ℕ) (fronts count : ℕ) (start now : SourceView) (first sink : SinkView) → Went rules bytes fronts count start now first sink → fronts ≤ 2 ^ 64 - 2
    → 2 ^ 64 - 2 ≤ fronts → IsFull bytes
is_full rules bytes fronts count start now first sink w within most = record {
  messages = w.messages;
  rest = w.rest;
  read = was_read rules bytes fronts count start now first sink w within;
  most = let number = were_read rules bytes fronts count start now first sink w within in omega (arith, number, within, most);
}

pub last_hides_none : (rules : List Rule) (bytes : List ℕ) (fronts count : ℕ) (start now : SourceView) (first sink last : SinkView) (result : Result Error WatchError)
    → Went rules bytes fronts count start now first sink → fronts ≤ 2 ^ 64 - 2 → 2 ^ 64 - 2 ≤ fronts → Closes result (errors.InputOutput kinds.Ended) sink last → HidesNoFault result bytes start.stop
last_hides_none rules bytes fronts count start now first sink last result w within most c =
    answers_fault result (errors.InputOutput kinds.Ended) bytes start.stop sink last (λ is. λ stops. is_full rules bytes fronts count start now first sink w within most) c

-- ---- a line wasn't written

module _ (rules : List Rule) (bytes : List ℕ) (fronts count : ℕ) (start now new : SourceView) (first sink last : SinkView) (w : Went rules bytes fronts count start now first sink)
    (few : fronts < 2 ^ 64 - 2) where
  written_before : (r : Received) (n : ℕ) → Stops refusals.Failed (lines rules (messages_of r)) sink last n
      → length (lines rules (earlier (w.messages ++ messages_of r))) ≤ length (lines rules w.messages) + n
  written_before (Message m) n stops =
      let is = ap (λ ms. length (lines rules ms)) (earlier_is w.messages m) in omega (arith, is)
  written_before (Passed front) n stops = let proper : n < 0 = stops.0.proper in absurd (omega arith)

  shows_failed : (r : Received) (finds : Finds (Ok r) count w.rest now new) (n : ℕ) → Stops refusals.Failed (lines rules (messages_of r)) sink last n
      → WriteStops rules bytes (record { source = start; source' = new; sink = first; sink' = last })
  shows_failed r finds n stops =
      let all = next_traffic_is rules bytes fronts count (count_with r count) start now new first sink w r few finds refl in
      let later = traffic_from (2 ^ 64 - 2 - (fronts + 1)) (count_with r count) (drop (length (received_bytes r)) w.rest) in
      record {
        messages = w.messages ++ messages_of r;
        rest = drop (length (received_bytes r)) w.rest;
        read = next_read rules bytes fronts count (count_with r count) start now new first sink w r few finds refl;
        count = length (lines rules w.messages) + n;
        stops = fails_after (lines rules w.messages) (lines rules (messages_of r)) (later_lines rules later) (report rules bytes) n first sink last
            (report_is rules bytes (w.messages ++ messages_of r) later all ∙ ap (λ l. l ++ later_lines rules later) (lines_append rules w.messages (messages_of r))) w.gained stops;
        written = written_before r n stops;
        left = λ less. finds.1;
      }

  shows_out_of_memory : (r : Received) (finds : Finds (Ok r) count w.rest now new) (n : ℕ) → n ≤ length (lines rules (messages_of r)) → Gains (take n (lines rules (messages_of r))) sink last
      → Stops refusals.Memory (report rules bytes) first last (length (lines rules w.messages) + n)
  shows_out_of_memory r finds n within gained =
      let all = next_traffic_is rules bytes fronts count (count_with r count) start now new first sink w r few finds refl in
      let later = traffic_from (2 ^ 64 - 2 - (fronts + 1)) (count_with r count) (drop (length (received_bytes r)) w.rest) in
      runs_out_within (lines rules w.messages) (lines rules (messages_of r)) (later_lines rules later) (report rules bytes) n first sink last
      (report_is rules bytes (w.messages ++ messages_of r) later all ∙ ap (λ l. l ++ later_lines rules later) (lines_append rules w.messages (messages_of r))) (some_later rules later) within w.gained gained

  pub shows_watches : (r : Received) (e : WatchError) → Finds (Ok r) count w.rest now new → Shows {A = ℕ} (Err e) (lines rules (messages_of r)) sink last
      → Watches (Err e) rules bytes (record { source = start; source' = new; sink = first; sink' = last })
  shows_watches r Memory finds s = (length (lines rules w.messages) + s.0, shows_out_of_memory r finds s.0 s.1 s.2)
  shows_watches r ReadFault finds s = absurd s
  shows_watches r WriteFault finds s = shows_failed r finds s.0 s.1

-- ---- the counts of faults

pub rises_then : (a b c : ℕ) → a ≤ b → MayRise b c → MayRise a c
rises_then a b c le (inl less) = inl (omega (arith, le, less))
rises_then a b c le (inr most) =
    elim (cases_lt a c) as (λ _. MayRise a c) [
      | inl less ↦ inl less
      | inr above ↦ inr (omega (arith, above, most.0, most.1, le), most.1)
    ]

fault_caused : (error : Error) (now new : SourceView) → failure_of error ≡ Some ReadFault → receive.HasCause error now new → MayRise now.faults new.faults
fault_caused errors.Memory now new is cause = absurd (cc)
fault_caused (errors.InputOutput kinds.Fault) now new is cause = cause
fault_caused error now new is cause = absurd (cc)

pub closes_caused : (result : Result Error WatchError) (error : Error) (start now new : SourceView) (first sink last : SinkView) → start.faults ≤ now.faults → now.faults ≤ new.faults
    → (failure_of error ≡ Some ReadFault → MayRise now.faults new.faults) → sink.faults ≡ first.faults → Closes result error sink last
    → IsCaused result (record { source = start; source' = new; sink = first; sink' = last })
closes_caused (Ok closing) error start now new first sink last le grows fault same c = (omega (arith, le, grows), c.2.2 ∙ same)
closes_caused (Err Memory) error start now new first sink last le grows fault same (inl c) = (omega (arith, le, grows), ap (λ (v : SinkView). v.faults) c.1 ∙ same)
closes_caused (Err Memory) error start now new first sink last le grows fault same (inr c) = (omega (arith, le, grows), c.2.2 ∙ same)
closes_caused (Err ReadFault) error start now new first sink last le grows fault same c = (rises_then start.faults now.faults new.faults le (fault c.0), ap (λ (v : SinkView). v.faults) c.1 ∙ same)
closes_caused (Err WriteFault) error start now new first sink last le grows fault same c = (omega (arith, le, grows), subst (λ n. MayRise n last.faults) same c.2.2)

pub read_caused : (error : Error) (now new : SourceView) → IsReadRefusal error × receive.HasCause error now new → failure_of error ≡ Some ReadFault → MayRise now.faults new.faults
read_caused error now new e is = fault_caused error now new is e.1

pub last_caused : (faults : ℕ) → failure_of (errors.InputOutput kinds.Ended) ≡ Some ReadFault → MayRise faults faults
last_caused faults is = absurd (cc)

pub shows_caused : (rules : List Rule) (r : Received) (e : WatchError) (start now new : SourceView) (first sink last : SinkView) → start.faults ≤ now.faults → now.faults ≤ new.faults
    → sink.faults ≡ first.faults → Shows {A = ℕ} (Err e) (lines rules (messages_of r)) sink last → IsCaused {A = Error} (Err e) (record { source = start; source' = new; sink = first; sink' = last })
shows_caused rules r Memory start now new first sink last le grows same s = (omega (arith, le, grows), s.2.2 ∙ same)
shows_caused rules r ReadFault start now new first sink last le grows same s = absurd s
shows_caused rules r WriteFault start now new first sink last le grows same s = (omega (arith, le, grows), subst (λ n. MayRise n last.faults) same s.1.2)

-- ---- where the bytes are reported

-- what is so of the bytes at the start, and of those that are left, is so of what comes of it
pub carried : {A : Type 0} (start : Option A) (P Q : A → Type 0) → ((a : A) → start ≡ Some a → P a → Q a) → IfSome start P → IfSome start Q
carried None P Q f p = tt
carried (Some a) P Q f p = f a refl p

pub found_in : (left : Option (List ℕ)) (rest : List ℕ) (P : List ℕ → Type 0) → left ≡ Some rest → IfSome left P → P rest
found_in left rest P is p = subst (λ o. IfSome o P) is p

-- ---- the widest buffer

pub widens_then : (a b c : Option ℕ) (n : ℕ) → GrowsTo a b n → GrowsTo b c n → GrowsTo a c n
widens_then None b c n p q = tt
widens_then (Some x) None c n p q = absurd p
widens_then (Some x) (Some y) None n p q = absurd q
widens_then (Some x) (Some y) (Some z) n p q = omega (arith, p, q)

pub widens_nothing : (a : Option ℕ) (n : ℕ) → GrowsTo a a n
widens_nothing None n = tt
widens_nothing (Some x) n = omega arith

-- ---- no memory for the last line

nothing_of : (error : Error) (sink : SinkView) → Stops refusals.Memory (end_line error) sink sink 0
nothing_of error sink = let n = gains_nothing sink in (record { proper = some_end error; gone = n.0 }, n.1, refl)

pub no_last_line : (result : Result Error WatchError) (e : WatchError) (error : Error) (sink : SinkView) → result ≡ Err e → e ≡ Memory → failure_of error ≡ None → Closes result error sink sink
no_last_line result e error sink is memory none = rw (is, memory) (inr (none, 0, nothing_of error sink))

pub not_some : {A : Type 0} (o : Option A) → ((a : A) → o ≡ Some a → ⊥) → o ≡ None
not_some None f = refl
not_some (Some a) f = absurd (f a refl)
