-- What the program prints, and with which status it ends.
use Rattle.std.specs.{Prelude.{ℕ, ◌≡◌, ◌≢◌, ◌<◌, ◌⊎◌, ◌&&◌, nat_le, Bool, true, false, if◌then◌else◌, List, [], ◌∷◌, ◌++◌, length, take, drop, codes, decimal, Option, Some, None, Ok, Err, is_ok, IfSome}, Io.KnownBytes.Appends}
use Rattle.peer_run.specs.Names.{SourceView, SinkView, Rule, Entry, line_count, IsWithin, PassesLimit, script_of, MayRise, Part}
use Rattle.peer_gen.specs.{Generated.generated, Counted.gen_line}
use Rattle.watch_tool.specs.{Report.report, Rules.rules_in, Traffic.traffic, Watching.{IsBeforeFault, HidesNoFault}}
use Rattle.peer_turns.specs.Objects.{Handed}
use Rattle.peer_run.specs.{Asked.{Request, Run, Gen, Monitor, Unknown, asked}, Histories.{IsHistory, IsTranscript}}

-- ---- what is printed of a script

-- that there is no memory
abbrev pub memory_text : List ℕ
memory_text = codes "memory" ++ 10 ∷ []

-- that the input failed
abbrev pub fault_text : List ℕ
fault_text = codes "input fault" ++ 10 ∷ []

-- The text says that the input passes a limit; or that it is no script text, with the first line outside, and then the input
-- isn't told to fail behind its bytes.
abbrev pub IsRefusal : Option Bool → List ℕ → List ℕ → Type 0
IsRefusal stop input text =
    (PassesLimit input × (text ≡ codes "script: limit" ++ 10 ∷ []))
    ⊎ ((stop ≢ Some true) × IsWithin input × (n : ℕ) × (script_of input ≡ Err n) × (text ≡ codes "script: line " ++ decimal n ++ 10 ∷ []))

-- What is printed of the script that the input is, and under which status. 0: the transcript, where the input isn't told to fail behind its
-- bytes. 3: why there is none. 4: that the input failed, only where the count of its faults rose, and where the bytes before that pass no
-- limit.
pub data Transcribes (boxes : Handed) (old new : SourceView) (status : ℕ) (text : List ℕ) : Type 0 where
  Transcript : status ≡ 0 → old.stop ≢ Some true → IfSome old.left (λ bytes. IsTranscript boxes bytes text) → Transcribes boxes old new status text
  Refusal : status ≡ 3 → IfSome old.left (λ bytes. IsRefusal old.stop bytes text) → Transcribes boxes old new status text
  InputFault : status ≡ 4 → MayRise old.faults new.faults → (old.stop ≢ None → IfSome old.left (λ bytes. ¬ PassesLimit bytes)) → text ≡ fault_text → Transcribes boxes old new status text

-- ---- of a generated script

-- The text is the line of a history of the generated script of so many calls: its numbers, and how many bytes were sent.
pub record IsGenerated (boxes : Handed) (count : ℕ) (text : List ℕ) : Type 0 where
  pub entries : List Entry
  pub sent : List ℕ
  pub history : IsHistory boxes (generated count) entries sent
  pub is : text ≡ gen_line entries (length sent)

-- It is printed under the status 0.
abbrev pub Numbers : Handed → ℕ → ℕ → List ℕ → Type 0
Numbers boxes count status text = (status ≡ 0) × IsGenerated boxes count text

-- ---- of recorded traffic

-- that the text with that index is the first that is no match rule
abbrev pub rule_text : ℕ → List ℕ
rule_text index = codes "rule " ++ decimal index ++ 10 ∷ []

-- the lines of the traffic before a read that failed, and behind them that the input failed
abbrev pub IsCutReport : List Rule → SourceView → SourceView → List ℕ → Type 0
IsCutReport rules old new text =
    (front : List ℕ) × (text ≡ front ++ fault_text) × IfSome old.left (λ bytes. IsBeforeFault rules bytes old new front)

-- What is printed of the traffic that the input is, by the texts of match rules, and under which status. 0: the report. 2: which text is the
-- first that is no rule. 4: the lines before a read that failed, only where the count of the input's faults rose.
pub data Reports (texts : List (List ℕ)) (old new : SourceView) (status : ℕ) (text : List ℕ) : Type 0 where
  Report : (rules : List Rule) → status ≡ 0 → rules_in texts ≡ Ok rules → IfSome old.left (λ bytes. text ≡ report rules bytes) → Reports texts old new status text
  NoRule : (index : ℕ) → status ≡ 2 → rules_in texts ≡ Err index → text ≡ rule_text index → Reports texts old new status text
  ReadFault : (rules : List Rule) → status ≡ 4 → rules_in texts ≡ Ok rules → MayRise old.faults new.faults → IsCutReport rules old new text → Reports texts old new status text

-- The report hides no failing read: where the input tells that one comes behind these bytes, their end isn't its last line, unless as many
-- fronts were read as are read of any traffic.
abbrev pub EndsInTime : SourceView → Type 0
EndsInTime source = IfSome source.left (λ bytes. HidesNoFault (Ok (traffic bytes).closing) bytes source.stop)

-- ---- of all that the program is asked for

-- the usage; of the words in it, `live`, `talk`, `serve` and `busrun` are none of this program's yet
abbrev pub usage_text : List ℕ
usage_text = codes "usage: run, live, talk ADDR, serve ADDR, gen N, busrun, monitor RULE .." ++ 10 ∷ []

-- What is printed where this is asked for, with these texts behind the first word, and under which status; where it is nothing that the
-- program does, 2, the usage.
abbrev pub PrintsFor : Handed → Request → List (List ℕ) → SourceView → SourceView → ℕ → List ℕ → Type 0
PrintsFor boxes Run texts old new status text = Transcribes boxes old new status text
PrintsFor boxes (Gen count) texts old new status text = Numbers boxes count status text
PrintsFor boxes Monitor texts old new status text = Reports texts old new status text
PrintsFor boxes Unknown texts old new status text = (status ≡ 2) × (text ≡ usage_text)

-- What the program prints and under which status, memory and the output's faults aside, by its words and what the input tells.
abbrev pub Prints : Handed → List (List ℕ) → SourceView → SourceView → ℕ → List ℕ → Type 0
Prints boxes words old new status text = PrintsFor boxes (asked words) (drop 1 words) old new status text

-- the status that an input's bytes decide: 0 for a script text within the limits, else 3
abbrev pub decided : List ℕ → ℕ
decided bytes = if (nat_le (length bytes) 1073741824 && nat_le (line_count bytes) 1000000) && is_ok (script_of bytes) then 0 else 3

-- ---- where there is no memory, or the output fails

-- nothing, or a proper front of a text that would have been printed
abbrev pub IsFront : (ℕ → List ℕ → Type 0) → List ℕ → Type 0
IsFront Is front = (front ≡ []) ⊎ ((status : ℕ) × (text : List ℕ) × Is status text × (n : ℕ) × (n < length text) × (front ≡ take n text))

-- There was no memory: the output gained a proper front of what would have been printed, and behind it a front of the line that says so.
abbrev pub RunsOut : (ℕ → List ℕ → Type 0) → SinkView → SinkView → Type 0
RunsOut Is old new = (front : List ℕ) × IsFront Is front × (n : ℕ) × Appends old.held new.held (front ++ take n memory_text)

-- The output failed: it gained a proper part of what would have been printed; or, where there was no memory for the whole, a proper
-- front of it, perhaps nothing, and behind that a proper part of the line that says so.
abbrev pub IsCutShort : (ℕ → List ℕ → Type 0) → SinkView → SinkView → Type 0
IsCutShort Is old new =
    ((status : ℕ) × (text : List ℕ) × Is status text × (n : ℕ) × Part text old new n)
    ⊎ ((front : List ℕ) × IsFront Is front × (n : ℕ) × (n < length memory_text) × Appends old.held new.held (front ++ take n memory_text))

-- How printing one of these texts ends, by the status that it gives: the output gained a text whose status it is, and nothing else; or
-- it failed, 5, exactly where the count of its faults rose; or there was no memory, 1.
pub data Ends (Is : ℕ → List ℕ → Type 0) (old new : SinkView) (result : ℕ) : Type 0 where
  Whole : (text : List ℕ) → Is result text → Appends old.held new.held text → new.faults ≡ old.faults → Ends Is old new result
  Failed : result ≡ 5 → MayRise old.faults new.faults → IsCutShort Is old new → Ends Is old new result
  NoMemory : result ≡ 1 → new.faults ≡ old.faults → RunsOut Is old new → Ends Is old new result

-- How one text is said under a status: whole; or a proper part of it, where the output failed or there was no memory.
pub data Says (status : ℕ) (text : List ℕ) (old new : SinkView) (result : ℕ) : Type 0 where
  Said : result ≡ status → Appends old.held new.held text → new.faults ≡ old.faults → Says status text old new result
  SaidPart : result ≡ 5 → MayRise old.faults new.faults → (n : ℕ) → Part text old new n → Says status text old new result
  SaidNot : result ≡ 1 → new.faults ≡ old.faults → (n : ℕ) → Part text old new n → Says status text old new result
