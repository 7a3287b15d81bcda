-- What each status of the program says, by how it ended.
use Rattle.std.proofs.Common.{◌≡◌, ◌≢◌, ℕ, true, ◌≤◌, ◌<◌, refl, sym, ◌∙◌, subst, arith, List, drop, Option, Some, None, IfSome, ◌⊎◌, inl, inr, Ok, Err}
use Rattle.std.proofs.lemmas.Option.{IfSome_then}
use Rattle.std.specs.Io.KnownBytes.{Appends}
use Rattle.watch_tool.specs.{Report.report, Rules.rules_in}
use Rattle.peer_turns.specs.Objects.{Handed}
use Rattle.peer_run.specs.{Names.{SourceView, SinkView, MayRise, PassesLimit, Rule}, Asked.{Request, Run, Gen, Monitor, Unknown}, Histories.{IsTranscript}, Program.{Ends, Whole, Failed, NoMemory, Transcribes, Transcript, Refusal, InputFault, IsRefusal, IsGenerated, Numbers, Reports, Report, NoRule, ReadFault, IsCutReport, PrintsFor, IsCutShort, RunsOut, decided, fault_text, rule_text, usage_text}}
use Rattle.peer_run.proofs.Closing.{run_decided, run_limited}

-- two statuses aren't one
differ : {A : Type 0} (result m n : ℕ) → result ≡ m → result ≡ n → (m ≡ n → ⊥) → A
differ result m n a b other = absurd (other (sym a ∙ b))

-- under the status 0 a text was printed whole
zero_text : (Is : ℕ → List ℕ → Type 0) (old new : SinkView) (result : ℕ) → Ends Is old new result → result ≡ 0 → (text : List ℕ) × Is result text × Appends old.held new.held text
zero_text Is old new result (Whole text is gained same) none = (text, is, gained)
zero_text Is old new result (Failed five rose cut) none = differ result 5 0 five none (λ e. cc)
zero_text Is old new result (NoMemory one same out) none = differ result 1 0 one none (λ e. cc)

module _ (boxes : Handed) (texts : List (List ℕ)) (before after : SourceView) (old new : SinkView) (result : ℕ) where
  -- ---- 0

  pub told_of : (r : Request) → Ends (PrintsFor boxes r texts before after) old new result → result ≡ 0 → r ≡ Run → before.stop ≢ Some true
  told_of Run (Whole text (Transcript zero told is) gained same) none run = told
  told_of Run (Whole text (Refusal three is) gained same) none run = differ result 3 0 three none (λ e. cc)
  told_of Run (Whole text (InputFault four rose early is) gained same) none run = differ result 4 0 four none (λ e. cc)
  told_of Run (Failed five rose cut) none run = differ result 5 0 five none (λ e. cc)
  told_of Run (NoMemory one same out) none run = differ result 1 0 one none (λ e. cc)
  told_of (Gen count) ends none run = cc
  told_of Monitor ends none run = cc
  told_of Unknown ends none run = cc

  pub whole_of : (r : Request) → Ends (PrintsFor boxes r texts before after) old new result → result ≡ 0 → r ≡ Run
      → IfSome before.left (λ bytes. (text : List ℕ) × IsTranscript boxes bytes text × Appends old.held new.held text)
  whole_of Run (Whole text (Transcript zero told is) gained same) none run = IfSome_then before.left is (λ bytes x. (text, x, gained))
  whole_of Run (Whole text (Refusal three is) gained same) none run = differ result 3 0 three none (λ e. cc)
  whole_of Run (Whole text (InputFault four rose early is) gained same) none run = differ result 4 0 four none (λ e. cc)
  whole_of Run (Failed five rose cut) none run = differ result 5 0 five none (λ e. cc)
  whole_of Run (NoMemory one same out) none run = differ result 1 0 one none (λ e. cc)
  whole_of (Gen count) ends none run = cc
  whole_of Monitor ends none run = cc
  whole_of Unknown ends none run = cc

  pub generated_of : (r : Request) → Ends (PrintsFor boxes r texts before after) old new result → (count : ℕ) → result ≡ 0 → r ≡ Gen count
      → (text : List ℕ) × IsGenerated boxes count text × Appends old.held new.held text
  generated_of r ends count none gen =
      let x = zero_text (Numbers boxes count) old new result (subst (λ r. Ends (PrintsFor boxes r texts before after) old new result) gen ends) none in
      (x.0, x.1.1, x.2)

  pub reported_of : (r : Request) → Ends (PrintsFor boxes r texts before after) old new result → result ≡ 0 → r ≡ Monitor
      → (rules : List Rule) × (rules_in texts ≡ Ok rules) × IfSome before.left (λ bytes. Appends old.held new.held (report rules bytes))
  reported_of Monitor (Whole text (Report rules zero ok is) gained same) none asks = (rules, ok, IfSome_then before.left is (λ bytes x. subst (Appends old.held new.held) x gained))
  reported_of Monitor (Whole text (NoRule index two bad is) gained same) none asks = differ result 2 0 two none (λ e. cc)
  reported_of Monitor (Whole text (ReadFault rules four ok rose is) gained same) none asks = differ result 4 0 four none (λ e. cc)
  reported_of Monitor (Failed five rose cut) none asks = differ result 5 0 five none (λ e. cc)
  reported_of Monitor (NoMemory one same out) none asks = differ result 1 0 one none (λ e. cc)
  reported_of Run ends none asks = cc
  reported_of (Gen count) ends none asks = cc
  reported_of Unknown ends none asks = cc

  -- ---- 2

  pub refused_words_of : (r : Request) → Ends (PrintsFor boxes r texts before after) old new result → result ≡ 2
      → ((r ≡ Unknown) × Appends old.held new.held usage_text) ⊎ ((r ≡ Monitor) × (index : ℕ) × (rules_in texts ≡ Err index) × Appends old.held new.held (rule_text index))
  refused_words_of Unknown (Whole text is gained same) two = inl (refl, subst (Appends old.held new.held) is.1 gained)
  refused_words_of Monitor (Whole text (NoRule index now bad is) gained same) two = inr (refl, index, bad, subst (Appends old.held new.held) is gained)
  refused_words_of Monitor (Whole text (Report rules zero ok is) gained same) two = differ result 0 2 zero two (λ e. cc)
  refused_words_of Monitor (Whole text (ReadFault rules four ok rose is) gained same) two = differ result 4 2 four two (λ e. cc)
  refused_words_of Run (Whole text (Transcript zero told is) gained same) two = differ result 0 2 zero two (λ e. cc)
  refused_words_of Run (Whole text (Refusal three is) gained same) two = differ result 3 2 three two (λ e. cc)
  refused_words_of Run (Whole text (InputFault four rose early is) gained same) two = differ result 4 2 four two (λ e. cc)
  refused_words_of (Gen count) (Whole text is gained same) two = differ result 0 2 is.0 two (λ e. cc)
  refused_words_of r (Failed five rose cut) two = differ result 5 2 five two (λ e. cc)
  refused_words_of r (NoMemory one same out) two = differ result 1 2 one two (λ e. cc)

  pub no_row_of : (r : Request) → Ends (PrintsFor boxes r texts before after) old new result → r ≡ Unknown → (result ≡ 2) ⊎ (result ≡ 1) ⊎ (result ≡ 5)
  no_row_of Unknown (Whole text is gained same) none = inl is.0
  no_row_of Run ends none = cc
  no_row_of (Gen count) ends none = cc
  no_row_of Monitor ends none = cc
  no_row_of r (Failed five rose cut) none = inr (inr five)
  no_row_of r (NoMemory one same out) none = inr (inl one)

  pub no_rule_of : (r : Request) → Ends (PrintsFor boxes r texts before after) old new result → (index : ℕ) → r ≡ Monitor → rules_in texts ≡ Err index → (result ≡ 2) ⊎ (result ≡ 1) ⊎ (result ≡ 5)
  no_rule_of Monitor (Whole text (NoRule k two bad is) gained same) index asks refused = inl two
  no_rule_of Monitor (Whole text (Report rules zero ok is) gained same) index asks refused = let wrong = sym ok ∙ refused in cc
  no_rule_of Monitor (Whole text (ReadFault rules four ok rose is) gained same) index asks refused = let wrong = sym ok ∙ refused in cc
  no_rule_of Monitor (Failed five rose cut) index asks refused = inr (inr five)
  no_rule_of Monitor (NoMemory one same out) index asks refused = inr (inl one)
  no_rule_of Run ends index asks refused = cc
  no_rule_of (Gen count) ends index asks refused = cc
  no_rule_of Unknown ends index asks refused = cc

  -- ---- 3

  pub refused_of : (r : Request) → Ends (PrintsFor boxes r texts before after) old new result → result ≡ 3
      → (r ≡ Run) × IfSome before.left (λ bytes. (text : List ℕ) × IsRefusal before.stop bytes text × Appends old.held new.held text)
  refused_of Run (Whole text (Refusal now is) gained same) three = (refl, IfSome_then before.left is (λ bytes x. (text, x, gained)))
  refused_of Run (Whole text (Transcript zero told is) gained same) three = differ result 0 3 zero three (λ e. cc)
  refused_of Run (Whole text (InputFault four rose early is) gained same) three = differ result 4 3 four three (λ e. cc)
  refused_of (Gen count) (Whole text is gained same) three = differ result 0 3 is.0 three (λ e. cc)
  refused_of Monitor (Whole text (Report rules zero ok is) gained same) three = differ result 0 3 zero three (λ e. cc)
  refused_of Monitor (Whole text (NoRule index two bad is) gained same) three = differ result 2 3 two three (λ e. cc)
  refused_of Monitor (Whole text (ReadFault rules four ok rose is) gained same) three = differ result 4 3 four three (λ e. cc)
  refused_of Unknown (Whole text is gained same) three = differ result 2 3 is.0 three (λ e. cc)
  refused_of r (Failed five rose cut) three = differ result 5 3 five three (λ e. cc)
  refused_of r (NoMemory one same out) three = differ result 1 3 one three (λ e. cc)

  -- ---- 4

  pub input_fault_of : (r : Request) → Ends (PrintsFor boxes r texts before after) old new result → result ≡ 4 → MayRise before.faults after.faults
      × (((r ≡ Run) × Appends old.held new.held fault_text)
      ⊎ ((r ≡ Monitor) × (rules : List Rule) × (rules_in texts ≡ Ok rules) × (text : List ℕ) × IsCutReport rules before after text × Appends old.held new.held text))
  input_fault_of Run (Whole text (InputFault now rose early is) gained same) four = (rose, inl (refl, subst (Appends old.held new.held) is gained))
  input_fault_of Monitor (Whole text (ReadFault rules now ok rose is) gained same) four = (rose, inr (refl, rules, ok, text, is, gained))
  input_fault_of Run (Whole text (Transcript zero told is) gained same) four = differ result 0 4 zero four (λ e. cc)
  input_fault_of Run (Whole text (Refusal three is) gained same) four = differ result 3 4 three four (λ e. cc)
  input_fault_of (Gen count) (Whole text is gained same) four = differ result 0 4 is.0 four (λ e. cc)
  input_fault_of Monitor (Whole text (Report rules zero ok is) gained same) four = differ result 0 4 zero four (λ e. cc)
  input_fault_of Monitor (Whole text (NoRule index two bad is) gained same) four = differ result 2 4 two four (λ e. cc)
  input_fault_of Unknown (Whole text is gained same) four = differ result 2 4 is.0 four (λ e. cc)
  input_fault_of r (Failed five rose cut) four = differ result 5 4 five four (λ e. cc)
  input_fault_of r (NoMemory one same out) four = differ result 1 4 one four (λ e. cc)

  -- ---- where no count rose

  pub script_of_run : (r : Request) → Ends (PrintsFor boxes r texts before after) old new result → r ≡ Run → ¬ MayRise before.faults after.faults → ¬ MayRise old.faults new.faults
      → IfSome before.left (λ bytes. (result ≡ decided bytes) ⊎ (result ≡ 1))
  script_of_run Run ends run = run_decided boxes before after old new result ends
  script_of_run (Gen count) ends run = cc
  script_of_run Monitor ends run = cc
  script_of_run Unknown ends run = cc

  pub limit_of_run : (r : Request) → Ends (PrintsFor boxes r texts before after) old new result → r ≡ Run → before.stop ≢ None
      → IfSome before.left (λ bytes. PassesLimit bytes → (result ≡ 3) ⊎ (result ≡ 1) ⊎ (result ≡ 5))
  limit_of_run Run ends run = run_limited boxes before after old new result ends
  limit_of_run (Gen count) ends run = cc
  limit_of_run Monitor ends run = cc
  limit_of_run Unknown ends run = cc

  pub generates_of : (r : Request) → Ends (PrintsFor boxes r texts before after) old new result → (count : ℕ) → r ≡ Gen count → ¬ MayRise old.faults new.faults → (result ≡ 0) ⊎ (result ≡ 1)
  generates_of (Gen n) (Whole text is gained same) count gen fine = inl is.0
  generates_of (Gen n) (Failed five rose cut) count gen fine = absurd (fine rose)
  generates_of (Gen n) (NoMemory one same out) count gen fine = inr one
  generates_of Run ends count gen fine = cc
  generates_of Monitor ends count gen fine = cc
  generates_of Unknown ends count gen fine = cc

  pub reports_of : (r : Request) → Ends (PrintsFor boxes r texts before after) old new result → (rules : List Rule) → r ≡ Monitor → rules_in texts ≡ Ok rules
      → ¬ MayRise before.faults after.faults → ¬ MayRise old.faults new.faults → (result ≡ 0) ⊎ (result ≡ 1)
  reports_of Monitor (Whole text (Report found zero ok is) gained same) rules asks read calm fine = inl zero
  reports_of Monitor (Whole text (NoRule index two bad is) gained same) rules asks read calm fine = let wrong = sym bad ∙ read in cc
  reports_of Monitor (Whole text (ReadFault found four ok rose is) gained same) rules asks read calm fine = absurd (calm rose)
  reports_of Monitor (Failed five rose cut) rules asks read calm fine = absurd (fine rose)
  reports_of Monitor (NoMemory one same out) rules asks read calm fine = inr one
  reports_of Run ends rules asks read calm fine = cc
  reports_of (Gen count) ends rules asks read calm fine = cc
  reports_of Unknown ends rules asks read calm fine = cc
