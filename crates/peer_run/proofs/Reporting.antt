-- What is printed of traffic, by how the monitor ended.
use Rattle.std.proofs.Common.{◌≡◌, ◌≢◌, ◌<◌, arith, ℕ, refl, sym, subst, List, [], ◌∷◌, ◌++◌, length, Option, Some, None, IfSome, inl, Ok, Err}
use Rattle.std.specs.Io.KnownBytes.{Appends}
use Rattle.watch_tool.specs.{Report.report, Rules.rules_in, Traffic.traffic, Watching.{Watches, IsCaused, IsBeforeFault, HidesNoFault}, Watching.Ends as WatchEnds, declared.error.WatchError.TheVariants.{Memory, ReadFault, WriteFault}}
use Rattle.peer_run.specs.{Names.{SourceView, SinkView, Error, Rule}, Program.{Says, Said, SaidPart, SaidNot, EndsInTime, Ends, Whole, Failed, Reports, Report, memory_text, fault_text}}
use Rattle.peer_run.specs.Program.{ReadFault as CutReport}
use Rattle.peer_run.proofs.Closing.{says_ends, says_behind, part_memory, part_of_more}

-- it isn't 0 where something is said under another status
pub says_other : (status : ℕ) (text : List ℕ) (old new : SinkView) (result : ℕ) → Says status text old new result → 0 < status → result ≢ 0
says_other status text old new result (Said is gained calm) more = λ none. absurd (omega (arith, is, none, more))
says_other status text old new result (SaidPart five rose n part) more = λ none. absurd (omega (arith, five, none))
says_other status text old new result (SaidNot one calm n part) more = λ none. absurd (omega (arith, one, none))

-- the monitor's answer hides no failing read
pub ends_in_time : (error : Error) (rules : List Rule) (old new : SourceView) (start mid : SinkView)
    → IfSome old.left (λ bytes. Watches (Ok error) rules bytes (record { source = old; source' = new; sink = start; sink' = mid })) → IfSome old.left (λ bytes. HidesNoFault (Ok error) bytes old.stop) → EndsInTime old
ends_in_time error rules old new start mid watches hides = by old.left watches hides
  where
    by : (left : Option (List ℕ)) → IfSome left (λ bytes. Watches (Ok error) rules bytes (record { source = old; source' = new; sink = start; sink' = mid })) → IfSome left (λ bytes. HidesNoFault (Ok error) bytes old.stop)
        → IfSome left (λ bytes. HidesNoFault (Ok (traffic bytes).closing) bytes old.stop)
    by (Some bytes) (closing, all) h = subst (λ (e : Error). HidesNoFault (Ok e) bytes old.stop) closing h
    by None w h = tt

module _ (texts : List (List ℕ)) (rules : List Rule) (ok : rules_in texts ≡ Ok rules) (old new : SourceView) (start mid : SinkView) (text : List ℕ) (gained : Appends start.held mid.held text) where
  abbrev ends : WatchEnds
  ends = record { source = old; source' = new; sink = start; sink' = mid }

  -- what is printed where the source tells its bytes, and where it tells nothing
  is_told : (bytes : List ℕ) → old.left ≡ Some bytes → Reports texts old new 0 (report rules bytes)
  is_told bytes left = Report rules refl ok (subst (λ o. IfSome o (λ b. report rules bytes ≡ report rules b)) (sym left) refl)

  is_untold : (any : List ℕ) → old.left ≡ None → Reports texts old new 0 any
  is_untold any left = Report rules refl ok (subst (λ o. IfSome o (λ b. any ≡ report rules b)) (sym left) tt)

  pub reported : (error : Error) → IfSome old.left (λ bytes. Watches (Ok error) rules bytes ends) → IsCaused {A = Error} (Ok error) ends → Ends (Reports texts old new) start mid 0
  reported error watches caused = by old.left refl watches
    where
      by : (left : Option (List ℕ)) → old.left ≡ left → IfSome left (λ bytes. Watches (Ok error) rules bytes ends) → Ends (Reports texts old new) start mid 0
      by (Some bytes) left (closing, all) = Whole (report rules bytes) (is_told bytes left) all.0 all.2
      by None left none = Whole text (is_untold text left) gained caused.1

  pub unwritten : IfSome old.left (λ bytes. Watches (Err WriteFault) rules bytes ends) → IsCaused {A = Error} (Err WriteFault) ends → Ends (Reports texts old new) start mid 5
  unwritten watches caused = by old.left refl watches
    where
      by : (left : Option (List ℕ)) → old.left ≡ left → IfSome left (λ bytes. Watches (Err WriteFault) rules bytes ends) → Ends (Reports texts old new) start mid 5
      by (Some bytes) left w = Failed refl w.stops.2 (inl (0, report rules bytes, is_told bytes left, w.count, w.stops.0))
      by None left none = Failed refl caused.1 (inl (0, text ++ 0 ∷ [], is_untold (text ++ 0 ∷ []) left, length text, part_of_more text start mid gained))

  module _ (end : SinkView) (result : ℕ) where
    pub without_memory : IfSome old.left (λ bytes. Watches (Err Memory) rules bytes ends) → IsCaused {A = Error} (Err Memory) ends → Says 1 memory_text mid end result → Ends (Reports texts old new) start end result
    without_memory watches caused says = by old.left refl watches
      where
        by : (left : Option (List ℕ)) → old.left ≡ left → IfSome left (λ bytes. Watches (Err Memory) rules bytes ends) → Ends (Reports texts old new) start end result
        by (Some bytes) left (count, stops) = part_memory (Reports texts old new) start end result 0 (report rules bytes) mid count (is_told bytes left) stops.0 stops.2 says
        by None left none = part_memory (Reports texts old new) start end result 0 (text ++ 0 ∷ []) mid (length text) (is_untold (text ++ 0 ∷ []) left) (part_of_more text start mid gained) caused.1 says

    pub unread : IfSome old.left (λ bytes. Watches (Err ReadFault) rules bytes ends) → IsCaused {A = Error} (Err ReadFault) ends → Says 4 fault_text mid end result → Ends (Reports texts old new) start end result
    unread watches caused says = by old.left refl watches
      where
        by : (left : Option (List ℕ)) → old.left ≡ left → IfSome left (λ bytes. Watches (Err ReadFault) rules bytes ends) → Ends (Reports texts old new) start end result
        by (Some bytes) left (front, before, gains) =
            says_ends (Reports texts old new) start end result 4 (front ++ fault_text)
            (CutReport rules refl ok caused.0 (front, refl, subst (λ o. IfSome o (λ b. IsBeforeFault rules b old new front)) (sym left) before))
            (says_behind 4 front fault_text start mid end result gains.0 gains.2 says)
        by None left none =
            says_ends (Reports texts old new) start end result 4 (text ++ fault_text)
            (CutReport rules refl ok caused.0 (text, refl, subst (λ o. IfSome o (λ b. IsBeforeFault rules b old new text)) (sym left) tt))
            (says_behind 4 text fault_text start mid end result gained caused.1 says)
