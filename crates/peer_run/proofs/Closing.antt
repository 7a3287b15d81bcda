-- How the program ends on a script, by how its input was read.
use Rattle.std.proofs.{Common.{◌≡◌, ◌≢◌, ℕ, ◌+◌, ◌<◌, refl, sym, ◌∙◌, subst, arith, Bool, true, false, List, [], append-nil, length, length-append, take, Option, Some, None, IfSome, if◌then◌else◌, ◌⊎◌, inl, inr, Result, Ok, Err, is_ok, ap, ◌∷◌, ◌++◌}, Math.Bool.and-false, Math.Seq.{take-length, take-append-add, take-append_seam}, lemmas.Bool.Decides.nat_tests, lemmas.Option.IfSome_then, KnownBytes.{Appends-nil, Appends-trans}}
use Rattle.std.specs.{Prelude.{nat_le, codes, decimal}, Io.KnownBytes.Appends}
use Rattle.peer_run.specs.{Names.{SourceView, SinkView, MayRise, Part, Script, line_count, IsWithin, PassesLimit, script_of, Command, Entry}, Histories.{IsHistory, Tells}, Program.{Says, Said, SaidPart, SaidNot, Ends, Whole, Failed, NoMemory, IsRefusal, Transcribes, Transcript, Refusal, InputFault, IsFront, decided, memory_text}}
use Rattle.peer_script.specs.{Reading.script_with, Transcript.{transcript_text, transcript_with}, declared.error.ScriptError.ScriptError, declared.script.Setup.Setup}
use Rattle.peer_script.proofs.{Grammar.text_of_reading, Readings.reading_of_text}
use Rattle.peer_turns.specs.Objects.{Handed}
use Rattle.peer_run.proofs.Following.{if_it_is}

-- ---- fronts of texts

-- ---- what was said

module _ (Is : ℕ → List ℕ → Type 0) (old new : SinkView) (result : ℕ) where
  -- a text of these
  pub says_ends : (status : ℕ) (text : List ℕ) → Is status text → Says status text old new result → Ends Is old new result
  says_ends status text is (Said same gained calm) = Whole text (subst (λ r. Is r text) (sym same) is) gained calm
  says_ends status text is (SaidPart five rose n part) = Failed five rose (inl (status, text, is, n, part))
  says_ends status text is (SaidNot one calm n part) =
      NoMemory one calm (take n text, inr (status, text, is, n, part.proper, refl), 0, subst (Appends old.held new.held) (sym (append-nil (take n text))) part.gone)

  -- that there is no memory, where a front of one stands
  front_memory : (mid : SinkView) (front : List ℕ) → IsFront Is front → Appends old.held mid.held front → mid.faults ≡ old.faults → Says 1 memory_text mid new result → Ends Is old new result
  front_memory mid front is first still (Said one more calm) =
      NoMemory one (calm ∙ still) (front, is, length memory_text, Appends-trans old.held mid.held new.held front _ first (subst (Appends mid.held new.held) (sym (take-length memory_text)) more))
  front_memory mid front is first still (SaidPart five rose n part) =
      Failed five (subst (λ faults. MayRise faults new.faults) still rose) (inr (front, is, n, part.proper, Appends-trans old.held mid.held new.held front _ first part.gone))
  front_memory mid front is first still (SaidNot one calm n part) = NoMemory one (calm ∙ still) (front, is, n, Appends-trans old.held mid.held new.held front _ first part.gone)

  -- where a part of one stands
  pub part_memory : (status : ℕ) (text : List ℕ) (mid : SinkView) (n : ℕ) → Is status text → Part text old mid n → mid.faults ≡ old.faults → Says 1 memory_text mid new result → Ends Is old new result
  part_memory status text mid n is part still says = front_memory mid (take n text) (inr (status, text, is, n, part.proper, refl)) part.gone still says

  -- and nothing but that
  pub only_memory : Says 1 memory_text old new result → Ends Is old new result
  only_memory says = front_memory old [] (inl refl) (Appends-nil old.held) refl says

-- a part of a text, behind a text that the output gained
part_behind : (front text : List ℕ) (old mid new : SinkView) (n : ℕ) → Appends old.held mid.held front → Part text mid new n → Part (front ++ text) old new (length front + n)
part_behind front text old mid new n first part = record {
  proper = let p = part.proper in rw (length-append front text) omega (arith, p);
  gone = subst (Appends old.held new.held) (sym (take-append-add front text n)) (Appends-trans old.held mid.held new.held front (take n text) first part.gone);
}

-- what was gained is a part of a longer text
pub part_of_more : (text : List ℕ) (old new : SinkView) → Appends old.held new.held text → Part (text ++ 0 ∷ []) old new (length text)
part_of_more text old new gained = record {
  proper = rw (length-append text (0 ∷ [])) omega (arith);
  gone = subst (Appends old.held new.held) (sym (take-append_seam text (0 ∷ []))) gained;
}

-- behind a text that the output gained
pub says_behind : (status : ℕ) (front text : List ℕ) (old mid new : SinkView) (result : ℕ) → Appends old.held mid.held front → mid.faults ≡ old.faults → Says status text mid new result → Says status (front ++ text) old new result
says_behind status front text old mid new result first still (Said is gained calm) = Said is (Appends-trans old.held mid.held new.held front text first gained) (calm ∙ still)
says_behind status front text old mid new result first still (SaidPart five rose n part) =
    SaidPart five (subst (λ faults. MayRise faults new.faults) still rose) (length front + n) (part_behind front text old mid new n first part)
says_behind status front text old mid new result first still (SaidNot one calm n part) =
    SaidNot one (calm ∙ still) (length front + n) (part_behind front text old mid new n first part)

-- ---- what is to be said of a script

-- a transcript has the script's header lines, whatever its commands are
same_head : (setup : Setup) (commands : List Command) (entries : List Entry) (sent : List ℕ) → transcript_with setup entries sent ≡ transcript_text (script_with setup commands) entries sent
unfolding transcript_text
same_head setup commands entries sent = refl

-- what is printed of a history is its transcript
pub tells : (boxes : Handed) (setup : Setup) (commands : List Command) (entries : List Entry) (lent sent : List ℕ) → IsHistory boxes (script_with setup commands) entries sent → lent ≡ sent → Tells boxes (script_with setup commands) (transcript_with setup entries lent)
tells boxes setup commands entries lent sent history same = record {
  entries = entries;
  sent = sent;
  history = history;
  is = same_head setup commands entries lent ∙ ap (transcript_text (script_with setup commands) entries) same;
}

module _ (boxes : Handed) (old new : SourceView) where
  pub transcript_of : (s : Script) (text : List ℕ) → old.stop ≢ Some true → IfSome old.left (λ bytes. IsWithin bytes × (script_of bytes ≡ Ok s)) → Tells boxes s text → Transcribes boxes old new 0 text
  transcript_of s text told read is =
      Transcript refl told (IfSome_then old.left read (λ bytes r. record { script = s; within = r.0; read = text_of_reading bytes s r.1; told = is }))

  pub limit_of : IfSome old.left PassesLimit → Transcribes boxes old new 3 (codes "script: limit" ++ 10 ∷ [])
  limit_of passed = Refusal refl (IfSome_then old.left passed (λ bytes p. inl (p, refl)))

  pub line_of : (n : ℕ) → old.stop ≢ Some true → IfSome old.left (λ bytes. IsWithin bytes × (script_of bytes ≡ Err n)) → Transcribes boxes old new 3 (codes "script: line " ++ decimal n ++ 10 ∷ [])
  line_of n told read = Refusal refl (IfSome_then old.left read (λ bytes r. inr (told, r.0, n, r.1, refl)))

-- ---- what the input's bytes decide

decides : (bytes : List ℕ) → IsWithin bytes → decided bytes ≡ (if is_ok (script_of bytes) then 0 else 3)
decides bytes w =
    let small : nat_le (length bytes) 1073741824 ≡ true = let s = w.small in grind (arith, nat_tests) in
    let few : nat_le (line_count bytes) 1000000 ≡ true = let f = w.few in grind (arith, nat_tests) in
    rw (small, few) refl

refusal_decides : (stop : Option Bool) (bytes text : List ℕ) → IsRefusal stop bytes text → 3 ≡ decided bytes
refusal_decides stop bytes text (inl (inl long, is)) = let over : nat_le (length bytes) 1073741824 ≡ false = grind (arith, nat_tests) in rw over refl
refusal_decides stop bytes text (inl (inr many, is)) =
    let over : nat_le (line_count bytes) 1000000 ≡ false = grind (arith, nat_tests) in rw (over, and-false (nat_le (length bytes) 1073741824)) refl
refusal_decides stop bytes text (inr (told, w, n, read, is)) = sym (decides bytes w ∙ rw read refl)

-- where no count rose, the input's bytes decide the status, memory aside
pub run_decided : (boxes : Handed) (before after : SourceView) (old new : SinkView) (result : ℕ)
    → Ends (Transcribes boxes before after) old new result → ¬ MayRise before.faults after.faults → ¬ MayRise old.faults new.faults
    → IfSome before.left (λ bytes. (result ≡ decided bytes) ⊎ (result ≡ 1))
run_decided boxes before after old new result (Whole text (Transcript zero told is) gained same) calm fine =
    IfSome_then before.left is (λ bytes x. inl (zero ∙ sym (decides bytes x.within ∙ rw (reading_of_text bytes x.script x.read) refl)))
run_decided boxes before after old new result (Whole text (Refusal three is) gained same) calm fine =
    IfSome_then before.left is (λ bytes x. inl (three ∙ refusal_decides before.stop bytes text x))
run_decided boxes before after old new result (Whole text (InputFault four rose early is) gained same) calm fine = absurd (calm rose)
run_decided boxes before after old new result (Failed five rose cut) calm fine = absurd (fine rose)
run_decided boxes before after old new result (NoMemory one same out) calm fine = if_it_is before.left _ (λ bytes there. inr one)

not_both : (bytes : List ℕ) → IsWithin bytes → PassesLimit bytes → ⊥
not_both bytes w (inl long) = omega (arith, w.small, long)
not_both bytes w (inr many) = omega (arith, w.few, many)

-- a script that wasn't refused for its limits passes none
pub not_passed : (A : Type 0) (source : SourceView)
    → IfSome source.left (λ bytes. source.stop ≢ None → PassesLimit bytes → (◌≡◌ {A = Result A ScriptError} (Err ScriptError.InputFault) (Err ScriptError.Limit)) ⊎ (◌≡◌ {A = Result A ScriptError} (Err ScriptError.InputFault) (Err ScriptError.Memory)))
    → source.stop ≢ None → IfSome source.left (λ bytes. ¬ PassesLimit bytes)
not_passed A source limit tells = IfSome_then source.left limit (λ bytes l passes. elim (l tells passes) as (λ _. ⊥) [ inl e ↦ cc | inr e ↦ cc ])

-- where the input passes a limit and tells where it fails, the script is refused, memory and the output's faults aside
pub run_limited : (boxes : Handed) (before after : SourceView) (old new : SinkView) (result : ℕ)
    → Ends (Transcribes boxes before after) old new result → before.stop ≢ None
    → IfSome before.left (λ bytes. PassesLimit bytes → (result ≡ 3) ⊎ (result ≡ 1) ⊎ (result ≡ 5))
run_limited boxes before after old new result (Whole text (Transcript zero told is) gained same) tells =
    IfSome_then before.left is (λ bytes x passes. absurd (not_both bytes x.within passes))
run_limited boxes before after old new result (Whole text (Refusal three is) gained same) tells = if_it_is before.left _ (λ bytes there passes. inl three)
run_limited boxes before after old new result (Whole text (InputFault four rose early is) gained same) tells =
    IfSome_then before.left (early tells) (λ bytes no passes. absurd (no passes))
run_limited boxes before after old new result (Failed five rose cut) tells = if_it_is before.left _ (λ bytes there passes. inr (inr five))
run_limited boxes before after old new result (NoMemory one same out) tells = if_it_is before.left _ (λ bytes there passes. inr (inl one))
