-- Reading line by line.
use Rattle.std.proofs.{Common.{ℕ, ◌≡◌, ◌+◌, ◌<◌, ◌≤◌, ◌==◌, if◌then◌else◌, Bool, true, false, List, [], ◌∷◌, length, Option, Some, None, Result, Ok, Err, refl, sym, ap, subst, ◌∙◌, arith}, lemmas.List.Splits.length-slice_split}
use Rattle.wire_framing.specs.declared.memory.Piece.{Piece}
use Rattle.peer_words.specs.declared.words.Command.{Command}
use Rattle.peer_script.specs.{declared.reading.Progress.Progress, declared.line.Line.Line, declared.reading.Stage.Stage, declared.reading.Stage.TheVariants.Start, Script.{Script, line_of, parts}, Reading.{Step, take_line, may_end, end_of, then_read, read_lines, given, script_of, TakesLine}}
use Rattle.peer_script.specs.declared.kind.PeerKind.TheVariants as kinds

pub lines_step : (r : Step) (n : ℕ) (line : List ℕ) (ls : List (List ℕ)) → 1 ≤ length ls
    → read_lines r n (line ∷ ls) ≡ then_read (take_line r.stage r.script (line_of line)) n (λ q. read_lines q (n + 1) ls)
lines_step r n line [] h = absurd (omega arith)
lines_step r n line (next ∷ ls) h = refl

pub some_part : (xs : List ℕ) → 1 ≤ length (parts xs)
some_part xs = omega (arith, length-slice_split (λ (b : ℕ). b == 10) xs)

pub no_line : (stage : Stage) (s : Script) → take_line stage s None ≡ None
unfolding take_line
no_line stage s = refl

-- one line more
pub step_to : (whole : Result Script ℕ) (stage : Stage) (s : Script) (n : ℕ) (line rest more : List ℕ) (o : Option Step)
    → whole ≡ read_lines (record { stage = stage; script = s }) n (parts rest) → parts rest ≡ line ∷ parts more → take_line stage s (line_of line) ≡ o
    → whole ≡ then_read o n (λ q. read_lines q (n + 1) (parts more))
step_to whole stage s n line rest more o p q e =
    p ∙ ap (read_lines (record { stage = stage; script = s }) n) q ∙ lines_step (record { stage = stage; script = s }) n line (parts more) (some_part more)
    ∙ ap (λ x. then_read x n (λ q. read_lines q (n + 1) (parts more))) e

pub taken : (whole : Result Script ℕ) (stage : Stage) (s : Script) (n : ℕ) (line rest more : List ℕ) (l : Line) (r : Step)
    → whole ≡ read_lines (record { stage = stage; script = s }) n (parts rest) → parts rest ≡ line ∷ parts more → line_of line ≡ Some l
    → take_line stage s (Some l) ≡ Some r → whole ≡ read_lines r (n + 1) (parts more)
taken whole stage s n line rest more l r p q e t = step_to whole stage s n line rest more (Some r) p q (ap (take_line stage s) e ∙ t)

pub refused : (whole : Result Script ℕ) (stage : Stage) (s : Script) (n : ℕ) (line rest more : List ℕ) (l : Line)
    → whole ≡ read_lines (record { stage = stage; script = s }) n (parts rest) → parts rest ≡ line ∷ parts more → line_of line ≡ Some l
    → take_line stage s (Some l) ≡ None → whole ≡ Err n
refused whole stage s n line rest more l p q e t = step_to whole stage s n line rest more None p q (ap (take_line stage s) e ∙ t)

pub outside : (whole : Result Script ℕ) (stage : Stage) (s : Script) (n : ℕ) (line rest more : List ℕ)
    → whole ≡ read_lines (record { stage = stage; script = s }) n (parts rest) → parts rest ≡ line ∷ parts more → line_of line ≡ None → whole ≡ Err n
outside whole stage s n line rest more p q e =
    step_to whole stage s n line rest more None p q (ap (take_line stage s) e ∙ no_line stage s)

ended : (whole : Result Script ℕ) (stage : Stage) (s : Script) (n : ℕ) (rest : List ℕ)
    → whole ≡ read_lines (record { stage = stage; script = s }) n (parts rest) → parts rest ≡ rest ∷ [] → whole ≡ end_of stage s n rest
ended whole stage s n rest p q = p ∙ ap (read_lines (record { stage = stage; script = s }) n) q

end_after : (stage : Stage) (s : Script) (n : ℕ) (rest : List ℕ) → 0 < length rest → end_of stage s n rest ≡ Err n
end_after stage s n [] h = absurd (omega arith)
end_after stage s n (b ∷ rest) h = refl

end_here : (stage : Stage) (s : Script) (n : ℕ) (rest : List ℕ) (may : Bool) → length rest ≡ 0 → may_end stage ≡ may
    → end_of stage s n rest ≡ (if may then Ok s else Err n)
end_here stage s n [] may h e = ap (λ b. if b then Ok s else Err n) e
end_here stage s n (b ∷ rest) may h e = absurd (omega arith)

pub left_over : (whole : Result Script ℕ) (stage : Stage) (s : Script) (n : ℕ) (rest : List ℕ)
    → whole ≡ read_lines (record { stage = stage; script = s }) n (parts rest) → parts rest ≡ rest ∷ [] → 0 < length rest → whole ≡ Err n
left_over whole stage s n rest p q h = ended whole stage s n rest p q ∙ end_after stage s n rest h

pub too_early : (whole : Result Script ℕ) (stage : Stage) (s : Script) (n : ℕ) (rest : List ℕ)
    → whole ≡ read_lines (record { stage = stage; script = s }) n (parts rest) → parts rest ≡ rest ∷ [] → length rest ≡ 0 → may_end stage ≡ false → whole ≡ Err n
too_early whole stage s n rest p q h e = ended whole stage s n rest p q ∙ end_here stage s n rest false h e

pub whole_text : (whole : Result Script ℕ) (stage : Stage) (s : Script) (n : ℕ) (rest : List ℕ)
    → whole ≡ read_lines (record { stage = stage; script = s }) n (parts rest) → parts rest ≡ rest ∷ [] → length rest ≡ 0 → may_end stage ≡ true → whole ≡ Ok s
whole_text whole stage s n rest p q h e = ended whole stage s n rest p q ∙ end_here stage s n rest true h e

-- the script before its first line, with what the code has of it
abbrev first_script : List Piece → List Command → Script
first_script ps cs = record { kind = kinds.Direct None; queue = None; machine = None; fds = false; outfault = None; given = given ps; commands = cs }

pub nothing_read : (text : List ℕ) (ps : List Piece) (cs : List Command) → ps ≡ [] → cs ≡ []
    → script_of text ≡ read_lines (record { stage = Start; script = first_script ps cs }) 1 (parts text)
unfolding script_of
nothing_read text ps cs e f =
    ap (λ l. read_lines (record { stage = Start; script = first_script l [] }) 1 (parts text)) (sym e)
    ∙ ap (λ l. read_lines (record { stage = Start; script = first_script ps l }) 1 (parts text)) (sym f)

pub may_come : (E : Type 0) (b : Bool) (old new : Progress) (line : Line) → b ≡ true → TakesLine {E = E} (Ok b) old new line → TakesLine {E = E} (Ok true) old new line
may_come E b old new line e h = subst (λ x. TakesLine {E = E} (Ok x) old new line) e h

pub may_not_come : (E : Type 0) (b : Bool) (old new : Progress) (line : Line) → b ≡ false → TakesLine {E = E} (Ok b) old new line → TakesLine {E = E} (Ok false) old new line
may_not_come E b old new line e h = subst (λ x. TakesLine {E = E} (Ok x) old new line) e h
