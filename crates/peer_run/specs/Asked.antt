-- What the program is asked for by the words behind its name.
use Rattle.std.specs.Prelude.{ℕ, if◌then◌else◌, List, [], ◌∷◌, codes, Option, Some, None}
use Rattle.peer_script.specs.Word.{same}
use Rattle.peer_gen.specs.Count.{gen_number}
pub use Rattle.peer_run.specs.declared.request.Request.{Request}
pub use Rattle.peer_run.specs.declared.request.Request.TheVariants.{Run, Gen, Monitor, Unknown}

-- by the number behind `gen`
abbrev pub asked_run_of : Option ℕ → Request
asked_run_of (Some count) = Gen count
asked_run_of None = Unknown

-- by words of which the first isn't `monitor`
abbrev pub asked_other : List ℕ → List (List ℕ) → Request
asked_other word [] = if same word (codes "run") then Run else Unknown
asked_other word (number ∷ []) = if same word (codes "gen") then asked_run_of (gen_number number) else Unknown
asked_other word (number ∷ more ∷ words) = Unknown

-- By the words: a run of the input's script, `run` or none; a run of a generated script, `gen N`; a report of the input's traffic, `monitor`
-- with the texts of the match rules behind it; or nothing that the program does.
abbrev pub asked : List (List ℕ) → Request
asked [] = Run
asked (word ∷ words) = if same word (codes "monitor") then Monitor else asked_other word words

-- it is something for which the input is read
abbrev pub IsOfInput : Request → Type 0
IsOfInput Run = Unit {0}
IsOfInput Monitor = Unit {0}
IsOfInput other = ⊥
