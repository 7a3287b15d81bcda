-- Which commands a script of `run` has.
use Rattle.std.specs.Prelude.{⊤}
use Rattle.peer_words.specs.Names.{Words}

-- no command that only lanes have which run at once
abbrev pub IsOfRun : Words → Type 0
IsOfRun (Words.Live line) = ⊥
IsOfRun w = ⊤
