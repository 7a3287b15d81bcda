use Rattle.peer_script.proofs.Grammar.{text_of_reading}
use Rattle.peer_script.proofs.Readings.{reading_of_text}
use Rattle.peer_script.proofs.laws.script_texts_are_read.Goals as goal

pub returns : goal.returns
returns c = λ bytes s. (text_of_reading bytes s, reading_of_text bytes s)
