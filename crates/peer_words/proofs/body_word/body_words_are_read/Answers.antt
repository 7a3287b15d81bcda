use Rattle.peer_words.proofs.BodyWords.{word_found, word_again}
use Rattle.peer_words.proofs.body_word.body_words_are_read.Goals as goal

pub returns : goal.returns
returns c = λ word values. (word_found word values, word_again word values)
