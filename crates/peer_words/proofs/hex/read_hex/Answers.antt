use Rattle.peer_words.specs.Hex.{hex_pairs}
use Rattle.peer_words.proofs.Spelled.{taken_more}
use Rattle.peer_words.proofs.hex.read_hex.Goals as goal

pub loop-rest-preserved : goal.loop-rest-preserved
loop-rest-preserved c =
    taken_more hex_pairs c.args.word.now c.loop-rest.rest.now c.in-Some.more.now c.loop-rest.bytes.items c.push.new.self.items c.in-Some.byte
    c.loop-rest.invariant c.in-Some.ensures.0 c.in_ok-push.ensures.items
