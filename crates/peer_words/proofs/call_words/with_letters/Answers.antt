use Rattle.std.proofs.Common.{◌∙◌, ap}
use Rattle.peer_words.specs.Names.{flagged}
use Rattle.peer_words.proofs.Letters.{flagged_is}
use Rattle.peer_words.proofs.call_words.with_letters.Goals as goal

pub returns : goal.returns
returns c =
    c.with_flags.ensures ∙ ap (λ b. flagged b c.flags_of.result.0) c.endian.ensures
    ∙ flagged_is c.args.builder c.order_of.result c.args.flags c.flags_of.result.0 c.requires.none c.order_of.ensures c.flags_of.ensures
