-- Texts that are put one after the other.
use Rattle.wire_codec.proofs.Writes.{text_after, text_refused}

pub ruleset texts = (text_after, text_refused)
