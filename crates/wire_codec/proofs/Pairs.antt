-- Dict entries, seen as keys and values and as the structs that they are.
use Rattle.wire_tree.proofs.Parts.{entries_are}
use Rattle.wire_encoding.proofs.ReadAgain.{basic_room}

pub ruleset entries = (entries_are, basic_room)
