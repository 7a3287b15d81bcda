-- As many slots are listed as calls were made.
use Rattle.std.proofs.Common.{length, sym, ◌∙◌, ap}
use Rattle.peer_calls.proofs.Kept.{slots_length}
use Rattle.peer_calls.proofs.slot_table.SlotTable.len.Goals as goal

pub returns : goal.returns
returns c = sym (slots_length c.self.inside.made c.self.inside.kept) ∙ ap length c.self.view_is
