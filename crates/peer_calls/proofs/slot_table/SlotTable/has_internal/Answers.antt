-- One of the peer's own waits exactly where the count is above 0.
use Rattle.std.proofs.Common.{ltb, ◌∙◌, ap}
use Rattle.std.specs.List.{list_any}
use Rattle.peer_calls.specs.{Refinement.is_internal_slot, Keeping.slots_of}
use Rattle.peer_calls.proofs.Kept.{count_any}
use Rattle.peer_calls.proofs.slot_table.SlotTable.has_internal.Goals as goal

pub returns : goal.returns
returns c = ap (ltb 0) c.self.invariant.counted ∙ count_any (slots_of c.self.inside.made c.self.inside.kept) ∙ ap (list_any is_internal_slot) c.self.view_is
