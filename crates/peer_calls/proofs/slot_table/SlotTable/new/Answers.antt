-- Nothing is kept of no calls.
use Rattle.std.proofs.Common.{refl}
use Rattle.peer_calls.specs.Keeping.{slots_of}
use Rattle.peer_calls.proofs.Kept.{kept_none}
use Rattle.peer_calls.proofs.slot_table.SlotTable.new.Goals as goal

pub invariant_of-result : goal.invariant_of-result
invariant_of-result c = kept_none c.new.result c.new.ensures.empty

pub returns : goal.returns
unfolding slots_of
returns c = refl
