-- What is stored under the number is the call's slot; without it the call is over.
use Rattle.std.proofs.Common.{sym, ◌∙◌, ap, is_some, Some, None}
use Rattle.std.specs.Option.{option_copied}
use Rattle.peer_calls.specs.{Names.Slot, Refinement.reply_in}
use Rattle.peer_calls.proofs.Kept.{found}
use Rattle.peer_calls.proofs.slot_table.SlotTable.is_replied.Goals as goal

pub returns-in-None : goal.returns-in-None
returns-in-None c =
    ap (λ (s : Slot). is_some (reply_in s))
    (found c.self.invariant c.args.call c.args.self.now c.self.view_is None (ap option_copied (sym c.in-None.is) ∙ c.get.ensures.value))

pub returns-in-Some : goal.returns-in-Some
returns-in-Some c =
    c.is_replied.ensures
    ∙ ap (λ (s : Slot). is_some (reply_in s))
    (found c.self.invariant c.args.call c.args.self.now c.self.view_is (Some c.in-Some.slot.now) (ap option_copied (sym c.in-Some.is) ∙ c.get.ensures.value))
