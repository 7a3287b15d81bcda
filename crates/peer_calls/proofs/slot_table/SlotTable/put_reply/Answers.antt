-- The reply stands in the place of the slot that waited.
use Rattle.std.proofs.{Common.{◌≡◌, sym, ◌∙◌, ap, set, is_some, if◌then◌else◌, Bool, false, refl, Some}, lemmas.Bool.false≢true}
use Rattle.std.specs.Option.{option_copied_mut}
use Rattle.peer_calls.specs.{Names.Slot}
use Rattle.peer_calls.proofs.Kept.{slots_set, others_there, kept_replied}
use Rattle.peer_calls.proofs.slot_table.SlotTable.put_reply.Goals as goal

kept_where : (b : Bool) (m : Slot) → b ≡ false → m ≡ (if b then Slot.Gone else m)
kept_where b m e = rw e refl

pub invariant_of-self : goal.invariant_of-self
invariant_of-self c =
    let some = sym c.is_empty.ensures ∙ c.if-is_empty.false in
    let there = others_there c.self.invariant c.args.call c.args.self.now c.self.view_is some in
    kept_replied c.self.invariant (c.get_mut.follows.lender (Slot.Replied c.args.message)) c.args.call c.args.message c.args.self.now c.self.view_is some
    ((c.get_mut.follows.holds (Slot.Replied c.args.message)).3 there)

pub returns-in-Some : goal.returns-in-Some
returns-in-Some c =
    let some = sym c.is_empty.ensures ∙ c.if-is_empty.false in
    let there = others_there c.self.invariant c.args.call c.args.self.now c.self.view_is some in
    slots_set c.self.inside.made c.self.inside.kept (c.get_mut.follows.lender (Slot.Replied c.args.message)) c.args.call (Some (Slot.Replied c.args.message))
    ((c.get_mut.follows.holds (Slot.Replied c.args.message)).3 there)
    ∙ ap (λ ss. set ss c.args.call (Slot.Replied c.args.message)) c.self.view_is
    ∙ ap (set c.args.self.now c.args.call) (kept_where _ (Slot.Replied c.args.message) some)

pub returns-in_default : goal.returns-in_default
returns-in_default c =
    let some = sym c.is_empty.ensures ∙ c.if-is_empty.false in
    absurd (false≢true (ap is_some (ap option_copied_mut (sym c.in_default.is) ∙ c.get_mut.ensures.value) ∙ others_there c.self.invariant c.args.call c.args.self.now c.self.view_is some))
