-- What dropping a call gives and leaves.
use Rattle.std.proofs.{Common.{◌≡◌, ℕ, zero, suc, get_or, ◌||◌, if◌then◌else◌, refl, ◌∙◌, ap, Bool, true, false, List, [], ◌∷◌, Option, Some, None, Result, Ok, Err}, lemmas.Option.slice_get-map}
use Rattle.std.specs.{List.{slice_get}, Option.option_map}
use Rattle.peer_calls.specs.{Names.{MessageView, Error, Slot}, History.{Call, CallsPast}, Calls.{reply, is_gone, drop_answer}, Refinement.{is_empty_slot, slot_of, slot_by, CallsView, RefinesCalls}}
use Rattle.peer_calls.proofs.{CallsAfter.view_of, Looks.dropped_at}

-- what a slot gives a drop
abbrev slot_drops : Option Slot → Result (Unit {0}) Error
slot_drops None = Err Error.UnknownHandle
slot_drops (Some Slot.Gone) = Err Error.UnknownHandle
slot_drops (Some (Slot.Replied m)) = Ok tt
slot_drops (Some (Slot.Waiting n internal)) = if internal then Err Error.UnknownHandle else Ok tt

slot_drops_by : (gone internal : Bool) (n : ℕ) (o : Option MessageView) → slot_drops (Some (if gone then Slot.Gone else slot_by internal n o)) ≡ (if gone || internal then Err Error.UnknownHandle else Ok tt)
slot_drops_by true internal n o = refl
slot_drops_by false true n (Some m) = refl
slot_drops_by false true n None = refl
slot_drops_by false false n (Some m) = refl
slot_drops_by false false n None = refl

drops_at : (h : CallsPast) (o : Option Call) → slot_drops (option_map (slot_of h.read) o) ≡ dropped_at o
unfolding slot_of
drops_at h None = refl
drops_at h (Some c) = slot_drops_by (is_gone c) c.internal c.serial (reply h.read c)

drops : (v : CallsView) (h : CallsPast) (k : ℕ) → RefinesCalls v h → slot_drops (slice_get v.slots k) ≡ drop_answer h k
unfolding drop_answer
drops v h k left = rw left.slots (rw (slice_get-map (slot_of h.read) h.calls k) (drops_at h (slice_get h.calls k)))

-- a call that wasn't made gives what one that is over does
drops_read : (ss : List Slot) (k : ℕ) → slot_drops (Some (get_or ss k Slot.Gone)) ≡ slot_drops (slice_get ss k)
drops_read [] k = refl
drops_read (s ∷ ss) zero = refl
drops_read (s ∷ ss) (suc k) = drops_read ss k

pub drops_slot : (ss : List Slot) (error : Option Error) (v : CallsView) (h : CallsPast) (k : ℕ) → view_of ss error ≡ v → RefinesCalls v h → slot_drops (Some (get_or ss k Slot.Gone)) ≡ drop_answer h k
drops_slot ss error v h k e left = drops_read ss k ∙ ap (λ (w : CallsView). slot_drops (slice_get w.slots k)) e ∙ drops v h k left

pub slot_drops_gone : (s : Slot) → is_empty_slot s ≡ true → slot_drops (Some s) ≡ Err Error.UnknownHandle
slot_drops_gone Slot.Gone e = refl
slot_drops_gone (Slot.Waiting n true) e = refl
slot_drops_gone (Slot.Waiting n false) e = cc
slot_drops_gone (Slot.Replied m) e = cc

pub slot_drops_there : (s : Slot) → is_empty_slot s ≡ false → slot_drops (Some s) ≡ Ok tt
slot_drops_there Slot.Gone e = cc
slot_drops_there (Slot.Waiting n true) e = cc
slot_drops_there (Slot.Waiting n false) e = refl
slot_drops_there (Slot.Replied m) e = refl
