-- The calls after each event.
use Rattle.std.proofs.{Common.{arith, ◌≡◌, ℕ, zero, suc, ◌==◌, is_some, ◌&&◌, ◌||◌, is_none, if◌then◌else◌, refl, sym, ◌∙◌, ap, Bool, true, false, not, List, [], ◌∷◌, ◌++◌, length, map, get_or, set, Option, Some, None, Result, Ok, Err, length-append, ◌≤◌}, lemmas.Bool.{true≢false, false≢true}, lemmas.List.Quantifiers.position-Some, lemmas.Option.slice_get-map}
use Rattle.std.specs.{List.{list_any, position, slice_get}, Option.option_map}
use Rattle.peer_calls.proofs.{Looks.polled_at, CallsMade.{places}, Slots.{reply_kept, arrived, slots_took, arrived_nowhere, arrived_idly, arrived_first, slots_spent, slots_kept, slots_lost}}
use Rattle.wire_message.proofs.{Plain.position-None, Edits.{all_weaker, all_edit, all_map}}
use Rattle.peer_calls.specs.{Names.{MessageView, Error, Polled, Slot}, History.{Received, PeerClosed, WriteFailed, CallFinished, Call, CallsPast, after, spend, fail_at}, Calls.{reply, is_gone, poll_answer, poll_events, polled_by}, Refinement.{is_empty_slot, reply_in, is_internal_slot, slot_of, slot_by, is_waiting, CallsView, RefinesCalls, Rising}}
use Rattle.wire_message.specs.{Replying.{is_reply, is_serial, replies_to}, Plain.first_of, Polls.by_position}

-- ---- a message comes

taken_slots : (m : MessageView) (v : CallsView) (h : CallsPast) → RefinesCalls v h → map (arrived m) v.slots ≡ map (slot_of (after (Received m) h).read) h.calls
taken_slots m v h left = ap (map (arrived m)) left.slots ∙ sym (slots_took m h h.calls left.early)

took : (m : MessageView) (v new : CallsView) (h : CallsPast) → RefinesCalls v h → new.closing ≡ v.closing → new.slots ≡ map (arrived m) v.slots → RefinesCalls new (after (Received m) h)
took m v new h left same e = record {
  slots = e ∙ taken_slots m v h left;
  closing = same ∙ left.closing;
  early = all_weaker (λ (c : Call). c.from ≤ length h.read) (λ (c : Call). c.from ≤ length (h.read ++ m ∷ [])) (λ c le. omega (arith, le, length-append h.read (m ∷ []))) h.calls left.early;
}

-- no call waits for it
pub took_by_none : (m : MessageView) (v : CallsView) (h : CallsPast) → ((n : ℕ) → replies_to n m ≡ false) → RefinesCalls v h → RefinesCalls v (after (Received m) h)
took_by_none m v h none left = took m v v h left refl (sym (arrived_nowhere m none v.slots))

pub took_past : (m : MessageView) (s : ℕ) (v : CallsView) (h : CallsPast) → ((n : ℕ) → replies_to n m ≡ (s == n)) → list_any (is_waiting s) v.slots ≡ false → RefinesCalls v h → RefinesCalls v (after (Received m) h)
took_past m s v h same none left = took m v v h left refl (sym (arrived_idly m s same v.slots none))

-- the one call that waits for it takes it
pub took_first : (m : MessageView) (s k : ℕ) (v new : CallsView) (h : CallsPast) → ((n : ℕ) → replies_to n m ≡ (s == n)) → is_waiting s (get_or v.slots k Slot.Gone) ≡ true
    → ((j : ℕ) → is_waiting s (get_or v.slots j Slot.Gone) ≡ true → j ≡ k)
    → new.slots ≡ set v.slots k (reply_kept (is_internal_slot (get_or v.slots k Slot.Gone)) m) → new.closing ≡ v.closing → RefinesCalls v h → RefinesCalls new (after (Received m) h)
took_first m s k v new h same at only e kept left = took m v new h left kept (e ∙ sym (arrived_first m s same v.slots k at only))

-- ---- the peer is shut

pub shut : (error : Error) (v new : CallsView) (h : CallsPast) → new.slots ≡ v.slots → new.closing ≡ first_of v.closing error → RefinesCalls v h → RefinesCalls new (after (PeerClosed error) h)
unfolding slot_of reply
shut error v new h same e left = record {
  slots = same ∙ left.slots;
  closing = e ∙ ap (λ o. first_of o error) left.closing;
  early = left.early;
}

-- ---- polls

-- what a slot gives a poll
abbrev pub slot_gives : Option Slot → Option Error → Result (Polled MessageView) Error
slot_gives None error = Err Error.UnknownHandle
slot_gives (Some Slot.Gone) error = Err Error.UnknownHandle
slot_gives (Some (Slot.Replied m)) error = Ok (Polled.Now m)
slot_gives (Some (Slot.Waiting n internal)) error = if internal then Err Error.UnknownHandle else polled_by None error

slot_gives_by : (gone internal : Bool) (n : ℕ) (o : Option MessageView) (error : Option Error)
    → slot_gives (Some (if gone then Slot.Gone else slot_by internal n o)) error ≡ (if gone || internal then Err Error.UnknownHandle else polled_by o error)
slot_gives_by true internal n o error = refl
slot_gives_by false true n (Some m) error = refl
slot_gives_by false true n None error = refl
slot_gives_by false false n (Some m) error = refl
slot_gives_by false false n None error = refl

gives_at : (h : CallsPast) (o : Option Call) → slot_gives (option_map (slot_of h.read) o) h.closing ≡ polled_at h.read h.closing o
unfolding slot_of
gives_at h None = refl
gives_at h (Some c) = slot_gives_by (is_gone c) c.internal c.serial (reply h.read c) h.closing

gives : (v : CallsView) (h : CallsPast) (k : ℕ) → RefinesCalls v h → slot_gives (slice_get v.slots k) v.closing ≡ poll_answer h k
unfolding poll_answer
gives v h k left =
    rw left.slots (rw left.closing (rw (slice_get-map (slot_of h.read) h.calls k) (gives_at h (slice_get h.calls k))))

-- a call's answer was given
pub spent : (k : ℕ) (v new : CallsView) (h : CallsPast) → new.slots ≡ set v.slots k Slot.Gone → new.closing ≡ v.closing → RefinesCalls v h → RefinesCalls new (after (CallFinished k) h)
unfolding slot_of reply
spent k v new h e same left = record {
  slots = e ∙ ap (λ ss. set ss k Slot.Gone) left.slots ∙ sym (slots_spent h h.calls k);
  closing = same ∙ left.closing;
  early = all_edit (λ (c : Call). c.from ≤ length h.read) spend h.calls k (λ c is le. le) left.early;
}

-- by position the events are those of a poll or a take without one
pub polls_so : (k : ℕ) (r : Result (Polled MessageView) Error) → poll_events k (by_position r) ≡ poll_events k r
polls_so k (Ok (Polled.Now m)) = refl
polls_so k other = refl

pub is_none_not : {A : Type 0} (o : Option A) (b : Bool) → is_some o ≡ not b → is_none o ≡ b
is_none_not None true e = refl
is_none_not None false e = cc
is_none_not (Some x) true e = cc
is_none_not (Some x) false e = refl

-- what a poll gives of a slot that nothing is kept of
pub slot_gives_empty : (s : Slot) (error : Option Error) → is_empty_slot s ≡ true → slot_gives (Some s) error ≡ Err Error.UnknownHandle
slot_gives_empty Slot.Gone error e = refl
slot_gives_empty (Slot.Waiting n true) error e = refl
slot_gives_empty (Slot.Waiting n false) error e = cc
slot_gives_empty (Slot.Replied m) error e = cc

-- of one that waits, and isn't the peer's own
pub slot_gives_waiting : (s : Slot) (error : Option Error) → is_empty_slot s ≡ false → reply_in s ≡ None → slot_gives (Some s) error ≡ polled_by None error
slot_gives_waiting Slot.Gone error e none = cc
slot_gives_waiting (Slot.Waiting n true) error e none = cc
slot_gives_waiting (Slot.Waiting n false) error e none = refl
slot_gives_waiting (Slot.Replied m) error e none = cc

-- of one whose reply came
pub slot_gives_reply : (s : Slot) (error : Option Error) (m : MessageView) → reply_in s ≡ Some m → slot_gives (Some s) error ≡ Ok (Polled.Now m)
slot_gives_reply Slot.Gone error m e = cc
slot_gives_reply (Slot.Waiting n internal) error m e = cc
slot_gives_reply (Slot.Replied r) error m e = cc

-- ---- what the code reads of its slots

abbrev pub view_of : List Slot → Option Error → CallsView
view_of ss error = record { slots = ss; closing = error }

pub first_none : (o : Option Error) (error : Error) → is_some o ≡ false → Some error ≡ first_of o error
first_none None error e = refl
first_none (Some earlier) error e = absurd (true≢false e)

pub first_some : (o : Option Error) (error : Error) → is_some o ≡ true → o ≡ first_of o error
first_some None error e = absurd (false≢true e)
first_some (Some earlier) error e = refl

-- a call that wasn't made gives what one that is over does
gives_read : (ss : List Slot) (error : Option Error) (k : ℕ) → slot_gives (Some (get_or ss k Slot.Gone)) error ≡ slot_gives (slice_get ss k) error
gives_read [] error k = refl
gives_read (s ∷ ss) error zero = refl
gives_read (s ∷ ss) error (suc k) = gives_read ss error k

pub gives_slot : (ss : List Slot) (error : Option Error) (v : CallsView) (h : CallsPast) (k : ℕ) → view_of ss error ≡ v → RefinesCalls v h → slot_gives (Some (get_or ss k Slot.Gone)) error ≡ poll_answer h k
gives_slot ss error v h k e left =
    gives_read ss error k ∙ ap (λ (w : CallsView). slot_gives (slice_get w.slots k) w.closing) e ∙ gives v h k left

-- ---- which serial a message answers

pub bears_reply : (serial : ℕ) (m : MessageView) → is_reply m.kind ≡ true → replies_to serial m ≡ is_serial m.reply_serial serial
unfolding replies_to
bears_reply serial m e = ap (λ b. b && is_serial m.reply_serial serial) e

pub bears_none : (serial : ℕ) (m : MessageView) → is_reply m.kind ≡ false → replies_to serial m ≡ false
unfolding replies_to
bears_none serial m e = ap (λ b. b && is_serial m.reply_serial serial) e

-- the write of a call failed
pub lost : (n k : ℕ) (ps : List ℕ) (v new : CallsView) (h : CallsPast) → n ≡ h.outbox.done → ps ≡ places h.calls → position (λ i. i == n) ps ≡ Some k
    → new.slots ≡ set v.slots k Slot.Gone → new.closing ≡ v.closing → Rising (places h.calls) → RefinesCalls v h → RefinesCalls new (after WriteFailed h)
unfolding slot_of reply
lost n k ps v new h first same at e kept rise left =
    let there = position-Some (λ i. i == h.outbox.done) (places h.calls) k 0 (rw (← same, ← first) at) in
    record {
      slots = e ∙ ap (λ ss. set ss k Slot.Gone) left.slots ∙ sym (slots_lost h h.outbox.done h.calls k there.0 there.1 rise);
      closing = kept ∙ left.closing;
      early = all_map (λ (c : Call). c.from ≤ length h.read) (λ (c : Call). c.from ≤ length h.read) (fail_at h.outbox.done) (λ c le. le) h.calls left.early;
    }

-- the write of a message that no call waits for failed
pub lost_none : (n : ℕ) (ps : List ℕ) (v : CallsView) (h : CallsPast) → n ≡ h.outbox.done → ps ≡ places h.calls → position (λ i. i == n) ps ≡ None
    → RefinesCalls v h → RefinesCalls v (after WriteFailed h)
unfolding slot_of reply
lost_none n ps v h first same at left =
    let none = position-None (λ i. i == h.outbox.done) (places h.calls) (rw (← same, ← first) at) in
    record {
      slots = left.slots ∙ sym (slots_kept h h.outbox.done h.calls none);
      closing = left.closing;
      early = all_map (λ (c : Call). c.from ≤ length h.read) (λ (c : Call). c.from ≤ length h.read) (fail_at h.outbox.done) (λ c le. le) h.calls left.early;
    }
