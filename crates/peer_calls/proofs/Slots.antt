-- What the events do to the slots that a history leaves.
use Rattle.std.proofs.{Common.{inl, inr, ◌≡◌, ℕ, ◌<◌, ◌≤◌, ◌==◌, ◌||◌, ◌&&◌, not, is_none, eqb, cond, if◌then◌else◌, zero, suc, refl, sym, ◌∙◌, ap, arith, subst, Bool, true, false, List, [], ◌∷◌, ◌++◌, length, map, drop, find, get_or, set, Option, Some, None}, lemmas.List.drop-append-le, lemmas.List.Folds.find-append, lemmas.Bool.{cases_eq, or_parts, or_from, or_left, or_right, false≢true, eqb-true, eq-eqb, ne_eqb, eqb-false, both_ways, false_from_ne_true}}
use Rattle.std.specs.{List.list_any, Option.option_or}
use Rattle.peer_calls.specs.{Names.{MessageView, Error, Slot}, History.{Received, Call, fail_at, spend, CallsPast, after}, Calls.{reply, is_gone, is_awaited, pending, match_call_pending}, Refinement.{slot_of, slot_by, is_waiting, is_internal_slot, Rising, CallsView, waiting_serial, RefinesCalls}}
use Rattle.wire_message.specs.{Replying.replies_to, Plain.edit}
use Rattle.wire_message.proofs.Plain.{map_along, list_any-along, list_any-map}
use Rattle.peer_calls.proofs.{Rising.{After, After-at}, CallsMade.{Early, places}}
use mathlib.Core.List.{map-map}

-- ---- a message comes

-- what is kept of a reply: nothing where the call is one of the peer's own
abbrev pub reply_kept : Bool → MessageView → Slot
reply_kept internal m = if internal then Slot.Gone else Slot.Replied m

-- what a slot is after the message
abbrev pub arrived : MessageView → Slot → Slot
arrived m Slot.Gone = Slot.Gone
arrived m (Slot.Waiting n internal) = if replies_to n m then reply_kept internal m else Slot.Waiting n internal
arrived m (Slot.Replied r) = Slot.Replied r

slot_found : (b internal : Bool) (serial : ℕ) (m : MessageView) → slot_by internal serial (cond b (Some m) None) ≡ (if b then reply_kept internal m else Slot.Waiting serial internal)
slot_found true internal serial m = refl
slot_found false internal serial m = refl

-- a reply that is kept takes nothing
reply_arrived : (internal : Bool) (r m : MessageView) → reply_kept internal r ≡ arrived m (reply_kept internal r)
reply_arrived true r m = refl
reply_arrived false r m = refl

slot_took_by : (gone internal : Bool) (serial : ℕ) (o : Option MessageView) (m : MessageView)
    → (if gone then Slot.Gone else slot_by internal serial (option_or o (find (replies_to serial) (m ∷ [])))) ≡ arrived m (if gone then Slot.Gone else slot_by internal serial o)
slot_took_by true internal serial o m = refl
slot_took_by false internal serial (Some r) m = reply_arrived internal r m
slot_took_by false internal serial None m = slot_found (replies_to serial m) internal serial m

found_took : (m : MessageView) (h : CallsPast) (c : Call) → c.from ≤ length h.read
    → find (replies_to c.serial) (drop c.from (h.read ++ m ∷ [])) ≡ option_or (find (replies_to c.serial) (drop c.from h.read)) (find (replies_to c.serial) (m ∷ []))
found_took m h c le =
    ap (find (replies_to c.serial)) (drop-append-le c.from h.read (m ∷ []) le)
    ∙ find-append (replies_to c.serial) (drop c.from h.read) (m ∷ [])

slot_took : (m : MessageView) (h : CallsPast) (c : Call) → c.from ≤ length h.read → slot_of (after (Received m) h).read c ≡ arrived m (slot_of h.read c)
unfolding slot_of reply
slot_took m h c le =
    ap (λ o. if is_gone c then Slot.Gone else slot_by c.internal c.serial o) (found_took m h c le)
    ∙ slot_took_by (is_gone c) c.internal c.serial (find (replies_to c.serial) (drop c.from h.read)) m

-- each slot takes the message that its call waits for
pub slots_took : (m : MessageView) (h : CallsPast) (cs : List Call) → Early (length h.read) cs → map (slot_of (after (Received m) h).read) cs ≡ map (arrived m) (map (slot_of h.read) cs)
slots_took m h cs e = map_along _ (slot_of (after (Received m) h).read) _ (λ c le. slot_took m h c le) cs e ∙ sym (map-map (arrived m) (slot_of h.read) cs)

pub arrived_nowhere : (m : MessageView) → ((n : ℕ) → replies_to n m ≡ false) → (ss : List Slot) → map (arrived m) ss ≡ ss
arrived_nowhere m none [] = refl
arrived_nowhere m none (Slot.Gone ∷ ss) = ap (λ xs. Slot.Gone ∷ xs) (arrived_nowhere m none ss)
arrived_nowhere m none (Slot.Waiting n i ∷ ss) = rw (none n) (ap (λ xs. Slot.Waiting n i ∷ xs) (arrived_nowhere m none ss))
arrived_nowhere m none (Slot.Replied r ∷ ss) = ap (λ xs. Slot.Replied r ∷ xs) (arrived_nowhere m none ss)

eqb-flip : (a b : ℕ) → eqb a b ≡ false → eqb b a ≡ false
eqb-flip a b e = ne_eqb b a (λ q. eqb-false a b e (sym q))

eqb-comm : (a b : ℕ) → eqb a b ≡ eqb b a
eqb-comm a b = elim (cases_eq a b) as (λ _. eqb a b ≡ eqb b a) [
  | inl e ↦ eq-eqb a b e ∙ sym (eq-eqb b a (sym e))
  | inr ne ↦ ne_eqb a b ne ∙ sym (ne_eqb b a (λ e. ne (sym e)))
]

-- a slot that doesn't wait for its serial stays, and one that does has the reply
idle_arrived : (m : MessageView) (s : ℕ) → ((n : ℕ) → replies_to n m ≡ (s == n)) → (x : Slot) → is_waiting s x ≡ false → arrived m x ≡ x
idle_arrived m s same Slot.Gone e = refl
idle_arrived m s same (Slot.Waiting n i) e = rw (same n ∙ eqb-flip n s e) refl
idle_arrived m s same (Slot.Replied r) e = refl

woken_arrived : (m : MessageView) (s : ℕ) → ((n : ℕ) → replies_to n m ≡ (s == n)) → (x : Slot) → is_waiting s x ≡ true → arrived m x ≡ reply_kept (is_internal_slot x) m
woken_arrived m s same Slot.Gone e = absurd (false≢true e)
woken_arrived m s same (Slot.Waiting n i) e = rw (same n ∙ eq-eqb s n (sym (eqb-true n s e))) refl
woken_arrived m s same (Slot.Replied r) e = absurd (false≢true e)

-- where no slot waits for its serial, nothing changes
arrived_past : (m : MessageView) (s : ℕ) → ((n : ℕ) → replies_to n m ≡ (s == n)) → (ss : List Slot) → ((j : ℕ) → is_waiting s (get_or ss j Slot.Gone) ≡ false) → map (arrived m) ss ≡ ss
arrived_past m s same [] none = refl
arrived_past m s same (x ∷ ss) none = let a = idle_arrived m s same x (none 0) in let b = arrived_past m s same ss (λ j. none (suc j)) in cc

-- a slot waits, so that some slot does
pub waits_at : (s : ℕ) (ss : List Slot) (k : ℕ) → is_waiting s (get_or ss k Slot.Gone) ≡ true → list_any (is_waiting s) ss ≡ true
waits_at s [] k at = at
waits_at s (x ∷ ss) zero at = or_left (is_waiting s x) (list_any (is_waiting s) ss) at
waits_at s (x ∷ ss) (suc k) at = or_right (is_waiting s x) (list_any (is_waiting s) ss) (waits_at s ss k at)

pub arrived_idly : (m : MessageView) (s : ℕ) → ((n : ℕ) → replies_to n m ≡ (s == n)) → (ss : List Slot) → list_any (is_waiting s) ss ≡ false → map (arrived m) ss ≡ ss
arrived_idly m s same ss none =
    arrived_past m s same ss (λ j. false_from_ne_true (is_waiting s (get_or ss j Slot.Gone)) (λ w. both_ways (list_any (is_waiting s) ss) none (waits_at s ss j w)))

-- the one slot that waits for its serial is the only one that changes
pub arrived_first : (m : MessageView) (s : ℕ) → ((n : ℕ) → replies_to n m ≡ (s == n)) → (ss : List Slot) (k : ℕ) → is_waiting s (get_or ss k Slot.Gone) ≡ true
    → ((j : ℕ) → is_waiting s (get_or ss j Slot.Gone) ≡ true → j ≡ k) → map (arrived m) ss ≡ set ss k (reply_kept (is_internal_slot (get_or ss k Slot.Gone)) m)
arrived_first m s same [] k at only = refl
arrived_first m s same (x ∷ ss) zero at only =
    let a = woken_arrived m s same x at in
    let b = arrived_past m s same ss (λ j. false_from_ne_true (is_waiting s (get_or ss j Slot.Gone)) (λ w. omega (arith, only (suc j) w))) in cc
arrived_first m s same (x ∷ ss) (suc k) at only =
    let a = idle_arrived m s same x (false_from_ne_true (is_waiting s x) (λ w. omega (arith, only 0 w))) in
    let b = arrived_first m s same ss k at (λ j w. let e : suc j ≡ suc k = only (suc j) w in omega arith) in cc

-- a reply that is kept doesn't wait
pub reply_waits : (internal : Bool) (m : MessageView) (n : ℕ) → is_waiting n (reply_kept internal m) ≡ false
reply_waits true m n = refl
reply_waits false m n = refl

-- ---- a call goes

-- a call whose answer was given
pub slots_spent : (h : CallsPast) (cs : List Call) (k : ℕ) → map (slot_of h.read) (edit k spend cs) ≡ set (map (slot_of h.read) cs) k Slot.Gone
unfolding slot_of
slots_spent h [] k = refl
slots_spent h (c ∷ cs) zero = refl
slots_spent h (c ∷ cs) (suc k) = ap (λ xs. slot_of h.read c ∷ xs) (slots_spent h cs k)

lost_by : (spent failed : Bool) (x : Slot) → (if spent || (failed || true) then Slot.Gone else x) ≡ Slot.Gone
lost_by true failed x = refl
lost_by false true x = refl
lost_by false false x = refl

kept_by : (spent failed : Bool) (x : Slot) → (if spent || (failed || false) then Slot.Gone else x) ≡ (if spent || failed then Slot.Gone else x)
kept_by true failed x = refl
kept_by false true x = refl
kept_by false false x = refl

slot_lost : (h : CallsPast) (n : ℕ) (c : Call) → (c.index == n) ≡ true → slot_of h.read (fail_at n c) ≡ Slot.Gone
unfolding slot_of reply
slot_lost h n c e =
    ap (λ b. if c.spent || (c.failed || b) then Slot.Gone else slot_by c.internal c.serial (find (replies_to c.serial) (drop c.from h.read))) e
    ∙ lost_by c.spent c.failed (slot_by c.internal c.serial (find (replies_to c.serial) (drop c.from h.read)))

slot_kept : (h : CallsPast) (n : ℕ) (c : Call) → (c.index == n) ≡ false → slot_of h.read (fail_at n c) ≡ slot_of h.read c
unfolding slot_of reply
slot_kept h n c e =
    ap (λ b. if c.spent || (c.failed || b) then Slot.Gone else slot_by c.internal c.serial (find (replies_to c.serial) (drop c.from h.read))) e
    ∙ kept_by c.spent c.failed (slot_by c.internal c.serial (find (replies_to c.serial) (drop c.from h.read)))

-- no call's message stands at the place
pub slots_kept : (h : CallsPast) (n : ℕ) (cs : List Call) → list_any (λ i. i == n) (places cs) ≡ false → map (slot_of h.read) (map (fail_at n) cs) ≡ map (slot_of h.read) cs
slots_kept h n [] none = refl
slots_kept h n (c ∷ cs) none =
    let parts = or_parts (c.index == n) (list_any (λ i. i == n) (places cs)) none in
    let a = slot_kept h n c parts.0 in let b = slots_kept h n cs parts.1 in cc

past_none : (n : ℕ) (ns : List ℕ) → After n ns → list_any (λ i. i == n) ns ≡ false
past_none n [] a = refl
past_none n (x ∷ xs) a =
    or_from (x == n) (list_any (λ i. i == n) xs) (ne_eqb x n (λ q. let h : n < x = a.0 in omega arith)) (past_none n xs a.1)

-- the one call whose message stands at the place
pub slots_lost : (h : CallsPast) (n : ℕ) (cs : List Call) (k : ℕ) → k < length (places cs) → (get_or (places cs) k 0 == n) ≡ true → Rising (places cs)
    → map (slot_of h.read) (map (fail_at n) cs) ≡ set (map (slot_of h.read) cs) k Slot.Gone
slots_lost h n [] k lt at r = refl
slots_lost h n (c ∷ cs) zero lt at r =
    let e : c.index ≡ n = eqb-true c.index n at in
    let none : list_any (λ i. i == n) (places cs) ≡ false = subst (λ j. list_any (λ i. i == j) (places cs) ≡ false) e (past_none c.index (places cs) r.0) in
    let a = slot_lost h n c at in let b = slots_kept h n cs none in cc
slots_lost h n (c ∷ cs) (suc k) lt at r =
    let further : k < length (places cs) = omega arith in
    let less : c.index < get_or (places cs) k 0 = After-at c.index (places cs) k further r.0 in
    let e : get_or (places cs) k 0 ≡ n = eqb-true (get_or (places cs) k 0) n at in
    let a = slot_kept h n c (ne_eqb c.index n (λ q. omega arith)) in
    let b = slots_lost h n cs k further at r.1 in cc

-- ---- which serials are pending

waits_by : (spent failed internal : Bool) (o : Option MessageView) (n serial : ℕ)
    → (not (spent || failed) && is_none o && (n == serial)) ≡ is_waiting serial (if spent || failed then Slot.Gone else slot_by internal n o)
waits_by true failed internal o n serial = refl
waits_by false true internal o n serial = refl
waits_by false false internal (Some m) n serial = sym (reply_waits internal m serial)
waits_by false false internal None n serial = refl

-- a call waits with a serial exactly where its slot does
pub waits-slot : (h : CallsPast) (serial : ℕ) (c : Call) → (is_awaited h.read c && (c.serial == serial)) ≡ is_waiting serial (slot_of h.read c)
unfolding slot_of
waits-slot h serial c = waits_by c.spent c.failed c.internal (reply h.read c) c.serial serial

own_by : (spent failed internal : Bool) (o : Option MessageView) (n : ℕ)
    → (internal && (not (spent || failed) && is_none o)) ≡ is_internal_slot (if spent || failed then Slot.Gone else slot_by internal n o)
own_by true failed true o n = refl
own_by true failed false o n = refl
own_by false true true o n = refl
own_by false true false o n = refl
own_by false false true (Some m) n = refl
own_by false false false (Some m) n = refl
own_by false false true None n = refl
own_by false false false None n = refl

-- one of the peer's own waits exactly where its slot does
pub own-slot : (h : CallsPast) (c : Call) → (c.internal && is_awaited h.read c) ≡ is_internal_slot (slot_of h.read c)
unfolding slot_of
own-slot h c = own_by c.spent c.failed c.internal (reply h.read c) c.serial

-- ---- as the past says it

pub pending-left : (v : CallsView) (h : CallsPast) → RefinesCalls v h → (serial : ℕ) → pending h serial ≡ waiting_serial v serial
unfolding pending waiting_serial
pending-left v h left serial =
    rw left.slots (rw left.closing
    (ap (λ b. is_none h.closing && b)
    (list_any-along (λ c. is_awaited h.read c && (c.serial == serial)) (λ c. is_waiting serial (slot_of h.read c)) (waits-slot h serial) h.calls
    ∙ sym (list_any-map (is_waiting serial) (slot_of h.read) h.calls))))

-- one of the peer's own waits, and the peer is open
pub flying-left : (ss : List Slot) (error : Option Error) (h : CallsPast) (b : Bool) → RefinesCalls (record { slots = ss; closing = error }) h → b ≡ (is_none error && list_any is_internal_slot ss) → b ≡ match_call_pending h
unfolding match_call_pending
flying-left ss error h b left e =
    e
    ∙ rw left.slots (rw left.closing
    (ap (λ x. is_none h.closing && x)
    (list_any-map is_internal_slot (slot_of h.read) h.calls
    ∙ sym (list_any-along (λ c. c.internal && is_awaited h.read c) (λ c. is_internal_slot (slot_of h.read c)) (own-slot h) h.calls))))
