-- The map from each serial that is waited for to the place of its slot.
use Rattle.std.proofs.{Common.{inl, inr, ◌⊎◌, ◌≡◌, ℕ, ◌+◌, ◌<◌, ◌≤◌, ◌==◌, ◌||◌, zero, suc, refl, sym, ◌∙◌, ap, subst, Bool, true, false, ◌&&◌, is_none, is_some, List, [], ◌∷◌, ◌++◌, length, get_or, set, take, arith, if◌then◌else◌, Option, Some, None, IsSome, option_map, unwrap_or}, lemmas.Bool.{cases_eq, cases_lt, true≢false, false≢true, both_ways, eqb-true, eq-eqb, ne_eqb}, lemmas.List.{take_all, length-set, take_more_set, take-set, take-take, get_or_past, get_or_append_left, get_or_push, get_or-set_same, get_or-set_other}, lemmas.Option.none-some}
use Rattle.std.specs.{List.list_any, Ordering.{nat_cmp, eq_by_cmp}, Cmp.unsigned_tied, BTreeMap.{BTreeMap, get, UpdatesBy}}
use Rattle.peer_calls.specs.{Names.{Slot, MessageView, Error}, Refinement.{CallsView, waiting_serial, is_waiting, is_empty_slot, is_internal_slot, reply_in, IsIndex}}
use Rattle.wire_message.specs.Replying.{replies_to, is_reply, is_serial}
use Rattle.peer_calls.proofs.{Slots.{reply_kept, waits_at}, CallsAfter.view_of}

-- the slot with this place
abbrev at : List Slot → ℕ → Slot
at ss k = get_or ss k Slot.Gone

pub some_same : (a b : ℕ) → Some a ≡ Some b → a ≡ b
some_same a b e = ap (λ o. or_zero o) e
  where
    or_zero : Option ℕ → ℕ
    or_zero None = 0
    or_zero (Some n) = n

-- ---- which slot waits

-- a slot waits for one serial
waits_for_one : (p q : ℕ) (s : Slot) → is_waiting p s ≡ true → is_waiting q s ≡ true → p ≡ q
waits_for_one p q Slot.Gone a b = absurd (false≢true a)
waits_for_one p q (Slot.Waiting n i) a b = sym (eqb-true n p a) ∙ eqb-true n q b
waits_for_one p q (Slot.Replied m) a b = absurd (false≢true a)

pub waits_within : (q k : ℕ) (ss : List Slot) → is_waiting q (at ss k) ≡ true → k < length ss
waits_within q k ss w = elim (cases_lt k (length ss)) [
  | inl h ↦ h
  | inr h ↦ absurd (false≢true (ap (is_waiting q) (sym (get_or_past ss k Slot.Gone h)) ∙ w))
]

any_by : (q : ℕ) (s : Slot) (ss : List Slot) (b : Bool) → is_waiting q s ≡ b → (list_any (is_waiting q) ss ≡ true → (k : ℕ) × (is_waiting q (at ss k) ≡ true))
    → list_any (is_waiting q) (s ∷ ss) ≡ true → (k : ℕ) × (is_waiting q (at (s ∷ ss) k) ≡ true)
any_by q s ss true e more w = (0, e)
any_by q s ss false e more w = let x = more (sym (ap (λ b. b || list_any (is_waiting q) ss) e) ∙ w) in (suc x.0, x.1)

any_waits : (q : ℕ) (ss : List Slot) → list_any (is_waiting q) ss ≡ true → (k : ℕ) × (is_waiting q (at ss k) ≡ true)
any_waits q [] w = absurd (false≢true w)
any_waits q (s ∷ ss) w = any_by q s ss (is_waiting q s) refl (any_waits q ss) w

-- ---- the map at a serial

any_index_by : (o : Option ℕ) (b : Bool) → ((k : ℕ) → o ≡ Some k → b ≡ true) → (b ≡ true → (k : ℕ) × (o ≡ Some k)) → is_some o ≡ b
any_index_by None true to back = absurd (none-some _ (back refl).1)
any_index_by None false to back = refl
any_index_by (Some k) b to back = sym (to k refl)

-- the map has a serial exactly where a slot waits for it
pub any_index : (m : BTreeMap ℕ ℕ) (ss : List Slot) (q : ℕ) → IsIndex m ss → is_some (get nat_cmp m q) ≡ list_any (is_waiting q) ss
any_index m ss q x =
    any_index_by (get nat_cmp m q) (list_any (is_waiting q) ss) (λ k e. waits_at q ss k (x.there q k e))
    (λ w. let found = any_waits q ss w in (found.0, x.whole q found.0 found.1))

apart : (s q : ℕ) → (s ≡ q → ⊥) → eq_by_cmp nat_cmp s q ≡ false
apart s q ne = unsigned_tied s q ∙ ne_eqb s q ne

-- ---- a slot doesn't wait any more

kept_waits : (q k j : ℕ) (x : Slot) (ss : List Slot) → is_waiting q x ≡ is_waiting q (at ss k) → is_waiting q (at (set ss k x) j) ≡ is_waiting q (at ss j)
kept_waits q k j x [] e = refl
kept_waits q zero zero x (s ∷ ss) e = e
kept_waits q zero (suc j) x (s ∷ ss) e = refl
kept_waits q (suc k) zero x (s ∷ ss) e = refl
kept_waits q (suc k) (suc j) x (s ∷ ss) e = kept_waits q k j x ss e

-- one that didn't wait
pub index_kept : (m : BTreeMap ℕ ℕ) (ss : List Slot) (k : ℕ) (x : Slot) → ((q : ℕ) → is_waiting q x ≡ is_waiting q (at ss k)) → IsIndex m ss → IsIndex m (set ss k x)
index_kept m ss k x same i = record {
  there = λ q j g. kept_waits q k j x ss (same q) ∙ i.there q j g;
  whole = λ q j w. i.whole q j (sym (kept_waits q k j x ss (same q)) ∙ w);
  circle = i.circle;
}

-- one that waited for s
module _ (m n : BTreeMap ℕ ℕ) (ss : List Slot) (s k : ℕ) (x : Slot) (idle : (q : ℕ) → is_waiting q x ≡ false) (was : is_waiting s (at ss k) ≡ true)
    (gone : UpdatesBy nat_cmp (nat_cmp s) m n None) (i : IsIndex m ss) where
  other : (q j : ℕ) → get nat_cmp n q ≡ Some j → s ≡ q → ⊥
  other q j g e = none-some j (sym gone.1 ∙ ap (get nat_cmp n) e ∙ g)

  earlier : (q j : ℕ) → get nat_cmp n q ≡ Some j → get nat_cmp m q ≡ Some j
  earlier q j g = sym (gone.2 q (apart s q (other q j g))) ∙ g

  removed_there : (q j : ℕ) → get nat_cmp n q ≡ Some j → is_waiting q (at (set ss k x) j) ≡ true
  removed_there q j g =
      let w = i.there q j (earlier q j g) in
      ap (is_waiting q) (get_or-set_other ss k j x Slot.Gone (λ e. other q j g (waits_for_one s q (at ss k) was (ap (λ p. is_waiting q (at ss p)) (sym e) ∙ w)))) ∙ w

  elsewhere : (q j : ℕ) → is_waiting q (at (set ss k x) j) ≡ true → j ≡ k → ⊥
  elsewhere q j w e =
      both_ways (is_waiting q x) (idle q)
      (sym (ap (is_waiting q) (ap (at (set ss k x)) e ∙ get_or-set_same ss k x Slot.Gone (waits_within s k ss was))) ∙ w)

  removed_whole : (q j : ℕ) → is_waiting q (at (set ss k x) j) ≡ true → get nat_cmp n q ≡ Some j
  removed_whole q j w =
      let v = ap (is_waiting q) (sym (get_or-set_other ss k j x Slot.Gone (elsewhere q j w))) ∙ w in
      let g = i.whole q j v in
      gone.2 q (apart s q (λ e. elsewhere q j w (some_same j k (sym g ∙ ap (get nat_cmp m) (sym e) ∙ i.whole s k was)))) ∙ g

  removed_circle : (q : ℕ) → IsSome (get nat_cmp n q) → IsSome (get nat_cmp m q)
  removed_circle q g = elim (cases_eq s q) [
    | inl e ↦ absurd (false≢true (subst IsSome (ap (get nat_cmp n) (sym e) ∙ gone.1) g))
    | inr ne ↦ subst IsSome (gone.2 q (apart s q ne)) g
  ]

  pub index_removed : IsIndex n (set ss k x)
  index_removed = record {
    there = removed_there;
    whole = removed_whole;
    circle = λ q g. i.circle q (removed_circle q g);
  }

-- ---- one slot more

pushed_waits : (q j s : ℕ) (internal : Bool) (ss : List Slot) → is_waiting q (at (ss ++ Slot.Waiting s internal ∷ []) j) ≡ true → ((j ≡ length ss) × (s ≡ q)) ⊎ (is_waiting q (at ss j) ≡ true)
pushed_waits q zero s internal [] w = inl (refl, eqb-true s q w)
pushed_waits q (suc j) s internal [] w = absurd (false≢true w)
pushed_waits q zero s internal (y ∷ ss) w = inr w
pushed_waits q (suc j) s internal (y ∷ ss) w = elim (pushed_waits q j s internal ss w) [
  | inl e ↦ inl (ap suc e.0, e.1)
  | inr v ↦ inr v
]

module _ (m n : BTreeMap ℕ ℕ) (ss : List Slot) (s : ℕ) (internal : Bool) (low : 1 ≤ s) (high : s ≤ 4294967295) (free : list_any (is_waiting s) ss ≡ false)
    (new : UpdatesBy nat_cmp (nat_cmp s) m n (Some (length ss))) (i : IsIndex m ss) where
  pushed_there : (q j : ℕ) → get nat_cmp n q ≡ Some j → is_waiting q (at (ss ++ Slot.Waiting s internal ∷ []) j) ≡ true
  pushed_there q j g = elim (cases_eq s q) [
    | inl e ↦
        let last : length ss ≡ j = some_same (length ss) j (sym new.1 ∙ ap (get nat_cmp n) e ∙ g) in
        ap (is_waiting q) (get_or_push ss (Slot.Waiting s internal) Slot.Gone j last) ∙ eq-eqb s q e
    | inr ne ↦
        let w = i.there q j (sym (new.2 q (apart s q ne)) ∙ g) in
        ap (is_waiting q) (get_or_append_left ss (Slot.Waiting s internal ∷ []) Slot.Gone j (waits_within q j ss w)) ∙ w
  ]

  pushed_whole : (q j : ℕ) → is_waiting q (at (ss ++ Slot.Waiting s internal ∷ []) j) ≡ true → get nat_cmp n q ≡ Some j
  pushed_whole q j w = elim (pushed_waits q j s internal ss w) [
    | inl e ↦ ap (get nat_cmp n) (sym e.1) ∙ new.1 ∙ ap (λ k. Some k) (sym e.0)
    | inr v ↦
        new.2 q (apart s q (λ e. both_ways (list_any (is_waiting s) ss) free (waits_at s ss j (ap (λ p. is_waiting p (at ss j)) e ∙ v))))
        ∙ i.whole q j v
  ]

  pushed_circle : (q : ℕ) → IsSome (get nat_cmp n q) → (1 ≤ q) × (q ≤ 4294967295)
  pushed_circle q g = elim (cases_eq s q) [
    | inl e ↦ (subst (λ p. 1 ≤ p) e low, subst (λ p. p ≤ 4294967295) e high)
    | inr ne ↦ i.circle q (subst IsSome (new.2 q (apart s q ne)) g)
  ]

  pub index_pushed : IsIndex n (ss ++ Slot.Waiting s internal ∷ [])
  index_pushed = record { there = pushed_there; whole = pushed_whole; circle = pushed_circle }

-- ---- what the code reads of its slots

-- one that doesn't wait, in the place of one that didn't
pub index_idle : (m : BTreeMap ℕ ℕ) (ss : List Slot) (k : ℕ) (x y : Slot) → ((q : ℕ) → is_waiting q x ≡ false) → ((q : ℕ) → is_waiting q y ≡ false) → y ≡ at ss k
    → IsIndex m ss → IsIndex m (set ss k x)
index_idle m ss k x y idle was e = index_kept m ss k x (λ q. idle q ∙ sym (was q) ∙ ap (is_waiting q) e)

-- a reply doesn't wait
pub reply_idle : (s : Slot) (m : MessageView) → reply_in s ≡ Some m → (q : ℕ) → is_waiting q s ≡ false
reply_idle Slot.Gone m e q = refl
reply_idle (Slot.Waiting n internal) m e q = cc
reply_idle (Slot.Replied r) m e q = refl

-- what a slot that waits is once its reply came
pub reply_there : (s : Slot) (serial : ℕ) (m : MessageView) → is_waiting serial s ≡ true → (if is_empty_slot s then Slot.Gone else Slot.Replied m) ≡ reply_kept (is_internal_slot s) m
reply_there Slot.Gone serial m w = absurd (false≢true w)
reply_there (Slot.Waiting n internal) serial m w = refl
reply_there (Slot.Replied r) serial m w = absurd (false≢true w)

-- ---- which serials are pending

pub open_none : (o : Option Error) → is_some o ≡ false → o ≡ None
open_none None e = refl
open_none (Some error) e = absurd (true≢false e)

pub pending_shut : (ss : List Slot) (error : Option Error) (v : CallsView) (serial : ℕ) → view_of ss error ≡ v → is_some error ≡ true
    → false ≡ waiting_serial v serial
unfolding waiting_serial
pending_shut ss None v serial e is_shut = absurd (false≢true is_shut)
pending_shut ss (Some error) v serial e is_shut = ap (λ (w : CallsView). is_none w.closing && list_any (is_waiting serial) w.slots) e

-- on an open peer the map has a serial exactly where it is pending
pub pending_open : (m : BTreeMap ℕ ℕ) (ss : List Slot) (error : Option Error) (v : CallsView) (serial : ℕ) → view_of ss error ≡ v → is_some error ≡ false
    → (error ≡ None → IsIndex m ss) → is_some (get nat_cmp m serial) ≡ waiting_serial v serial
unfolding waiting_serial
pending_open m ss (Some error) v serial e none i = absurd (true≢false none)
pending_open m ss None v serial e none i =
    any_index m ss serial (i refl) ∙ ap (λ (w : CallsView). is_none w.closing && list_any (is_waiting serial) w.slots) e

free_slots : (ss : List Slot) (v : CallsView) (s : ℕ) → view_of ss None ≡ v → waiting_serial v s ≡ false → list_any (is_waiting s) ss ≡ false
unfolding waiting_serial
free_slots ss v s e free = ap (λ (w : CallsView). is_none w.closing && list_any (is_waiting s) w.slots) e ∙ free

-- an open peer has one call more
pub registered : (m n : BTreeMap ℕ ℕ) (ss : List Slot) (error : Option Error) (v : CallsView) (s : ℕ) (internal : Bool) → view_of ss error ≡ v → error ≡ None
    → waiting_serial v s ≡ false → 1 ≤ s → s ≤ 4294967295 → UpdatesBy nat_cmp (nat_cmp s) m n (Some (length ss)) → (error ≡ None → IsIndex m ss)
    → IsIndex n (ss ++ Slot.Waiting s internal ∷ [])
registered m n ss error v s internal e none free low high new i =
    index_pushed m n ss s internal low high (free_slots ss v s (ap (view_of ss) (sym none) ∙ e) free) new (i none)

-- ---- which call a message answers

-- the message answers a call that waits
abbrev pub answers_call : CallsView → MessageView → Bool
answers_call v m = is_reply m.kind && unwrap_or (option_map (waiting_serial v) m.reply_serial) false

-- by whether it is a reply, and what it answers
none_by : (f : ℕ → Bool) (reply : Bool) (o : Option ℕ) → ((n : ℕ) → (reply && is_serial o n) ≡ false) → false ≡ (reply && unwrap_or (option_map f o) false)
none_by f false o none = refl
none_by f true None none = refl
none_by f true (Some n) none = absurd (false≢true (sym (none n) ∙ eq-eqb n n refl))

serial_by : (f : ℕ → Bool) (s : ℕ) (reply : Bool) (o : Option ℕ) → ((n : ℕ) → (reply && is_serial o n) ≡ (s == n)) → f s ≡ (reply && unwrap_or (option_map f o) false)
serial_by f s false o same = absurd (false≢true (same s ∙ eq-eqb s s refl))
serial_by f s true None same = absurd (false≢true (same s ∙ eq-eqb s s refl))
serial_by f s true (Some n) same = ap f (eqb-true s n (sym (same n) ∙ eq-eqb n n refl))

shut_by : (f : ℕ → Bool) (reply : Bool) (o : Option ℕ) → ((n : ℕ) → f n ≡ false) → false ≡ (reply && unwrap_or (option_map f o) false)
shut_by f false o none = refl
shut_by f true None none = refl
shut_by f true (Some n) none = sym (none n)

pub answers_none : (v : CallsView) (message : MessageView) → ((n : ℕ) → replies_to n message ≡ false) → false ≡ answers_call v message
unfolding replies_to
answers_none v message none = none_by (waiting_serial v) (is_reply message.kind) message.reply_serial none

-- a message that bears a serial answers a call exactly where the serial is pending
pub answers_serial : (v : CallsView) (message : MessageView) (s : ℕ) → ((n : ℕ) → replies_to n message ≡ (s == n)) → waiting_serial v s ≡ answers_call v message
unfolding replies_to
answers_serial v message s same = serial_by (waiting_serial v) s (is_reply message.kind) message.reply_serial same

shut_waits : (error : Option Error) (v : CallsView) (n : ℕ) → error ≡ v.closing → is_some error ≡ true → waiting_serial v n ≡ false
unfolding waiting_serial
shut_waits None v n e is_shut = absurd (false≢true is_shut)
shut_waits (Some error) v n e is_shut = ap (λ (o : Option Error). is_none o && list_any (is_waiting n) v.slots) (sym e)

pub answers_shut : (ss : List Slot) (error : Option Error) (v : CallsView) (message : MessageView) → view_of ss error ≡ v → is_some error ≡ true
    → false ≡ answers_call v message
answers_shut ss error v message e is_shut =
    shut_by (waiting_serial v) (is_reply message.kind) message.reply_serial (λ n. shut_waits error v n (ap (λ (w : CallsView). w.closing) e) is_shut)

-- ---- the last slot is taken back

at_gone : (ss : List Slot) (k : ℕ) → at (ss ++ Slot.Gone ∷ []) k ≡ at ss k
at_gone [] zero = refl
at_gone [] (suc k) = refl
at_gone (s ∷ ss) zero = refl
at_gone (s ∷ ss) (suc k) = at_gone ss k

index_less : (m : BTreeMap ℕ ℕ) (ss : List Slot) → IsIndex m (ss ++ Slot.Gone ∷ []) → IsIndex m ss
index_less m ss i = record {
  there = λ serial place e. ap (is_waiting serial) (sym (at_gone ss place)) ∙ i.there serial place e;
  whole = λ serial place w. i.whole serial place (ap (is_waiting serial) (at_gone ss place) ∙ w);
  circle = i.circle;
}

-- The last slot is emptied and taken away.
pub taken_back : (m n : BTreeMap ℕ ℕ) (ss now popped : List Slot) (count last : ℕ) → last + 1 ≡ length ss → count ≤ last → now ≡ set ss last Slot.Gone → popped ≡ take last now
    → (IsIndex m ss → IsIndex n now) → (take count popped ≡ take count ss) × (IsIndex m ss → IsIndex n popped)
taken_back m n ss now popped count last e le is_now is_popped i =
    let same : popped ≡ take last ss = is_popped ∙ ap (take last) is_now ∙ take-set ss last Slot.Gone in
    let whole : now ≡ popped ++ Slot.Gone ∷ [] =
    is_now ∙ sym (take_all (last + 1) (set ss last Slot.Gone) (omega (arith, e, length-set ss last Slot.Gone)))
    ∙ take_more_set ss last Slot.Gone (omega (arith, e)) ∙ ap (λ xs. xs ++ Slot.Gone ∷ []) (sym same) in
    (ap (take count) same ∙ take-take count last ss le, λ j. index_less n popped (subst (IsIndex n) whole (i j)))
