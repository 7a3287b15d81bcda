-- What is stored of calls, as the list of their slots.
use Rattle.std.proofs.{Common.{◌≡◌, ◌≢◌, ℕ, ◌+◌, ◌-◌, ◌<◌, ◌≤◌, inl, inr, refl, sym, ◌∙◌, ap, subst, arith, Bool, true, false, ◌||◌, cond, ltb, is_some, List, [], ◌∷◌, ◌++◌, length, map, get_or, set, take, Option, Some, None, IsSome, unwrap_or}, lemmas.Bool.{cases_eq, cases_lt, ne_eqb, false≢true}, lemmas.Option.none-some, lemmas.List.{ext_get_or, length-set, get_or_past, get_or-set_same, get_or-set_other, set_past}, lemmas.List.FromFn.{length-map-range_with_len, get_or-map-range_with_len, take-map-range_with_len, map-range_with_len_more}, lemmas.List.Sums.{sum_by-set, sum_by_push, sum_by-cons, get_or-le-sum_by, count_by-le-length}}
use Rattle.std.specs.{Int.from_bool, List.{list_any, count_by, range_with_len}, Ordering.{nat_cmp, eq_by_cmp}, Cmp.unsigned_tied, BTreeMap.{BTreeMap, get, is_at, UpdatesBy, IsUnchanged}, Map.lookup}
use Rattle.peer_calls.specs.{Names.{Slot, MessageView}, Refinement.{is_empty_slot, is_internal_slot}, Keeping.{slot_at, slots_of, IsKept}}

-- ---- the list

pub slots_length : (made : ℕ) (m : BTreeMap ℕ Slot) → length (slots_of made m) ≡ made
unfolding slots_of
slots_length made m = length-map-range_with_len (slot_at m) 0 made

slots_get : (made : ℕ) (m : BTreeMap ℕ Slot) (call : ℕ) → call < made → get_or (slots_of made m) call Slot.Gone ≡ slot_at m call
unfolding slots_of
slots_get made m call lt = get_or-map-range_with_len (slot_at m) 0 made call call Slot.Gone lt (omega arith)

pub slots_take : (count made : ℕ) (m : BTreeMap ℕ Slot) → count ≤ made → slots_of count m ≡ take count (slots_of made m)
unfolding slots_of
slots_take count made m le = sym (take-map-range_with_len (slot_at m) 0 made count le)

slots_more : (made : ℕ) (m : BTreeMap ℕ Slot) → slots_of (made + 1) m ≡ slots_of made m ++ slot_at m made ∷ []
unfolding slots_of
slots_more made m = map-range_with_len_more (slot_at m) 0 made made (omega arith)

pub slots_same : (made : ℕ) (m n : BTreeMap ℕ Slot) → IsUnchanged m n → slots_of made n ≡ slots_of made m
unfolding slots_of
slots_same made m n e = ap (λ es. map (λ call. unwrap_or (lookup (is_at (nat_cmp call)) es) Slot.Gone) (range_with_len 0 made)) e

past : (made : ℕ) (m : BTreeMap ℕ Slot) (call : ℕ) → made ≤ call → length (slots_of made m) ≤ call
past made m call le = omega (arith, slots_length made m)

none_there : (o : Option Slot) → (IsSome o → ⊥) → Slot.Gone ≡ unwrap_or o Slot.Gone
none_there None absent = refl
none_there (Some s) absent = absurd (absent refl)

-- the slot with this number
slots_at : (made internal : ℕ) (m : BTreeMap ℕ Slot) (call : ℕ) → IsKept made m internal → get_or (slots_of made m) call Slot.Gone ≡ slot_at m call
slots_at made internal m call kept = elim (cases_lt call made) [
  | inl lt ↦ slots_get made m call lt
  | inr le ↦ get_or_past (slots_of made m) call Slot.Gone (past made m call le) ∙ none_there (get nat_cmp m call) (λ there. let lt = kept.below call there in omega arith)
]

-- what a look-up finds is the slot
pub found : {made internal : ℕ} {m : BTreeMap ℕ Slot} → IsKept made m internal → (call : ℕ) (v : List Slot) → slots_of made m ≡ v → (o : Option Slot) → o ≡ get nat_cmp m call → unwrap_or o Slot.Gone ≡ get_or v call Slot.Gone
found {made} {internal} {m} kept call v view o e =
    ap (λ x. unwrap_or x Slot.Gone) e ∙ sym (slots_at made internal m call kept) ∙ ap (λ ss. get_or ss call Slot.Gone) view

-- ---- one number more or less

apart : (s q : ℕ) → (q ≡ s → ⊥) → eq_by_cmp nat_cmp s q ≡ false
apart s q ne = unsigned_tied s q ∙ ne_eqb s q (λ e. ne (sym e))

-- the map changes at one number
pub slots_set : (made : ℕ) (m n : BTreeMap ℕ Slot) (call : ℕ) (w : Option Slot) → UpdatesBy nat_cmp (nat_cmp call) m n w → slots_of made n ≡ set (slots_of made m) call (unwrap_or w Slot.Gone)
slots_set made m n call w u =
    ext_get_or Slot.Gone (slots_of made n) (set (slots_of made m) call (unwrap_or w Slot.Gone))
    (slots_length made n ∙ sym (slots_length made m) ∙ sym (length-set (slots_of made m) call (unwrap_or w Slot.Gone)))
    (λ q h.
    let lt : q < made = omega (arith, slots_length made n) in
    slots_get made n q lt ∙ (elim (cases_eq q call) as (λ _. slot_at n q ≡ get_or (set (slots_of made m) call (unwrap_or w Slot.Gone)) q Slot.Gone) [
      | inl e ↦
          ap (slot_at n) e ∙ ap (λ o. unwrap_or o Slot.Gone) u.1
          ∙ sym (get_or-set_same (slots_of made m) call (unwrap_or w Slot.Gone) Slot.Gone (omega (arith, slots_length made m)))
          ∙ ap (λ k. get_or (set (slots_of made m) call (unwrap_or w Slot.Gone)) k Slot.Gone) (sym e)
      | inr ne ↦
          ap (λ o. unwrap_or o Slot.Gone) (u.2 q (apart call q ne)) ∙ sym (slots_get made m q lt)
          ∙ sym (get_or-set_other (slots_of made m) call q (unwrap_or w Slot.Gone) Slot.Gone ne)
    ]))

-- a call more
pub slots_push : (made : ℕ) (m n : BTreeMap ℕ Slot) (s : Slot) → UpdatesBy nat_cmp (nat_cmp made) m n (Some s) → slots_of (made + 1) n ≡ slots_of made m ++ s ∷ []
slots_push made m n s u =
    slots_more made n
    ∙ ap (λ ss. ss ++ slot_at n made ∷ []) (slots_set made m n made (Some s) u ∙ set_past (slots_of made m) made s (omega (arith, slots_length made m)))
    ∙ ap (λ o. slots_of made m ++ unwrap_or o Slot.Gone ∷ []) u.1

-- ---- the count

-- what a slot is counted
abbrev own : Slot → ℕ
own s = cond (is_internal_slot s) 1 0

-- and as the code adds it
added : (b : Bool) → cond b 1 0 ≡ from_bool b
added true = refl
added false = refl

own_counted : (ss : List Slot) (call : ℕ) → own (get_or ss call Slot.Gone) ≤ count_by is_internal_slot ss
own_counted ss call = elim (cases_lt call (length ss)) [
  | inl lt ↦ get_or-le-sum_by own ss call Slot.Gone lt
  | inr le ↦ rw (get_or_past ss call Slot.Gone le) (omega arith)
]

count_set : (ss : List Slot) (call : ℕ) → count_by is_internal_slot (set ss call Slot.Gone) + own (get_or ss call Slot.Gone) ≡ count_by is_internal_slot ss
count_set ss call = elim (cases_lt call (length ss)) [
  | inl lt ↦ omega (arith, sum_by-set own ss call Slot.Gone Slot.Gone lt)
  | inr le ↦ rw (get_or_past ss call Slot.Gone le, set_past ss call Slot.Gone le) (omega arith)
]

any_by : (b rest : Bool) (n : ℕ) → ltb 0 n ≡ rest → ltb 0 (cond b 1 0 + n) ≡ (b || rest)
any_by true rest n e = grind arith
any_by false rest n e = ap (ltb 0) (omega arith) ∙ e

-- the count is above 0 exactly where some slot is counted
pub count_any : (ss : List Slot) → ltb 0 (count_by is_internal_slot ss) ≡ list_any is_internal_slot ss
count_any [] = refl
count_any (s ∷ ss) = ap (ltb 0) (sum_by-cons own s ss) ∙ any_by (is_internal_slot s) (list_any is_internal_slot ss) (count_by is_internal_slot ss) (count_any ss)

number_le : (b : Bool) → from_bool b ≤ 1
number_le true = omega arith
number_le false = omega arith

-- one more is counted than calls were made at most
pub count_fits : {made internal : ℕ} {m : BTreeMap ℕ Slot} → IsKept made m internal → (b : Bool) → internal + from_bool b ≤ made + 1
count_fits {made} {internal} {m} kept b =
    omega (arith, kept.counted, count_by-le-length is_internal_slot (slots_of made m), slots_length made m, number_le b)

-- a slot that is counted is in the count
pub count_has : {made internal : ℕ} {m : BTreeMap ℕ Slot} → IsKept made m internal → (call : ℕ) (b : Bool) → b ≡ is_internal_slot (slot_at m call) → from_bool b ≤ internal
count_has {made} {internal} {m} kept call b e =
    let one : own (get_or (slots_of made m) call Slot.Gone) ≡ from_bool b = ap own (slots_at made internal m call kept) ∙ ap (λ x. cond x 1 0) (sym e) ∙ added b in
    omega (arith, one, kept.counted, own_counted (slots_of made m) call)

-- ---- what is kept, step by step

absent_by : (o : Option Slot) → o ≢ Some Slot.Gone → unwrap_or o Slot.Gone ≡ Slot.Gone → IsSome o → ⊥
absent_by None live gone there = false≢true there
absent_by (Some s) live gone there = live (ap Some gone)

pub kept_none : (m : BTreeMap ℕ Slot) → m.entries ≡ [] → IsKept 0 m 0
unfolding slots_of
kept_none m e = record {
  below = λ call there. absurd (false≢true (ap (λ es. is_some (lookup (is_at (nat_cmp call)) es)) (sym e) ∙ there));
  live = λ call is. none-some Slot.Gone (ap (λ es. lookup (is_at (nat_cmp call)) es) (sym e) ∙ is);
  counted = refl;
}

pub kept_same : {made internal : ℕ} {m : BTreeMap ℕ Slot} → IsKept made m internal → (n : BTreeMap ℕ Slot) → IsUnchanged m n → IsKept made n internal
kept_same {made} {internal} {m} kept n e = record {
  below = λ call there. kept.below call (ap (λ es. is_some (lookup (is_at (nat_cmp call)) es)) (sym e) ∙ there);
  live = λ call is. kept.live call (ap (λ es. lookup (is_at (nat_cmp call)) es) (sym e) ∙ is);
  counted = kept.counted ∙ ap (count_by is_internal_slot) (sym (slots_same made m n e));
}

-- nothing is kept of the call any more
pub kept_taken : {made internal : ℕ} {m : BTreeMap ℕ Slot} → IsKept made m internal → (n : BTreeMap ℕ Slot) (call : ℕ) (b : Bool) → b ≡ is_internal_slot (slot_at m call) → UpdatesBy nat_cmp (nat_cmp call) m n None
    → IsKept made n (internal - from_bool b)
kept_taken {made} {internal} {m} kept n call b same u = record {
  below = λ q there. elim (cases_eq q call) [
    | inl e ↦ absurd (false≢true (sym (ap (λ k. is_some (get nat_cmp n k)) e ∙ ap is_some u.1) ∙ there))
    | inr ne ↦ kept.below q (sym (ap is_some (u.2 q (apart call q ne))) ∙ there)
  ];
  live = λ q is. elim (cases_eq q call) [
    | inl e ↦ none-some Slot.Gone (sym (ap (get nat_cmp n) e ∙ u.1) ∙ is)
    | inr ne ↦ kept.live q (sym (u.2 q (apart call q ne)) ∙ is)
  ];
  counted =
      let number : own (get_or (slots_of made m) call Slot.Gone) ≡ from_bool b =
      ap own (slots_at made internal m call kept) ∙ ap (λ x. cond x 1 0) (sym same) ∙ added b in
      let less : count_by is_internal_slot (slots_of made n) ≡ count_by is_internal_slot (set (slots_of made m) call Slot.Gone) =
      ap (count_by is_internal_slot) (slots_set made m n call None u) in
      omega (arith, kept.counted, number, less, count_set (slots_of made m) call);
}

-- the last call is taken back, of which nothing is kept
pub kept_popped : {made internal : ℕ} {m : BTreeMap ℕ Slot} → IsKept made m internal → (last : ℕ) → last + 1 ≡ made → slot_at m last ≡ Slot.Gone → IsKept last m internal
kept_popped {made} {internal} {m} kept last len gone = record {
  below = λ q there. elim (cases_eq q last) [
    | inl e ↦ absurd (absent_by (get nat_cmp m last) (kept.live last) gone (subst (λ k. IsSome (get nat_cmp m k)) e there))
    | inr ne ↦ (let lt = kept.below q there in omega (arith, len))
  ];
  live = kept.live;
  counted =
      kept.counted ∙ ap (λ n. count_by is_internal_slot (slots_of n m)) (sym len)
      ∙ ap (count_by is_internal_slot) (slots_more last m ∙ ap (λ s. slots_of last m ++ s ∷ []) gone)
      ∙ sum_by_push own (slots_of last m) Slot.Gone ∙ omega arith;
}

-- a call more, which waits
pub kept_pushed : {made internal : ℕ} {m : BTreeMap ℕ Slot} → IsKept made m internal → (n : BTreeMap ℕ Slot) (serial : ℕ) (b : Bool) → UpdatesBy nat_cmp (nat_cmp made) m n (Some (Slot.Waiting serial b))
    → IsKept (made + 1) n (internal + from_bool b)
kept_pushed {made} {internal} {m} kept n serial b u = record {
  below = λ q there. elim (cases_eq q made) [
    | inl e ↦ omega arith
    | inr ne ↦ (let lt = kept.below q (sym (ap is_some (u.2 q (apart made q ne))) ∙ there) in omega arith)
  ];
  live = λ q is. elim (cases_eq q made) [
    | inl e ↦ (let f : Some (Slot.Waiting serial b) ≡ Some Slot.Gone = sym (ap (get nat_cmp n) e ∙ u.1) ∙ is in absurd (cc))
    | inr ne ↦ kept.live q (sym (u.2 q (apart made q ne)) ∙ is)
  ];
  counted =
      ap (λ k. internal + k) (sym (added b)) ∙ ap (λ k. k + cond b 1 0) kept.counted ∙ sym (sum_by_push own (slots_of made m) (Slot.Waiting serial b))
      ∙ ap (count_by is_internal_slot) (sym (slots_push made m n (Slot.Waiting serial b) u));
}

others_by : (o : Option Slot) → is_empty_slot (unwrap_or o Slot.Gone) ≡ false → IsSome o × (is_internal_slot (unwrap_or o Slot.Gone) ≡ false)
others_by None e = cc
others_by (Some Slot.Gone) e = cc
others_by (Some (Slot.Waiting n internal)) e = (refl, e)
others_by (Some (Slot.Replied m)) e = (refl, refl)

-- a call that a poll may ask for has something stored, and isn't the peer's own
others : {made internal : ℕ} {m : BTreeMap ℕ Slot} → IsKept made m internal → (call : ℕ) → is_empty_slot (get_or (slots_of made m) call Slot.Gone) ≡ false
    → IsSome (get nat_cmp m call) × (is_internal_slot (slot_at m call) ≡ false)
others {made} {internal} {m} kept call e = others_by (get nat_cmp m call) (ap is_empty_slot (sym (slots_at made internal m call kept)) ∙ e)

pub others_there : {made internal : ℕ} {m : BTreeMap ℕ Slot} → IsKept made m internal → (call : ℕ) (v : List Slot) → slots_of made m ≡ v → is_empty_slot (get_or v call Slot.Gone) ≡ false → IsSome (get nat_cmp m call)
others_there kept call v view e = (others kept call (ap (λ ss. is_empty_slot (get_or ss call Slot.Gone)) view ∙ e)).0

-- the reply to it comes
pub kept_replied : {made internal : ℕ} {m : BTreeMap ℕ Slot} → IsKept made m internal → (n : BTreeMap ℕ Slot) (call : ℕ) (message : MessageView) (v : List Slot) → slots_of made m ≡ v → is_empty_slot (get_or v call Slot.Gone) ≡ false
    → UpdatesBy nat_cmp (nat_cmp call) m n (Some (Slot.Replied message)) → IsKept made n internal
kept_replied {made} {internal} {m} kept n call message v view some u =
    let was = others kept call (ap (λ ss. is_empty_slot (get_or ss call Slot.Gone)) view ∙ some) in
    record {
      below = λ q there. elim (cases_eq q call) [
        | inl e ↦ subst (λ k. k < made) (sym e) (kept.below call was.0)
        | inr ne ↦ kept.below q (sym (ap is_some (u.2 q (apart call q ne))) ∙ there)
      ];
      live = λ q is. elim (cases_eq q call) [
        | inl e ↦ (let f : Some (Slot.Replied message) ≡ Some Slot.Gone = sym (ap (get nat_cmp n) e ∙ u.1) ∙ is in absurd (cc))
        | inr ne ↦ kept.live q (sym (u.2 q (apart call q ne)) ∙ is)
      ];
      counted =
          let ss = slots_of made m in
          let none : own (get_or ss call Slot.Gone) ≡ 0 = ap own (slots_at made internal m call kept) ∙ ap (λ b. cond b 1 0) was.1 in
          let lt : call < length ss = omega (arith, kept.below call was.0, slots_length made m) in
          kept.counted ∙ omega (arith, sum_by-set own ss call (Slot.Replied message) Slot.Gone lt, none)
          ∙ ap (count_by is_internal_slot) (sym (slots_set made m n call (Some (Slot.Replied message)) u));
    }
