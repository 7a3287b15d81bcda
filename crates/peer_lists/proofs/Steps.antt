-- Each copy is one that a stream has not passed, step by step.
use Rattle.std.proofs.{Common.{◌≡◌, ℕ, ◌+◌, ◌-◌, ◌<◌, ◌≤◌, ◌^◌, zero, suc, inl, inr, refl, sym, ◌∙◌, ap, subst, arith, Bool, true, false, List, [], ◌∷◌, ◌++◌, length, get_or, slice_get, set, is_some, Option, Some, None, length-append}, lemmas.Bool.{cases_eq, cases_lt, le-leb, lt-leb, leb-true, leb-false, false≢true}, lemmas.Option.{none-some, same_Some, slice_get_within}, lemmas.List.length-set, lemmas.List.Sums.{count_by-le-length, sum_by-le-sum_by}, lemmas.Map.length-set_value, lemmas.Map.Entries.length-values_of, lemmas.List.Elements.{All-nil, All-weaker}, lemmas.Map.Views.{All-values-insert_entry, All-values-set_value, All-map-remove_entry, IfSome-lookup_from_All}}
use Rattle.std.specs.{List.{count_by, All}, Ordering.nat_cmp, BTreeMap.{BTreeMap, get, values, is_at, insert_entry, IsOrdered, WritesThrough}, Map.{values_of, set_value, remove_entry}, Option.IfSome}
use Rattle.peer_lists.specs.{Entries.Kept, Cursors.{has_not_passed, StandsIn, AreShared}}
use Rattle.peer_lists.proofs.Counting.{weight, weight_le, count_set, count_insert, count_remove, none_counted, same_counted, all_counted}

-- ---- one entry of the list

pub get-set_same : {X : Type 0} (xs : List X) (i : ℕ) (x : X) → i < length xs → slice_get (set xs i x) i ≡ Some x
get-set_same [] i x lt = absurd (omega arith)
get-set_same (y ∷ ys) zero x lt = refl
get-set_same (y ∷ ys) (suc i) x lt = get-set_same ys i x (omega arith)

after_first : {X : Type 0} (y : X) (ys : List X) (j : ℕ) (x : X) → (0 ≡ j → ⊥) → slice_get (x ∷ ys) j ≡ slice_get (y ∷ ys) j
after_first y ys zero x ne = absurd (ne refl)
after_first y ys (suc j) x ne = refl

pub get-set_other : {X : Type 0} (xs : List X) (i j : ℕ) (x : X) → (i ≡ j → ⊥) → slice_get (set xs i x) j ≡ slice_get xs j
get-set_other [] i j x ne = refl
get-set_other (y ∷ ys) zero j x ne = after_first y ys j x ne
get-set_other (y ∷ ys) (suc i) zero x ne = refl
get-set_other (y ∷ ys) (suc i) (suc j) x ne = get-set_other ys i j x (λ e. ne (ap suc e))

pub get-append : {X : Type 0} (xs ys : List X) (i : ℕ) → i < length xs → slice_get (xs ++ ys) i ≡ slice_get xs i
get-append [] ys i lt = absurd (omega arith)
get-append (x ∷ xs) ys zero lt = refl
get-append (x ∷ xs) ys (suc i) lt = get-append xs ys i (omega arith)

pub get-append_seam : {X : Type 0} (xs : List X) (x : X) → slice_get (xs ++ x ∷ []) (length xs) ≡ Some x
get-append_seam [] x = refl
get-append_seam (y ∷ ys) x = get-append_seam ys x

-- ---- where a cursor stands

behind_so : (q c : ℕ) → c ≤ q → weight (has_not_passed q) (Some c) ≡ 1
behind_so q c le = rw (le-leb c q le) refl

past_so : (q c : ℕ) → q < c → weight (has_not_passed q) (Some c) ≡ 0
past_so q c lt = rw (lt-leb c q lt) refl

-- where a cursor that a look-up finds stands
pub stands : {passed begun : ℕ} {entries : List Kept} {m : BTreeMap ℕ (Option ℕ)} → AreShared passed entries m begun → (k c : ℕ) → get nat_cmp m k ≡ Some (Some c) → (passed ≤ c) × (c ≤ passed + length entries)
stands {passed} {begun} {entries} {m} s k c e =
    subst (λ (o : Option (Option ℕ)). IfSome o (StandsIn passed (passed + length entries))) e (IfSome-lookup_from_All (StandsIn passed (passed + length entries)) (is_at (nat_cmp k)) m.entries s.inside)

-- ---- no stream, and one more

pub shared_none : (m : BTreeMap ℕ (Option ℕ)) → m.entries ≡ [] → IsOrdered nat_cmp m → AreShared 0 [] m 0
shared_none m e ordered = record {
  inside = subst (λ es. All (StandsIn 0 0) (values_of es)) (sym e) (All-nil (StandsIn 0 0));
  counted = λ i x is. absurd (none-some x is);
  begins = ap (λ es. count_by (λ (o : Option ℕ). is_some o) (values_of es)) (sym e);
  ordered = ordered;
  fits = omega arith;
}

-- a stream that waits
pub shared_waits : {passed begun : ℕ} {entries : List Kept} {m : BTreeMap ℕ (Option ℕ)} → AreShared passed entries m begun → (n : BTreeMap ℕ (Option ℕ)) (k : ℕ) → get nat_cmp m k ≡ None → n.entries ≡ insert_entry nat_cmp m.entries k None → IsOrdered nat_cmp n → AreShared passed entries n begun
shared_waits {passed} {begun} {entries} {m} s n k none e ordered = record {
  inside = subst (λ es. All (StandsIn passed (passed + length entries)) (values_of es)) (sym e) (All-values-insert_entry nat_cmp k None (StandsIn passed (passed + length entries)) m.entries s.inside tt);
  counted = λ i x is. s.counted i x is ∙ omega (arith, ap (λ es. count_by (has_not_passed (passed + i)) (values_of es)) e, count_insert (has_not_passed (passed + i)) k m.entries None none s.ordered);
  begins = s.begins ∙ omega (arith, ap (λ es. count_by (λ (o : Option ℕ). is_some o) (values_of es)) e, count_insert (λ (o : Option ℕ). is_some o) k m.entries None none s.ordered);
  ordered = ordered;
  fits = s.fits;
}

-- what is known of the counts, where a cursor is written
written : {V : Type 0} (p : V → Bool) (m n : BTreeMap ℕ V) (k : ℕ) (v w : V) → get nat_cmp m k ≡ Some v → WritesThrough nat_cmp (nat_cmp k) m w n → count_by p (values n) + weight p v ≡ count_by p (values m) + weight p w
written p m n k v w is u = ap (λ es. count_by p (values_of es) + weight p v) u.0 ∙ count_set p k m.entries v w is

-- the stream that waited begins at the end
pub shared_begun : {passed begun : ℕ} {entries : List Kept} {m : BTreeMap ℕ (Option ℕ)} → AreShared passed entries m begun → (n : BTreeMap ℕ (Option ℕ)) (k : ℕ) → get nat_cmp m k ≡ Some None → WritesThrough nat_cmp (nat_cmp k) m (Some (passed + length entries)) n → AreShared passed entries n (begun + 1)
shared_begun {passed} {begun} {entries} {m} s n k was u = record {
  inside = subst (λ es. All (StandsIn passed (passed + length entries)) (values_of es)) (sym u.0) (All-values-set_value (is_at (nat_cmp k)) (StandsIn passed (passed + length entries)) m.entries (Some (passed + length entries)) s.inside (omega arith, omega arith));
  counted = λ i x is. s.counted i x is ∙ omega (arith, written (has_not_passed (passed + i)) m n k None (Some (passed + length entries)) was u, past_so (passed + i) (passed + length entries) (omega (arith, slice_get_within entries i x is)));
  begins = omega (arith, s.begins, written (λ (o : Option ℕ). is_some o) m n k None (Some (passed + length entries)) was u);
  ordered = u.4;
  fits = s.fits;
}

-- the streams that have begun are some of all, where one has not
pub fewer_begun : {passed begun : ℕ} {entries : List Kept} {m : BTreeMap ℕ (Option ℕ)} → AreShared passed entries m begun → (k : ℕ) → get nat_cmp m k ≡ Some None → begun < length m.entries
fewer_begun {passed} {begun} {entries} {m} s k was =
    let some : Option ℕ → Bool = λ o. is_some o in
    let more = set_value (is_at (nat_cmp k)) m.entries (Some 0) in
    omega (arith, s.begins, count_set some k m.entries None (Some 0) was, count_by-le-length some (values_of more), length-values_of more, length-set_value (is_at (nat_cmp k)) m.entries (Some 0))

-- ---- a message more, or one less at the end

has_begun : (passed end : ℕ) (o : Option ℕ) → StandsIn passed end o → is_some o ≡ has_not_passed end o
has_begun passed end None h = refl
has_begun passed end (Some c) h = sym (le-leb c end h.1)

wider : (first end last : ℕ) (o : Option ℕ) → end ≤ last → StandsIn first end o → StandsIn first last o
wider first end last None le h = tt
wider first end last (Some c) le h = (h.0, omega (arith, h.1))

pub shared_pushed : {passed begun : ℕ} {entries : List Kept} {m : BTreeMap ℕ (Option ℕ)} → AreShared passed entries m begun → (xs : List Kept) (e : Kept) → e.others + 1 ≡ begun → passed + length entries + 1 < 2 ^ 64 → xs ≡ entries ++ e ∷ [] → AreShared passed xs m begun
shared_pushed {passed} {begun} {entries} {m} s xs e all fits is =
    let more : length xs ≡ length entries + 1 = omega (arith, ap length is, length-append entries (e ∷ [])) in
    record {
      inside = All-weaker (StandsIn passed (passed + length entries)) (StandsIn passed (passed + length xs)) (λ o h. wider passed (passed + length entries) (passed + length xs) o (omega arith) h) (values m) s.inside;
      counted = λ i x at. elim (cases_lt i (length entries)) [
        | inl lt ↦ s.counted i x (sym (ap (λ l. slice_get l i) is ∙ get-append entries (e ∷ []) i lt) ∙ at)
        | inr le ↦
            let last : i ≡ length entries = omega (arith, slice_get_within xs i x at) in
            let same : e ≡ x = same_Some e x (sym (ap (λ l. slice_get l i) is ∙ ap (slice_get (entries ++ e ∷ [])) last ∙ get-append_seam entries e) ∙ at) in
            ap (λ (y : Kept). y.others + 1) (sym same) ∙ all ∙ s.begins
            ∙ same_counted (λ (o : Option ℕ). is_some o) (has_not_passed (passed + length entries)) (values m) (All-weaker (StandsIn passed (passed + length entries)) (λ o. is_some o ≡ has_not_passed (passed + length entries) o) (has_begun passed (passed + length entries)) (values m) s.inside)
            ∙ ap (λ j. count_by (has_not_passed (passed + j)) (values m)) (sym last)
      ];
      begins = s.begins;
      ordered = s.ordered;
      fits = omega arith;
    }

stands_before : (first end last : ℕ) (o : Option ℕ) → StandsIn first end o → has_not_passed last o ≡ is_some o → StandsIn first last o
stands_before first end last None h e = tt
stands_before first end last (Some c) h e = (h.0, leb-true c last e)

not_passed : (q : ℕ) (o : Option ℕ) → has_not_passed q o ≡ true → is_some o ≡ true
not_passed q None e = absurd (false≢true e)
not_passed q (Some c) e = refl

-- the last message goes, which all that have begun hold
pub shared_popped : {passed begun : ℕ} {xs : List Kept} {m : BTreeMap ℕ (Option ℕ)} → AreShared passed xs m begun → (ys : List Kept) (e : Kept) → xs ≡ ys ++ e ∷ [] → e.others + 1 ≡ begun → AreShared passed ys m begun
shared_popped {passed} {begun} {xs} {m} s ys e is all =
    let less : length xs ≡ length ys + 1 = omega (arith, ap length is, length-append ys (e ∷ [])) in
    let counts = s.counted (length ys) e (ap (λ l. slice_get l (length ys)) is ∙ get-append_seam ys e) in
    let hold = all_counted (has_not_passed (passed + length ys)) (λ (o : Option ℕ). is_some o) (values m) (not_passed (passed + length ys)) (sym counts ∙ all ∙ s.begins) in
    record {
      inside = λ i d lt. stands_before passed (passed + length xs) (passed + length ys) (get_or (values m) i d) (s.inside i d lt) (hold i d lt);
      counted = λ i x at. s.counted i x (ap (λ l. slice_get l i) is ∙ get-append ys (e ∷ []) i (slice_get_within ys i x at) ∙ at);
      begins = s.begins;
      ordered = s.ordered;
      fits = omega (arith, s.fits);
    }

-- ---- a stream takes a copy, or gives it back

-- of a message at another place its copies are as many as before
same_weight : (q c d : ℕ) → (c ≤ q → d ≤ q) → (d ≤ q → c ≤ q) → weight (has_not_passed q) (Some c) ≡ weight (has_not_passed q) (Some d)
same_weight q c d f g = elim (cases_lt q c) [
  | inl lt ↦ (elim (cases_lt q d) [
    | inl past ↦ past_so q c lt ∙ sym (past_so q d past)
    | inr le ↦ absurd (let back = g le in omega arith)
  ])
  | inr le ↦ behind_so q c le ∙ sym (behind_so q d (f le))
]

all_written : (P : Option ℕ → Type 0) (m n : BTreeMap ℕ (Option ℕ)) (k : ℕ) (w : Option ℕ) → WritesThrough nat_cmp (nat_cmp k) m w n → All P (values m) → P w → All P (values n)
all_written P m n k w u a h = subst (λ es. All P (values_of es)) (sym u.0) (All-values-set_value (is_at (nat_cmp k)) P m.entries w a h)

still_begun : (m n : BTreeMap ℕ (Option ℕ)) (k c d begun : ℕ) → get nat_cmp m k ≡ Some (Some c) → WritesThrough nat_cmp (nat_cmp k) m (Some d) n → begun ≡ count_by (λ (o : Option ℕ). is_some o) (values m) → begun ≡ count_by (λ (o : Option ℕ). is_some o) (values n)
still_begun m n k c d begun was u e = omega (arith, e, written (λ (o : Option ℕ). is_some o) m n k (Some c) (Some d) was u)

pub shared_taken : {passed begun : ℕ} {entries : List Kept} {m : BTreeMap ℕ (Option ℕ)} → AreShared passed entries m begun → (n : BTreeMap ℕ (Option ℕ)) (k c i : ℕ) (e : Kept) → get nat_cmp m k ≡ Some (Some c) → c ≡ passed + i → slice_get entries i ≡ Some e → 0 < e.others → WritesThrough nat_cmp (nat_cmp k) m (Some (c + 1)) n
    → AreShared passed (set entries i (record e { others = e.others - 1 })) n begun
shared_taken {passed} {begun} {entries} {m} s n k c i e was place at more u =
    let x : Kept = record e { others = e.others - 1 } in
    let lt : i < length entries = slice_get_within entries i e at in
    let len : length (set entries i x) ≡ length entries = length-set entries i x in
    record {
      inside = subst (λ l. All (StandsIn passed (passed + l)) (values n)) (sym len) (all_written (StandsIn passed (passed + length entries)) m n k (Some (c + 1)) u s.inside (omega arith, omega arith));
      counted = λ j y is. elim (cases_eq i j) [
        | inl here ↦
            let same : x ≡ y = same_Some x y (sym (get-set_same entries i x lt) ∙ ap (slice_get (set entries i x)) here ∙ is) in
            ap (λ (z : Kept). z.others + 1) (sym same)
            ∙ omega (arith, here, place, s.counted i e at, written (has_not_passed (passed + j)) m n k (Some c) (Some (c + 1)) was u, behind_so (passed + j) c (omega arith), past_so (passed + j) (c + 1) (omega arith), ap (λ q. count_by (has_not_passed (passed + q)) (values m)) here)
        | inr ne ↦
            s.counted j y (sym (get-set_other entries i j x ne) ∙ is)
            ∙ omega (arith, written (has_not_passed (passed + j)) m n k (Some c) (Some (c + 1)) was u, same_weight (passed + j) c (c + 1) (λ le. omega arith) (λ le. omega arith))
      ];
      begins = still_begun m n k c (c + 1) begun was u s.begins;
      ordered = u.4;
      fits = subst (λ l. passed + l < 2 ^ 64) (sym len) s.fits;
    }

pub shared_given_back : {passed begun : ℕ} {entries : List Kept} {m : BTreeMap ℕ (Option ℕ)} → AreShared passed entries m begun → (n : BTreeMap ℕ (Option ℕ)) (k c i : ℕ) (e : Kept) → get nat_cmp m k ≡ Some (Some (c + 1)) → c ≡ passed + i → slice_get entries i ≡ Some e → WritesThrough nat_cmp (nat_cmp k) m (Some c) n
    → AreShared passed (set entries i (record e { others = e.others + 1 })) n begun
shared_given_back {passed} {begun} {entries} {m} s n k c i e was place at u =
    let x : Kept = record e { others = e.others + 1 } in
    let lt : i < length entries = slice_get_within entries i e at in
    let len : length (set entries i x) ≡ length entries = length-set entries i x in
    record {
      inside = subst (λ l. All (StandsIn passed (passed + l)) (values n)) (sym len) (all_written (StandsIn passed (passed + length entries)) m n k (Some c) u s.inside (omega arith, omega arith));
      counted = λ j y is. elim (cases_eq i j) [
        | inl here ↦
            let same : x ≡ y = same_Some x y (sym (get-set_same entries i x lt) ∙ ap (slice_get (set entries i x)) here ∙ is) in
            ap (λ (z : Kept). z.others + 1) (sym same)
            ∙ omega (arith, here, place, s.counted i e at, written (has_not_passed (passed + j)) m n k (Some (c + 1)) (Some c) was u, behind_so (passed + j) c (omega arith), past_so (passed + j) (c + 1) (omega arith), ap (λ q. count_by (has_not_passed (passed + q)) (values m)) here)
        | inr ne ↦
            s.counted j y (sym (get-set_other entries i j x ne) ∙ is)
            ∙ omega (arith, written (has_not_passed (passed + j)) m n k (Some (c + 1)) (Some c) was u, same_weight (passed + j) c (c + 1) (λ le. omega arith) (λ le. omega arith))
      ];
      begins = still_begun m n k (c + 1) c begun was u s.begins;
      ordered = u.4;
      fits = subst (λ l. passed + l < 2 ^ 64) (sym len) s.fits;
    }

-- ---- the last copy is taken

-- who holds the first message holds each later one
later : (q i : ℕ) (o : Option ℕ) → has_not_passed (q + 0) o ≡ true → has_not_passed (q + i) o ≡ true
later q i None e = absurd (false≢true e)
later q i (Some c) e = le-leb c (q + i) (omega (arith, leb-true c (q + 0) e))

-- a message of which one copy is left, and that no one before it holds, is the first
pub is_first : {passed begun : ℕ} {entries : List Kept} {m : BTreeMap ℕ (Option ℕ)} → AreShared passed entries m begun → (k c i : ℕ) (e first : Kept) → get nat_cmp m k ≡ Some (Some c) → c ≡ passed + i → slice_get entries i ≡ Some e → e.others ≡ 0 → slice_get entries 0 ≡ Some first → i ≡ 0
is_first {passed} {begun} {entries} {m} s k c i e first was place at none front = elim (cases_eq i 0) [
  | inl z ↦ z
  | inr ne ↦
      let f = has_not_passed (passed + 0) in
      let g = has_not_passed (passed + i) in
      let rest = values_of (remove_entry (is_at (nat_cmp k)) m.entries) in
      let le : count_by f rest ≤ count_by g rest = sum_by-le-sum_by (weight f) (weight g) rest (λ o. weight_le f g o (later passed i o)) in
      absurd (omega (arith, ne, none, place, le, s.counted i e at, s.counted 0 first front, count_remove f k m.entries (Some c) was, count_remove g k m.entries (Some c) was, past_so (passed + 0) c (omega arith), behind_so (passed + i) c (omega arith)))
]

stands_after : (first end last : ℕ) (o : Option ℕ) → end ≡ last → StandsIn first end o → has_not_passed (first + 0) o ≡ false → StandsIn (first + 1) last o
stands_after first end last None same h e = tt
stands_after first end last (Some c) same h e = (omega (arith, leb-false c (first + 0) e), omega (arith, h.1))

-- the first message goes, whose last copy is taken
pub shared_passed : {passed begun : ℕ} {entries : List Kept} {m : BTreeMap ℕ (Option ℕ)} → AreShared passed entries m begun → (n : BTreeMap ℕ (Option ℕ)) (k c : ℕ) (e : Kept) (rest : List Kept) → get nat_cmp m k ≡ Some (Some c) → c ≡ passed → entries ≡ e ∷ rest → e.others ≡ 0 → WritesThrough nat_cmp (nat_cmp k) m (Some (c + 1)) n
    → AreShared (passed + 1) rest n begun
shared_passed {passed} {begun} {entries} {m} s n k c e rest was place is none u =
    let len : length entries ≡ length rest + 1 = omega (arith, ap length is) in
    let one = s.counted 0 e (ap (λ l. slice_get l 0) is) in
    let gone : count_by (has_not_passed (passed + 0)) (values n) ≡ 0 = omega (arith, none, place, one, written (has_not_passed (passed + 0)) m n k (Some c) (Some (c + 1)) was u, behind_so (passed + 0) c (omega arith), past_so (passed + 0) (c + 1) (omega arith)) in
    let inside : All (StandsIn passed (passed + length entries)) (values n) = all_written (StandsIn passed (passed + length entries)) m n k (Some (c + 1)) u s.inside (omega arith, omega arith) in
    record {
      inside = λ i d lt. stands_after passed (passed + length entries) (passed + 1 + length rest) (get_or (values n) i d) (omega arith) (inside i d lt) (none_counted (has_not_passed (passed + 0)) (values n) gone i d lt);
      counted = λ j y at.
          let next : passed + suc j ≡ passed + 1 + j = omega arith in
          s.counted (suc j) y (ap (λ l. slice_get l (suc j)) is ∙ at)
          ∙ omega (arith, written (has_not_passed (passed + suc j)) m n k (Some c) (Some (c + 1)) was u, behind_so (passed + suc j) c (omega arith), behind_so (passed + suc j) (c + 1) (omega arith))
          ∙ ap (λ q. count_by (has_not_passed q) (values n)) next;
      begins = still_begun m n k c (c + 1) begun was u s.begins;
      ordered = u.4;
      fits = omega (arith, s.fits);
    }

-- ---- a stream is gone

no_copy : (q : ℕ) (o : Option ℕ) → ((c : ℕ) → o ≡ Some c → q < c) → weight (has_not_passed q) o ≡ 0
no_copy q None h = refl
no_copy q (Some c) h = past_so q c (h c refl)

-- one that holds nothing
pub shared_closed : {passed begun : ℕ} {entries : List Kept} {m : BTreeMap ℕ (Option ℕ)} → AreShared passed entries m begun → (n : BTreeMap ℕ (Option ℕ)) (k : ℕ) (o : Option ℕ) → get nat_cmp m k ≡ Some o → ((c : ℕ) → o ≡ Some c → passed + length entries ≤ c) → n.entries ≡ remove_entry (is_at (nat_cmp k)) m.entries → IsOrdered nat_cmp n
    → (left : ℕ) → left + weight (λ (p : Option ℕ). is_some p) o ≡ begun → AreShared passed entries n left
shared_closed {passed} {begun} {entries} {m} s n k o was ended e ordered left count = record {
  inside = subst (λ es. All (StandsIn passed (passed + length entries)) (values_of es)) (sym e) (All-map-remove_entry (is_at (nat_cmp k)) (λ (p : ℕ × Option ℕ). p.1) (StandsIn passed (passed + length entries)) m.entries s.inside);
  counted = λ i x at.
      let lt = slice_get_within entries i x at in
      s.counted i x at
      ∙ omega (arith, no_copy (passed + i) o (λ c is. (let end = ended c is in omega arith)), count_remove (has_not_passed (passed + i)) k m.entries o was, ap (λ es. count_by (has_not_passed (passed + i)) (values_of es)) e);
  begins = omega (arith, count, s.begins, count_remove (λ (p : Option ℕ). is_some p) k m.entries o was, ap (λ es. count_by (λ (p : Option ℕ). is_some p) (values_of es)) e);
  ordered = ordered;
  fits = s.fits;
}

-- the map is as it was
pub shared_same : {passed begun : ℕ} {entries : List Kept} {m : BTreeMap ℕ (Option ℕ)} → AreShared passed entries m begun → (n : BTreeMap ℕ (Option ℕ)) → n.entries ≡ m.entries → IsOrdered nat_cmp n → AreShared passed entries n begun
shared_same {passed} {begun} {entries} {m} s n e ordered = record {
  inside = subst (λ es. All (StandsIn passed (passed + length entries)) (values_of es)) (sym e) s.inside;
  counted = λ i x at. s.counted i x at ∙ ap (λ es. count_by (has_not_passed (passed + i)) (values_of es)) (sym e);
  begins = s.begins ∙ ap (λ es. count_by (λ (o : Option ℕ). is_some o) (values_of es)) (sym e);
  ordered = ordered;
  fits = s.fits;
}
