-- What each stream holds, as the list changes.
use Rattle.std.proofs.{Common.{◌≡◌, ℕ, zero, suc, ◌+◌, ◌-◌, ◌<◌, ◌≤◌, inl, inr, refl, sym, ◌∙◌, ap, subst, arith, Bool, true, false, not, ◌||◌, get_or, if◌then◌else◌, ◌==◌, ◌⊎◌, List, [], ◌∷◌, ◌++◌, map, max, length, drop, take, set, slice_get, is_some, Option, Some, None, IsSome, option_map, option_and_then, length-append, length-drop}, lemmas.Bool.{cases_Bool, cases_eq, cases_lt, eq-eqb, ne_eqb, leb-true, le-leb, not-true, false≢true}, lemmas.Option.{none-some, same_Some, slice_get-map}, lemmas.List.{map-append, length-map, drop-drop, drop_all, drop-append-le}, lemmas.List.Sums.sum_by-cons, lemmas.Map.Made.lookup-map_values, lemmas.Map.Lookups.exact_unsigned, lemmas.List.{take_all, take_more}, Math.Seq.get_or-append_seam, lemmas.List.Folds.list_any_at, lemmas.Map.Keys.IsDistinct-from_sorted, lemmas.Map.Entries.lookup_head, lemmas.Map.Views.{btree_map_get_iff, btree_map_contains_key_iff, All-values_from_lookup}}
use Rattle.std.specs.{List.{count_by, list_any, All, Contains}, Ordering.nat_cmp, Cmp.{nat_cmp_total, unsigned_tied, eq_by_cmp_equiv}, BTreeMap.{BTreeMap, get, values, is_at, UpdatesBy}, Map.{lookup, keys_of, values_of}, Option.IfSome}
use Rattle.wire_message.specs.Front.{MessageView}
use Rattle.peer_lists.specs.{Entries.Kept, Cursors.{messages, behind, holdings, has_not_passed, AreShared}, Holdings.{Holdings, held_by, with_message, without_first, begun, first_by, count_of, most_of}}
use Rattle.peer_lists.proofs.{Counting.{weight, weight_no, count_found, counted_entry, same_counted, apart}, Steps.{stands, get-append_seam}}

-- ---- lists

pub by_key : {A : Type 0} (k q : ℕ) (a x y : A) → (k ≡ q → a ≡ x) → ((k ≡ q → ⊥) → a ≡ y) → a ≡ (if k == q then x else y)
by_key k q a x y f g = elim (cases_eq k q) [
  | inl e ↦ rw (eq-eqb k q e) (f e)
  | inr ne ↦ rw (ne_eqb k q ne) (g ne)
]

-- a list's first element, past some
pub get-drop : {X : Type 0} (n : ℕ) (xs : List X) → slice_get (drop n xs) 0 ≡ slice_get xs n
get-drop n [] = ap (λ l. slice_get l 0) (drop_all n [] (omega arith))
get-drop zero (x ∷ xs) = refl
get-drop (suc n) (x ∷ xs) = get-drop n xs

pub push_same : {X : Type 0} (xs ys : List X) (x y : X) → xs ++ x ∷ [] ≡ ys ++ y ∷ [] → xs ≡ ys
push_same [] [] x y e = refl
push_same [] (b ∷ bs) x y e = absurd (omega (arith, ap length e, length-append bs (y ∷ [])))
push_same (a ∷ az) [] x y e = absurd (omega (arith, ap length e, length-append az (x ∷ [])))
push_same (a ∷ az) (b ∷ bs) x y e =
    let t : az ++ x ∷ [] ≡ bs ++ y ∷ [] = cc in
    let r = push_same az bs x y t in cc

pub last_of : {X : Type 0} (x : X) (xs : List X) → (ys : List X) × (y : X) × (x ∷ xs ≡ ys ++ y ∷ [])
last_of x [] = ([], x, refl)
last_of x (z ∷ zs) = let r = last_of z zs in (x ∷ r.0, r.1, ap (λ l. x ∷ l) r.2)

pub messages_length : (es : List Kept) → length (messages es) ≡ length es
messages_length es = length-map es (λ (e : Kept). e.message)

-- another number of copies is the same message
pub messages-set : (es : List Kept) (i : ℕ) (e x : Kept) → slice_get es i ≡ Some e → e.message ≡ x.message → messages (set es i x) ≡ messages es
messages-set [] i e x at same = refl
messages-set (y ∷ ys) zero e x at same = ap (λ m. m ∷ messages ys) (sym same ∙ ap (λ (z : Kept). z.message) (sym (same_Some y e at)))
messages-set (y ∷ ys) (suc i) e x at same = ap (λ l. y.message ∷ l) (messages-set ys i e x at same)

-- ---- look-ups

pub held_at : (passed : ℕ) (entries : List Kept) (m : BTreeMap ℕ (Option ℕ)) (k : ℕ) → held_by (holdings passed entries m) k ≡ option_map (behind passed (messages entries)) (get nat_cmp m k)
held_at passed entries m k = lookup-map_values (behind passed (messages entries)) (is_at (nat_cmp k)) m.entries

-- no cursor is kept of what is no stream
pub absent_at : (passed : ℕ) (entries : List Kept) (m : BTreeMap ℕ (Option ℕ)) (k : ℕ) → held_by (holdings passed entries m) k ≡ None → get nat_cmp m k ≡ None
absent_at passed entries m k e = absent (get nat_cmp m k) (sym (held_at passed entries m k) ∙ e) where
  absent : (o : Option (Option ℕ)) → option_map (behind passed (messages entries)) o ≡ None → o ≡ None
  absent None h = refl
  absent (Some o) h = absurd (none-some (behind passed (messages entries) o) (sym h))

-- the cursor of a stream that holds something
pub cursor_of : (passed : ℕ) (entries : List Kept) (m : BTreeMap ℕ (Option ℕ)) (k : ℕ) (ms : List MessageView) → held_by (holdings passed entries m) k ≡ Some (Some ms) → (c : ℕ) × (get nat_cmp m k ≡ Some (Some c)) × (drop (c - passed) (messages entries) ≡ ms)
cursor_of passed entries m k ms e = found (get nat_cmp m k) refl (sym (held_at passed entries m k) ∙ e) where
  found : (o : Option (Option ℕ)) → get nat_cmp m k ≡ o → option_map (behind passed (messages entries)) o ≡ Some (Some ms) → (c : ℕ) × (get nat_cmp m k ≡ Some (Some c)) × (drop (c - passed) (messages entries) ≡ ms)
  found None is h = absurd (none-some (Some ms) h)
  found (Some None) is h = absurd (none-some ms (same_Some None (Some ms) h))
  found (Some (Some c)) is h = (c, is, same_Some (drop (c - passed) (messages entries)) ms (same_Some (Some (drop (c - passed) (messages entries))) (Some ms) h))

-- what a stream of a list holds, by its cursor
pub held_is : (passed : ℕ) (entries : List Kept) (m : BTreeMap ℕ (Option ℕ)) (v : Holdings) → holdings passed entries m ≡ v → (k : ℕ) (o : Option (Option ℕ)) → get nat_cmp m k ≡ o → held_by v k ≡ option_map (behind passed (messages entries)) o
held_is passed entries m v view k o at = ap (λ x. held_by x k) (sym view) ∙ held_at passed entries m k ∙ ap (option_map (behind passed (messages entries))) at

-- nothing changes, where it would not at the one stream
pub held_kept : (v : Holdings) (k : ℕ) (f : Option (Option (List MessageView)) → Option (Option (List MessageView))) → held_by v k ≡ f (held_by v k) → (q : ℕ) → held_by v q ≡ (if k == q then f (held_by v q) else held_by v q)
held_kept v k f h q = by_key k q (held_by v q) (f (held_by v q)) (held_by v q) (λ e. subst (λ j. held_by v j ≡ f (held_by v j)) e h) (λ ne. refl)

-- a key more
pub held_new : (passed : ℕ) (entries : List Kept) (m n : BTreeMap ℕ (Option ℕ)) (k : ℕ) (w : Option (Option ℕ)) → UpdatesBy nat_cmp (nat_cmp k) m n w → (q : ℕ) → held_by (holdings passed entries n) q ≡ (if k == q then option_map (behind passed (messages entries)) w else held_by (holdings passed entries m) q)
held_new passed entries m n k w u q =
    held_at passed entries n q
    ∙ by_key k q (option_map (behind passed (messages entries)) (get nat_cmp n q)) (option_map (behind passed (messages entries)) w) (held_by (holdings passed entries m) q)
    (λ e. ap (λ j. option_map (behind passed (messages entries)) (get nat_cmp n j)) (sym e) ∙ ap (option_map (behind passed (messages entries))) u.1)
    (λ ne. ap (option_map (behind passed (messages entries))) (u.2 q (apart k q ne)) ∙ sym (held_at passed entries m q))

-- nothing is held by one that waited and begins
pub held_begun : (passed : ℕ) (entries : List Kept) (m n : BTreeMap ℕ (Option ℕ)) (k : ℕ) → get nat_cmp m k ≡ Some None → UpdatesBy nat_cmp (nat_cmp k) m n (Some (Some (passed + length entries)))
    → (q : ℕ) → held_by (holdings passed entries n) q ≡ (if k == q then option_map begun (held_by (holdings passed entries m) q) else held_by (holdings passed entries m) q)
held_begun passed entries m n k was u q =
    let none : drop (passed + length entries - passed) (messages entries) ≡ [] = drop_all (passed + length entries - passed) (messages entries) (omega (arith, messages_length entries)) in
    held_at passed entries n q
    ∙ by_key k q (option_map (behind passed (messages entries)) (get nat_cmp n q)) (option_map begun (held_by (holdings passed entries m) q)) (held_by (holdings passed entries m) q)
    (λ e.
    ap (λ j. option_map (behind passed (messages entries)) (get nat_cmp n j)) (sym e) ∙ ap (option_map (behind passed (messages entries))) u.1 ∙ ap (λ ms. Some (Some ms)) none
    ∙ sym (ap (option_map begun) (held_at passed entries m q ∙ ap (λ j. option_map (behind passed (messages entries)) (get nat_cmp m j)) (sym e) ∙ ap (option_map (behind passed (messages entries))) was)))
    (λ ne. ap (option_map (behind passed (messages entries))) (u.2 q (apart k q ne)) ∙ sym (held_at passed entries m q))

-- ---- a message more

pushed_by : (passed : ℕ) (ms : List MessageView) (x : MessageView) (o : Option (Option ℕ)) → ((c : ℕ) → o ≡ Some (Some c) → c ≤ passed + length ms) → option_map (behind passed (ms ++ x ∷ [])) o ≡ option_map (with_message x) (option_map (behind passed ms) o)
pushed_by passed ms x None h = refl
pushed_by passed ms x (Some None) h = refl
pushed_by passed ms x (Some (Some c)) h = ap (λ l. Some (Some l)) (drop-append-le (c - passed) ms (x ∷ []) (let le = h c refl in omega arith))

pub held_pushed : {passed begun : ℕ} {entries : List Kept} {m : BTreeMap ℕ (Option ℕ)} → AreShared passed entries m begun → (xs : List Kept) (e : Kept) → xs ≡ entries ++ e ∷ [] → (q : ℕ) → held_by (holdings passed xs m) q ≡ option_map (with_message e.message) (held_by (holdings passed entries m) q)
held_pushed {passed} {begun} {entries} {m} s xs e is q =
    held_at passed xs m q
    ∙ ap (λ ms. option_map (behind passed ms) (get nat_cmp m q)) (ap messages is ∙ map-append (λ (y : Kept). y.message) entries (e ∷ []))
    ∙ pushed_by passed (messages entries) e.message (get nat_cmp m q) (λ c at. (let h = stands s q c at in omega (arith, h, messages_length entries)))
    ∙ ap (option_map (with_message e.message)) (sym (held_at passed entries m q))

none_begun_by : (passed : ℕ) (ms : List MessageView) (f : Option (List MessageView) → Option (List MessageView)) → f None ≡ None → (o : Option (Option ℕ)) → ((c : ℕ) → o ≡ Some (Some c) → ⊥) → option_map (behind passed ms) o ≡ option_map f (option_map (behind passed ms) o)
none_begun_by passed ms f z None h = refl
none_begun_by passed ms f z (Some None) h = ap (λ o. Some o) (sym z)
none_begun_by passed ms f z (Some (Some c)) h = absurd (h c refl)

-- where none has begun, none holds it
pub held_by_none : {passed : ℕ} {entries : List Kept} {m : BTreeMap ℕ (Option ℕ)} → AreShared passed entries m 0 → (x : MessageView) (q : ℕ) → held_by (holdings passed entries m) q ≡ option_map (with_message x) (held_by (holdings passed entries m) q)
held_by_none {passed} {entries} {m} s x q =
    held_at passed entries m q
    ∙ none_begun_by passed (messages entries) (with_message x) refl (get nat_cmp m q) (λ c at. (let found = count_found (λ (o : Option ℕ). is_some o) q m.entries (Some c) at refl in omega (arith, s.begins)))
    ∙ ap (option_map (with_message x)) (sym (held_at passed entries m q))

-- ---- a message less at the end

popped_by : (passed : ℕ) (ms : List MessageView) (x y : MessageView) (o : Option (Option ℕ)) (p : Option (Option (List MessageView))) → ((c : ℕ) → o ≡ Some (Some c) → c ≤ passed + length ms) → option_map (behind passed (ms ++ x ∷ [])) o ≡ option_map (with_message y) p
    → option_map (behind passed ms) o ≡ p
popped_by passed ms x y None None h e = refl
popped_by passed ms x y None (Some p) h e = absurd (none-some (with_message y p) e)
popped_by passed ms x y (Some o) None h e = absurd (none-some (behind passed (ms ++ x ∷ []) o) (sym e))
popped_by passed ms x y (Some None) (Some None) h e = refl
popped_by passed ms x y (Some None) (Some (Some p)) h e = absurd (none-some (p ++ y ∷ []) (same_Some None (Some (p ++ y ∷ [])) e))
popped_by passed ms x y (Some (Some c)) (Some None) h e = absurd (none-some (drop (c - passed) (ms ++ x ∷ [])) (same_Some None (Some (drop (c - passed) (ms ++ x ∷ []))) (sym e)))
popped_by passed ms x y (Some (Some c)) (Some (Some p)) h e =
    let le : c - passed ≤ length ms = (let q = h c refl in omega arith) in
    let f : drop (c - passed) (ms ++ x ∷ []) ≡ p ++ y ∷ [] = same_Some (drop (c - passed) (ms ++ x ∷ [])) (p ++ y ∷ []) (same_Some (Some (drop (c - passed) (ms ++ x ∷ []))) (Some (p ++ y ∷ [])) e) in
    ap (λ l. Some (Some l)) (push_same (drop (c - passed) ms) p x y (sym (drop-append-le (c - passed) ms (x ∷ []) le) ∙ f))

pub held_popped : {passed begun : ℕ} {ys : List Kept} {m : BTreeMap ℕ (Option ℕ)} → AreShared passed ys m begun → (xs : List Kept) (e : Kept) → xs ≡ ys ++ e ∷ [] → (v : Holdings) (x : MessageView) → ((k : ℕ) → held_by (holdings passed xs m) k ≡ option_map (with_message x) (held_by v k))
    → (q : ℕ) → held_by (holdings passed ys m) q ≡ held_by v q
held_popped {passed} {begun} {ys} {m} s xs e is v x h q =
    held_at passed ys m q
    ∙ popped_by passed (messages ys) e.message x (get nat_cmp m q) (held_by v q) (λ c at. (let st = stands s q c at in omega (arith, st, messages_length ys)))
    (ap (λ ms. option_map (behind passed ms) (get nat_cmp m q)) (sym (ap messages is ∙ map-append (λ (y : Kept). y.message) ys (e ∷ []))) ∙ sym (held_at passed xs m q) ∙ h q)

-- ---- the first message that is taken

pub first_none : (v : Holdings) (k : ℕ) → held_by v k ≡ None → None ≡ first_by v k
first_none v k e = sym (ap (λ o. option_and_then (λ (p : Option (List MessageView)). option_and_then (λ (ms : List MessageView). slice_get ms 0) p) o) e)

pub first_waits : (v : Holdings) (k : ℕ) → held_by v k ≡ Some None → None ≡ first_by v k
first_waits v k e = sym (ap (λ o. option_and_then (λ (p : Option (List MessageView)). option_and_then (λ (ms : List MessageView). slice_get ms 0) p) o) e)

pub first_at : (passed : ℕ) (entries : List Kept) (m : BTreeMap ℕ (Option ℕ)) (k c : ℕ) → get nat_cmp m k ≡ Some (Some c) → first_by (holdings passed entries m) k ≡ option_map (λ (e : Kept). e.message) (slice_get entries (c - passed))
first_at passed entries m k c at =
    ap (λ o. option_and_then (λ (p : Option (List MessageView)). option_and_then (λ (ms : List MessageView). slice_get ms 0) p) o) (held_at passed entries m k ∙ ap (option_map (behind passed (messages entries))) at)
    ∙ get-drop (c - passed) (messages entries) ∙ slice_get-map (λ (e : Kept). e.message) entries (c - passed)

-- what holds nothing loses nothing
pub nothing_left : (o : Option (Option (List MessageView))) → None ≡ option_and_then (λ (p : Option (List MessageView)). option_and_then (λ (ms : List MessageView). slice_get ms 0) p) o → o ≡ option_map without_first o
nothing_left None e = refl
nothing_left (Some None) e = refl
nothing_left (Some (Some [])) e = refl
nothing_left (Some (Some (x ∷ xs))) e = absurd (none-some x e)

-- a cursor that moves on by one
pub held_taken : {passed begun : ℕ} {entries : List Kept} {m : BTreeMap ℕ (Option ℕ)} → AreShared passed entries m begun → (xs : List Kept) (n : BTreeMap ℕ (Option ℕ)) (k c : ℕ) → messages xs ≡ messages entries → get nat_cmp m k ≡ Some (Some c) → UpdatesBy nat_cmp (nat_cmp k) m n (Some (Some (c + 1)))
    → (q : ℕ) → held_by (holdings passed xs n) q ≡ (if k == q then option_map without_first (held_by (holdings passed entries m) q) else held_by (holdings passed entries m) q)
held_taken {passed} {begun} {entries} {m} s xs n k c same was u q =
    let le = stands s k c was in
    let more : c + 1 - passed ≡ c - passed + 1 = omega arith in
    held_at passed xs n q
    ∙ by_key k q (option_map (behind passed (messages xs)) (get nat_cmp n q)) (option_map without_first (held_by (holdings passed entries m) q)) (held_by (holdings passed entries m) q)
    (λ e.
    ap (λ j. option_map (behind passed (messages xs)) (get nat_cmp n j)) (sym e) ∙ ap (option_map (behind passed (messages xs))) u.1
    ∙ ap (λ ms. Some (Some (drop (c + 1 - passed) ms))) same ∙ ap (λ i. Some (Some (drop i (messages entries)))) more ∙ ap (λ l. Some (Some l)) (sym (drop-drop 1 (c - passed) (messages entries)))
    ∙ sym (ap (option_map without_first) (held_at passed entries m q ∙ ap (λ j. option_map (behind passed (messages entries)) (get nat_cmp m j)) (sym e) ∙ ap (option_map (behind passed (messages entries))) was)))
    (λ ne. ap (option_map (behind passed (messages xs))) (u.2 q (apart k q ne)) ∙ ap (λ ms. option_map (behind passed ms) (get nat_cmp m q)) same ∙ sym (held_at passed entries m q))

-- all cursors are past the first message, which goes
shifted : (passed : ℕ) (x : MessageView) (ms : List MessageView) (o : Option (Option ℕ)) → ((c : ℕ) → o ≡ Some (Some c) → passed < c) → option_map (behind (passed + 1) ms) o ≡ option_map (behind passed (x ∷ ms)) o
shifted passed x ms None h = refl
shifted passed x ms (Some None) h = refl
shifted passed x ms (Some (Some c)) h =
    let lt = h c refl in
    let e : c - passed ≡ suc (c - (passed + 1)) = omega arith in
    ap (λ i. Some (Some (drop i (x ∷ ms)))) (sym e)

pub held_shifted : {begun : ℕ} {rest : List Kept} {n : BTreeMap ℕ (Option ℕ)} (passed : ℕ) → AreShared (passed + 1) rest n begun → (xs : List Kept) (e : Kept) → xs ≡ e ∷ rest → (q : ℕ) → held_by (holdings (passed + 1) rest n) q ≡ held_by (holdings passed xs n) q
held_shifted {begun} {rest} {n} passed s xs e is q =
    held_at (passed + 1) rest n q
    ∙ shifted passed e.message (messages rest) (get nat_cmp n q) (λ c at. (let h = stands s q c at in omega (arith, h)))
    ∙ sym (held_at passed xs n q ∙ ap (λ l. option_map (behind passed (messages l)) (get nat_cmp n q)) is)

-- ---- the most

most_le : (passed : ℕ) (ms : List MessageView) (l : List (ℕ × Option ℕ)) → most_of (map (λ (e : ℕ × Option ℕ). (e.0, behind passed ms e.1)) l) ≤ length ms
most_le passed ms [] = omega arith
most_le passed ms (e ∷ es) = below (count_of (behind passed ms e.1)) (most_of (map (λ (p : ℕ × Option ℕ). (p.0, behind passed ms p.1)) es)) (one e.1) (most_le passed ms es) where
  one : (o : Option ℕ) → count_of (behind passed ms o) ≤ length ms
  one None = omega arith
  one (Some c) = omega (arith, length-drop (c - passed) ms)

  below : (a b : ℕ) → a ≤ length ms → b ≤ length ms → max a b ≤ length ms
  below a b h k = omega arith

most_ge : (passed : ℕ) (ms : List MessageView) (l : List (ℕ × Option ℕ)) → 0 < count_by (has_not_passed (passed + 0)) (values_of l) → length ms ≤ most_of (map (λ (e : ℕ × Option ℕ). (e.0, behind passed ms e.1)) l)
most_ge passed ms [] lt = absurd (omega arith)
most_ge passed ms (e ∷ es) lt =
    elim (cases_Bool (has_not_passed (passed + 0) e.1)) [
      | inl h ↦ above (count_of (behind passed ms e.1)) (most_of (map (λ (p : ℕ × Option ℕ). (p.0, behind passed ms p.1)) es)) (inl (whole e.1 h))
      | inr h ↦ above (count_of (behind passed ms e.1)) (most_of (map (λ (p : ℕ × Option ℕ). (p.0, behind passed ms p.1)) es)) (inr (most_ge passed ms es (omega (arith, lt, sum_by-cons (weight (has_not_passed (passed + 0))) e.1 (values_of es), weight_no (has_not_passed (passed + 0)) e.1 h))))
    ] where
      above : (a b : ℕ) → (length ms ≤ a) ⊎ (length ms ≤ b) → length ms ≤ max a b
      above a b (inl h) = omega arith
      above a b (inr h) = omega arith

      whole : (o : Option ℕ) → has_not_passed (passed + 0) o ≡ true → length ms ≤ count_of (behind passed ms o)
      whole None f = absurd (false≢true f)
      whole (Some c) f = omega (arith, leb-true c (passed + 0) f, length-drop (c - passed) ms)

-- a message that is kept is held
some_holds : {passed begun : ℕ} {entries : List Kept} {m : BTreeMap ℕ (Option ℕ)} → AreShared passed entries m begun → 0 < length entries → 0 < count_by (has_not_passed (passed + 0)) (values m)
some_holds {passed} {begun} {entries} {m} s lt = first entries refl lt where
  first : (l : List Kept) → entries ≡ l → 0 < length l → 0 < count_by (has_not_passed (passed + 0)) (values m)
  first [] is h = absurd (omega arith)
  first (e ∷ es) is h = omega (arith, s.counted 0 e (ap (λ l. slice_get l 0) is))

pub most_so : {passed begun : ℕ} {entries : List Kept} {m : BTreeMap ℕ (Option ℕ)} → AreShared passed entries m begun → length entries ≡ most_of (holdings passed entries m)
most_so {passed} {begun} {entries} {m} s =
    let len : length (messages entries) ≡ length entries = messages_length entries in
    elim (cases_lt 0 (length entries)) [
      | inl lt ↦ omega (arith, len, most_le passed (messages entries) m.entries, most_ge passed (messages entries) m.entries (some_holds s lt))
      | inr le ↦ omega (arith, len, most_le passed (messages entries) m.entries)
    ]

pub most_within : (passed : ℕ) (entries : List Kept) (m : BTreeMap ℕ (Option ℕ)) (k : ℕ) (ms : List MessageView) → held_by (holdings passed entries m) k ≡ Some (Some ms) → length ms ≤ length entries
most_within passed entries m k ms e =
    let h = cursor_of passed entries m k ms e in
    omega (arith, ap length h.2, length-drop (h.0 - passed) (messages entries), messages_length entries)

pub most_reached : {passed begun : ℕ} {entries : List Kept} {m : BTreeMap ℕ (Option ℕ)} → AreShared passed entries m begun → 0 < length entries → (k : ℕ) × (ms : List MessageView) × (held_by (holdings passed entries m) k ≡ Some (Some ms)) × (length ms ≡ length entries)
most_reached {passed} {begun} {entries} {m} s lt =
    let h = counted_entry (has_not_passed (passed + 0)) m.entries (some_holds s lt) in
    whole h.0 h.1 ((btree_map_get_iff nat_cmp_total exact_unsigned m s.ordered h.0 h.1).1 h.2) h.3 where
      whole : (k : ℕ) (o : Option ℕ) → get nat_cmp m k ≡ Some o → has_not_passed (passed + 0) o ≡ true → (j : ℕ) × (ms : List MessageView) × (held_by (holdings passed entries m) j ≡ Some (Some ms)) × (length ms ≡ length entries)
      whole k None at f = absurd (false≢true f)
      whole k (Some c) at f = (
        k,
        drop (c - passed) (messages entries),
        held_at passed entries m k ∙ ap (option_map (behind passed (messages entries))) at,
        omega (arith, leb-true c (passed + 0) f, length-drop (c - passed) (messages entries), messages_length entries),
      )

-- ---- a message is given back

-- which cursor the stream has, that holds all but some of another's
pub given_cursor : {passed begun : ℕ} {entries : List Kept} {m : BTreeMap ℕ (Option ℕ)} → AreShared passed entries m begun → (v : Holdings) → holdings passed entries m ≡ v → (k c other j : ℕ) (ms : List MessageView) → get nat_cmp m k ≡ Some (Some c) → held_by v other ≡ Some (Some ms) → j < length ms → held_by v k ≡ Some (Some (drop (j + 1) ms))
    → (d : ℕ) × (c ≡ d + j + 1) × (passed ≤ d) × (drop (d - passed) (messages entries) ≡ ms)
given_cursor {passed} {begun} {entries} {m} s v view k c other j ms at whole lt rest =
    let there = cursor_of passed entries m other ms (ap (λ x. held_by x other) view ∙ whole) in
    let d = there.0 in
    let own : drop (c - passed) (messages entries) ≡ drop (j + 1) ms =
    same_Some (drop (c - passed) (messages entries)) (drop (j + 1) ms) (same_Some (Some (drop (c - passed) (messages entries))) (Some (drop (j + 1) ms)) (sym (held_is passed entries m v view k (Some (Some c)) at) ∙ rest)) in
    let stand = stands s k c at in
    let stand-2 = stands s other d there.1 in (
      d,
      omega (arith, ap length own, ap length there.2, length-drop (c - passed) (messages entries), length-drop (d - passed) (messages entries), length-drop (j + 1) ms, messages_length entries, stand, stand-2, lt),
      stand-2.0,
      there.2,
    )

pub held_given_back : {passed begun : ℕ} {entries : List Kept} {m : BTreeMap ℕ (Option ℕ)} → AreShared passed entries m begun → (v : Holdings) → holdings passed entries m ≡ v → (xs : List Kept) (n : BTreeMap ℕ (Option ℕ)) (k c other j : ℕ) (ms : List MessageView) → messages xs ≡ messages entries → get nat_cmp m k ≡ Some (Some c) → UpdatesBy nat_cmp (nat_cmp k) m n (Some (Some (c - 1))) → held_by v other ≡ Some (Some ms) → j < length ms → held_by v k ≡ Some (Some (drop (j + 1) ms))
    → (q : ℕ) → held_by (holdings passed xs n) q ≡ (if k == q then Some (Some (drop j ms)) else held_by v q)
held_given_back {passed} {begun} {entries} {m} s v view xs n k c other j ms same at u whole lt rest q =
    let h = given_cursor s v view k c other j ms at whole lt rest in
    let d = h.0 in
    let place : c - 1 - passed ≡ d - passed + j = omega (arith, h.1, h.2) in
    held_at passed xs n q
    ∙ by_key k q (option_map (behind passed (messages xs)) (get nat_cmp n q)) (Some (Some (drop j ms))) (held_by v q)
    (λ e.
    ap (λ i. option_map (behind passed (messages xs)) (get nat_cmp n i)) (sym e) ∙ ap (option_map (behind passed (messages xs))) u.1
    ∙ ap (λ l. Some (Some (drop (c - 1 - passed) l))) same ∙ ap (λ i. Some (Some (drop i (messages entries)))) place ∙ ap (λ l. Some (Some l)) (sym (drop-drop j (d - passed) (messages entries))) ∙ ap (λ l. Some (Some (drop j l))) h.3)
    (λ ne. ap (option_map (behind passed (messages xs))) (u.2 q (apart k q ne)) ∙ ap (λ l. option_map (behind passed l) (get nat_cmp m q)) same ∙ sym (held_is passed entries m v view q (get nat_cmp m q) refl))

-- ---- a stream that waits, and one that doesn't

pub waits_so : (o : Option ℕ) → is_some o ≡ false → Some o ≡ Some None
waits_so None e = refl
waits_so (Some c) e = absurd (false≢true (sym e))

pub has_begun_so : (passed : ℕ) (entries : List Kept) (o : Option ℕ) (p : Option (Option (List MessageView))) → p ≡ option_map (behind passed (messages entries)) (Some o) → is_some o ≡ true → p ≡ option_map begun p
has_begun_so passed entries None p e some = absurd (false≢true some)
has_begun_so passed entries (Some c) p e some = e ∙ sym (ap (option_map begun) e)

-- ---- where the last message isn't held by all

kept_by : (passed : ℕ) (ms : List MessageView) (y : MessageView) (o : Option (Option ℕ)) (p : Option (Option (List MessageView))) → ((c : ℕ) → o ≡ Some (Some c) → ⊥) → option_map (behind passed ms) o ≡ option_map (with_message y) p → option_map (behind passed ms) o ≡ p
kept_by passed ms y None None h e = refl
kept_by passed ms y None (Some p) h e = absurd (none-some (with_message y p) e)
kept_by passed ms y (Some None) None h e = absurd (none-some None (sym e))
kept_by passed ms y (Some None) (Some None) h e = refl
kept_by passed ms y (Some None) (Some (Some p)) h e = absurd (none-some (p ++ y ∷ []) (same_Some None (Some (p ++ y ∷ [])) e))
kept_by passed ms y (Some (Some c)) p h e = absurd (h c refl)

-- a stream that holds a message more isn't at the end
not_at_end : (passed : ℕ) (ms : List MessageView) (y : MessageView) (c : ℕ) (p : Option (Option (List MessageView))) → option_map (behind passed ms) (Some (Some c)) ≡ option_map (with_message y) p → c - passed < length ms
not_at_end passed ms y c None e = absurd (none-some (behind passed ms (Some c)) (sym e))
not_at_end passed ms y c (Some None) e = absurd (none-some (drop (c - passed) ms) (same_Some None (Some (drop (c - passed) ms)) (sym e)))
not_at_end passed ms y c (Some (Some p)) e =
    let f : drop (c - passed) ms ≡ p ++ y ∷ [] = same_Some (drop (c - passed) ms) (p ++ y ∷ []) (same_Some (Some (drop (c - passed) ms)) (Some (p ++ y ∷ [])) e) in
    omega (arith, ap length f, length-drop (c - passed) ms, length-append p (y ∷ []))

-- where each stream holds a message more, all that have begun hold the last one
all_hold : {passed begun : ℕ} {entries : List Kept} {m : BTreeMap ℕ (Option ℕ)} → AreShared passed entries m begun → (v : Holdings) (x : MessageView) → ((k : ℕ) → held_by (holdings passed entries m) k ≡ option_map (with_message x) (held_by v k)) → (ys : List Kept) (e : Kept) → entries ≡ ys ++ e ∷ [] → e.others + 1 ≡ begun
all_hold {passed} {begun} {entries} {m} s v x h ys e is =
    let n = length ys in
    let len : length (messages entries) ≡ n + 1 = omega (arith, messages_length entries, ap length is, length-append ys (e ∷ [])) in
    let each : All (λ (o : Option ℕ). has_not_passed (passed + n) o ≡ is_some o) (values m) =
    All-values_from_lookup (eq_by_cmp_equiv nat_cmp_total) (λ (o : Option ℕ). has_not_passed (passed + n) o ≡ is_some o) m.entries (IsDistinct-from_sorted nat_cmp (keys_of m.entries) s.ordered)
    (λ k. at k (get nat_cmp m k) (sym (held_at passed entries m k) ∙ h k) len) in
    s.counted n e (ap (λ l. slice_get l n) is ∙ get-append_seam ys e) ∙ same_counted (has_not_passed (passed + n)) (λ (o : Option ℕ). is_some o) (values m) each ∙ sym s.begins where
      at : (k : ℕ) (o : Option (Option ℕ)) → option_map (behind passed (messages entries)) o ≡ option_map (with_message x) (held_by v k) → length (messages entries) ≡ length ys + 1 → IfSome o (λ (p : Option ℕ). has_not_passed (passed + length ys) p ≡ is_some p)
      at k None f len = tt
      at k (Some None) f len = refl
      at k (Some (Some c)) f len = le-leb c (passed + length ys) (let lt = not_at_end passed (messages entries) x c (held_by v k) f in omega arith)

pub held_unpushed : {passed begun : ℕ} {entries : List Kept} {m : BTreeMap ℕ (Option ℕ)} → AreShared passed entries m begun → (w : Holdings) → holdings passed entries m ≡ w → (v : Holdings) (x : MessageView) → ((k : ℕ) → held_by w k ≡ option_map (with_message x) (held_by v k)) → ((ys : List Kept) (e : Kept) → entries ≡ ys ++ e ∷ [] → e.others + 1 ≡ begun → ⊥)
    → (q : ℕ) → held_by w q ≡ held_by v q
held_unpushed {passed} {begun} {entries} {m} s w view v x h none q =
    let all : (k : ℕ) → held_by (holdings passed entries m) k ≡ option_map (with_message x) (held_by v k) = λ k. ap (λ z. held_by z k) view ∙ h k in
    held_is passed entries m w view q (get nat_cmp m q) refl
    ∙ kept_by passed (messages entries) x (get nat_cmp m q) (held_by v q)
    (λ c at. (let lt = not_at_end passed (messages entries) x c (held_by v q) (sym (held_at passed entries m q ∙ ap (option_map (behind passed (messages entries))) at) ∙ all q) in nonempty entries refl (omega (arith, lt, messages_length entries)) all))
    (sym (held_at passed entries m q) ∙ all q) where
      nonempty : (l : List Kept) → entries ≡ l → 0 < length entries → ((k : ℕ) → held_by (holdings passed entries m) k ≡ option_map (with_message x) (held_by v k)) → ⊥
      nonempty [] is lt all = omega (arith, ap length is)
      nonempty (z ∷ zs) is lt all = let r = last_of z zs in none r.0 r.1 (is ∙ r.2) (all_hold s v x all r.0 r.1 (is ∙ r.2))

-- a list up to its last element
pub last_split : {X : Type 0} (xs : List X) (n : ℕ) (x : X) → n + 1 ≡ length xs → x ≡ get_or xs n x → xs ≡ take n xs ++ x ∷ []
last_split xs n x len is = sym (take_all (n + 1) xs (omega arith)) ∙ take_more xs n x (omega arith) ∙ ap (λ y. take n xs ++ y ∷ []) (sym is)

pub last_is : {X : Type 0} (xs ys : List X) (x y : X) (n : ℕ) → xs ≡ ys ++ y ∷ [] → n ≡ length xs → x ≡ get_or xs (n - 1) x → x ≡ y
last_is xs ys x y n is len at =
    let place : n - 1 ≡ length ys = omega (arith, ap length is, length-append ys (y ∷ []), len) in
    at ∙ ap (λ l. get_or l (n - 1) x) is ∙ ap (λ i. get_or (ys ++ y ∷ []) i x) place ∙ get_or-append_seam ys y [] x

-- ---- which streams there are

here : (k : ℕ) → is_at (nat_cmp k) k ≡ true
here k = unsigned_tied k k ∙ eq-eqb k k refl

there : (passed : ℕ) (entries : List Kept) (m : BTreeMap ℕ (Option ℕ)) (v : Holdings) → holdings passed entries m ≡ v → (k : ℕ) → is_some (held_by v k) ≡ is_some (get nat_cmp m k)
there passed entries m v view k = ap is_some (held_is passed entries m v view k (get nat_cmp m k) refl) ∙ same (get nat_cmp m k) where
  same : (o : Option (Option ℕ)) → is_some (option_map (behind passed (messages entries)) o) ≡ is_some o
  same None = refl
  same (Some o) = refl

pub some_stream : (passed : ℕ) (entries : List Kept) (m : BTreeMap ℕ (Option ℕ)) (v : Holdings) → holdings passed entries m ≡ v → (length m.entries ≡ 0 → ⊥) → (k : ℕ) × IsSome (held_by v k)
some_stream passed entries m v view some = first m.entries refl some where
  first : (l : List (ℕ × Option ℕ)) → m.entries ≡ l → (length m.entries ≡ 0 → ⊥) → (k : ℕ) × IsSome (held_by v k)
  first [] is f = absurd (f (ap length is))
  first (e ∷ es) is f = (e.0, there passed entries m v view e.0 ∙ ap is_some (ap (lookup (is_at (nat_cmp e.0))) is ∙ lookup_head (is_at (nat_cmp e.0)) e es (here e.0)))

any_held : (passed : ℕ) (ms : List MessageView) (p : ℕ → Bool) (l : List (ℕ × Option ℕ)) → list_any p (keys_of l) ≡ list_any (λ (e : ℕ × Option (List MessageView)). p e.0) (map (λ (e : ℕ × Option ℕ). (e.0, behind passed ms e.1)) l)
any_held passed ms p [] = refl
any_held passed ms p (e ∷ es) = ap (λ b. p e.0 || b) (any_held passed ms p es)

pub any_stream : (passed : ℕ) (entries : List Kept) (m : BTreeMap ℕ (Option ℕ)) (v : Holdings) → holdings passed entries m ≡ v → (p : ℕ → Bool) → list_any p (keys_of m.entries) ≡ list_any (λ (e : ℕ × Option (List MessageView)). p e.0) v
any_stream passed entries m v view p = any_held passed (messages entries) p m.entries ∙ ap (list_any (λ (e : ℕ × Option (List MessageView)). p e.0)) view

found_key : (p : ℕ → Bool) (l : List ℕ) → list_any p l ≡ true → (k : ℕ) × Contains l k × (p k ≡ true)
found_key p [] e = absurd (false≢true e)
found_key p (k ∷ ks) e = elim (cases_Bool (p k)) [
  | inl passes ↦ (k, (0, omega arith, refl), passes)
  | inr fails ↦ (let r = found_key p ks (sym (ap (λ b. b || list_any p ks) fails) ∙ e) in (r.0, (suc r.1.0, omega (arith, r.1.1), r.1.2), r.2))
]

pub other_stream : (passed : ℕ) (entries : List Kept) (m : BTreeMap ℕ (Option ℕ)) (v : Holdings) → holdings passed entries m ≡ v → (p : ℕ → Bool) → list_any (λ k. not (p k)) (keys_of m.entries) ≡ true → (k : ℕ) × IsSome (held_by v k) × (p k ≡ false)
other_stream passed entries m v view p e =
    let r = found_key (λ k. not (p k)) (keys_of m.entries) e in (r.0, there passed entries m v view r.0 ∙ (btree_map_contains_key_iff nat_cmp_total exact_unsigned m r.0).1 r.1, not-true (p r.0) r.2)

pub no_other_stream : (passed : ℕ) (entries : List Kept) (m : BTreeMap ℕ (Option ℕ)) (v : Holdings) → holdings passed entries m ≡ v → (p : ℕ → Bool) → list_any (λ k. not (p k)) (keys_of m.entries) ≡ false → (k : ℕ) → IsSome (held_by v k) → p k ≡ true
no_other_stream passed entries m v view p e k some =
    let at = (btree_map_contains_key_iff nat_cmp_total exact_unsigned m k).0 (sym (there passed entries m v view k) ∙ some) in
    elim (cases_Bool (p k)) [
      | inl passes ↦ passes
      | inr fails ↦ absurd (false≢true (sym e ∙ list_any_at (λ j. not (p j)) (keys_of m.entries) at.0 k at.1 (ap (λ j. not (p j)) at.2 ∙ ap not fails)))
    ]
