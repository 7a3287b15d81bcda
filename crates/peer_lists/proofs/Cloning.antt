-- A stream is emptied message by message, and one that clones another is filled so.
use Rattle.std.proofs.{Common.{◌≡◌, ℕ, ◌+◌, ◌-◌, ◌<◌, ◌≤◌, inl, inr, refl, sym, ◌∙◌, ap, subst, arith, true, false, if◌then◌else◌, ◌==◌, nat_eq, List, [], ◌∷◌, length, drop, slice_get, is_some, Option, Some, None, option_map, option_and_then, unwrap_or}, lemmas.Bool.{cases_eq, eq-eqb, ne_eqb, cond-true, cond-false, false≢true}, lemmas.Option.{none-some, same_Some, slice_get_cases}, lemmas.List.{drop_all, length-drop}}
use Rattle.std.specs.{BTreeMap.{BTreeMap, get, UpdatesBy}, Ordering.nat_cmp}
use Rattle.wire_message.specs.Front.{MessageView}
use Rattle.peer_lists.specs.{Entries.Kept, Cursors.{messages, holdings, AreShared}, Holdings.{Holdings, held_by, first_by, without_first, count_of}}
use Rattle.peer_lists.proofs.{Steps.stands, Views.{by_key, messages_length, held_is, held_new, first_at, nothing_left}}

pub if_so : {A : Type 0} (k q : ℕ) (x y : A) → k ≡ q → (if k == q then x else y) ≡ x
if_so k q x y e = cond-true (nat_eq k q) x y (eq-eqb k q e)

pub if_not : {A : Type 0} (k q : ℕ) (x y : A) → (k ≡ q → ⊥) → (if k == q then x else y) ≡ y
if_not k q x y ne = cond-false (nat_eq k q) x y (ne_eqb k q ne)

-- ---- emptied

-- how many messages the stream holds
abbrev pub held_count : Option (Option (List MessageView)) → ℕ
held_count o = unwrap_or (option_map count_of o) 0

-- one that gives a message holds one less
pub one_less : (o p : Option (Option (List MessageView))) → is_some (option_and_then (λ (q : Option (List MessageView)). option_and_then (λ (ms : List MessageView). slice_get ms 0) q) o) ≡ true → p ≡ option_map without_first o → held_count p < held_count o
one_less None p some e = absurd (false≢true some)
one_less (Some None) p some e = absurd (false≢true some)
one_less (Some (Some [])) p some e = absurd (false≢true some)
one_less (Some (Some (x ∷ xs))) p some e = subst (λ q. held_count q < held_count (Some (Some (x ∷ xs)))) (sym e) (omega arith)

-- one that gives none is at the end
pub at_end : {passed begun : ℕ} {entries : List Kept} {m : BTreeMap ℕ (Option ℕ)} → AreShared passed entries m begun → (v : Holdings) → holdings passed entries m ≡ v → (w : Holdings) (k c : ℕ) → None ≡ first_by w k → held_by v k ≡ option_map without_first (held_by w k) → get nat_cmp m k ≡ Some (Some c) → passed + length entries ≤ c
at_end {passed} {begun} {entries} {m} s v view w k c none left at =
    let stand = stands s k c at in
    let same : held_by (holdings passed entries m) k ≡ held_by w k = ap (λ z. held_by z k) view ∙ left ∙ sym (nothing_left (held_by w k) none) in
    let first : None ≡ option_map (λ (e : Kept). e.message) (slice_get entries (c - passed)) =
    none ∙ ap (λ o. option_and_then (λ (q : Option (List MessageView)). option_and_then (λ (ms : List MessageView). slice_get ms 0) q) o) (sym same) ∙ first_at passed entries m k c at in
    elim (slice_get_cases entries (c - passed)).1 [
      | inl some ↦ absurd (none-some some.0.message (first ∙ ap (option_map (λ (e : Kept). e.message)) some.2))
      | inr past ↦ omega (arith, past.0, stand)
    ]

pub none_so : {X : Type 0} (o : Option X) → is_some o ≡ false → None ≡ o
none_so None e = refl
none_so (Some x) e = absurd (false≢true (sym e))

-- a stream is gone, and each other holds what it held
pub held_gone : (passed : ℕ) (entries : List Kept) (m n : BTreeMap ℕ (Option ℕ)) (k : ℕ) (v w : Holdings) → holdings passed entries m ≡ v → UpdatesBy nat_cmp (nat_cmp k) m n None → ((q : ℕ) → (k ≡ q → ⊥) → held_by v q ≡ held_by w q) → (q : ℕ) → held_by (holdings passed entries n) q ≡ (if k == q then None else held_by w q)
held_gone passed entries m n k v w view u same q =
    held_new passed entries m n k None u q
    ∙ by_key k q (if k == q then None else held_by (holdings passed entries m) q) None (held_by w q) (λ e. if_so k q None (held_by (holdings passed entries m) q) e)
    (λ ne. if_not k q None (held_by (holdings passed entries m) q) ne ∙ ap (λ z. held_by z q) view ∙ same q ne)

-- ---- filled

-- the stream holds the last so many of what the original held, and each other what it held
abbrev pub Fills : Holdings → ℕ → ℕ → ℕ → Holdings → Type 0
Fills w original stream count v = (ms : List MessageView) → held_by w original ≡ Some (Some ms) → held_by w stream ≡ None → (k : ℕ) → held_by v k ≡ (if stream == k then Some (Some (drop (length ms - count) ms)) else held_by w k)

pub fills_none : (w : Holdings) (original stream : ℕ) (v : Holdings) → (held_by w stream ≡ None → (k : ℕ) → held_by v k ≡ (if stream == k then Some (Some []) else held_by w k)) → Fills w original stream 0 v
fills_none w original stream v h ms whole none k =
    h none k ∙ ap (λ l. if stream == k then Some (Some l) else held_by w k) (sym (drop_all (length ms - 0) ms (omega arith)))

-- the original is another
other : (w : Holdings) (original stream : ℕ) (ms : List MessageView) → held_by w original ≡ Some (Some ms) → held_by w stream ≡ None → stream ≡ original → ⊥
other w original stream ms whole none e = none-some (Some ms) (sym none ∙ ap (held_by w) e ∙ whole)

pub fills_more : (w : Holdings) (original stream count : ℕ) (v u : Holdings) → Fills w original stream count v → ((ms : List MessageView) → held_by w original ≡ Some (Some ms) → count < length ms)
    → ((o j : ℕ) (ms : List MessageView) → held_by v o ≡ Some (Some ms) → j < length ms → held_by v stream ≡ Some (Some (drop (j + 1) ms)) → (k : ℕ) → held_by u k ≡ (if stream == k then Some (Some (drop j ms)) else held_by v k)) → Fills w original stream (count + 1) u
fills_more w original stream count v u f more gives ms whole none k =
    let lt = more ms whole in
    let j = length ms - (count + 1) in
    let next : length ms - count ≡ j + 1 = omega arith in
    let own : held_by v stream ≡ Some (Some (drop (j + 1) ms)) =
    f ms whole none stream ∙ if_so stream stream (Some (Some (drop (length ms - count) ms))) (held_by w stream) refl ∙ ap (λ n. Some (Some (drop n ms))) next in
    let there : held_by v original ≡ Some (Some ms) =
    f ms whole none original ∙ if_not stream original (Some (Some (drop (length ms - count) ms))) (held_by w original) (other w original stream ms whole none) ∙ whole in
    gives original j ms there (omega arith) own k
    ∙ by_key stream k (if stream == k then Some (Some (drop j ms)) else held_by v k) (Some (Some (drop j ms))) (held_by w k) (λ e. if_so stream k (Some (Some (drop j ms))) (held_by v k) e)
    (λ ne. if_not stream k (Some (Some (drop j ms))) (held_by v k) ne ∙ f ms whole none k ∙ if_not stream k (Some (Some (drop (length ms - count) ms))) (held_by w k) ne)

pub fills_all : (w : Holdings) (original stream count : ℕ) (v : Holdings) → Fills w original stream count v → (ms : List MessageView) → held_by w original ≡ Some (Some ms) → length ms ≤ count → held_by w stream ≡ None → (k : ℕ) → held_by v k ≡ (if stream == k then held_by w original else held_by w k)
fills_all w original stream count v f ms whole le none k =
    let all : length ms - count ≡ 0 = omega arith in
    f ms whole none k ∙ ap (λ n. if stream == k then Some (Some (drop n ms)) else held_by w k) all ∙ ap (λ o. if stream == k then o else held_by w k) (sym whole)

-- and is gone again
pub fills_undone : (w : Holdings) (original stream count : ℕ) (v u t : Holdings) → Fills w original stream count v → (ms : List MessageView) → held_by w original ≡ Some (Some ms) → ((k : ℕ) → held_by u k ≡ held_by v k) → ((k : ℕ) → held_by t k ≡ (if stream == k then None else held_by u k)) → held_by w stream ≡ None → (k : ℕ) → held_by t k ≡ held_by w k
fills_undone w original stream count v u t f ms whole same closed none k = closed k ∙ (elim (cases_eq stream k) [
  | inl e ↦ if_so stream k None (held_by u k) e ∙ sym none ∙ ap (held_by w) e
  | inr ne ↦ if_not stream k None (held_by u k) ne ∙ same k ∙ f ms whole none k ∙ if_not stream k (Some (Some (drop (length ms - count) ms))) (held_by w k) ne
])

-- how many messages a stream holds, by its cursor
pub held_length : {passed begun : ℕ} {entries : List Kept} {m : BTreeMap ℕ (Option ℕ)} → AreShared passed entries m begun → (v : Holdings) → holdings passed entries m ≡ v → (k c : ℕ) (ms : List MessageView) → get nat_cmp m k ≡ Some (Some c) → held_by v k ≡ Some (Some ms) → length ms + c ≡ passed + length entries
held_length {passed} {begun} {entries} {m} s v view k c ms at is =
    let own : drop (c - passed) (messages entries) ≡ ms = same_Some (drop (c - passed) (messages entries)) ms (same_Some (Some (drop (c - passed) (messages entries))) (Some ms) (sym (held_is passed entries m v view k (Some (Some c)) at) ∙ is)) in
    omega (arith, ap length own, length-drop (c - passed) (messages entries), messages_length entries, stands s k c at)
