-- Dicts as arguments.
use Rattle.std.proofs.Common.{◌≡◌, ◌↔◌, ℕ, zero, suc, ◌+◌, ◌-◌, ◌<◌, ◌≤◌, Bool, true, false, IsTrue, List, [], ◌∷◌, length, get_or, map, take, take_all, max, Option, Some, None, Err, option_map, refl, sym, ◌∙◌, ap, subst, arith}
use Rattle.std.proofs.Math.Path.{fun_ext}
use Rattle.wire_number.specs.declared.endian.Endian.{Endian}
use Rattle.wire_number.specs.Reading.{Cursor, Parse, made, ◌>>=◌, align_at}
use Rattle.wire_signature.specs.declared.basic.BasicType.{BasicType}
use Rattle.wire_signature.specs.SingleType.{SingleType, basic, dict as dict_of, struct as struct_of, single_types, no_single_types}
use Rattle.wire_tree.specs.Datum.{Data, Datum, num, text, array, dict, struct, variant, items, data_of, entry, entry_type, entries_of, type_of, WellTyped, AreElements}
use Rattle.wire_tree.proofs.Lists.{pairs_of-entries_of}
use Rattle.wire_tree.proofs.Checked.{element-take}
use Rattle.wire_encoding.specs.Encoding.{depth, depths}
use Rattle.wire_encoding.proofs.Loops.{value_in_room}
use Rattle.wire_encoding.specs.Reading.{many_at, elements_at, array_at, struct_at, fields_at, value_at}
use Rattle.wire_signature.specs.declared.error.VariantError.{VariantError}
use Rattle.wire_signature.specs.declared.error.VariantError.TheVariants as errors
use Rattle.wire_argument.specs.Arguments.{Checks}
use Rattle.wire_argument.proofs.ArrayReads.{many_made}
use Rattle.wire_argument.proofs.Passing.{deep_check}
use Rattle.wire_argument.specs.Entries.{pair_at}
use Rattle.wire_argument.specs.Kinds.{both, entries_in}

-- ---- checks

-- What the check of the first values of an array found: they are well typed, and `deep` is whether the array would open more
-- containers than there is room for. Where it would not, each value is what `g` makes of it.
pub record Checked {A : Type 0} (f : A → Datum) (g : A → A) (t : SingleType) (xs : List A) (room : ℕ) (deep : Bool) : Type 0 where
  pub typed : AreElements t (data_of (map f xs))
  pub deeper : IsTrue deep ↔ (room < depths (data_of (map f xs)) + 1)
  pub round : deep ≡ false → map g xs ≡ xs

depths_next : {A : Type 0} (f : A → Datum) (xs : List A) (i : ℕ) (x : A) → i < length xs → x ≡ get_or xs i x
    → depths (data_of (map f (take (suc i) xs))) ≡ max (depths (data_of (map f (take i xs)))) (depth (f x))
depths_next f [] i x h e = absurd (omega arith)
depths_next f (a ∷ xs) zero x h e = omega (arith, ap (λ u. depth (f u)) e)
depths_next f (a ∷ xs) (suc i) x h e = omega (arith, depths_next f xs i x (omega arith) e)

round_next : {A : Type 0} (g : A → A) (xs : List A) (i : ℕ) (x : A) → i < length xs → x ≡ get_or xs i x → map g (take i xs) ≡ take i xs → g x ≡ x
    → map g (take (suc i) xs) ≡ take (suc i) xs
round_next g [] i x h e k s = absurd (omega arith)
round_next g (a ∷ xs) zero x h e k s = ap (λ u. u ∷ []) (ap g (sym e) ∙ s ∙ e)
round_next g (a ∷ xs) (suc i) x h e k s =
    let heads : g a ≡ a = cc in let tails : map g (take i xs) ≡ take i xs = cc in ap (λ u. u ∷ map g (take (suc i) xs)) heads ∙ ap (λ us. a ∷ us) (round_next g xs i x (omega arith) e tails s)

-- one value more, for which there is room
pub checked_next : {A : Type 0} (f : A → Datum) (g : A → A) (t : SingleType) (xs : List A) (i : ℕ) (x : A) (room : ℕ) (deep : Bool) → Checked f g t (take i xs) room deep
    → i < length xs → x ≡ get_or xs i x → WellTyped (f x) → type_of (f x) ≡ t → depth (f x) ≤ room - 1 → g x ≡ x → Checked f g t (take (suc i) xs) room deep
checked_next f g t xs i x room deep c h e w k d s =
    let long = depths_next f xs i x h e in
    record {
      typed = element-take f t xs i x c.typed h e (w, k);
      deeper = (λ y. let z = c.deeper.0 y in omega (arith, long, z), λ y. c.deeper.1 (omega (arith, long, y, d)));
      round = λ y. round_next g xs i x h e (c.round y) s;
    }

-- one value more, for which there is none
pub checked_deep : {A : Type 0} (f : A → Datum) (g : A → A) (t : SingleType) (xs : List A) (i : ℕ) (x : A) (room : ℕ) (deep : Bool) → Checked f g t (take i xs) room deep
    → i < length xs → x ≡ get_or xs i x → WellTyped (f x) → type_of (f x) ≡ t → room - 1 < depth (f x) → Checked f g t (take (suc i) xs) room true
checked_deep f g t xs i x room deep c h e w k d =
    let long = depths_next f xs i x h e in
    record { typed = element-take f t xs i x c.typed h e (w, k); deeper = (λ _. omega (arith, long, d), λ _. refl); round = λ y. absurd (cc) }

-- all values were checked
pub checked_all : {A : Type 0} (f : A → Datum) (g : A → A) (t : SingleType) (xs : List A) (i room : ℕ) (deep : Bool) → Checked f g t (take i xs) room deep → length xs ≤ i
    → Checked f g t xs room deep
checked_all f g t xs i room deep c h = subst (λ ys. Checked f g t ys room deep) (take_all i xs h) c

-- what that tells of the array that holds them
pub tells_deep : {A : Type 0} (f : A → Datum) (g : A → A) (t : SingleType) (xs : List A) (ds : Data) (room : ℕ) (deep : Bool) → Checked f g t xs room deep → ds ≡ data_of (map f xs)
    → deep ≡ true → AreElements t ds × (room < depths ds + 1)
tells_deep f g t xs ds room deep c e k = (subst (AreElements t) (sym e) c.typed, omega (arith, c.deeper.0 k, ap depths e))

pub tells_room : {A : Type 0} (f : A → Datum) (g : A → A) (t : SingleType) (xs : List A) (ds : Data) (room : ℕ) (deep : Bool) → Checked f g t xs room deep → ds ≡ data_of (map f xs)
    → deep ≡ false → AreElements t ds × (depths ds + 1 ≤ room)
tells_room f g t xs ds room deep c e k =
    let fits : room < depths (data_of (map f xs)) + 1 → ⊥ = λ h. (let one : deep ≡ true = c.deeper.1 h in absurd (cc)) in
    (subst (AreElements t) (sym e) c.typed, omega (arith, fits, ap depths e))

-- A refusal of one value that says no container is too deep is one of all.
pub told_malformed : (e : VariantError) (part whole : Type 0) (deep deeper room more : ℕ) → (e ≡ errors.Depth → ⊥) → (whole → part)
    → Checks {A = Unit {0}} (Err e) part deep room → Checks {A = Unit {0}} (Err e) whole deeper more
told_malformed errors.Malformed part whole deep deeper room more k f h = λ w. h (f w)
told_malformed errors.Depth part whole deep deeper room more k f h = absurd (k refl)
told_malformed errors.Signature part whole deep deeper room more k f h = absurd h
told_malformed errors.SignatureMismatch part whole deep deeper room more k f h = absurd h
told_malformed errors.Memory part whole deep deeper room more k f h = absurd h

map_twice : {A B C : Type 0} (f : A → B) (g : B → C) (xs : List A) → map (λ x. g (f x)) xs ≡ map g (map f xs)
map_twice f g [] = refl
map_twice f g (x ∷ xs) = ap (λ ys. g (f x) ∷ ys) (map_twice f g xs)

-- all values, each as it is read
pub round_all : {A B : Type 0} (f : A → B) (g : B → A) (xs : List A) (i : ℕ) → length xs ≤ i → map (λ x. g (f x)) (take i xs) ≡ take i xs → map g (map f xs) ≡ xs
round_all f g xs i h e = sym (map_twice f g xs) ∙ subst (λ ys. map (λ x. g (f x)) ys ≡ ys) (take_all i xs h) e

-- ---- reading

made_twice : {A B C : Type 0} (g : B → C) (f : A → B) (found : Parse A) → made g (made f found) ≡ made (λ x. g (f x)) found
made_twice g f None = refl
made_twice g f (Some x) = refl

made_same : {A B : Type 0} (f g : A → B) (found : Parse A) → ((x : A) → f x ≡ g x) → made f found ≡ made g found
made_same f g None h = refl
made_same f g (Some x) h = ap (λ y. Some (y, x.1)) (h x.0)

-- an array's items, each made into something
array_each : {A B : Type 0} (f : A → B) (boundary : ℕ) (read : Cursor → Parse A) (order : Endian) (c : Cursor)
    → array_at boundary (λ c. made f (read c)) order c ≡ made (map f) (array_at boundary read order c)
unfolding array_at
array_each {A} {B} f boundary read order c = by (elements_at order boundary c) where
  next : (after : Cursor) (r : Option (List A)) → (option_map (map f) r >>= λ xs. Some (xs, after)) ≡ made (map f) (r >>= λ xs. Some (xs, after))
  next after None = refl
  next after (Some xs) = refl

  by : (x : Option (Cursor × Cursor)) → (x >>= λ x. many_at (length x.0.rest) (λ c. made f (read c)) x.0 >>= λ xs. Some (xs, x.1))
      ≡ made (map f) (x >>= λ x. many_at (length x.0.rest) read x.0 >>= λ xs. Some (xs, x.1))
  by None = refl
  by (Some x) = ap (λ r. r >>= λ xs. Some (xs, x.1)) (many_made f read (length x.0.rest) x.0) ∙ next x.1 (many_at (length x.0.rest) read x.0)

-- a dict entry is a key and a value
entry_pair : (room : ℕ) (order : Endian) (k : BasicType) (v : SingleType) (c : Cursor) → value_at room order (entry_type k v) c ≡ made entry (pair_at room order k v c)
unfolding value_at struct_at fields_at pair_at
entry_pair zero order k v c = refl
entry_pair (suc room) order k v c = first (align_at 8 c) where
  last : (x : Datum × Cursor) (found : Parse Datum)
      → made (λ ds. struct (data_of ds)) (made (λ ds. x.0 ∷ ds) (found >>= λ y. made (λ ds. y.0 ∷ ds) (Some ([], y.1)))) ≡ made entry (made (λ d. (x.0, d)) found)
  last x None = refl
  last x (Some y) = refl

  middle : (found : Parse Datum)
      → made (λ ds. struct (data_of ds)) (found >>= λ x. made (λ ds. x.0 ∷ ds) (value_at room order v x.1 >>= λ y. made (λ ds. y.0 ∷ ds) (Some ([], y.1))))
      ≡ made entry (found >>= λ x. made (λ d. (x.0, d)) (value_at room order v x.1))
  middle None = refl
  middle (Some x) = last x (value_at room order v x.1)

  first : (found : Option Cursor)
      → made (λ ds. struct (data_of ds)) (found >>= λ p. value_at room order (basic k) p >>= λ x. made (λ ds. x.0 ∷ ds) (value_at room order v x.1 >>= λ y. made (λ ds. y.0 ∷ ds) (Some ([], y.1))))
      ≡ made entry (found >>= λ p. value_at room order (basic k) p >>= λ x. made (λ d. (x.0, d)) (value_at room order v x.1))
  first None = refl
  first (Some p) = middle (value_at room order (basic k) p)

-- a dict's entries, each made into something else
pub dict_read : {A : Type 0} (f : Datum × Datum → A) (room : ℕ) (order : Endian) (k : BasicType) (v : SingleType) (c : Cursor) → 0 < room
    → made (λ d. map f (entries_in d)) (value_at room order (dict_of k v) c) ≡ array_at 8 (λ c. made f (pair_at (room - 1) order k v c)) order c
dict_read f room order k v c h =
    let pair : Cursor → Parse (Datum × Datum) = pair_at (room - 1) order k v in
    let found : Parse (List (Datum × Datum)) = array_at 8 pair order c in
    ap (made (λ d. map f (entries_in d))) (value_in_room room order (dict_of k v) c h)
    ∙ ap (λ (read : Cursor → Parse Datum). made (λ d. map f (entries_in d)) (made (λ ds. dict k v (data_of ds)) (array_at 8 read order c))) (fun_ext (entry_pair (room - 1) order k v))
    ∙ ap (λ r. made (λ d. map f (entries_in d)) (made (λ ds. dict k v (data_of ds)) r)) (array_each entry 8 pair order c)
    ∙ made_twice (λ d. map f (entries_in d)) (λ ds. dict k v (data_of ds)) (made (map entry) found)
    ∙ made_twice (λ ds. map f (entries_in (dict k v (data_of ds)))) (map entry) found
    ∙ made_same (λ es. map f (entries_in (dict k v (entries_of es)))) (map f) found (λ es. ap (map f) (pairs_of-entries_of es))
    ∙ sym (array_each f 8 pair order c)

-- the elements that were found, and what stands behind them
behind : {A : Type 0} → Cursor → Option (List A) → Parse (List A)
behind after found = found >>= λ xs. Some (xs, after)

behind_them : {A : Type 0} → (Cursor → Parse A) → Option (Cursor × Cursor) → Parse (List A)
behind_them read found = found >>= λ x. behind x.1 (many_at (length x.0.rest) read x.0)

pub array_found : {A : Type 0} (boundary : ℕ) (read : Cursor → Parse A) (order : Endian) (c : Cursor) (x : Cursor × Cursor) (xs : List A) → elements_at order boundary c ≡ Some x
    → many_at (length x.0.rest) read x.0 ≡ Some xs → array_at boundary read order c ≡ Some (xs, x.1)
unfolding array_at behind_them behind
array_found boundary read order c x xs e h = ap (behind_them read) e ∙ ap (behind x.1) h

pub array_refused : {A : Type 0} (boundary : ℕ) (read : Cursor → Parse A) (order : Endian) (c : Cursor) (x : Cursor × Cursor) → elements_at order boundary c ≡ Some x
    → many_at (length x.0.rest) read x.0 ≡ None → array_at boundary read order c ≡ None
unfolding array_at behind_them behind
array_refused boundary read order c x e h = ap (behind_them read) e ∙ ap (behind x.1) h

pub array_none : {A : Type 0} (boundary : ℕ) (read : Cursor → Parse A) (order : Endian) (c : Cursor) → elements_at order boundary c ≡ None → array_at boundary read order c ≡ None
unfolding array_at behind_them behind
array_none boundary read order c e = ap (behind_them read) e

-- where no container may be opened
pub dict_shut : {A : Type 0} (f : Datum → A) (room : ℕ) (order : Endian) (k : BasicType) (v : SingleType) (c : Cursor) → room ≡ 0 → made f (value_at room order (dict_of k v) c) ≡ None
unfolding value_at
dict_shut f zero order k v c e = refl
dict_shut f (suc room) order k v c e = absurd (omega (arith, e))

-- ---- entries

-- dict entries, seen at once and by their keys and values
pub entries_by : {A B : Type 0} (f : A → Datum) (g : B → Datum) (es : List (A × B)) → entries_of (map (both f g) es) ≡ data_of (map (λ e. entry (both f g e)) es)
entries_by f g [] = refl
entries_by f g (e ∷ es) = ap (items (entry (both f g e))) (entries_by f g es)

-- a value of a basic type opens no container
pub basic_depth : (d : Datum) (b : BasicType) → type_of d ≡ basic b → depth d ≡ 0
basic_depth (num n v) b e = refl
basic_depth (text t bytes) b e = refl
basic_depth (array t ds) b e = absurd (cc)
basic_depth (dict k v es) b e = absurd (cc)
basic_depth (struct ds) b e = absurd (cc)
basic_depth (variant d) b e = absurd (cc)

-- so no refusal of it says that one is too deep
pub basic_told : (d : Datum) (b : BasicType) (e : VariantError) (room : ℕ) → type_of d ≡ basic b → Checks {A = Unit {0}} (Err e) (WellTyped d) (depth d) room → e ≡ errors.Depth → ⊥
basic_told d b e room k h same = let deep : room < depth d = (deep_check e (WellTyped d) (depth d) room same h).1 in absurd (omega (arith, basic_depth d b k, deep))

-- a key and a value, each made into something else
pair_by : {A B : Type 0} → (Datum → A) → (Datum → B) → ℕ → Endian → SingleType → SingleType → Option Cursor → Parse (A × B)
pair_by f g room order t v found =
    found >>= λ p. made f (value_at room order t p) >>= λ x. made (λ b. (x.0, b)) (made g (value_at room order v x.1))

pair_read : {A B : Type 0} (f : Datum → A) (g : Datum → B) (room : ℕ) (order : Endian) (k : BasicType) (t v : SingleType) (c : Cursor) → 0 < room → t ≡ basic k
    → made (both f g) (pair_at room order k v c) ≡ pair_by f g (room - 1) order t v (align_at 8 c)
unfolding pair_at pair_by
pair_read f g zero order k t v c h e = absurd (omega arith)
pair_read {A} {B} f g (suc room) order k t v c h e =
    by (align_at 8 c) ∙ ap (λ n. pair_by f g n order (basic k) v (align_at 8 c)) (omega arith) ∙ ap (λ t. pair_by f g (suc room - 1) order t v (align_at 8 c)) (sym e) where
      last : (x : Datum × Cursor) (found : Parse Datum) → made (both f g) (made (λ d. (x.0, d)) found) ≡ made (λ b. (f x.0, b)) (made g found)
      last x None = refl
      last x (Some y) = refl

      middle : (found : Parse Datum)
          → made (both f g) (found >>= λ x. made (λ d. (x.0, d)) (value_at room order v x.1)) ≡ (made f found >>= λ x. made (λ b. (x.0, b)) (made g (value_at room order v x.1)))
      middle None = refl
      middle (Some x) = last x (value_at room order v x.1)

      by : (found : Option Cursor) → made (both f g) (found >>= λ p. value_at room order (basic k) p >>= λ x. made (λ d. (x.0, d)) (value_at room order v x.1)) ≡ pair_by f g room order (basic k) v found
      by None = refl
      by (Some p) = middle (value_at room order (basic k) p)

pub pair_shut : {A B : Type 0} (f : Datum → A) (g : Datum → B) (room : ℕ) (order : Endian) (k : BasicType) (v : SingleType) (c : Cursor) → room ≡ 0
    → made (both f g) (pair_at room order k v c) ≡ None
unfolding pair_at
pair_shut f g zero order k v c e = refl
pair_shut f g (suc room) order k v c e = absurd (omega (arith, e))

pub pair_none : {A B : Type 0} (f : Datum → A) (g : Datum → B) (room : ℕ) (order : Endian) (k : BasicType) (t v : SingleType) (c : Cursor) → 0 < room → t ≡ basic k
    → align_at 8 c ≡ None → made (both f g) (pair_at room order k v c) ≡ None
unfolding pair_by
pair_none f g room order k t v c h e a = pair_read f g room order k t v c h e ∙ ap (pair_by f g (room - 1) order t v) a

-- the value that is read behind a key
behind_key : {A B : Type 0} → (Datum → B) → ℕ → Endian → SingleType → Parse A → Parse (A × B)
behind_key g room order v found = found >>= λ x. made (λ b. (x.0, b)) (made g (value_at room order v x.1))

pub key_none : {A B : Type 0} (f : Datum → A) (g : Datum → B) (room : ℕ) (order : Endian) (k : BasicType) (t v : SingleType) (c p : Cursor) → 0 < room → t ≡ basic k
    → align_at 8 c ≡ Some p → made f (value_at (room - 1) order t p) ≡ None → made (both f g) (pair_at room order k v c) ≡ None
unfolding pair_by behind_key
key_none f g room order k t v c p h e a b =
    pair_read f g room order k t v c h e ∙ ap (pair_by f g (room - 1) order t v) a ∙ ap (behind_key g (room - 1) order v) b

pub key_found : {A B : Type 0} (f : Datum → A) (g : Datum → B) (room : ℕ) (order : Endian) (k : BasicType) (t v : SingleType) (c p : Cursor) (x : A × Cursor) (found : Parse B) → 0 < room
    → t ≡ basic k → align_at 8 c ≡ Some p → made f (value_at (room - 1) order t p) ≡ Some x → made g (value_at (room - 1) order v x.1) ≡ found
    → made (both f g) (pair_at room order k v c) ≡ made (λ b. (x.0, b)) found
unfolding pair_by behind_key
key_found f g room order k t v c p x found h e a b d =
    pair_read f g room order k t v c h e ∙ ap (pair_by f g (room - 1) order t v) a ∙ ap (behind_key g (room - 1) order v) b ∙ ap (made (λ b. (x.0, b))) d

pub entry_kind : (a b : Datum) (k : BasicType) (v : SingleType) → type_of a ≡ basic k → type_of b ≡ v → type_of (entry (a, b)) ≡ entry_type k v
entry_kind a b k v e f = ap (λ t. pair_type t (type_of b)) e ∙ ap (pair_type (basic k)) f where
  pair_type : SingleType → SingleType → SingleType
  pair_type t u = struct_of (single_types t (single_types u no_single_types))
