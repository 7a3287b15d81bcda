-- Steps of the loops over elements and fields.
use Rattle.std.proofs.Common.{◌≡◌, ℕ, zero, suc, ◌+◌, ◌-◌, ◌<◌, ◌≤◌, List, [], ◌∷◌, ◌++◌, length, get_or, drop, drop-cons, add-one, Option, Some, None, is_some, refl, sym, ◌∙◌, ap, arith, option_map, append_assoc, append-nil}
use Rattle.std.proofs.lemmas.List.{drop_all, nil_from_length}
use Rattle.wire_signature.specs.SingleType.{SingleType, single_types_of}
use Rattle.wire_signature.specs.declared.error.VariantError.{VariantError}
use Rattle.wire_signature.specs.declared.error.VariantError.TheVariants as errors
use Rattle.wire_tree.specs.Datum.{Datum}
use Rattle.wire_encoding.specs.ReaderView.{Refuses}
use Rattle.wire_number.specs.declared.endian.Endian.{Endian}
use Rattle.wire_number.specs.Reading.{Cursor, Parse, made, ◌>>=◌}
use Rattle.wire_encoding.specs.Reading.{many_at, more_at, fields_at, value_step, value_at}

pub many_done : {A : Type 0} (n : ℕ) (read : Cursor → Parse A) (c : Cursor) → length c.rest ≡ 0 → many_at n read c ≡ Some []
unfolding many_at
many_done zero read c e = rw (nil_from_length c.rest e) refl
many_done (suc n) read c e = rw (nil_from_length c.rest e) refl

pub many_left : {A : Type 0} (m : ℕ) (read : Cursor → Parse A) (c : Cursor) → m ≡ 0 → 0 < length c.rest → many_at m read c ≡ None
unfolding many_at
many_left m read c e h = rw (e, drop-cons c.rest 0 0 h) refl

many_by : {A : Type 0} (n m : ℕ) (read : Cursor → Parse A) (c : Cursor) (found : Parse A) → m ≡ suc n → 0 < length c.rest → read c ≡ found
    → many_at m read c ≡ (found >>= λ x. many_at n read x.1 >>= λ xs. Some (x.0 ∷ xs))
unfolding many_at
many_by n m read c found k h e =
    rw k (ap (more_at (many_at n read) read c) (drop-cons c.rest 0 0 h) ∙ ap (λ found. found >>= λ x. many_at n read x.1 >>= λ xs. Some (x.0 ∷ xs)) e)

pub many_next : {A : Type 0} (n m : ℕ) (read : Cursor → Parse A) (c : Cursor) (x : A × Cursor) → m ≡ suc n → 0 < length c.rest → read c ≡ Some x
    → many_at m read c ≡ (many_at n read x.1 >>= λ xs. Some (x.0 ∷ xs))
many_next n m read c x k h e = many_by n m read c (Some x) k h e

pub many_none : {A : Type 0} (n m : ℕ) (read : Cursor → Parse A) (c : Cursor) → m ≡ suc n → 0 < length c.rest → read c ≡ None → many_at m read c ≡ None
many_none n m read c k h e = many_by n m read c None k h e

pub with_first : {A : Type 0} (x : A) (found : Option (List A)) → is_some (found >>= λ xs. Some (x ∷ xs)) ≡ is_some found
with_first x None = refl
with_first x (Some xs) = refl

-- whether there are more is whether there are the others
pub some_next : {A : Type 0} (n m : ℕ) (read : Cursor → Parse A) (c : Cursor) (x : A × Cursor) → m ≡ suc n → 0 < length c.rest → read c ≡ Some x
    → is_some (many_at m read c) ≡ is_some (many_at n read x.1)
some_next n m read c x k h e = ap is_some (many_next n m read c x k h e) ∙ with_first x.0 (many_at n read x.1)

pub ruleset elements = (many_done, many_left)

-- ---- the elements so far, and those to come

abbrev pub joined : {A : Type 0} → List A → Option (List A) → Option (List A)
joined front found = option_map (λ xs. front ++ xs) found

pub joined_end : {A : Type 0} (n : ℕ) (read : Cursor → Parse A) (c : Cursor) (front : List A) → length c.rest ≡ 0 → joined front (many_at n read c) ≡ Some front
joined_end n read c front e = ap (joined front) (many_done n read c e) ∙ ap Some (append-nil front)

pub ruleset gathered = (joined_end, many_left)

joined_next : {A : Type 0} (front : List A) (x : A) (found : Option (List A)) → joined front (found >>= λ xs. Some (x ∷ xs)) ≡ joined (front ++ x ∷ []) found
joined_next front x None = refl
joined_next front x (Some xs) = ap Some (sym (append_assoc front (x ∷ []) xs))

pub joined_more : {A : Type 0} (n m : ℕ) (read : Cursor → Parse A) (c : Cursor) (x : A × Cursor) (front : List A) (whole : Option (List A))
    → whole ≡ joined front (many_at m read c) → m ≡ suc n → 0 < length c.rest → read c ≡ Some x
    → whole ≡ joined (front ++ x.0 ∷ []) (many_at n read x.1)
joined_more n m read c x front whole w k h f =
    w ∙ ap (joined front) (many_next n m read c x k h f) ∙ joined_next front x.0 (many_at n read x.1)

-- ---- the fields so far, and those to come

abbrev pub joined_fields : List Datum → Parse (List Datum) → Parse (List Datum)
joined_fields front found = made (λ ds. front ++ ds) found

pub fields_next : (read : SingleType → Cursor → Parse Datum) (ts : List SingleType) (i : ℕ) (t : SingleType) (c : Cursor) (found : Parse Datum) → i < length ts → t ≡ get_or ts i t
    → read t c ≡ found → fields_at read (single_types_of (drop i ts)) c ≡ (found >>= λ x. made (λ ds. x.0 ∷ ds) (fields_at read (single_types_of (drop (i + 1) ts)) x.1))
unfolding fields_at
fields_next read ts i t c found h k f =
    let first : drop i ts ≡ t ∷ drop (i + 1) ts = rw add-one (drop-cons ts i t h ∙ ap (λ u. u ∷ drop (suc i) ts) (sym k)) in rw (first, f) refl

joined_one : (front : List Datum) (d : Datum) (found : Parse (List Datum)) → joined_fields front (made (λ ds. d ∷ ds) found) ≡ joined_fields (front ++ d ∷ []) found
joined_one front d None = refl
joined_one front d (Some x) = ap (λ ds. Some (ds, x.1)) (sym (append_assoc front (d ∷ []) x.0))

pub joined_field : (read : SingleType → Cursor → Parse Datum) (ts : List SingleType) (i : ℕ) (t : SingleType) (c : Cursor) (x : Datum × Cursor) (front : List Datum) (whole : Parse (List Datum))
    → whole ≡ joined_fields front (fields_at read (single_types_of (drop i ts)) c) → i < length ts → t ≡ get_or ts i t → read t c ≡ Some x
    → whole ≡ joined_fields (front ++ x.0 ∷ []) (fields_at read (single_types_of (drop (i + 1) ts)) x.1)
joined_field read ts i t c x front whole w h k f = w ∙ ap (joined_fields front) (fields_next read ts i t c _ h k f) ∙ joined_one front x.0 _

pub joined_done : (read : SingleType → Cursor → Parse Datum) (ts : List SingleType) (i : ℕ) (c : Cursor) (front : List Datum) (whole : Parse (List Datum))
    → whole ≡ joined_fields front (fields_at read (single_types_of (drop i ts)) c) → length ts ≤ i → whole ≡ Some (front, c)
unfolding fields_at
joined_done read ts i c front whole w h =
    w ∙ rw (drop_all i ts h) (ap (λ ds. Some (ds, c)) (append-nil front))

-- a refusal of a part is one of the whole
pub refuses_as : {X Y : Type 0} (e : VariantError) (part : Option X) (whole : Option Y) → (part ≡ None → whole ≡ None) → Refuses e part → Refuses e whole
refuses_as errors.Malformed part whole f h = f h
refuses_as e part whole f h = h

pub value_in_room : (room : ℕ) (order : Endian) (t : SingleType) (c : Cursor) → 0 < room
    → value_at room order t c ≡ value_step (value_at (room - 1) order) order t c
unfolding value_at
value_in_room zero order t c h = absurd (omega arith)
value_in_room (suc room) order t c h = ap (λ n. value_step (value_at n order) order t c) (omega arith)
