-- The walk over a body's arguments, one after another.
use Rattle.std.proofs.Common.{◌≡◌, ◌≢◌, refl, sym, ap, ◌∙◌, subst, ℕ, ◌+◌, ◌<◌, ◌≤◌, List, [], ◌∷◌, ◌++◌, length, take, drop, Option, Some, None, option_map, option_and_then, slice_index, arith, append_assoc, append-nil, length-append}
use Rattle.std.proofs.lemmas.List.{take-append-drop, drop_at, length-take-le}
use Rattle.std.specs.List.{All}
use Rattle.std.proofs.lemmas.List.Elements.{All-head, All-tail}
use Rattle.wire_number.specs.declared.endian.Endian.{Endian}
use Rattle.wire_number.specs.Reading.{Cursor, Parse, made, ◌>>=◌}
use Rattle.wire_number.proofs.Steps.{at, AreBytes, some_is, bind_some, map_some}
use Rattle.wire_signature.specs.declared.basic.BasicType.{BasicType}
use Rattle.wire_signature.specs.declared.basic.BasicType.TheVariants as basics
use Rattle.wire_signature.specs.SingleType.{SingleType, single_types_of, basic, type_text, types_text, array_depths, struct_depths, AllHaveFields, IsType, IsSignature, SignatureText, BeginsWithType}
use Rattle.wire_signature.specs.Parsing.{types_in}
use Rattle.wire_signature.proofs.Exact.{begins_again, types_in-again, types_in-takes}
use Rattle.wire_tree.specs.Datum.{Datum, StringLike, string, object_path, signature as of_signature, num, text, array, dict, struct, variant, text_type, type_of}
use Rattle.wire_encoding.specs.Encoding.{encoding, Encodes}
use Rattle.wire_encoding.specs.Promises.{EncodeNothing, StandsFirst}
use Rattle.wire_encoding.specs.Reading.{text_at, text_value_at, value_at, fields_at}
use Rattle.wire_encoding.proofs.Exact.{encodes_type, first_one, stands_begins, value_only}
use Rattle.wire_encoding.proofs.FoundValues.{IsValue, value_takes}
use Rattle.wire_encoding.proofs.Walks.{types_length}
use Rattle.rule_match.specs.Accepting.{values_in, arguments_in}
use Rattle.rule_match.specs.Found.{text_in}
use Rattle.rule_match.specs.Finding.{IsNext, NothingNext}
use Rattle.rule_match.specs.Walking.{HasPassed}

pub are_bytes : (xs : List ℕ) → All (λ b. b < 256) xs → AreBytes xs
are_bytes [] h = tt
are_bytes (x ∷ xs) h = (All-head (λ b. b < 256) x xs h, are_bytes xs (All-tail (λ b. b < 256) x xs h))

-- ---- a string, or an object path

basic_type : (b : BasicType) → IsType (basic b)
basic_type b = record { arrays = omega arith; structs = omega arith; fields = tt; within = omega arith }

-- a text is read as a value
text_read : (order : Endian) (t : StringLike) (c : Cursor) → value_at 64 order (basic (text_type t)) c ≡ text_value_at t order c
unfolding value_at
text_read order string c = refl
text_read order object_path c = refl
text_read order of_signature c = refl

pub text_next : (order : Endian) (t : StringLike) (others : List ℕ) (c : Cursor) (y : List ℕ × Cursor) → text_at t order c ≡ Some y → text_in (text t y.0) ≡ Some (text t y.0)
    → IsNext order (type_text (basic (text_type t)) ++ others) c (Some (text t y.0)) others y.1
text_next order t others c y e kept = record {
  type = basic (text_type t);
  value = text t y.0;
  valid = basic_type (text_type t);
  named = refl;
  read = text_read order t c ∙ ap (made (text t)) e;
  kept = sym kept;
}

pub no_text : (order : Endian) (t : StringLike) (others : List ℕ) (c : Cursor) → text_at t order c ≡ None → NothingNext order (type_text (basic (text_type t)) ++ others) c
no_text order t others c e u names h same =
    let one : u ≡ basic (text_type t) = (first_one u (basic (text_type t)) names others h (basic_type (text_type t)) (sym same)).0 in
    ap (λ u. value_at 64 order u c) one ∙ text_read order t c ∙ ap (made (text t)) e

-- ---- a value of another type

no_text_in : (d : Datum) → type_of d ≢ basic basics.String → type_of d ≢ basic basics.ObjectPath → text_in d ≡ None
no_text_in (num n v) s p = refl
no_text_in (text string bytes) s p = absurd (s refl)
no_text_in (text object_path bytes) s p = absurd (p refl)
no_text_in (text of_signature bytes) s p = refl
no_text_in (array t ds) s p = refl
no_text_in (dict k v es) s p = refl
no_text_in (struct ds) s p = refl
no_text_in (variant d) s p = refl

first_byte : (b : BasicType) (t : SingleType) (types others : List ℕ) (n : ℕ) → types ≡ type_text t ++ others → slice_index (type_text (basic b)) 0 ≡ n
    → slice_index types 0 ≢ n → t ≢ basic b
first_byte b t types others n e is other same = other (ap (λ r. slice_index r 0) (e ∙ ap (λ u. type_text u ++ others) same) ∙ is)

-- the text behind the type at its front
behind_type : (types : List ℕ) (n : ℕ) (t : SingleType) → IsType t → BeginsWithType types n → (k : StandsFirst t types) → types ≡ type_text t ++ drop n types
behind_type types n t h b k =
    let long : n ≡ length (type_text t) = some_is _ _ (sym (begins_again types n b) ∙ begins_again types (length (type_text t)) (stands_begins t types h k)) in
    let rest : drop n types ≡ k.0 = ap (drop n) k.1 ∙ drop_at (type_text t) k.0 n (sym long) in
    k.1 ∙ ap (λ r. type_text t ++ r) (sym rest)

encoded_there : (order : Endian) (t : SingleType) (c : Cursor) (d : Datum) (n : ℕ) → n ≤ length c.rest → Encodes order c.place t d (take n c.rest)
    → value_at 64 order t c ≡ Some (d, at (c.place + n) (drop n c.rest))
encoded_there order t c d n within s =
    ap (λ r. value_at 64 order t (at c.place r)) (sym (take-append-drop n c.rest)) ∙ value_only order c.place t d (take n c.rest) (drop n c.rest) s
    ∙ ap (λ m. Some (d, at (c.place + m) (drop n c.rest))) (length-take-le n c.rest within)

pub other_next : (order : Endian) (types : List ℕ) (c : Cursor) (n count : ℕ) → BeginsWithType types n → slice_index types 0 ≢ 115 → slice_index types 0 ≢ 111
    → count ≤ length c.rest → ((t : SingleType) × (d : Datum) × StandsFirst t types × Encodes order c.place t d (take count c.rest))
    → IsNext order types c None (drop n types) (at (c.place + count) (drop count c.rest))
other_next order types c n count b no_string no_path within found =
    let t = found.0 in
    let d = found.1 in
    let k = found.2 in
    let s = found.3 in
    let valid : IsType t = encodes_type order c.place t d (take count c.rest) s in
    record {
      type = t;
      value = d;
      valid = valid;
      named = behind_type types n t valid b k;
      read = encoded_there order t c d count within s;
      kept = sym (no_text_in d (λ e. first_byte basics.String t types k.0 115 k.1 refl no_string (sym s.kind ∙ e)) (λ e. first_byte basics.ObjectPath t types k.0 111 k.1 refl no_path (sym s.kind ∙ e)));
    }

pub no_type : (order : Endian) (types : List ℕ) (c : Cursor) → ((n : ℕ) → BeginsWithType types n → ⊥) → NothingNext order types c
no_type order types c none t others h e = absurd (none (length (type_text t)) (stands_begins t types h (others, e)))

read_nothing : (order : Endian) (t : SingleType) (c : Cursor) → IsType t → AreBytes c.rest → EncodeNothing order c.place t c.rest → value_at 64 order t c ≡ None
read_nothing order t c h low none = of_read (value_at 64 order t c) refl where
  of_read : (found : Parse Datum) → value_at 64 order t c ≡ found → found ≡ None
  of_read None e = refl
  of_read (Some y) e =
      let k : IsValue 64 order t c y = value_takes 64 order t c y e low in
      absurd (none y.0 (encoding order c.place y.0) y.1.rest
      (record { kind = k.kind; valid = record { type = subst IsType (sym k.kind) h; well_typed = k.well_typed }; within = k.within; fit = k.fit; text = refl }) k.reads.text_is)

pub nothing_there : (order : Endian) (types : List ℕ) (c : Cursor) → AreBytes c.rest
    → ((t : SingleType) → StandsFirst t types → EncodeNothing order c.place t c.rest) → NothingNext order types c
nothing_there order types c low none t others h e = read_nothing order t c h low (none t (others, e))

-- ---- from one argument to the next

not_empty : (t : SingleType) (others : List ℕ) → type_text t ++ others ≡ [] → ⊥
not_empty t others e = absurd (omega (arith, types_length t, ap length e, length-append (type_text t) others))

-- the text behind a type is shorter
pub shorter : (order : Endian) (types others : List ℕ) (c after : Cursor) (kept : Option Datum) → IsNext order types c kept others after → length others < length types
shorter order types others c after kept n = omega (arith, ap length n.named, length-append (type_text n.type) others, types_length n.type)

pub nothing_empty : (order : Endian) (types : List ℕ) (c : Cursor) → types ≡ [] → NothingNext order types c
nothing_empty order types c e t others h same = absurd (not_empty t others (sym same ∙ e))

pub nothing_long : (xs : List ℕ) → length xs ≡ 0 → xs ≡ []
nothing_long [] e = refl
nothing_long (x ∷ xs) e = absurd (omega arith)

pub begun : (order : Endian) (names body : List ℕ) (ts : List SingleType) → SignatureText ts names → HasPassed order names body names (at 0 body) []
unfolding arguments_in
begun order names body ts s = record {
  left = ts;
  valid = s.valid;
  named = s.text;
  whole = ap (option_and_then (λ types. values_in order types body)) (types_in-again ts names s);
}

first_valid : (t : SingleType) (ts : List SingleType) → IsSignature (t ∷ ts) → IsType t × IsSignature ts
first_valid t ts h = by h.arrays h.structs h.fields h.within where
  by : array_depths (single_types_of (t ∷ ts)) ≤ 32 → struct_depths (single_types_of (t ∷ ts)) ≤ 32 → AllHaveFields (single_types_of (t ∷ ts)) → length (types_text (single_types_of (t ∷ ts))) ≤ 255
      → IsType t × IsSignature ts
  by a s f w =
      let long = length-append (type_text t) (types_text (single_types_of ts)) in (
        record { arrays = omega arith; structs = omega arith; fields = f.0; within = omega arith },
        record { arrays = omega arith; structs = omega arith; fields = f.1; within = omega arith },
      )

fields_from : (order : Endian) (t : SingleType) (ts : List SingleType) (c : Cursor) (found : Parse Datum) → value_at 64 order t c ≡ found
    → fields_at (value_at 64 order) (single_types_of (t ∷ ts)) c ≡ (found >>= λ x. made (λ ds. x.0 ∷ ds) (fields_at (value_at 64 order) (single_types_of ts) x.1))
unfolding fields_at
fields_from order t ts c found e = ap (λ o. o >>= λ x. made (λ (ds : List Datum). x.0 ∷ ds) (fields_at (value_at 64 order) (single_types_of ts) x.1)) e

no_fields : (order : Endian) (c : Cursor) → fields_at (value_at 64 order) (single_types_of []) c ≡ Some ([], c)
unfolding fields_at
no_fields order c = refl

moved : (ds : List Datum) (d : Datum) (found : Parse (List Datum)) → option_map (λ x. ds ++ x.0) (made (λ es. d ∷ es) found) ≡ option_map (λ x. (ds ++ d ∷ []) ++ x.0) found
moved ds d None = refl
moved ds d (Some x) = ap Some (sym (append_assoc ds (d ∷ []) x.0))

module _ (order : Endian) (names body types : List ℕ) (c : Cursor) (passed : List Datum) where
  pub refused : HasPassed order names body types c passed → types ≢ [] → NothingNext order types c → arguments_in order names body ≡ None
  refused w some none = by w.left w.valid w.named w.whole where
    by : (ts : List SingleType) → IsSignature ts → types ≡ types_text (single_types_of ts)
        → arguments_in order names body ≡ option_map (λ x. passed ++ x.0) (fields_at (value_at 64 order) (single_types_of ts) c) → arguments_in order names body ≡ None
    by [] valid named whole = absurd (some named)
    by (t ∷ ts) valid named whole =
        whole ∙ ap (option_map (λ x. passed ++ x.0)) (fields_from order t ts c None (none t (types_text (single_types_of ts)) (first_valid t ts valid).0 named))

  pub stepped : (others : List ℕ) (after : Cursor) (t : Option Datum) (n : IsNext order types c t others after) → HasPassed order names body types c passed
      → HasPassed order names body others after (passed ++ n.value ∷ [])
  stepped others after u n w = by w.left w.valid w.named w.whole where
    by : (ts : List SingleType) → IsSignature ts → types ≡ types_text (single_types_of ts)
        → arguments_in order names body ≡ option_map (λ x. passed ++ x.0) (fields_at (value_at 64 order) (single_types_of ts) c)
        → HasPassed order names body others after (passed ++ n.value ∷ [])
    by [] valid named whole = absurd (not_empty n.type others (sym n.named ∙ named))
    by (t ∷ ts) valid named whole =
        let both = first_valid t ts valid in
        let one = first_one t n.type (types_text (single_types_of ts)) others both.0 n.valid (sym named ∙ n.named) in
        record {
          left = ts;
          valid = both.1;
          named = sym one.1;
          whole = whole ∙ ap (option_map (λ x. passed ++ x.0)) (fields_from order t ts c (Some (n.value, after)) (ap (λ u. value_at 64 order u c) one.0 ∙ n.read))
              ∙ moved passed n.value (fields_at (value_at 64 order) (single_types_of ts) after);
        }

  pub ended : HasPassed order names body types c passed → types ≡ [] → arguments_in order names body ≡ Some passed
  ended w end = by w.left w.named w.whole where
    by : (ts : List SingleType) → types ≡ types_text (single_types_of ts)
        → arguments_in order names body ≡ option_map (λ x. passed ++ x.0) (fields_at (value_at 64 order) (single_types_of ts) c) → arguments_in order names body ≡ Some passed
    by [] named whole = whole ∙ ap (option_map (λ x. passed ++ x.0)) (no_fields order c) ∙ ap Some (append-nil passed)
    by (t ∷ ts) named whole = absurd (not_empty t (types_text (single_types_of ts)) (sym named ∙ end))

  -- the arguments begin with those that are passed
  pub begins : HasPassed order names body types c passed → (ds : List Datum) → arguments_in order names body ≡ Some ds → (rest : List Datum) × (passed ++ rest ≡ ds)
  begins w ds e =
      let y = map_some (λ (x : List Datum × Cursor). passed ++ x.0) (fields_at (value_at 64 order) (single_types_of w.left) c) ds (sym w.whole ∙ e) in
      (y.0.0, y.2)

-- ---- where the types have no names

-- the text of a body's types is a signature, or the body has no arguments
pub signature_or_none : (order : Endian) (names body : List ℕ) → ((ts : List SingleType) → SignatureText ts names → arguments_in order names body ≡ None) → arguments_in order names body ≡ None
unfolding arguments_in
signature_or_none order names body h = of_types (types_in names) refl where
  of_types : (o : Option (List SingleType)) → types_in names ≡ o → option_and_then (λ types. values_in order types body) (types_in names) ≡ None
  of_types None e = ap (option_and_then (λ types. values_in order types body)) e
  of_types (Some ts) e = h ts (types_in-takes names ts e)

-- the types of a body that has arguments
pub types_of : (order : Endian) (names body : List ℕ) (ds : List Datum) → arguments_in order names body ≡ Some ds → (ts : List SingleType) × SignatureText ts names
unfolding arguments_in
types_of order names body ds e = let x = bind_some (types_in names) (λ types. values_in order types body) ds e in (x.0, types_in-takes names x.0 x.1)
