-- The values of a body's word are those of which it is the word.
use Rattle.std.proofs.{Common.{ℕ, ◌≡◌, ◌+◌, ◌<◌, ◌==◌, Bool, true, false, not, nat_lt, List, [], ◌∷◌, ◌++◌, length, take, drop, map, Option, Some, None, is_some, option_and_then, option_map, refl, sym, ap, ◌∙◌, subst, arith, append-nil, length-append}, Math.Seq.{take-append_seam, drop-append-add}, lemmas.Bool.Decides.nat_tests, lemmas.List.{take-append-drop, take_all, drop_more}, lemmas.List.Elements.{All-head, All-tail}, lemmas.List.Folds.list_all-append, lemmas.List.Quantifiers.position-Some, lemmas.Bool.and_parts}
use Rattle.std.specs.List.{list_all, position, position_or_len, All}
use Rattle.peer_words.specs.{Names.{Endian, Little, SingleType, basic, SingleTypes, no_single_types, single_types, single_types_of, letter, type_text, types_text, IsSignature, SignatureText, types_in, Datum, type_of, EncodeEach, Cursor, value_at, fields_at}, Hex.{hex_word, bytes_of}, BodyWord.{IsBodyWord, at_colon, with_nothing_behind, encoded_values, body_values}}
use Rattle.wire_signature.specs.{declared.basic.BasicType.BasicType, SingleType.{variant, array, dict, struct}}
use Rattle.wire_signature.proofs.Exact.{types_in-takes, types_in-again}
use Rattle.wire_number.specs.Reading.{◌>>=◌}
use Rattle.wire_number.proofs.Steps.{at, AreBytes, bind_some, map_some, some_is}
use Rattle.wire_body.specs.Bodies.{HasNoBody, HasOnlyBody}
use Rattle.wire_encoding.proofs.Fronts.{each_found, each_again}
use Rattle.peer_words.proofs.Spelled.{digits_are, bytes_again}

-- ---- and nothing behind them

pub values_again : (ts : List SingleType) (ds : List Datum) (bytes : List ℕ) → EncodeEach Little 0 ts ds bytes → encoded_values ts bytes ≡ Some ds
unfolding encoded_values
values_again ts ds bytes s =
    ap (λ o. o >>= (λ found. with_nothing_behind found found.1.rest))
    (ap (λ b. fields_at (value_at 64 Little) (single_types_of ts) (at 0 b)) (sym (append-nil bytes)) ∙ each_again Little ts 0 ds bytes [] s)

nothing_behind : (found : List Datum × Cursor) (rest : List ℕ) (ds : List Datum) → with_nothing_behind found rest ≡ Some ds → (rest ≡ []) × (found.0 ≡ ds)
nothing_behind found [] ds e = (refl, some_is found.0 ds e)
nothing_behind found (b ∷ bs) ds e = absurd (cc)

pub values_found : (ts : List SingleType) (bytes : List ℕ) (ds : List Datum) → IsSignature ts → AreBytes bytes → encoded_values ts bytes ≡ Some ds → EncodeEach Little 0 ts ds bytes
unfolding encoded_values
values_found ts bytes ds h low e =
    let x = bind_some (fields_at (value_at 64 Little) (single_types_of ts) (at 0 bytes)) (λ found. with_nothing_behind found found.1.rest) ds e in
    let n = nothing_behind x.0 x.0.1.rest ds x.2 in
    let f = each_found Little ts 0 bytes x.0 h low x.1 in
    subst (λ (vs : List Datum). EncodeEach Little 0 ts vs bytes) n.1
    (subst (λ (b : List ℕ). EncodeEach Little 0 ts x.0.0 b) (sym (f.whole ∙ ap (λ r. f.front ++ r) n.0 ∙ append-nil f.front)) f.encoded)

-- bytes that encode nothing have no values
pub values_none : (ts : List SingleType) (bytes : List ℕ) → IsSignature ts → AreBytes bytes → ((ds : List Datum) → EncodeEach Little 0 ts ds bytes → ⊥) → encoded_values ts bytes ≡ None
values_none ts bytes h low never = nothing (encoded_values ts bytes) refl where
  nothing : (found : Option (List Datum)) → encoded_values ts bytes ≡ found → found ≡ None
  nothing None e = refl
  nothing (Some ds) e = absurd (never ds (values_found ts bytes ds h low e))

-- ---- the first colon

abbrev no_colon : ℕ → Bool
no_colon b = not (b == 58)

abbrev is_colon : ℕ → Bool
is_colon b = b == 58

passed : (s h : List ℕ) → list_all no_colon s ≡ true → position_or_len is_colon (s ++ 58 ∷ h) ≡ length s
passed [] h e = refl
passed (b ∷ s) h e =
    let k = and_parts (no_colon b) (list_all no_colon s) e in
    let i = passed s h k.1 in
    grind (arith, nat_tests, k.0, i)

colon_there : (s h : List ℕ) → list_all no_colon s ≡ true → position is_colon (s ++ 58 ∷ h) ≡ Some (length s)
colon_there s h e =
    let long : nat_lt (length s) (length (s ++ 58 ∷ h)) ≡ true = grind (arith, nat_tests, length-append s (58 ∷ h)) in
    rw (passed s h e, long) refl

colon_again : (s h : List ℕ) → list_all no_colon s ≡ true → at_colon (s ++ 58 ∷ h) ≡ Some (s, h)
colon_again s h e =
    ap (option_map (λ i. (take i (s ++ 58 ∷ h), drop (i + 1) (s ++ 58 ∷ h)))) (colon_there s h e)
    ∙ ap (λ f. Some (f, drop (length s + 1) (s ++ 58 ∷ h))) (take-append_seam s (58 ∷ h))
    ∙ ap (λ r. Some (s, r)) (drop-append-add s (58 ∷ h) 1)

colon_found : (word : List ℕ) (x : List ℕ × List ℕ) → at_colon word ≡ Some x → word ≡ x.0 ++ 58 ∷ x.1
colon_found word x e =
    let k = map_some (λ i. (take i word, drop (i + 1) word)) (position is_colon word) x e in
    let p = position-Some is_colon word k.0 58 k.1 in
    sym (take-append-drop k.0 word) ∙ ap (λ r. take k.0 word ++ r) (drop_more word k.0 58 p.0)
    ∙ ap (λ b. take k.0 word ++ b ∷ drop (k.0 + 1) word) (let is = p.1 in grind (arith, nat_tests, is))
    ∙ ap (λ y. y.0 ++ 58 ∷ y.1) k.2

all_both : (xs ys : List ℕ) → list_all no_colon xs ≡ true → list_all no_colon ys ≡ true → list_all no_colon (xs ++ ys) ≡ true
all_both xs ys e f = list_all-append no_colon xs ys ∙ rw (e, f) refl

letter_no_colon : (b : BasicType) → no_colon (letter b) ≡ true
letter_no_colon BasicType.Byte = refl
letter_no_colon other = refl

letter_alone : (b : BasicType) (rest : List ℕ) → list_all no_colon rest ≡ true → list_all no_colon (letter b ∷ rest) ≡ true
letter_alone b rest e = rw (letter_no_colon b, e) refl

mutual
  type_no_colon : (t : SingleType) → list_all no_colon (type_text t) ≡ true
  type_no_colon (basic b) = letter_alone b [] refl
  type_no_colon variant = refl
  type_no_colon (array t) = type_no_colon t
  type_no_colon (dict k v) = letter_alone k (type_text v ++ 125 ∷ []) (all_both (type_text v) (125 ∷ []) (type_no_colon v) refl)
  type_no_colon (struct ts) = all_both (types_text ts) (41 ∷ []) (types_no_colon ts) refl

  types_no_colon : (ts : SingleTypes) → list_all no_colon (types_text ts) ≡ true
  types_no_colon no_single_types = refl
  types_no_colon (single_types t ts) = all_both (type_text t) (types_text ts) (type_no_colon t) (types_no_colon ts)

-- ---- words

are_bytes : (xs : List ℕ) → All (λ b. b < 256) xs → AreBytes xs
are_bytes [] h = tt
are_bytes (x ∷ xs) h = (All-head (λ b. b < 256) x xs h, are_bytes xs (All-tail (λ b. b < 256) x xs h))

abbrev values_of : Option (List SingleType) → Option (List ℕ) → Option (List Datum)
values_of types bytes = option_and_then (λ ts. option_and_then (encoded_values ts) bytes) types

values_by : (o : Option (List SingleType)) (r : Option (List ℕ)) (values : List Datum) → values_of o r ≡ Some values
    → (types : List SingleType) × (bytes : List ℕ) × (o ≡ Some types) × (r ≡ Some bytes) × (encoded_values types bytes ≡ Some values)
values_by None r values e = absurd (cc)
values_by (Some types) None values e = absurd (cc)
values_by (Some types) (Some bytes) values e = (types, bytes, refl, refl, e)

-- the values of a word are encoded by it
pub word_found : (word : List ℕ) (values : List Datum) → body_values word ≡ Some values → IsBodyWord word values
unfolding body_values
word_found word values e =
    let x = bind_some (at_colon word) (λ parts. values_of (types_in parts.0) (bytes_of parts.1)) values e in
    let k = values_by (types_in x.0.0) (bytes_of x.0.1) values x.2 in
    let s : SignatureText k.0 x.0.0 = types_in-takes x.0.0 k.0 k.2 in
    let d = digits_are x.0.1 k.1 k.3 in
    record {
      types = k.0;
      signature = x.0.0;
      bytes = k.1;
      text = s;
      encoded = values_found k.0 k.1 values s.valid (are_bytes k.1 d.0.low) k.4;
      some = d.1;
      low = d.0.low;
      whole = colon_found word x.0 x.1 ∙ ap (λ r. x.0.0 ++ 58 ∷ r) d.0.written;
    }

parts_again : (types : List SingleType) (signature bytes : List ℕ) (values : List Datum) → SignatureText types signature → EncodeEach Little 0 types values bytes → 0 < length bytes
    → All (λ b. b < 256) bytes → values_of (types_in signature) (bytes_of (hex_word bytes)) ≡ Some values
parts_again types signature bytes values s k some low =
    ap (λ o. values_of o (bytes_of (hex_word bytes))) (types_in-again types signature s) ∙ ap (values_of (Some types)) (bytes_again bytes some low)
    ∙ values_again types values bytes k

pub word_again : (word : List ℕ) (values : List Datum) → IsBodyWord word values → body_values word ≡ Some values
unfolding body_values
word_again word values w =
    let none : list_all no_colon w.signature ≡ true = ap (list_all no_colon) w.text.text ∙ types_no_colon (single_types_of w.types) in
    ap (λ l. at_colon l >>= (λ parts. values_of (types_in parts.0) (bytes_of parts.1))) w.whole
    ∙ ap (λ o. o >>= (λ parts. values_of (types_in parts.0) (bytes_of parts.1))) (colon_again w.signature (hex_word w.bytes) none)
    ∙ parts_again w.types w.signature w.bytes values w.text w.encoded w.some w.low

-- ---- what was read

pub no_types : (text : List ℕ) → is_some (types_in text) ≡ false → None ≡ types_in text
no_types text e = none (types_in text) e where
  none : (o : Option (List SingleType)) → is_some o ≡ false → None ≡ o
  none None e = refl
  none (Some types) e = absurd (cc)

pub kinds_of : (order : Endian) (p : ℕ) (ts : List SingleType) (ds : List Datum) (bytes : List ℕ) → EncodeEach order p ts ds bytes → map type_of ds ≡ ts
kinds_of order p [] [] bytes s = refl
kinds_of order p [] (d ∷ ds) bytes s = absurd s
kinds_of order p (t ∷ ts) [] bytes s = absurd s
kinds_of order p (t ∷ ts) (d ∷ ds) bytes s = ap (λ k. k ∷ map type_of ds) s.3.kind ∙ ap (λ l. t ∷ l) (kinds_of order (p + length s.0) ts ds s.1 s.4)

pub is_signature : (ts : List SingleType) (ds : List Datum) (bytes : List ℕ) → IsSignature ts → EncodeEach Little 0 ts ds bytes → IsSignature (map type_of ds)
is_signature ts ds bytes h s = subst IsSignature (sym (kinds_of Little 0 ts ds bytes s)) h

pub all_read : (ts : List SingleType) (body ds : List Datum) (bytes : List ℕ) (n : ℕ) → body ≡ ds → n ≡ length bytes → EncodeEach Little 0 ts ds (take n bytes)
    → Some body ≡ encoded_values ts bytes
all_read ts body ds bytes n e long s =
    ap Some e ∙ sym (values_again ts ds bytes (subst (λ (b : List ℕ). EncodeEach Little 0 ts ds b) (take_all n bytes (omega (arith, long))) s))

pub some_left : (ts : List SingleType) (ds : List Datum) (bytes : List ℕ) (n : ℕ) → IsSignature ts → AreBytes bytes → HasOnlyBody Little ts bytes ds n → (n ≡ length bytes → ⊥)
    → None ≡ encoded_values ts bytes
some_left ts ds bytes n h low only left =
    sym (values_none ts bytes h low (λ others s. left (only others bytes [] s (sym (append-nil bytes))).1))

pub none_read : (ts : List SingleType) (bytes : List ℕ) → IsSignature ts → AreBytes bytes → HasNoBody Little ts bytes → None ≡ encoded_values ts bytes
none_read ts bytes h low never = sym (values_none ts bytes h low (λ others s. never others bytes [] s (sym (append-nil bytes))))
