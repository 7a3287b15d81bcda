-- Reading a field array field by field.
use Rattle.std.proofs.Common.{◌≡◌, ℕ, ◌+◌, ◌-◌, ◌<◌, ◌≤◌, List, ◌∷◌, ◌++◌, length, take, drop, Option, Some, None, refl, sym, ap, subst, ◌∙◌, arith, append_assoc, length-append, option_map}
use Rattle.std.proofs.lemmas.List.{take-append-drop, drop-take, length-take-le}
use Rattle.std.specs.Prelude.{IfSome}
use Rattle.wire_number.specs.declared.endian.Endian.{Endian}
use Rattle.wire_number.specs.Number.{padding}
use Rattle.wire_number.specs.Reading.{Cursor, Parse, ◌>>=◌, made}
use Rattle.wire_number.proofs.Steps.{at, AreBytes, bytes_from, bytes-append, map_some, some_is}
use Rattle.wire_number.proofs.Numbers.{IsBytes}
use Rattle.wire_encoding.specs.Reading.{many_at}
use Rattle.wire_encoding.proofs.Loops.{many_done, many_next, many_none}
use Rattle.wire_message.specs.declared.field.FieldCode.{FieldCode}
use Rattle.wire_message.specs.Field.{Fields, Field, field_text, no_fields}
use Rattle.wire_message.specs.HeaderField.{HeaderField, Known, Unknown, header_field_text, known, with_known, found_in}
use Rattle.wire_message.specs.FieldReading.{header_field_at, fields_in}
use Rattle.wire_message.specs.FieldOffsets.{area, AreSpans, found_fields, FieldOffsets}
use Rattle.wire_message.specs.FieldValue.{HasRoom, StandsAt, field_of}
use Rattle.wire_message.specs.declared.field_offsets.FieldValue.{FieldValue}
use Rattle.wire_message.proofs.Adding.{field_value-stands}
use Rattle.wire_message.proofs.Each.{each_none}
use Rattle.wire_message.proofs.HeaderFields.{Found, header_field_at-takes, header_field-some}

-- What is still to be read completes what was read. The cursor stands in the first `end` bytes.
pub record Going (order : Endian) (bytes : List ℕ) (end : ℕ) (offsets : FieldOffsets) (c : Cursor) : Type 0 where
  pub front : List ℕ
  pub whole : take end bytes ≡ front ++ c.rest
  pub here : length front ≡ c.place
  pub low : AreBytes c.rest
  pub spans : AreSpans end offsets
  pub room : ℕ
  pub enough : length c.rest ≤ room
  pub rest : option_map (found_in (found_fields bytes offsets)) (many_at room (header_field_at order) c) ≡ fields_in order (area bytes 16 end)

pub going-first : (order : Endian) (bytes : List ℕ) (end : ℕ) (offsets : FieldOffsets) (c : Cursor) → IsBytes bytes → 16 ≤ end → end ≤ length bytes
    → c ≡ at 16 (area bytes 16 end) → offsets ≡ no_fields → Going order bytes end offsets c
unfolding fields_in
going-first order bytes end offsets c fits h k same none =
    let all : List ℕ = take end bytes in
    let n : end ≡ 16 + (end - 16) = omega arith in
    let part : drop 16 all ≡ area bytes 16 end = ap (λ (m : ℕ). drop 16 (take m bytes)) n ∙ drop-take 16 (end - 16) bytes in
    let low : AreBytes (all ++ drop end bytes) = subst AreBytes (sym (take-append-drop end bytes)) (bytes_from bytes fits) in
    let inner : AreBytes (take 16 all ++ drop 16 all) = subst AreBytes (sym (take-append-drop 16 all)) (bytes-append all (drop end bytes) low).0 in
    let from : Going order bytes end no_fields (at 16 (area bytes 16 end)) = record {
      front = take 16 all;
      whole = sym (take-append-drop 16 all) ∙ ap (λ (l : List ℕ). take 16 all ++ l) part;
      here = length-take-le 16 all (omega (arith, length-take-le end bytes k));
      low = subst AreBytes part (bytes-append (take 16 all) (drop 16 all) inner).1;
      spans = each_none _;
      room = length (area bytes 16 end);
      enough = omega arith;
      rest = refl;
    } in
    rw (none, same) from

one-more : (fields : Fields) (field : HeaderField) (o : Option (List HeaderField)) → option_map (found_in fields) (o >>= λ fs. Some (field ∷ fs)) ≡ option_map (found_in (with_known (known field) fields)) o
unfolding found_in
one-more fields field o = grind arith

-- a field takes bytes
pub field-takes : (order : Endian) (c : Cursor) (x : HeaderField × Cursor) → Found order c x → length x.1.rest < length c.rest
field-takes order c x t =
    omega (arith, ap length t.reads.text_is, length-append (header_field_text order c.place x.0) x.1.rest, header_field-some order c.place x.0 t.valid)

-- the field that was read, by what of it was found
pub record Next (order : Endian) (c : Cursor) (y : Option Field × Cursor) : Type 0 where
  pub field : HeaderField
  pub read : header_field_at order c ≡ Some (field, y.1)
  pub same : known field ≡ y.0

pub next-of : (order : Endian) (c : Cursor) (y : Option Field × Cursor) → made known (header_field_at order c) ≡ Some y → Next order c y
next-of order c y e =
    let x = map_some (λ (x : HeaderField × Cursor). (known x.0, x.1)) (header_field_at order c) y e in
    let end : x.0.1 ≡ y.1 = ap (λ (z : Option Field × Cursor). z.1) x.2 in
    record { field = x.0.0; read = x.1 ∙ ap (λ (k : Cursor). Some (x.0.0, k)) end; same = ap (λ (z : Option Field × Cursor). z.0) x.2 }

pub next-takes : (order : Endian) (c : Cursor) (y : Option Field × Cursor) → AreBytes c.rest → made known (header_field_at order c) ≡ Some y → length y.1.rest < length c.rest
next-takes order c y low e = let n = next-of order c y e in field-takes order c (n.field, y.1) (header_field_at-takes order c (n.field, y.1) low n.read)

pub going-more : (order : Endian) (bytes : List ℕ) (end : ℕ) (offsets more : FieldOffsets) (c : Cursor) (y : Option Field × Cursor) → Going order bytes end offsets c
    → made known (header_field_at order c) ≡ Some y → found_fields bytes more ≡ with_known y.0 (found_fields bytes offsets) → AreSpans end more
    → Going order bytes end more y.1
going-more order bytes end offsets more c y g found put spans =
    let n = next-of order c y found in
    let x : HeaderField × Cursor = (n.field, y.1) in
    let t : Found order c x = header_field_at-takes order c x g.low n.read in
    let text : List ℕ = header_field_text order c.place x.0 in
    let less = field-takes order c x t in
    let enough = g.enough in
    let puts : found_fields bytes more ≡ with_known (known x.0) (found_fields bytes offsets) = put ∙ ap (λ (o : Option Field). with_known o (found_fields bytes offsets)) (sym n.same) in
    record {
      front = g.front ++ text;
      whole = g.whole ∙ ap (λ (l : List ℕ). g.front ++ l) t.reads.text_is ∙ sym (append_assoc g.front text x.1.rest);
      here = omega (arith, length-append g.front text, g.here, t.reads.place_is);
      low = t.reads.bytes;
      spans = spans;
      room = g.room - 1;
      enough = omega arith;
      rest = ap (λ (f : Fields). option_map (found_in f) (many_at (g.room - 1) (header_field_at order) x.1)) puts
          ∙ sym (one-more (found_fields bytes offsets) x.0 (many_at (g.room - 1) (header_field_at order) x.1))
          ∙ ap (option_map (found_in (found_fields bytes offsets))) (sym (many_next (g.room - 1) g.room (header_field_at order) c x (omega arith) (omega arith) n.read)) ∙ g.rest;
    }

-- at its end, the field array says what was read
pub going-done : (order : Endian) (bytes : List ℕ) (end : ℕ) (offsets : FieldOffsets) (c : Cursor) → Going order bytes end offsets c → length c.rest ≡ 0
    → Some (found_fields bytes offsets) ≡ fields_in order (area bytes 16 end)
unfolding found_in
going-done order bytes end offsets c g e = ap (option_map (found_in (found_fields bytes offsets))) (sym (many_done g.room (header_field_at order) c e)) ∙ g.rest

map-none : (o : Parse HeaderField) → made known o ≡ None → o ≡ None
map-none None e = refl
map-none (Some x) e = absurd cc

-- where no field can be read, the bytes are no field array
pub going-fails : (order : Endian) (bytes : List ℕ) (end : ℕ) (offsets : FieldOffsets) (c : Cursor) → Going order bytes end offsets c → 0 < length c.rest → made known (header_field_at order c) ≡ None
    → None ≡ fields_in order (area bytes 16 end)
going-fails order bytes end offsets c g some e =
    let enough = g.enough in
    ap (option_map (found_in (found_fields bytes offsets))) (sym (many_none (g.room - 1) g.room (header_field_at order) c (omega arith) some (map-none (header_field_at order c) e))) ∙ g.rest

-- what was read of a field stands where its cursor ends, in the first `end` bytes
abbrev pub Ends : List ℕ → ℕ → Option (FieldCode × FieldValue) → Type 0
Ends bytes next found = IfSome found (λ x. HasRoom next x.1) × IfSome found (λ x. StandsAt bytes next x.1)

known-is : (h : HeaderField) (field : Field) → known h ≡ Some field → h ≡ Known field
known-is (Known f) field e = ap Known (some_is f field e)
known-is (Unknown code held) field e = absurd cc

ends-by : (order : Endian) (bytes front more : List ℕ) (place next : ℕ) (h : HeaderField) (found : Option (FieldCode × FieldValue)) → known h ≡ option_map field_of found
    → bytes ≡ front ++ (header_field_text order place h ++ more) → next ≡ length front + length (header_field_text order place h) → Ends bytes next found
unfolding header_field_text
ends-by order bytes front more place next h None e whole n = (tt, tt)
ends-by order bytes front more place next h (Some x) e whole n =
    let is : h ≡ Known (field_of x) = known-is h (field_of x) e in
    let text : header_field_text order place h ≡ padding place 8 ++ field_text order (field_of x) = ap (header_field_text order place) is in
    field_value-stands order x.0 x.1 bytes front more place next (whole ∙ ap (λ (l : List ℕ). front ++ (l ++ more)) text) (n ∙ ap (λ (l : List ℕ). length front + length l) text)

pub field-ends : (order : Endian) (bytes : List ℕ) (end : ℕ) (offsets : FieldOffsets) (c after : Cursor) (found : Option (FieldCode × FieldValue)) → end ≤ length bytes
    → Going order bytes end offsets c → made known (header_field_at order c) ≡ Some (option_map field_of found, after)
    → Ends bytes after.place found × (after.place ≤ end)
field-ends order bytes end offsets c after found k g e =
    let n = next-of order c (option_map field_of found, after) e in
    let t : Found order c (n.field, after) = header_field_at-takes order c (n.field, after) g.low n.read in
    let text : List ℕ = header_field_text order c.place n.field in
    let next : after.place ≡ length g.front + length text = omega (arith, g.here, t.reads.place_is) in
    let whole : bytes ≡ g.front ++ (text ++ (after.rest ++ drop end bytes)) =
    sym (take-append-drop end bytes) ∙ ap (λ (l : List ℕ). l ++ drop end bytes) (g.whole ∙ ap (λ (l : List ℕ). g.front ++ l) t.reads.text_is)
    ∙ append_assoc g.front (text ++ after.rest) (drop end bytes) ∙ ap (λ (l : List ℕ). g.front ++ l) (append_assoc text after.rest (drop end bytes)) in
    let inside : after.place ≤ end =
    omega (arith, length-take-le end bytes k, ap length g.whole, length-append g.front c.rest, ap length t.reads.text_is, length-append text after.rest, next) in
    (ends-by order bytes g.front (after.rest ++ drop end bytes) c.place after.place n.field found n.same whole next, inside)
