-- A message stands on its own bytes, whatever stands behind them.
use Rattle.std.proofs.Common.{◌≡◌, ℕ, ◌+◌, ◌-◌, ◌%◌, ◌<◌, ◌≤◌, List, length, take, drop, slice_index, [], Some, None, Result, Ok, Err, refl, sym, ap, subst, ◌∙◌, arith, cond}
use Rattle.std.specs.Prelude.{◌==◌, IfOk}
use Rattle.std.proofs.Math.Seq.{take-length}
use Rattle.std.specs.Int.{w32}
use Rattle.std.proofs.lemmas.List.{length-take-le, get_or-take, drop-take, take-take}
use Rattle.wire_number.specs.declared.endian.Endian.{Endian}
use Rattle.wire_number.specs.declared.endian.Endian.TheVariants.{Little, Big}
use Rattle.wire_number.specs.Number.{number, number_at, pad}
use Rattle.wire_number.proofs.Numbers.{IsBytes}
use Rattle.wire_message.specs.Field.{Fields}
use Rattle.wire_message.specs.Front.{MessageView, message_view, Front, order_at, word_at, fields_len, header_len, known_flags, total, field_bytes}
use Rattle.wire_message.specs.Outcome.{kind_of, fields_found, head_fault, received_by, received_bytes, StandsOn}
use Rattle.wire_message.specs.declared.received.Received.{Received}
use Rattle.wire_message.specs.declared.received.Received.TheVariants.{Message, Passed}
use Rattle.wire_message.specs.Head.{IsHead, IsFoundFront, IsStanding, received_view, view_of}
use Rattle.wire_message.specs.declared.front.FrontParts.{FrontParts}
use Rattle.wire_message.specs.declared.front.FrontParts.TheVariants as kinds
use Rattle.wire_message.specs.declared.error.Error.{Error}
use Rattle.wire_message.specs.declared.error.IoKind.TheVariants.{Ended}
use Rattle.wire_message.specs.declared.shared.Parts.{Parts}
use Rattle.wire_message.specs.FieldOffsets.{found_fields, AreSpans, FieldOffsets, Stands}
use Rattle.wire_message.specs.declared.kind.MessageType.{MessageType}
use Rattle.wire_message.proofs.Each.{each_map, each_same}
use Rattle.wire_message.proofs.Grammar.{front-found, front_outcome-found, on_own}
use Rattle.wire_message.proofs.Valid.{front-valid}

-- ---- bytes with the same front

pub part-take : (n p k : ℕ) (xs : List ℕ) → p + k ≤ n → take k (drop p (take n xs)) ≡ take k (drop p xs)
part-take n p k xs h =
    let m : n ≡ p + (n - p) = omega arith in
    ap (λ (j : ℕ). take k (drop p (take j xs))) m ∙ ap (λ (l : List ℕ). take k l) (drop-take p (n - p) xs) ∙ take-take k (n - p) (drop p xs) (omega arith)

part-same : (n p k : ℕ) (xs ys : List ℕ) → take n xs ≡ take n ys → p + k ≤ n → take k (drop p xs) ≡ take k (drop p ys)
part-same n p k xs ys e h = sym (part-take n p k xs h) ∙ ap (λ (l : List ℕ). take k (drop p l)) e ∙ part-take n p k ys h

pub index-same : (n i : ℕ) (xs ys : List ℕ) → take n xs ≡ take n ys → i < n → slice_index xs i ≡ slice_index ys i
index-same n i xs ys e h = sym (get_or-take n xs i 0 h) ∙ ap (λ (l : List ℕ). slice_index l i) e ∙ get_or-take n ys i 0 h

pub order-same : (n : ℕ) (xs ys : List ℕ) → take n xs ≡ take n ys → 0 < n → order_at xs ≡ order_at ys
unfolding order_at
order-same n xs ys e h = ap (λ (b : ℕ). cond (b == 66) Big Little) (index-same n 0 xs ys e h)

pub word-same : (n place : ℕ) (xs ys : List ℕ) → take n xs ≡ take n ys → place + 4 ≤ n → word_at place xs ≡ word_at place ys
word-same n place xs ys e h =
    ap (λ (o : Endian). number_at w32 o place xs) (order-same n xs ys e (omega arith)) ∙ ap (number w32 (order_at ys)) (part-same n place 4 xs ys e h)

pub total-same : (n : ℕ) (xs ys : List ℕ) → take n xs ≡ take n ys → 16 ≤ n → total xs ≡ total ys
total-same n xs ys e h =
    ap (λ (f : ℕ). 16 + f + pad (16 + f) 8 + word_at 4 xs) (word-same n 12 xs ys e (omega arith))
    ∙ ap (λ (b : ℕ). header_len ys + b) (word-same n 4 xs ys e (omega arith))

pub fields-same : (n : ℕ) (xs ys : List ℕ) → take n xs ≡ take n ys → 16 + fields_len xs ≤ n → field_bytes xs ≡ field_bytes ys
fields-same n xs ys e h =
    part-same n 16 (fields_len xs) xs ys e h ∙ ap (λ (k : ℕ). take k (drop 16 ys)) (word-same n 12 xs ys e (omega arith))

pub front-moved : (xs ys : List ℕ) (m : MessageView) (n : ℕ) → Front xs m n → n ≤ length ys → take n xs ≡ take n ys → Front ys m n
front-moved xs ys m n f there e =
    let long : 16 ≤ n = omega (arith, f.whole) in
    record {
      own = f.own ∙ e;
      there = there;
      head = omega arith;
      whole = f.whole ∙ total-same n xs ys e long;
      limit = f.limit;
      order = sym (index-same n 0 xs ys e (omega arith)) ∙ f.order;
      type = sym (index-same n 1 xs ys e (omega arith)) ∙ f.type;
      flags = f.flags ∙ ap (λ (b : ℕ). b % 8) (index-same n 2 xs ys e (omega arith));
      serial = f.serial ∙ word-same n 8 xs ys e (omega arith);
      not_zero = f.not_zero;
      fds = f.fds;
      fields = (f.fields.0, f.fields.1, sym (fields-same n xs ys e (omega (arith, f.whole))) ∙ f.fields.2, f.fields.3);
    }

-- ---- the offsets of texts

pub spans-more : (k n : ℕ) (offsets : FieldOffsets) → k ≤ n → AreSpans k offsets → AreSpans n offsets
spans-more k n offsets h s = each_map _ _ offsets (λ code span t. (t.0, omega (arith, t.1))) s

pub found-own : (k n : ℕ) (bytes : List ℕ) (offsets : FieldOffsets) → k ≤ n → AreSpans k offsets → found_fields (take n bytes) offsets ≡ found_fields bytes offsets
found-own k n bytes offsets h s =
    each_same _ _ offsets (each_map _ _ offsets (λ code span t. part-take n span.start (span.end - span.start) bytes (omega (arith, t.0, t.1))) s)

-- ---- the message of what was found

pub message-found : (bytes own : List ℕ) (n : ℕ) (kind : MessageType) (offsets : FieldOffsets) (order : Endian) (flags serial : ℕ)
    → IsBytes bytes → 16 ≤ length bytes → head_fault bytes ≡ None → n ≤ length bytes → n ≡ total bytes
    → Some kind ≡ kind_of (slice_index bytes 1) → Some (found_fields bytes offsets) ≡ fields_found bytes → AreSpans (16 + fields_len bytes) offsets
    → own ≡ take n bytes → order ≡ order_at bytes → flags ≡ known_flags bytes → serial ≡ word_at 8 bytes
    → Stands own kind order flags serial offsets × (received_by bytes (kind_of (slice_index bytes 1)) (fields_found bytes) ≡ Ok (Message (message_view own 0 kind order flags serial (found_fields own offsets))))
message-found bytes own n kind offsets order flags serial fits long right there whole k f spans o q r s =
    let inside : 16 + fields_len bytes ≤ n = omega arith in
    let texts : found_fields own offsets ≡ found_fields bytes offsets =
    ap (λ (l : List ℕ). found_fields l offsets) o ∙ found-own (16 + fields_len bytes) n bytes offsets inside spans in
    let alike : received_by bytes (kind_of (slice_index bytes 1)) (fields_found bytes) ≡ Ok (Message (message_view own 0 kind order flags serial (found_fields bytes offsets))) =
    rw (← k, ← f, o, whole, q, r, s) refl in
    let m = message_view own 0 kind order flags serial (found_fields own offsets) in
    let made : received_by bytes (kind_of (slice_index bytes 1)) (fields_found bytes) ≡ Ok (Message m) =
    alike ∙ ap (λ (x : Fields). Ok (Message (message_view own 0 kind order flags serial x))) (sym texts) in
    let all : total bytes ≤ length bytes = omega arith in
    let front : Front bytes m (total bytes) = front-found bytes (Message m) fits long all right made in
    let len : length own ≡ n = ap length o ∙ length-take-le n bytes there in
    let same : take n bytes ≡ take n own = sym (ap (λ (l : List ℕ). take n l) o ∙ take-take n n bytes (omega arith)) in
    let here : Front bytes m n = rw whole front in
    let moved : Front own m n = front-moved bytes own m n here (omega arith) same in (
      record {
        front = rw len moved;
        spans = spans-more (16 + fields_len bytes) (length own) offsets (omega arith) spans;
        valid = front-valid own m n moved;
      },
      made,
    )

-- the message of a head stands on the front of the bytes
pub front_behind : (bytes : List ℕ) (n : ℕ) (parts : Parts) → IsHead bytes n parts → Front bytes (view_of (take n bytes) parts) (length (take n bytes))
front_behind bytes n parts h =
    let len : length (take n bytes) ≡ n = length-take-le n bytes h.there in
    front-moved (take n bytes) bytes (view_of (take n bytes) parts) (length (take n bytes)) h.stands.front (omega (arith, h.there)) (take-take (length (take n bytes)) n bytes (omega arith))

-- what was found of a front stands on the bytes
pub found_stands : (bytes : List ℕ) (n : ℕ) (parts : FrontParts) → IsBytes bytes → IsFoundFront bytes n parts → IsStanding bytes n parts
found_stands bytes n (kinds.Message parts) fits h =
    let r : Received = Message (view_of (take n bytes) parts) in on_own bytes r (front_outcome-found bytes Ended r fits h.outcome)
found_stands bytes n kinds.Ignored fits h =
    let r : Received = Passed (take n bytes) in on_own bytes r (front_outcome-found bytes Ended r fits h.outcome)

-- where it is all of the bytes
pub whole_stands : (bytes new : List ℕ) (n : ℕ) (parts : FrontParts) (result : Result Received Error) → IsStanding bytes n parts → n ≡ length bytes
    → IfOk result (λ r. (r ≡ received_view bytes parts) × (new ≡ [])) → IfOk result (λ r. StandsOn bytes r (length (received_bytes r)))
whole_stands bytes new n parts (Ok r) h long e =
    let all : take n bytes ≡ bytes = ap (λ (k : ℕ). take k bytes) long ∙ take-length bytes in
    let same : received_view (take n bytes) parts ≡ r = ap (λ (l : List ℕ). received_view l parts) all ∙ sym e.0 in
    subst (λ (x : Received). StandsOn bytes x (length (received_bytes x))) same h
whole_stands bytes new n parts (Err error) h long e = tt
