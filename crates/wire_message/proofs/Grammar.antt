-- What is read from the front of some bytes is in the header grammar, and what is in it is read.
use Rattle.std.proofs.Common.{◌≡◌, ℕ, ◌≤◌, ◌<◌, List, length, take, drop, slice_index, Option, Some, None, Result, Ok, Err, refl, sym, ◌∙◌, ap, subst, arith, true}
use Rattle.std.specs.Prelude.{IfOk}
use Rattle.std.proofs.lemmas.Bool.Decides.{nat_tests}
use Rattle.std.proofs.lemmas.List.{length-take-le}
use Rattle.wire_number.specs.declared.endian.Endian.{Endian}
use Rattle.wire_number.proofs.Numbers.{IsBytes, IsBytes-drop, IsBytes-take}
use Rattle.wire_message.specs.Field.{Fields, no_fields}
use Rattle.wire_message.specs.HeaderField.{found_in}
use Rattle.wire_message.specs.Front.{MessageView, fields_of, kind_code, order_code, order_at, word_at, fields_len, total, field_bytes, Front, IgnoredFront}
use Rattle.wire_message.specs.FieldReading.{fields_in}
use Rattle.wire_message.specs.Outcome.{kind_of, is_order, head_fault, fields_found, received_by, received_bytes, front_outcome, IsUnplaced, StandsOn, Tells}
use Rattle.wire_message.specs.Whole.{message_found}
use Rattle.wire_message.specs.declared.received.Received.{Received}
use Rattle.wire_message.specs.declared.received.Received.TheVariants.{Message, Passed}
use Rattle.wire_message.specs.declared.kind.MessageType.{MessageType}
use Rattle.wire_message.specs.declared.error.Error.{Error}
use Rattle.wire_message.specs.declared.error.IoKind.{IoKind}
use Rattle.wire_message.proofs.Lists.{Encoded, fields_in-takes, fields_in-again}
use Rattle.wire_number.proofs.Steps.{bytes_from}

-- ---- the head

pub kind_of-code : (k : MessageType) → kind_of (kind_code k) ≡ Some k
kind_of-code kind = grind arith

pub kind_of-takes : (code : ℕ) (kind : MessageType) → kind_of code ≡ Some kind → code ≡ kind_code kind
kind_of-takes code kind e = grind (arith, nat_tests)

-- what a head without a fault says
pub record IsFaultless (bytes : List ℕ) : Type 0 where
  pub order : is_order (slice_index bytes 0) ≡ true
  pub type : 0 < slice_index bytes 1
  pub not_zero : 0 < word_at 8 bytes
  pub limit : total bytes ≤ 134217728

head_fault-takes : (bytes : List ℕ) → head_fault bytes ≡ None → IsFaultless bytes
head_fault-takes bytes e =
    record {
      order = grind (arith, nat_tests);
      type = grind (arith, nat_tests);
      not_zero = grind (arith, nat_tests);
      limit = grind (arith, nat_tests);
    }

head_fault-again : (bytes : List ℕ) → IsFaultless bytes → head_fault bytes ≡ None
head_fault-again bytes h = grind (arith, nat_tests)

-- a type that isn't known
kind_of-none : (code : ℕ) → 4 < code → kind_of code ≡ None
kind_of-none code h = grind (arith, nat_tests)

kind_of-above : (code : ℕ) → 0 < code → kind_of code ≡ None → 4 < code
kind_of-above code h e = grind (arith, nat_tests)

kind-some : (kind : MessageType) → 0 < kind_code kind
kind-some kind = grind arith

-- ---- the byte order

pub order-named : (bytes : List ℕ) → is_order (slice_index bytes 0) ≡ true → slice_index bytes 0 ≡ order_code (order_at bytes)
unfolding order_at
order-named bytes e = grind (arith, nat_tests)

pub order_again : (bytes : List ℕ) (order : Endian) → slice_index bytes 0 ≡ order_code order → order_at bytes ≡ order
unfolding order_at
order_again bytes order e = grind (arith, nat_tests)

pub order-right : (bytes : List ℕ) (order : Endian) → slice_index bytes 0 ≡ order_code order → is_order (slice_index bytes 0) ≡ true
order-right bytes order e = grind (arith, nat_tests)

-- ---- what stands there

pub ok_is : {A : Type 0} (x y : A) → ◌≡◌ {A = Result A Error} (Ok x) (Ok y) → x ≡ y
ok_is x y e = cc

-- what was received, by the type and the fields that were found
record Made (bytes : List ℕ) (k : Option MessageType) (f : Option Fields) (r : Received) : Type 0 where
  fields_made : Fields
  fields : f ≡ Some fields_made
  same : received_by bytes k (Some fields_made) ≡ Ok r

received-made : (bytes : List ℕ) (k : Option MessageType) (f : Option Fields) (r : Received) → received_by bytes k f ≡ Ok r → Made bytes k f r
received-made bytes None None r e = absurd cc
received-made bytes (Some k) None r e = absurd cc
received-made bytes None (Some f) r e = record { fields_made = f; fields = refl; same = e }
received-made bytes (Some k) (Some f) r e = record { fields_made = f; fields = refl; same = e }

-- a message or a front that is found stands on the front of the bytes
by_type : (bytes : List ℕ) (k : Option MessageType) (says : Fields) (r : Received) → kind_of (slice_index bytes 1) ≡ k → 16 ≤ length bytes → total bytes ≤ length bytes → IsFaultless bytes
    → Encoded (order_at bytes) (field_bytes bytes) says → received_by bytes k (Some says) ≡ Ok r → StandsOn bytes r (total bytes)
by_type bytes (Some kind) says r k long there h s e =
    subst (λ (x : Received). StandsOn bytes x (total bytes)) (ok_is _ r e) (record {
      own = refl;
      there = there;
      head = long;
      whole = refl;
      limit = h.limit;
      order = order-named bytes h.order;
      type = kind_of-takes (slice_index bytes 1) kind k;
      flags = refl;
      serial = refl;
      not_zero = h.not_zero;
      fds = refl;
      fields = (s.list, s.each, s.text, s.all);
    })
by_type bytes None says r k long there h s e =
    subst (λ (x : Received). StandsOn bytes x (total bytes)) (ok_is _ r e) (
      record {
        there = there;
        head = long;
        whole = refl;
        limit = h.limit;
        order = (order_at bytes, order-named bytes h.order);
        type = kind_of-above (slice_index bytes 1) h.type k;
        not_zero = h.not_zero;
        fields = (s.list, s.each, s.text);
      },
      refl,
    )

pub front-found : (bytes : List ℕ) (r : Received) → IsBytes bytes → 16 ≤ length bytes → total bytes ≤ length bytes → head_fault bytes ≡ None
    → received_by bytes (kind_of (slice_index bytes 1)) (fields_found bytes) ≡ Ok r → StandsOn bytes r (total bytes)
front-found bytes r fits long there no_faults e =
    let made = received-made bytes (kind_of (slice_index bytes 1)) (fields_found bytes) r e in
    let s = fields_in-takes (order_at bytes) (field_bytes bytes) made.fields_made (bytes_from (field_bytes bytes) (IsBytes-take (fields_len bytes) (drop 16 bytes) (IsBytes-drop 16 bytes fits))) made.fields in
    by_type bytes (kind_of (slice_index bytes 1)) made.fields_made r refl long there (head_fault-takes bytes no_faults) s made.same

-- what a reader finds stands on the front of the bytes
pub front_outcome-found : (bytes : List ℕ) (ending : IoKind) (r : Received) → IsBytes bytes → front_outcome bytes ending ≡ Ok r → StandsOn bytes r (total bytes)
front_outcome-found bytes ending r fits e = front-found bytes r fits (grind (arith, nat_tests)) (grind (arith, nat_tests)) (grind (arith, nat_tests)) (grind (arith, nat_tests))

-- what a field array says of a message that stands on the bytes
pub front-fields : (bytes : List ℕ) (m : MessageView) (n : ℕ) → Front bytes m n → fields_found bytes ≡ Some (fields_of m)
front-fields bytes m n f =
    let order : order_at bytes ≡ m.order = order_again bytes m.order f.order in
    let fs = f.fields.0 in
    ap (λ (o : Endian). fields_in o (field_bytes bytes)) order ∙ ap (fields_in m.order) f.fields.2
    ∙ fields_in-again m.order fs f.fields.1 ∙ ap (λ (r : Fields). Some r) (sym f.fields.3)

-- the bytes alone say which message stands on their front, but for its position
front-made : (bytes : List ℕ) (m : MessageView) (n : ℕ) → Front bytes m n
    → received_by bytes (kind_of (slice_index bytes 1)) (fields_found bytes) ≡ Ok (Message (record m { position = 0 }))
front-made bytes m n f =
    let kind : kind_of (slice_index bytes 1) ≡ Some m.kind = ap kind_of f.type ∙ kind_of-code m.kind in
    rw (kind, front-fields bytes m n f, f.own, f.whole, f.serial, ← (order_again bytes m.order f.order), f.flags, f.fds) refl

front-head : (bytes : List ℕ) (m : MessageView) (n : ℕ) → Front bytes m n → IsFaultless bytes
front-head bytes m n f = record {
  order = order-right bytes m.order f.order;
  type = rw f.type (kind-some m.kind);
  not_zero = rw (← f.serial) f.not_zero;
  limit = rw (← f.whole) f.limit;
}

ignored-made : (bytes : List ℕ) (n : ℕ) → IgnoredFront bytes n → received_by bytes (kind_of (slice_index bytes 1)) (fields_found bytes) ≡ Ok (Passed (take n bytes))
ignored-made bytes n f =
    let order : order_at bytes ≡ f.order.0 = order_again bytes f.order.0 f.order.1 in
    let fields : fields_found bytes ≡ Some (found_in no_fields f.fields.0) =
    ap (λ (o : Endian). fields_in o (field_bytes bytes)) order ∙ ap (fields_in f.order.0) f.fields.2 ∙ fields_in-again f.order.0 f.fields.0 f.fields.1 in
    rw (kind_of-none (slice_index bytes 1) f.type, fields, f.whole) refl

ignored-head : (bytes : List ℕ) (n : ℕ) → IgnoredFront bytes n → IsFaultless bytes
ignored-head bytes n f = record { order = order-right bytes f.order.0 f.order.1; type = omega (arith, f.type); not_zero = f.not_zero; limit = rw (← f.whole) f.limit }

-- where nothing is wrong with the head, and the bytes are there, the type and the fields decide
pub outcome-made : (bytes : List ℕ) (ending : IoKind) → 16 ≤ length bytes → head_fault bytes ≡ None → total bytes ≤ length bytes
    → front_outcome bytes ending ≡ received_by bytes (kind_of (slice_index bytes 1)) (fields_found bytes)
outcome-made bytes ending long right there = grind (arith, nat_tests)

-- the message without its position
abbrev pub unplaced : Received → Received
unplaced (Message m) = Message (record m { position = 0 })
unplaced (Passed front) = Passed front

-- what stands on the front of the bytes is what a reader finds
pub front_outcome-again : (bytes : List ℕ) (ending : IoKind) (r : Received) (n : ℕ) → StandsOn bytes r n → front_outcome bytes ending ≡ Ok (unplaced r)
front_outcome-again bytes ending (Message m) n f =
    outcome-made bytes ending f.head (head_fault-again bytes (front-head bytes m n f)) (rw (← f.whole) f.there) ∙ front-made bytes m n f
front_outcome-again bytes ending (Passed front) n f =
    outcome-made bytes ending f.0.head (head_fault-again bytes (ignored-head bytes n f.0)) (rw (← f.0.whole) f.0.there) ∙ ignored-made bytes n f.0
    ∙ ap (λ (l : List ℕ). Ok (Passed l)) (sym f.1)

-- without a position it is as it was
pub unplaced-is : (r : Received) → IsUnplaced r → unplaced r ≡ r
unplaced-is (Message m) e = ap (λ (q : ℕ). Message (record m { position = q })) (sym e)
unplaced-is (Passed front) e = refl

-- two messages with the same parts are one
message_view_is : (m k : MessageView) → m.position ≡ k.position → record m { position = 0 } ≡ record k { position = 0 } → m ≡ k
message_view_is m k p e =
    ap (λ (q : ℕ). record m { position = q }) p ∙ ap (λ (x : MessageView). record x { position = k.position }) e

message_is : (m k : MessageView) → Message m ≡ Message k → m ≡ k
message_is m k e = cc

pub one_message : (bytes : List ℕ) (m k : MessageView) (n l : ℕ) → Front bytes m n → Front bytes k l → m.position ≡ k.position → (m ≡ k) × (n ≡ l)
one_message bytes m k n l f g p =
    let same = ok_is (Message (record m { position = 0 })) (Message (record k { position = 0 })) (sym (front-made bytes m n f) ∙ front-made bytes k l g) in
    (message_view_is m k p (message_is _ _ same), f.whole ∙ sym g.whole)

pub found_of : (bytes : List ℕ) (ending : IoKind) (r : Result (Received × ℕ) Error) → IsBytes bytes → Tells (λ (x : Received × ℕ). x.0) r (front_outcome bytes ending)
    → IfOk r (λ x. x.1 ≡ total bytes) → IfOk r (λ x. StandsOn bytes x.0 x.1)
found_of bytes ending (Ok x) fits t e = rw e (front_outcome-found bytes ending x.0 fits t)
found_of bytes ending (Err error) fits t e = tt

stands-length : (bytes : List ℕ) (r : Received) (n : ℕ) → StandsOn bytes r n → n ≡ length (received_bytes r)
stands-length bytes (Message m) n f = sym (ap length f.own ∙ length-take-le n bytes f.there)
stands-length bytes (Passed front) n f = sym (ap length f.1 ∙ length-take-le n bytes f.0.there)

pub length_of : (bytes : List ℕ) (r : Result (Received × ℕ) Error) → IfOk r (λ x. StandsOn bytes x.0 x.1) → IfOk r (λ x. x.1 ≡ length (received_bytes x.0))
length_of bytes (Ok x) f = stands-length bytes x.0 x.1 f
length_of bytes (Err error) f = tt

-- what stands on its own length stands on the total
pub on_own : (bytes : List ℕ) (r : Received) → StandsOn bytes r (total bytes) → StandsOn bytes r (length (received_bytes r))
on_own bytes r f = subst (λ (n : ℕ). StandsOn bytes r n) (stands-length bytes r (total bytes) f) f

pub only_of : {A : Type 0} (view : A → Received) (bytes : List ℕ) (ending : IoKind) (result : Result A Error) (r : Received) (n : ℕ) → Tells view result (front_outcome bytes ending)
    → IsUnplaced r → StandsOn bytes r n → Tells view result (Ok r)
only_of view bytes ending result r n t p f =
    subst (λ (o : Result Received Error). Tells view result o) (front_outcome-again bytes ending r n f ∙ ap Ok (unplaced-is r p)) t

-- where a message stands on the front, that message is what is asked for
pub only_message : (bytes : List ℕ) (ending : IoKind) (result : Result MessageView Error) (m : MessageView) (n : ℕ) → Tells (λ x. x) result (message_found (front_outcome bytes ending))
    → m.position ≡ 0 → Front bytes m n → Tells (λ x. x) result (Ok m)
only_message bytes ending result m n t p f =
    subst (λ (o : Result MessageView Error). Tells (λ x. x) result o)
    (ap message_found (front_outcome-again bytes ending (Message m) n f) ∙ ap (λ (q : ℕ). Ok (record m { position = q })) (sym p)) t

-- what was taken off the bytes stood on them
pub taken_of : (bytes : List ℕ) (ending : IoKind) (result : Result Received Error) → IsBytes bytes → Tells (λ r. r) result (front_outcome bytes ending)
    → IfOk result (λ r. StandsOn bytes r (length (received_bytes r)))
taken_of bytes ending (Ok r) fits t = on_own bytes r (front_outcome-found bytes ending r fits t)
taken_of bytes ending (Err error) fits t = tt
