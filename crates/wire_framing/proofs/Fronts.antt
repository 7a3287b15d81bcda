-- What begins some bytes depends on the bytes of the message, or of the ignored front, alone.
use Rattle.std.proofs.Common.{ℕ, ◌≡◌, ◌+◌, ◌<◌, ◌≤◌, ◌==◌, ◌||◌, ◌%◌, Bool, true, false, not, nat_lt, if◌then◌else◌, List, ◌++◌, length, take, le_refl, Option, Some, None, Ok, Err, refl, sym, ap, ◌∙◌, subst, arith, length-append, slice_index}
use Rattle.std.proofs.lemmas.List.{take-append-le, take_all}
use Rattle.std.proofs.lemmas.Bool.Decides.{nat_tests}
use Rattle.wire_number.specs.declared.endian.Endian.{Endian}
use Rattle.wire_signature.specs.declared.error.VariantError.TheVariants as faults
use Rattle.wire_message.specs.Field.{Fields}
use Rattle.wire_message.specs.Front.{message_view, order_at, word_at, fields_len, total, field_bytes, IgnoredFront}
use Rattle.wire_message.specs.FieldReading.{fields_in}
use Rattle.wire_message.specs.Outcome.{kind_of, is_order, head_fault, front_outcome, then_received, received_by, received_bytes, fields_found, StandsOn}
use Rattle.wire_message.specs.declared.received.Received.{Received}
use Rattle.wire_message.specs.declared.received.Received.TheVariants.{Message, Passed}
use Rattle.wire_message.specs.declared.error.Error.{Error}
use Rattle.wire_message.specs.declared.error.Error.TheVariants as errors
use Rattle.wire_message.specs.declared.error.IoKind.{IoKind}
use Rattle.wire_message.specs.declared.kind.MessageType.{MessageType}
use Rattle.wire_message.proofs.Moved.{index-same, order-same, word-same, total-same, fields-same, front-moved}

-- the front is the same
same : (xs ys : List ℕ) → take (length xs) (xs ++ ys) ≡ take (length xs) xs
same xs ys = take-append-le (length xs) xs ys (le_refl (length xs))

pub total-append : (xs ys : List ℕ) → 16 ≤ length xs → total (xs ++ ys) ≡ total xs
total-append xs ys h = total-same (length xs) (xs ++ ys) xs (same xs ys) h

-- what is wrong with a head, by its parts
head_by : ℕ → ℕ → ℕ → ℕ → Option Error
head_by first code serial all =
    if not (is_order first) then Some errors.IncorrectEndian
    else if (code == 0) || (serial == 0) then Some (errors.Variant faults.Malformed)
    else if nat_lt 134217728 all then Some errors.ExcessData
    else None

head-is : (bs : List ℕ) → head_fault bs ≡ head_by (slice_index bs 0) (slice_index bs 1) (word_at 8 bs) (total bs)
unfolding head_by
head-is bs = refl

pub head_fault-append : (xs ys : List ℕ) → 16 ≤ length xs → head_fault (xs ++ ys) ≡ head_fault xs
head_fault-append xs ys h =
    let n = length xs in
    let zs = xs ++ ys in
    let e0 : slice_index zs 0 ≡ slice_index xs 0 = index-same n 0 zs xs (same xs ys) (omega arith) in
    let e1 : slice_index zs 1 ≡ slice_index xs 1 = index-same n 1 zs xs (same xs ys) (omega arith) in
    let e8 : word_at 8 zs ≡ word_at 8 xs = word-same n 8 zs xs (same xs ys) (omega arith) in
    let e : total zs ≡ total xs = total-append xs ys h in
    head-is zs ∙ ap (λ (k : ℕ). head_by k (slice_index zs 1) (word_at 8 zs) (total zs)) e0 ∙ ap (λ (k : ℕ). head_by (slice_index xs 0) k (word_at 8 zs) (total zs)) e1
    ∙ ap (λ (k : ℕ). head_by (slice_index xs 0) (slice_index xs 1) k (total zs)) e8 ∙ ap (λ (k : ℕ). head_by (slice_index xs 0) (slice_index xs 1) (word_at 8 xs) k) e ∙ sym (head-is xs)

pub cond_true : {A : Type 0} (b : Bool) (x y : A) → b ≡ true → (if b then x else y) ≡ x
cond_true b x y e = rw e refl

pub cond_false : {A : Type 0} (b : Bool) (x y : A) → b ≡ false → (if b then x else y) ≡ y
cond_false b x y e = rw e refl

pub less_true : (m n : ℕ) → m < n → nat_lt m n ≡ true
less_true m n h = grind (arith, nat_tests)

pub less_false : (m n : ℕ) → n ≤ m → nat_lt m n ≡ false
less_false m n h = grind (arith, nat_tests)

pub front_short : (bs : List ℕ) (ending : IoKind) → length bs < 16 → front_outcome bs ending ≡ Err (errors.InputOutput ending)
front_short bs ending h = cond_true _ _ _ (less_true _ _ h)

pub front_refused : (bs : List ℕ) (ending : IoKind) (e : Error) → 16 ≤ length bs → head_fault bs ≡ Some e → front_outcome bs ending ≡ Err e
front_refused bs ending e h p = cond_false _ _ _ (less_false _ _ h) ∙ ap (then_received bs ending) p

front_right : (bs : List ℕ) (ending : IoKind) → 16 ≤ length bs → head_fault bs ≡ None → front_outcome bs ending ≡ then_received bs ending None
front_right bs ending h p = cond_false _ _ _ (less_false _ _ h) ∙ ap (then_received bs ending) p

pub front_cut : (bs : List ℕ) (ending : IoKind) → 16 ≤ length bs → head_fault bs ≡ None → length bs < total bs → front_outcome bs ending ≡ Err (errors.InputOutput ending)
front_cut bs ending h p less = front_right bs ending h p ∙ cond_true _ _ _ (less_true _ _ less)

pub front_there : (bs : List ℕ) (ending : IoKind) → 16 ≤ length bs → head_fault bs ≡ None → total bs ≤ length bs
    → front_outcome bs ending ≡ received_by bs (kind_of (slice_index bs 1)) (fields_found bs)
front_there bs ending h p le = front_right bs ending h p ∙ cond_false _ _ _ (less_false _ _ le)

fields_found-append : (xs ys : List ℕ) → 16 ≤ length xs → total xs ≤ length xs → fields_found (xs ++ ys) ≡ fields_found xs
fields_found-append xs ys h le =
    let n = length xs in
    let zs = xs ++ ys in
    let order = order-same n zs xs (same xs ys) (omega arith) in
    let size : fields_len zs ≡ fields_len xs = word-same n 12 zs xs (same xs ys) (omega arith) in
    let inside : 16 + fields_len zs ≤ n = omega (arith, size) in
    let bytes = fields-same n zs xs (same xs ys) inside in
    ap (λ (o : Endian). fields_in o (field_bytes zs)) order ∙ ap (fields_in (order_at xs)) bytes

-- the bytes of what begins them
own-append : (xs ys : List ℕ) → 16 ≤ length xs → length xs ≡ total xs → take (total (xs ++ ys)) (xs ++ ys) ≡ take (total xs) xs
own-append xs ys h e = ap (λ (k : ℕ). take k (xs ++ ys)) (total-append xs ys h) ∙ take-append-le (total xs) xs ys (omega arith)

received_by-append : (xs ys : List ℕ) (kind : Option MessageType) (fields : Option Fields) → 16 ≤ length xs → length xs ≡ total xs
    → received_by (xs ++ ys) kind fields ≡ received_by xs kind fields
received_by-append xs ys None None h e = refl
received_by-append xs ys (Some kind) None h e = refl
received_by-append xs ys None (Some fields) h e = ap (λ (b : List ℕ). Ok (Passed b)) (own-append xs ys h e)
received_by-append xs ys (Some kind) (Some fields) h e =
    let n = length xs in
    let zs = xs ++ ys in
    ap (λ (b : List ℕ). Ok (Message (message_view b 0 kind (order_at zs) (slice_index zs 2 % 8) (word_at 8 zs) fields))) (own-append xs ys h e)
    ∙ ap (λ (o : Endian). Ok (Message (message_view (take (total xs) xs) 0 kind o (slice_index zs 2 % 8) (word_at 8 zs) fields))) (order-same n zs xs (same xs ys) (omega arith))
    ∙ ap (λ (k : ℕ). Ok (Message (message_view (take (total xs) xs) 0 kind (order_at xs) (k % 8) (word_at 8 zs) fields))) (index-same n 2 zs xs (same xs ys) (omega arith))
    ∙ ap (λ (k : ℕ). Ok (Message (message_view (take (total xs) xs) 0 kind (order_at xs) (slice_index xs 2 % 8) k fields))) (word-same n 8 zs xs (same xs ys) (omega arith))

-- Bytes after a whole message, or after a whole ignored front, don't change what begins the bytes. Neither does what ends them.
pub front-append : (xs ys : List ℕ) (ending other : IoKind) → 16 ≤ length xs → head_fault xs ≡ None → length xs ≡ total xs
    → front_outcome (xs ++ ys) ending ≡ front_outcome xs other
front-append xs ys ending other h p e =
    let zs = xs ++ ys in
    let long : 16 ≤ length zs = omega (arith, length-append xs ys) in
    let t = total-append xs ys h in
    let le : total xs ≤ length xs = omega arith in
    let there : total zs ≤ length zs = omega (arith, length-append xs ys) in
    front_there zs ending long (head_fault-append xs ys h ∙ p) there
    ∙ ap (λ (k : ℕ). received_by zs (kind_of k) (fields_found zs)) (index-same (length xs) 1 zs xs (same xs ys) (omega arith))
    ∙ ap (λ (f : Option Fields). received_by zs (kind_of (slice_index xs 1)) f) (fields_found-append xs ys h le)
    ∙ received_by-append xs ys _ _ h e
    ∙ sym (front_there xs other h p le)

-- ---- on its own bytes

ignored-moved : (xs ys : List ℕ) (n : ℕ) → IgnoredFront xs n → n ≤ length ys → take n xs ≡ take n ys → IgnoredFront ys n
ignored-moved xs ys n f there e =
    let long : 16 ≤ n = omega (arith, f.whole) in
    record {
      there = there;
      head = omega arith;
      whole = f.whole ∙ total-same n xs ys e long;
      limit = f.limit;
      order = (f.order.0, sym (index-same n 0 xs ys e (omega arith)) ∙ f.order.1);
      type = subst (λ (k : ℕ). 4 < k) (index-same n 1 xs ys e (omega arith)) f.type;
      not_zero = subst (λ (k : ℕ). 0 < k) (word-same n 8 xs ys e (omega arith)) f.not_zero;
      fields = (f.fields.0, f.fields.1, sym (fields-same n xs ys e (omega (arith, f.whole))) ∙ f.fields.2);
    }

-- What was received stands on its own bytes, which are as many of the first bytes as the head says.
pub record StandsAlone (bytes : List ℕ) (r : Received) : Type 0 where
  pub own : received_bytes r ≡ take (total bytes) bytes
  pub whole : length (received_bytes r) ≡ total bytes
  pub stands : StandsOn (received_bytes r) r (length (received_bytes r))

pub stands_alone : (bytes : List ℕ) (r : Received) → StandsOn bytes r (length (received_bytes r)) → StandsAlone bytes r
stands_alone bytes (Message m) f =
    let n = length m.bytes in
    let all : take n m.bytes ≡ m.bytes = take_all n m.bytes (le_refl n) in
    record {
      own = f.own ∙ ap (λ (k : ℕ). take k bytes) f.whole;
      whole = f.whole;
      stands = front-moved bytes m.bytes m n f (le_refl n) (sym f.own ∙ sym all);
    }
stands_alone bytes (Passed front) f =
    let n = length front in
    let all : take n front ≡ front = take_all n front (le_refl n) in
    record {
      own = f.1 ∙ ap (λ (k : ℕ). take k bytes) f.0.whole;
      whole = f.0.whole;
      stands = (ignored-moved bytes front n f.0 (le_refl n) (sym f.1 ∙ sym all), sym all);
    }

-- a predicate of both branches
pub cond_either : {A : Type 0} (P : A → Type 0) (b : Bool) (x y : A) → P x → P y → P (if b then x else y)
cond_either P true x y p q = p
cond_either P false x y p q = q
