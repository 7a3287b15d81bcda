-- Reading values one behind the other.
use Rattle.std.proofs.Common.{◌≡◌, refl, sym, ◌∙◌, ap, subst, ℕ, ◌+◌, ◌-◌, ◌<◌, ◌≤◌, get_or, List, [], ◌∷◌, ◌++◌, length, take, drop, arith, append_assoc, append-nil, length-append}
use Rattle.std.proofs.lemmas.List.{drop_all, drop_more, take_rest, take-append-drop, drop-drop, length-drop, length-take-le, append_cancel_left, append_cancel_right}
use Rattle.wire_number.specs.declared.endian.Endian.{Endian}
use Rattle.wire_signature.specs.SingleType.{SingleType}
use Rattle.wire_tree.specs.Datum.{Datum}
use Rattle.wire_encoding.specs.Encoding.{Encodes}
use Rattle.wire_signature.specs.declared.error.VariantError.{VariantError}
use Rattle.wire_signature.specs.declared.error.VariantError.TheVariants as errors
use Rattle.wire_encoding.specs.Promises.{EncodeNothing}
use Rattle.wire_encoding.specs.Promises as promises
use Rattle.wire_encoding.specs.Each.{EncodeEach}
use Rattle.wire_encoding.proofs.Exact.{same_front}
use Rattle.wire_body.specs.Bodies.{Explains, HasNoBody, HasOnlyBody}

-- Values and their front: these stand behind those that are read.
pub record Follows (order : Endian) (rest : List SingleType) (values : List Datum) (at : ℕ) (bytes : List ℕ) (ds : List Datum) (front others : List ℕ) : Type 0 where
  pub these : List Datum
  pub more : List ℕ
  pub all : ds ≡ values ++ these
  pub encoded : EncodeEach order at rest these more
  pub left : drop at bytes ≡ more ++ others
  pub long : length front ≡ at + length more

-- So many bytes are read, as these values, and the other types are behind them.
pub record Behind (order : Endian) (types rest : List SingleType) (values : List Datum) (at : ℕ) (bytes : List ℕ) : Type 0 where
  pub within : at ≤ length bytes
  pub onward : (ds : List Datum) (more : List ℕ) → EncodeEach order at rest ds more → EncodeEach order 0 types (values ++ ds) (take at bytes ++ more)
  pub back : (ds : List Datum) (front others : List ℕ) → EncodeEach order 0 types ds front → bytes ≡ front ++ others
      → Follows order rest values at bytes ds front others

pub nothing_read : (order : Endian) (types : List SingleType) (bytes : List ℕ) → Behind order types types [] 0 bytes
nothing_read order types bytes = record {
  within = omega arith;
  onward = λ ds more s. s;
  back = λ ds front others s e. record { these = ds; more = front; all = refl; encoded = s; left = e; long = omega arith };
}

take_sum : (n m : ℕ) (xs : List ℕ) → n + m ≤ length xs → take (n + m) xs ≡ take n xs ++ take m (drop n xs)
take_sum n m xs fits =
    append_cancel_right (take (n + m) xs) (take n xs ++ take m (drop n xs)) (drop (n + m) xs)
    (take-append-drop (n + m) xs ∙ sym (take-append-drop n xs) ∙ ap (λ r. take n xs ++ r) (sym (take-append-drop m (drop n xs)))
    ∙ ap (λ r. take n xs ++ (take m (drop n xs) ++ r)) (drop-drop m n xs) ∙ sym (append_assoc (take n xs) (take m (drop n xs)) (drop (n + m) xs)))

module _ (order : Endian) (types : List SingleType) (t : SingleType) (rest : List SingleType) (values : List Datum) (at : ℕ) (bytes : List ℕ) (d : Datum) (n : ℕ)
    (w : Behind order types (t ∷ rest) values at bytes) (s : Encodes order at t d (take n (drop at bytes))) (fits : n ≤ length (drop at bytes)) where
  long : length (take n (drop at bytes)) ≡ n
  long = length-take-le n (drop at bytes) fits

  there : at + n ≤ length bytes
  there = omega (arith, fits, length-drop at bytes, w.within)

  onward : (ds : List Datum) (more : List ℕ) → EncodeEach order (at + n) rest ds more
      → EncodeEach order 0 types ((values ++ d ∷ []) ++ ds) (take (at + n) bytes ++ more)
  onward ds more k =
      let next : EncodeEach order (at + length (take n (drop at bytes))) rest ds more = subst (λ (l : ℕ). EncodeEach order (at + l) rest ds more) (sym long) k in
      let whole : EncodeEach order 0 types (values ++ d ∷ ds) (take at bytes ++ (take n (drop at bytes) ++ more)) =
      w.onward (d ∷ ds) (take n (drop at bytes) ++ more) (take n (drop at bytes), more, refl, s, next) in
      subst (λ (vs : List Datum). EncodeEach order 0 types vs (take (at + n) bytes ++ more)) (sym (append_assoc values (d ∷ []) ds))
      (subst (λ (r : List ℕ). EncodeEach order 0 types (values ++ d ∷ ds) r)
      (sym (append_assoc (take at bytes) (take n (drop at bytes)) more) ∙ ap (λ r. r ++ more) (sym (take_sum at n bytes there))) whole)

  past : (ds : List Datum) (front others : List ℕ) (these : List Datum) (more : List ℕ) → ds ≡ values ++ these → EncodeEach order at (t ∷ rest) these more
      → drop at bytes ≡ more ++ others → length front ≡ at + length more → Follows order rest (values ++ d ∷ []) (at + n) bytes ds front others
  past ds front others [] more all k left l = absurd k
  past ds front others (e ∷ these) more all k left l =
      let whole : take n (drop at bytes) ++ drop n (drop at bytes) ≡ k.0 ++ (k.1 ++ others) =
      take-append-drop n (drop at bytes) ∙ left ∙ ap (λ r. r ++ others) k.2 ∙ append_assoc k.0 k.1 others in
      let one = same_front order at t d e (take n (drop at bytes)) k.0 (drop n (drop at bytes)) (k.1 ++ others) s k.3 whole in
      let size : length k.0 ≡ n = ap length (sym one.0) ∙ long in
      record {
        these = these;
        more = k.1;
        all = all ∙ ap (λ v. values ++ v ∷ these) (sym one.1) ∙ sym (append_assoc values (d ∷ []) these);
        encoded = subst (λ (m : ℕ). EncodeEach order (at + m) rest these k.1) size k.4;
        left = sym (drop-drop n at bytes) ∙ append_cancel_left k.0 (drop n (drop at bytes)) (k.1 ++ others) (ap (λ r. r ++ drop n (drop at bytes)) (sym one.0) ∙ whole);
        long = omega (arith, l, ap length k.2, length-append k.0 k.1, size);
      }

  pub one_read : Behind order types rest (values ++ d ∷ []) (at + n) bytes
  one_read = record {
    within = there;
    onward = onward;
    back = λ ds front others k e.
        let f = w.back ds front others k e in
        past ds front others f.these f.more f.all f.encoded f.left f.long;
  }

pub all_read : (order : Endian) (types : List SingleType) (values : List Datum) (at : ℕ) (bytes : List ℕ) → Behind order types [] values at bytes
    → EncodeEach order 0 types values (take at bytes)
all_read order types values at bytes w =
    subst (λ (vs : List Datum). EncodeEach order 0 types vs (take at bytes)) (append-nil values)
    (subst (λ (r : List ℕ). EncodeEach order 0 types (values ++ []) r) (append-nil (take at bytes)) (w.onward [] [] refl))

only_these : (order : Endian) (at : ℕ) (values ds these : List Datum) (more : List ℕ) (n : ℕ) → EncodeEach order at [] these more → ds ≡ values ++ these
    → n ≡ at + length more → (values ≡ ds) × (at ≡ n)
only_these order at values ds [] more n s all long = (sym (append-nil values) ∙ sym all, omega (arith, long, ap length s))
only_these order at values ds (e ∷ these) more n s all long = absurd s

pub only_read : (order : Endian) (types : List SingleType) (values : List Datum) (at : ℕ) (bytes : List ℕ) → Behind order types [] values at bytes
    → HasOnlyBody order types bytes values at
only_read order types values at bytes w ds front others k e =
    let f = w.back ds front others k e in
    only_these order at values ds f.these f.more (length front) f.encoded f.all f.long

none_next : (order : Endian) (t : SingleType) (rest : List SingleType) (at : ℕ) (bytes others : List ℕ) (these : List Datum) (more : List ℕ)
    → EncodeNothing order at t (drop at bytes) → EncodeEach order at (t ∷ rest) these more → drop at bytes ≡ more ++ others → ⊥
none_next order t rest at bytes others [] more never k left = k
none_next order t rest at bytes others (e ∷ these) more never k left =
    never e k.0 (k.1 ++ others) k.3 (left ∙ ap (λ r. r ++ others) k.2 ∙ append_assoc k.0 k.1 others)

pub never_read : (order : Endian) (types : List SingleType) (t : SingleType) (rest : List SingleType) (values : List Datum) (at : ℕ) (bytes : List ℕ)
    → Behind order types (t ∷ rest) values at bytes → EncodeNothing order at t (drop at bytes) → HasNoBody order types bytes
never_read order types t rest values at bytes w never ds front others k e =
    let f = w.back ds front others k e in
    none_next order t rest at bytes others f.these f.more never f.encoded f.left

-- the next of a list, and those behind it
pub next_of : {X : Type 0} → (xs : List X) (i : ℕ) (x : X) → i < length xs → x ≡ get_or xs i x → drop i xs ≡ x ∷ drop (i + 1) xs
next_of xs i x h is = drop_more xs i x h ∙ ap (λ y. y ∷ drop (i + 1) xs) (sym is)

-- a value that was read of the bytes that are left
pub read_of_rest : (order : Endian) (types : List SingleType) (i : ℕ) (t : SingleType) (values : List Datum) (at : ℕ) (bytes : List ℕ) (d : Datum) (n : ℕ)
    → i < length types → t ≡ get_or types i t → Behind order types (drop i types) values at bytes
    → Encodes order at t d (take n (take (length bytes - at) (drop at bytes))) → n ≤ length (take (length bytes - at) (drop at bytes))
    → Behind order types (drop (i + 1) types) (values ++ d ∷ []) (at + n) bytes
read_of_rest order types i t values at bytes d n h is w s fits =
    let left = take_rest bytes at in
    one_read order types t (drop (i + 1) types) values at bytes d n
    (subst (λ (r : List SingleType). Behind order types r values at bytes) (next_of types i t h is) w)
    (subst (λ (r : List ℕ). Encodes order at t d (take n r)) left s) (subst (λ (r : List ℕ). n ≤ length r) left fits)

-- nothing was read of them
pub nothing_of_rest : (order : Endian) (types : List SingleType) (i : ℕ) (t : SingleType) (values : List Datum) (at : ℕ) (bytes : List ℕ)
    → i < length types → t ≡ get_or types i t → Behind order types (drop i types) values at bytes
    → EncodeNothing order at t (take (length bytes - at) (drop at bytes)) → HasNoBody order types bytes
nothing_of_rest order types i t values at bytes h is w never =
    never_read order types t (drop (i + 1) types) values at bytes
    (subst (λ (r : List SingleType). Behind order types r values at bytes) (next_of types i t h is) w)
    (subst (EncodeNothing order at t) (take_rest bytes at) never)

pub explained_of_rest : (e : VariantError) (order : Endian) (types : List SingleType) (i : ℕ) (t : SingleType) (values : List Datum) (at : ℕ) (bytes : List ℕ)
    → i < length types → t ≡ get_or types i t → Behind order types (drop i types) values at bytes
    → promises.Explains e order at t (take (length bytes - at) (drop at bytes)) → Explains e order types bytes
explained_of_rest errors.Signature order types i t values at bytes h is w x = absurd x
explained_of_rest errors.Depth order types i t values at bytes h is w x = absurd x
explained_of_rest errors.Malformed order types i t values at bytes h is w x = nothing_of_rest order types i t values at bytes h is w x
explained_of_rest errors.SignatureMismatch order types i t values at bytes h is w x = absurd x
explained_of_rest errors.Memory order types i t values at bytes h is w x = tt

-- all types are read
pub none_behind : (order : Endian) (types : List SingleType) (i : ℕ) (values : List Datum) (at : ℕ) (bytes : List ℕ) → length types ≤ i
    → Behind order types (drop i types) values at bytes → Behind order types [] values at bytes
none_behind order types i values at bytes over w = subst (λ (r : List SingleType). Behind order types r values at bytes) (drop_all i types over) w
