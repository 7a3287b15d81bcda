-- Whether arrays are within their limit, and whether a message passes a limit.
use Rattle.std.proofs.{Common.{arith, ◌≡◌, ℕ, ◌+◌, ◌<◌, ◌≤◌, refl, inl, inr, ◌⊎◌, Bool, true, false, not, ◌||◌, length, nat_lt, nat_le}, lemmas.Bool.{leb-true, le-leb, ltb-true, lt-ltb}, lemmas.Bool.Decides.Decides-and}
use Rattle.std.specs.{Int.w8, Bool.Decides}
use Rattle.wire_number.specs.{declared.endian.Endian.Endian, Number.counted_text}
use Rattle.wire_signature.specs.SingleType.{alignment, type_text}
use Rattle.wire_tree.specs.Datum.{Datum, num, text, array, dict, struct, variant, Data, no_data, items, type_of, data_of}
use Rattle.wire_encoding.specs.Encoding.{aligned, first_place, encoding, encodings, ArraysFit, AllFit}
use Rattle.wire_message.specs.{Fitting.{fits, all_fit}, Outgoing.{is_long, OutgoingMessageView, message_of}}

within : (n : ℕ) → Decides (nat_le n 67108864) (n ≤ 67108864)
within n = (leb-true n 67108864, le-leb n 67108864)

mutual
  unfolding fits all_fit ArraysFit AllFit

  fits_so : (order : Endian) (place : ℕ) (d : Datum) → Decides (fits order place d) (ArraysFit order place d)
  fits_so order place (num n v) = (λ _. tt, λ _. refl)
  fits_so order place (text t bytes) = (λ _. tt, λ _. refl)
  fits_so order place (array t ds) =
      let at = first_place place (alignment t) in
      Decides-and (nat_le (length (encodings order at ds)) 67108864) (all_fit order at ds) (within (length (encodings order at ds))) (all_so order at ds)
  fits_so order place (dict k v es) =
      let at = first_place place 8 in
      Decides-and (nat_le (length (encodings order at es)) 67108864) (all_fit order at es) (within (length (encodings order at es))) (all_so order at es)
  fits_so order place (struct ds) = all_so order (aligned place 8) ds
  fits_so order place (variant d) = fits_so order (place + length (counted_text w8 order (type_text (type_of d)))) d

  all_so : (order : Endian) (place : ℕ) (ds : Data) → Decides (all_fit order place ds) (AllFit order place ds)
  all_so order place no_data = (λ _. tt, λ _. refl)
  all_so order place (items d ds) =
      let behind = place + length (encoding order place d) in
      Decides-and (fits order place d) (all_fit order behind ds) (fits_so order place d) (all_so order behind ds)

-- as building a message says it
abbrev pub IsTooLong : OutgoingMessageView → ℕ → Type 0
IsTooLong outgoing serial =
    (AllFit outgoing.builder.order 0 (data_of outgoing.values) → ⊥)
    ⊎ (AllFit outgoing.builder.order 0 (data_of outgoing.values) × (134217728 < length (message_of outgoing serial).bytes))

short_by : (fit long : Bool) → fit ≡ true → (long ≡ true → ⊥) → (not fit || long) ≡ false
short_by true false e f = refl
short_by true true e f = absurd (f refl)
short_by false long e f = cc

long_by : (fit long : Bool) → (fit ≡ true → long ≡ true) → (not fit || long) ≡ true
long_by true long f = f refl
long_by false long f = refl

pub short_so : (outgoing : OutgoingMessageView) (serial : ℕ) → AllFit outgoing.builder.order 0 (data_of outgoing.values) → length (message_of outgoing serial).bytes ≤ 134217728 → is_long outgoing serial ≡ false
unfolding is_long
short_so outgoing serial fit short =
    short_by (all_fit outgoing.builder.order 0 (data_of outgoing.values)) (nat_lt 134217728 (length (message_of outgoing serial).bytes)) ((all_so outgoing.builder.order 0 (data_of outgoing.values)).1 fit)
    (λ e. let long = ltb-true 134217728 (length (message_of outgoing serial).bytes) e in absurd (omega arith))

pub long_so : (outgoing : OutgoingMessageView) (serial : ℕ) → IsTooLong outgoing serial → is_long outgoing serial ≡ true
unfolding is_long
long_so outgoing serial x =
    long_by (all_fit outgoing.builder.order 0 (data_of outgoing.values)) (nat_lt 134217728 (length (message_of outgoing serial).bytes)) (λ e. by x ((all_so outgoing.builder.order 0 (data_of outgoing.values)).0 e))
  where
    by : IsTooLong outgoing serial → AllFit outgoing.builder.order 0 (data_of outgoing.values) → nat_lt 134217728 (length (message_of outgoing serial).bytes) ≡ true
    by (inl unfit) fit = absurd (unfit fit)
    by (inr long) fit = lt-ltb 134217728 (length (message_of outgoing serial).bytes) long.1
