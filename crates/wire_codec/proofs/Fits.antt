-- Whether each array of a value fits its limit can be decided.
use Rattle.std.proofs.Common.{ℕ, ◌+◌, ◌<◌, ◌≤◌, ◌⊎◌, inl, inr, length, arith}
use Rattle.std.proofs.lemmas.Bool.{cases_lt}
use Rattle.std.specs.Int.{w8}
use Rattle.wire_number.specs.declared.endian.Endian.{Endian}
use Rattle.wire_number.specs.Number.{counted_text}
use Rattle.wire_signature.specs.SingleType.{alignment, type_text}
use Rattle.wire_tree.specs.Datum.{Datum, num, text, array, dict, struct, variant, Data, no_data, items, type_of}
use Rattle.wire_encoding.specs.Encoding.{aligned, first_place, encoding, encodings, ArraysFit, AllFit}

abbrev pub Decided : Type 0 → Type 0
Decided A = (A → ⊥) ⊎ A

both : {A B : Type 0} → Decided A → Decided B → Decided (A × B)
both (inl f) q = inl (λ p. f p.0)
both (inr a) (inl g) = inl (λ p. g p.1)
both (inr a) (inr b) = inr (a, b)

fit_of : (n : ℕ) → (67108864 < n) ⊎ (n ≤ 67108864) → Decided (n ≤ 67108864)
fit_of n (inl h) = inl (λ k. omega arith)
fit_of n (inr h) = inr h

fit : (n : ℕ) → Decided (n ≤ 67108864)
fit n = fit_of n (cases_lt 67108864 n)

mutual
  unfolding ArraysFit AllFit

  arrays_decided : (order : Endian) (p : ℕ) (d : Datum) → Decided (ArraysFit order p d)
  arrays_decided order p (num n v) = inr tt
  arrays_decided order p (text t bs) = inr tt
  arrays_decided order p (array t ds) =
      both (fit (length (encodings order (first_place p (alignment t)) ds))) (all_decided order (first_place p (alignment t)) ds)
  arrays_decided order p (dict k v ds) = both (fit (length (encodings order (first_place p 8) ds))) (all_decided order (first_place p 8) ds)
  arrays_decided order p (struct ds) = all_decided order (aligned p 8) ds
  arrays_decided order p (variant d) = arrays_decided order (p + length (counted_text w8 order (type_text (type_of d)))) d

  pub all_decided : (order : Endian) (p : ℕ) (ds : Data) → Decided (AllFit order p ds)
  all_decided order p no_data = inr tt
  all_decided order p (items d ds) = both (arrays_decided order p d) (all_decided order (p + length (encoding order p d)) ds)
