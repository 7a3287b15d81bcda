-- What was written is an encoding at the value's own place.
use Rattle.std.proofs.Common.{◌≡◌, ℕ, ◌+◌, ◌%◌, ◌≤◌, List, ◌++◌, length, take, None, Ok, Err, refl, sym, ◌∙◌, ap, subst}
use Rattle.std.proofs.lemmas.List.{take_at}
use Rattle.wire_number.specs.declared.endian.Endian.{Endian}
use Rattle.wire_tree.specs.Datum.{Datum, type_of, IsValid}
use Rattle.wire_encoding.specs.Encoding.{encoding, depth, ArraysFit, Encodes}
use Rattle.wire_codec.specs.Encoder.{EncoderView}
use Rattle.wire_codec.specs.Writing.{WritesValue, Encoded, NotEncoded}
use Rattle.wire_codec.specs.declared.error.EncodeError.{EncodeError}
use Rattle.wire_codec.specs.declared.error.EncodeError.TheVariants.{Variant, ExcessData, Memory}
use Rattle.wire_encoding.proofs.Shift.{value_alike}

-- an encoder with no end round some bytes
abbrev pub around : Endian → ℕ → List ℕ → EncoderView
around order shift bytes = record { order = order; shift = shift; end = None; items = bytes }

module _ (order : Endian) (place shift : ℕ) (d e : Datum) (old : List ℕ) (next : EncoderView) (same : e ≡ d) (there : (shift + length old) % 8 ≡ place % 8) (shallow : depth e ≤ 64) where
  pub encoded_value : IsValid d → WritesValue {A = Unit {0}} (Ok tt) e (around order shift old) next → Encoded {A = Unit {0}} (Ok tt) order place d old next.items
  encoded_value valid wrote =
      let k = value_alike order (shift + length old) place e (record { rest = there }) in (
        encoding order place d,
        record {
          kind = refl;
          valid = valid;
          within = subst (λ (x : Datum). depth x ≤ 64) same shallow;
          fit = subst (λ (x : Datum). ArraysFit order place x) same (k.1 wrote.1);
          text = refl;
        },
        ap (λ (w : EncoderView). w.items) wrote.0 ∙ ap (λ r. old ++ r) (k.0 ∙ ap (encoding order place) same),
      )

  -- what was appended in vain is cut off
  pub not_encoded : (x : EncodeError) (new : List ℕ) (n : ℕ) → WritesValue {A = Unit {0}} (Err x) e (around order shift old) next → n ≡ length old → new ≡ take n next.items
      → NotEncoded x order place d old new
  not_encoded x new n wrote long cut = by x wrote where
    back : new ≡ old
    back = cut ∙ ap (λ (w : EncoderView). take n w.items) wrote.1.1 ∙ take_at old wrote.1.0 n (sym long)

    by : (x : EncodeError) → WritesValue {A = Unit {0}} (Err x) e (around order shift old) next → NotEncoded x order place d old new
    by (Variant v) h = absurd h.0
    by ExcessData h = (
      subst (λ (x : Datum). depth x ≤ 64) same shallow,
      λ k. h.0 ((value_alike order place (shift + length old) e (record { rest = sym there })).1 (subst (λ (x : Datum). ArraysFit order place x) (sym same) k), tt),
      back,
    )
    by Memory h = back
