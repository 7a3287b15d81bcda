-- The arguments that are read of a body are what stands at its front.
use Rattle.std.proofs.Common.{ℕ, ◌≡◌, ◌+◌, List, length, Option, Some, None, sym, ap, ◌∙◌, arith, length-append}
use Rattle.wire_number.specs.declared.endian.Endian.{Endian}
use Rattle.wire_signature.specs.SingleType.{SingleType, single_types_of, IsSignature}
use Rattle.wire_tree.specs.Datum.{Datum}
use Rattle.wire_number.specs.Reading.{Cursor, made}
use Rattle.wire_encoding.specs.Reading.{value_at, fields_at}
use Rattle.wire_number.proofs.Steps.{at, AreBytes, map_some, some_is}
use Rattle.wire_encoding.proofs.Fronts.{each_found, each_again}
use Rattle.wire_encoding.specs.ReaderView.{Refuses}
use Rattle.wire_signature.specs.declared.error.VariantError.{VariantError}
use Rattle.wire_signature.specs.declared.error.VariantError.TheVariants as errors
use Rattle.wire_body.specs.Bodies.{Explains, HasArguments, HasNoBody}
use Rattle.wire_body.proofs.Found.{unmade}

module _ {A : Type 0} (read : List Datum → A) (order : Endian) (ts : List SingleType) (bytes : List ℕ) where
  pub arguments_there : IsSignature ts → AreBytes bytes → (x : A) (k : Cursor) → made read (fields_at (value_at 64 order) (single_types_of ts) (at 0 bytes)) ≡ Some (x, k)
      → HasArguments order ts bytes read x
  arguments_there h low x k e =
      let y = map_some (λ y. (read y.0, y.1)) (fields_at (value_at 64 order) (single_types_of ts) (at 0 bytes)) (x, k) e in
      let f = each_found order ts 0 bytes y.0 h low y.1 in
      record {
        values = y.0.0;
        front = f.front;
        rest = y.0.1.rest;
        text = f.whole;
        encoded = f.encoded;
        only = λ ds front rest s split.
            let both : (y.0.0, y.0.1) ≡ (ds, at (0 + length front) rest) =
            some_is _ _ (sym y.1 ∙ ap (λ b. fields_at (value_at 64 order) (single_types_of ts) (at 0 b)) split ∙ each_again order ts 0 ds front rest s) in
            let behind : y.0.1.rest ≡ rest = ap (λ z. z.1.rest) both in
            let long : length f.front + length y.0.1.rest ≡ length front + length rest =
            sym (length-append f.front y.0.1.rest) ∙ ap length (sym f.whole ∙ split) ∙ length-append front rest in
            (ap (λ z. z.0) both, omega (arith, long, ap length behind));
        same = sym (ap (λ z. z.0) y.2);
      }

  nothing_there : made read (fields_at (value_at 64 order) (single_types_of ts) (at 0 bytes)) ≡ None → HasNoBody order ts bytes
  nothing_there e ds front rest s split =
      let found : fields_at (value_at 64 order) (single_types_of ts) (at 0 bytes) ≡ Some (ds, at (0 + length front) rest) =
      ap (λ b. fields_at (value_at 64 order) (single_types_of ts) (at 0 b)) split ∙ each_again order ts 0 ds front rest s in
      let none = unmade read (fields_at (value_at 64 order) (single_types_of ts) (at 0 bytes)) e in
      absurd (let both : ◌≡◌ {A = Option (List Datum × Cursor)} None (Some (ds, at (0 + length front) rest)) = sym none ∙ found in cc)

  pub arguments_explained : (e : VariantError) → Refuses e (made read (fields_at (value_at 64 order) (single_types_of ts) (at 0 bytes))) → Explains e order ts bytes
  arguments_explained errors.Malformed h = nothing_there h
  arguments_explained errors.Memory h = tt
  arguments_explained errors.Signature h = absurd h
  arguments_explained errors.Depth h = absurd h
  arguments_explained errors.SignatureMismatch h = absurd h
