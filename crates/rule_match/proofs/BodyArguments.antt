-- The arguments that are computed are those that a front of a body encodes by its signature.
use Rattle.std.proofs.Common.{ℕ, ◌≡◌, List, [], Option, Some, None, option_map, option_and_then, unwrap_or, slice_get, refl, ap, ◌∙◌, subst}
use Rattle.wire_number.specs.declared.endian.Endian.{Endian}
use Rattle.wire_signature.specs.SingleType.{single_types_of, SignatureText}
use Rattle.wire_signature.specs.Parsing.{types_in}
use Rattle.wire_signature.proofs.Exact.{types_in-takes, types_in-again}
use Rattle.wire_tree.specs.Datum.{Datum}
use Rattle.wire_encoding.specs.Each.{EncodeEach}
use Rattle.wire_number.specs.Reading.{Cursor}
use Rattle.wire_encoding.specs.Reading.{value_at, fields_at}
use Rattle.wire_number.proofs.Steps.{at, AreBytes, bind_some, map_some}
use Rattle.rule_match.specs.Body.{AreArguments, HasArgument}
use Rattle.rule_match.specs.Accepting.{values_in, arguments_in}
use Rattle.wire_encoding.proofs.Fronts.{each_found, each_again}

-- ---- the arguments of a body

module _ (order : Endian) (named body : List ℕ) where
  arguments_found : AreBytes body → (ds : List Datum) → arguments_in order named body ≡ Some ds → AreArguments order named body ds
  unfolding arguments_in
  arguments_found low ds e =
      let x = bind_some (types_in named) (λ types. values_in order types body) ds e in
      let y = map_some (λ (found : List Datum × Cursor). found.0) (fields_at (value_at 64 order) (single_types_of x.0) (at 0 body)) ds x.2 in
      let s : SignatureText x.0 named = types_in-takes named x.0 x.1 in
      let f = each_found order x.0 0 body y.0 s.valid low y.1 in
      record {
        types = x.0;
        front = f.front;
        rest = y.0.1.rest;
        named = s;
        text = f.whole;
        values = subst (λ (vs : List Datum). EncodeEach order 0 x.0 vs f.front) y.2 f.encoded;
      }

  arguments_again : (ds : List Datum) → AreArguments order named body ds → arguments_in order named body ≡ Some ds
  unfolding arguments_in
  arguments_again ds k =
      ap (option_and_then (λ types. values_in order types body)) (types_in-again k.types named k.named)
      ∙ ap (values_in order k.types) k.text
      ∙ ap (option_map (λ found. found.0)) (each_again order k.types 0 ds k.front k.rest k.values)

  pub argument_found : AreBytes body → (k : ℕ) (d : Datum) → slice_get (unwrap_or (arguments_in order named body) []) k ≡ Some d → HasArgument order named body k d
  argument_found low k d h = of_found (arguments_in order named body) refl h where
    of_found : (o : Option (List Datum)) → arguments_in order named body ≡ o → slice_get (unwrap_or o []) k ≡ Some d → HasArgument order named body k d
    of_found None e h = absurd (cc)
    of_found (Some ds) e h = record { arguments = ds; are = arguments_found low ds e; there = h }

  pub argument_again : (k : ℕ) (d : Datum) → HasArgument order named body k d → slice_get (unwrap_or (arguments_in order named body) []) k ≡ Some d
  argument_again k d h = ap (λ o. slice_get (unwrap_or o []) k) (arguments_again h.arguments h.are) ∙ h.there
