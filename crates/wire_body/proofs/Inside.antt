-- The fields inside a struct.
use Rattle.std.proofs.Common.{◌≡◌, ℕ, suc, ◌+◌, ◌-◌, ◌<◌, ◌≤◌, List, [], ◌∷◌, length, map, Option, Some, None, Result, Err, refl, sym, ◌∙◌, ap, subst, arith, length-append}
use Rattle.wire_number.specs.declared.endian.Endian.{Endian}
use Rattle.wire_number.specs.Number.{padding}
use Rattle.wire_number.specs.Reading.{Cursor, Parse, made, ◌>>=◌, align_at}
use Rattle.wire_signature.specs.SingleType.{SingleType, SingleTypes, struct as struct_of, single_types_of, type_text, types_text, IsType}
use Rattle.wire_signature.specs.declared.error.VariantError.{VariantError}
use Rattle.wire_signature.specs.declared.error.VariantError.TheVariants as errors
use Rattle.wire_signature.proofs.Again.{list_of-single_types_of}
use Rattle.wire_signature.specs.SingleType as types
use Rattle.wire_tree.specs.Datum.{Datum, struct, data_of, type_of, WellTyped, AreWellTyped}
use Rattle.wire_tree.proofs.Lists.{list_of-data_of}
use Rattle.wire_encoding.specs.Encoding.{encoding, depths, ArraysFit}
use Rattle.wire_encoding.specs.Reading.{fields_at, struct_at, value_at}
use Rattle.wire_encoding.specs.ReaderView.{Refuses}
use Rattle.wire_codec.specs.declared.error.EncodeError.{EncodeError}
use Rattle.wire_argument.specs.Arguments.{Checks, TellsRead}
use Rattle.wire_body.specs.Arguments.{AllAreTypes, AreAllWellTyped, TellsFrom}
use Rattle.wire_body.specs.Fields.{fields_in, struct_is}
use Rattle.wire_body.proofs.Found.{refuses_as}
use Rattle.wire_body.proofs.Rows.{each_is_type}

-- ---- well typed fields

pub all_well_typed : (ds : List Datum) → AreWellTyped (data_of ds) → AreAllWellTyped ds
all_well_typed [] h = tt
all_well_typed (d ∷ ds) h = (h.0, all_well_typed ds h.1)

pub are_well_typed : (ds : List Datum) → AreAllWellTyped ds → AreWellTyped (data_of ds)
are_well_typed [] h = tt
are_well_typed (d ∷ ds) h = (h.0, are_well_typed ds h.1)

pub inside_well_typed : (d : Datum) (ds : List Datum) → d ≡ struct (data_of ds) → WellTyped d → AreAllWellTyped ds
inside_well_typed d ds e h = all_well_typed ds (subst WellTyped e h)

pub field_types : (ts : List SingleType) → IsType (struct_of (single_types_of ts)) → AllAreTypes ts
field_types ts h =
    each_is_type ts h.arrays (omega (arith, h.structs)) h.fields.1 (omega (arith, h.within, length-append (types_text (single_types_of ts)) (41 ∷ [])))

-- ---- what a check of the fields tells of the struct

pub fields_refused : (A : Type 0) {B : Type 0} (r : Result B VariantError) (x e : VariantError) (ds : List Datum) (room less : ℕ) → r ≡ Err x → x ≡ e → less ≡ room - 1
    → Checks {A = A} (Err e) (AreAllWellTyped ds) (depths (data_of ds)) less → Checks r (AreWellTyped (data_of ds)) (depths (data_of ds) + 1) room
fields_refused A {B} r x e ds room less is same one h =
    subst (λ (r : Result B VariantError). Checks r (AreWellTyped (data_of ds)) (depths (data_of ds) + 1) room) (sym (is ∙ ap Err same)) (by e h) where
      by : (e : VariantError) → Checks {A = A} (Err e) (AreAllWellTyped ds) (depths (data_of ds)) less → Checks {A = B} (Err e) (AreWellTyped (data_of ds)) (depths (data_of ds) + 1) room
      by errors.Malformed h = λ k. h (all_well_typed ds k)
      by errors.Depth h = (are_well_typed ds h.0, omega (arith, h.1))
      by errors.Signature h = absurd h
      by errors.SignatureMismatch h = absurd h
      by errors.Memory h = absurd h

pub fields_held : (ds : List Datum) (room less : ℕ) → less ≡ room - 1 → AreAllWellTyped ds × (depths (data_of ds) ≤ less) → 0 < room
    → AreWellTyped (data_of ds) × (depths (data_of ds) + 1 ≤ room)
fields_held ds room less one h some = (are_well_typed ds h.0, omega (arith, h.1))

-- ---- reading

made_fields : {A : Type 0} (g : List Datum → A) (found : Parse (List Datum)) → made (λ d. g (fields_in d)) (made (λ ds. struct (data_of ds)) found) ≡ made g found
made_fields g None = refl
made_fields g (Some x) = ap (λ ds. Some (g ds, x.1)) (list_of-data_of x.0)

module _ {A : Type 0} (g : List Datum → A) (order : Endian) (ts : SingleTypes) (c : Cursor) where
  abbrev read_struct : Datum → A
  read_struct d = g (fields_in d)

  pub no_room : (room : ℕ) → room ≡ 0 → made read_struct (value_at room order (struct_of ts) c) ≡ None
  unfolding value_at
  no_room room e = ap (λ n. made read_struct (value_at n order (struct_of ts) c)) e

  module _ (room : ℕ) (some : 0 < room) where
    struct_reads : made read_struct (value_at room order (struct_of ts) c) ≡ made g (align_at 8 c >>= fields_at (value_at (room - 1) order) ts)
    unfolding value_at struct_at
    struct_reads =
        let e : room ≡ suc (room - 1) = omega arith in
        ap (λ n. made read_struct (value_at n order (struct_of ts) c)) e ∙ made_fields g (align_at 8 c >>= fields_at (value_at (room - 1) order) ts)

    pub padding_refused : (e : VariantError) → Refuses e (align_at 8 c) → Refuses e (made read_struct (value_at room order (struct_of ts) c))
    padding_refused e h =
        refuses_as e (align_at 8 c) (made read_struct (value_at room order (struct_of ts) c))
        (λ n. struct_reads ∙ ap (λ p. made g (p >>= fields_at (value_at (room - 1) order) ts)) n) h

    module _ (k : Cursor) (there : align_at 8 c ≡ Some k) where
      behind_padding : made read_struct (value_at room order (struct_of ts) c) ≡ made g (fields_at (value_at (room - 1) order) ts k)
      behind_padding = struct_reads ∙ ap (λ p. made g (p >>= fields_at (value_at (room - 1) order) ts)) there

      pub struct_refused : (e : VariantError) → Refuses e (made g (fields_at (value_at (room - 1) order) ts k)) → Refuses e (made read_struct (value_at room order (struct_of ts) c))
      struct_refused e h = subst (Refuses e) (sym behind_padding) h

      pub struct_found : (x : A × Cursor) → made g (fields_at (value_at (room - 1) order) ts k) ≡ Some x → made read_struct (value_at room order (struct_of ts) c) ≡ Some x
      struct_found x e = behind_padding ∙ e

-- ---- trees

-- A struct is of a type exactly where its fields are of the types of that one's.
types_inside : (ds : List Datum) (ts : List SingleType) → type_of (struct (data_of ds)) ≡ struct_of (single_types_of ts) → map type_of ds ≡ ts
types_inside ds ts e =
    let same : struct_of (single_types_of (map type_of ds)) ≡ struct_of (single_types_of ts) = sym (struct_is ds (map type_of ds) refl) ∙ e in
    let inside : single_types_of (map type_of ds) ≡ single_types_of ts = cc in
    sym (list_of-single_types_of (map type_of ds)) ∙ ap types.list_of inside ∙ list_of-single_types_of ts

module _ {A : Type 0} (g : List Datum → A) (d : Datum) (ds : List Datum) (ts : List SingleType) (is : d ≡ struct (data_of ds)) where
  pub fields_taken : (x : A) → (x ≡ g ds) × (map type_of ds ≡ ts) → (x ≡ g (fields_in d)) × (type_of d ≡ struct_of (single_types_of ts))
  fields_taken x h = (h.0 ∙ ap g (sym (list_of-data_of ds)) ∙ ap (λ e. g (fields_in e)) (sym is), ap type_of is ∙ struct_is ds ts h.1)

  pub fields_not_taken : {B : Type 0} (r : Result B VariantError) (x e : VariantError) → r ≡ Err x → x ≡ e → TellsFrom {A = A} (Err e) (g ds) (map type_of ds) ts
      → (y : B) → TellsRead (λ x. x) r y (type_of d) (struct_of (single_types_of ts))
  fields_not_taken {B} r x e is_err same h y =
      subst (λ (r : Result B VariantError). TellsRead (λ x. x) r y (type_of d) (struct_of (single_types_of ts))) (sym (is_err ∙ ap Err same)) (by e h) where
        by : (e : VariantError) → TellsFrom {A = A} (Err e) (g ds) (map type_of ds) ts → TellsRead {A = B} (λ (x : B). x) (Err e) y (type_of d) (struct_of (single_types_of ts))
        by errors.SignatureMismatch h = λ k. h (types_inside ds ts (sym (ap type_of is) ∙ k))
        by errors.Memory h = tt
        by errors.Signature h = absurd h
        by errors.Malformed h = absurd h
        by errors.Depth h = absurd h
