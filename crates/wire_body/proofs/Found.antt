-- Values that are read one behind the other.
use Rattle.std.proofs.Common.{◌≡◌, List, ◌∷◌, Option, Some, None, refl, ◌∙◌, ap}
use Rattle.wire_signature.specs.declared.error.VariantError.{VariantError}
use Rattle.wire_signature.specs.declared.error.VariantError.TheVariants as errors
use Rattle.wire_signature.specs.SingleType.{SingleType, SingleTypes, single_types}
use Rattle.wire_tree.specs.Datum.{Datum}
use Rattle.wire_number.specs.Reading.{Cursor, Parse, made, ◌>>=◌}
use Rattle.wire_number.proofs.Steps.{bound_some, map_some}
use Rattle.wire_encoding.specs.Reading.{fields_at}
use Rattle.wire_encoding.specs.ReaderView.{Refuses}
use Rattle.wire_body.specs.Chained.{first_of, rest_of}

-- Where a part is not there, the whole is not.
pub refuses_as : {X Y : Type 0} (e : VariantError) (part : Option X) (whole : Option Y) → (part ≡ None → whole ≡ None) → Refuses e part → Refuses e whole
refuses_as errors.Malformed part whole f h = f h
refuses_as errors.Memory part whole f h = tt
refuses_as errors.Signature part whole f h = absurd h
refuses_as errors.Depth part whole f h = absurd h
refuses_as errors.SignatureMismatch part whole f h = absurd h

pub unmade : {A B : Type 0} (f : A → B) (found : Parse A) → made f found ≡ None → found ≡ None
unmade f None e = refl
unmade f (Some x) e = absurd (cc)

-- a value of a type, and those behind it, each read as something
module _ {A B : Type 0} (f : Datum → A) (g : List Datum → B) (read : SingleType → Cursor → Parse Datum) (t : SingleType) (ts : SingleTypes) (c : Cursor) where
  abbrev both : List Datum → A × B
  both ds = (f (first_of ds), g (rest_of ds))

  pub first_refused : (e : VariantError) → Refuses e (made f (read t c)) → Refuses e (made both (fields_at read (single_types t ts) c))
  unfolding fields_at
  first_refused e h =
      refuses_as e (made f (read t c)) (made both (fields_at read (single_types t ts) c))
      (λ k. ap (λ o. made both (o >>= (λ x. made (λ ds. x.0 ∷ ds) (fields_at read ts x.1)))) (unmade f (read t c) k)) h

  module _ (a : A) (k : Cursor) (first : made f (read t c) ≡ Some (a, k)) where
    value_there : (x : Datum × Cursor) × (read t c ≡ Some x) × (◌≡◌ {A = A × Cursor} (f x.0, x.1) (a, k))
    value_there = map_some (λ x. (f x.0, x.1)) (read t c) (a, k) first

    behind_it : value_there.0.1 ≡ k
    behind_it = ap (λ p. p.1) value_there.2

    pub rest_refused : (e : VariantError) → Refuses e (made g (fields_at read ts k)) → Refuses e (made both (fields_at read (single_types t ts) c))
    unfolding fields_at
    rest_refused e h =
        refuses_as e (made g (fields_at read ts k)) (made both (fields_at read (single_types t ts) c))
        (λ n.
        ap (made both)
        (bound_some _ _ _ value_there.1 ∙ ap (made (λ ds. value_there.0.0 ∷ ds)) (ap (fields_at read ts) behind_it ∙ unmade g (fields_at read ts k) n))) h

    pub both_found : (b : B) (l : Cursor) → made g (fields_at read ts k) ≡ Some (b, l) → made both (fields_at read (single_types t ts) c) ≡ Some ((a, b), l)
    unfolding fields_at
    both_found b l e =
        let others = map_some (λ x. (g x.0, x.1)) (fields_at read ts k) (b, l) e in
        let one : f value_there.0.0 ≡ a = ap (λ p. p.0) value_there.2 in
        let two : g others.0.0 ≡ b = ap (λ p. p.0) others.2 in
        let end : others.0.1 ≡ l = ap (λ p. p.1) others.2 in
        ap (made both)
        (bound_some _ _ _ value_there.1 ∙ ap (made (λ ds. value_there.0.0 ∷ ds)) (ap (fields_at read ts) behind_it ∙ others.1))
        ∙ ap (λ x. Some ((x, g others.0.0), others.0.1)) one ∙ ap (λ y. Some ((a, y), others.0.1)) two ∙ ap (λ n. Some ((a, b), n)) end
