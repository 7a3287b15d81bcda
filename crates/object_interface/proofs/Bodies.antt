-- What is read of the body of a call, and what it says of the body.
use Rattle.std.proofs.Common.{◌≡◌, ◌≢◌, refl, List, Ok, Err, subst}
use Rattle.wire_signature.specs.SingleType.{SingleType}
use Rattle.wire_signature.specs.declared.error.VariantError.TheVariants as faults
use Rattle.wire_tree.specs.Datum.{Datum}
use Rattle.wire_message.specs.Front.{MessageView}
use Rattle.wire_message.specs.BodyReading.{ReadsBody, BeginsNoBody}
use Rattle.wire_message.specs.declared.error.Error.{Error}
use Rattle.wire_message.specs.declared.error.Error.TheVariants as errors
use Rattle.object_interface.specs.Arguments.{IsBody, IsNoBody}

-- arguments were read: the body is of the values that they are read of
pub some_body : {A : Type 0} (x : A) (read : List Datum → A) (types : List SingleType) (m body : MessageView) → body ≡ m
    → ReadsBody (Ok x) read types body → (values : List Datum) × IsBody m types values × (x ≡ read values)
some_body x read types m body same h =
    (h.1.values, subst (λ v. IsBody v types h.1.values) same (record { types_there = h.0; front = h.1.there }), h.1.same)

-- none were read, and there was memory: the body is of no values of the types
pub no_body : {A : Type 0} (e : Error) (read : List Datum → A) (types : List SingleType) (m : MessageView)
    → ReadsBody (Err e) read types m → e ≢ errors.Memory → IsNoBody m types
unfolding BeginsNoBody
no_body (errors.Variant faults.SignatureMismatch) read types m h n values b = h b.types_there
no_body (errors.Variant faults.Malformed) read types m h n values b = h.1 values b.front
no_body errors.Memory read types m h n values b = n refl
no_body e read types m h n values b = h

-- the same of the body of that message
pub no_body_of : {A : Type 0} (e : Error) (read : List Datum → A) (types : List SingleType) (m body : MessageView) → body ≡ m
    → ReadsBody (Err e) read types body → e ≢ errors.Memory → IsNoBody m types
no_body_of e read types m body same h n = subst (λ v. IsNoBody v types) same (no_body e read types body h n)
