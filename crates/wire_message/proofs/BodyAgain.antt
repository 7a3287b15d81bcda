-- The body of what was built, and what is read of it.
use Rattle.std.proofs.Common.{◌≡◌, ℕ, ◌+◌, ◌≤◌, Bool, List, [], ◌∷◌, length, map, take, drop, Option, Result, Ok, Err, refl, sym, ap, subst, ◌∙◌, arith, length-append, append-nil}
use Rattle.std.specs.Prelude.{unwrap_or}
use Rattle.std.proofs.lemmas.List.{take_at}
use Rattle.std.proofs.Math.Seq.{drop-append_seam}
use Rattle.wire_number.specs.declared.endian.Endian.{Endian}
use Rattle.wire_signature.specs.SingleType.{SingleType, IsSignature, SignatureText}
use Rattle.wire_signature.specs.declared.error.VariantError.TheVariants as faults
use Rattle.wire_tree.specs.Datum.{Datum, data_of, type_of}
use Rattle.wire_encoding.specs.Encoding.{encoding, encodings, depths, AllFit}
use Rattle.wire_encoding.specs.Each.{EncodeEach}
use Rattle.wire_body.specs.Arguments.{AreAllWellTyped, AllAreTypes}
use Rattle.wire_body.proofs.Rows.{IsSignature-each}
use Rattle.wire_message.specs.Bodies.{BuildsValues, body_text}
use Rattle.wire_message.specs.BuilderView.{BuilderView, header_text, message_text, built, ReadsAgain}
use Rattle.wire_message.specs.Front.{MessageView, bare, Front, total, header_len, body_len, body_bytes}
use Rattle.wire_message.specs.Outcome.{Tells}
use Rattle.wire_message.specs.BodyReading.{BeginsNoBody, HasTypes, BeginsBody, ReadsBody}
use Rattle.wire_message.specs.Signed.{signed, signature_field}
use Rattle.wire_message.specs.declared.error.Error.{Error}
use Rattle.wire_message.specs.declared.error.Error.TheVariants as errors
use Rattle.wire_message.proofs.Law.{size-read}

-- the values' texts are a body
encoded-each : (order : Endian) (place : ℕ) (ds : List Datum) → AllAreTypes (map type_of ds) → AreAllWellTyped ds → depths (data_of ds) ≤ 64 → AllFit order place (data_of ds)
    → EncodeEach order place (map type_of ds) ds (encodings order place (data_of ds))
unfolding encodings AllFit
encoded-each order place [] t s w f = refl
encoded-each order place (d ∷ ds) t s w f = (
  encoding order place d,
  encodings order (place + length (encoding order place d)) (data_of ds),
  refl,
  record { kind = refl; valid = record { type = t.0; well_typed = s.0 }; within = omega arith; fit = f.0; text = refl },
  encoded-each order (place + length (encoding order place d)) ds t.1 s.1 (omega arith) f.1,
)

-- the bytes of the body
body-again : (builder : BuilderView) (serial : ℕ) (body text : List ℕ) → text ≡ message_text builder serial body → length text ≡ total text → length text ≤ 134217728 → body_bytes text ≡ body
unfolding message_text
body-again builder serial body text e whole limit =
    let head = header_text builder (length body) serial in
    let parts : length text ≡ length head + length body = ap length e ∙ length-append head body in
    let size : body_len text ≡ length body = ap (λ (l : List ℕ). body_len l) e ∙ size-read builder serial body (omega arith) in
    let place : header_len text ≡ length head = omega arith in
    ap (λ (n : ℕ). take n (drop (header_len text) text)) size ∙ ap (λ (n : ℕ). take (length body) (drop n text)) place
    ∙ ap (λ (l : List ℕ). take (length body) (drop (length head) l)) e
    ∙ ap (take (length body)) (drop-append_seam head body)
    ∙ ap (take (length body)) (sym (append-nil body)) ∙ take_at body [] (length body) refl

built-body : (builder : BuilderView) (serial : ℕ) (body : List ℕ) (m : MessageView) → bare m ≡ built builder serial body → ReadsAgain m → length m.bytes ≤ 134217728
    → (body_bytes m.bytes ≡ body) × (m.order ≡ builder.order) × (m.signature ≡ builder.fields.signature)
unfolding built
built-body builder serial body m e again limit =
    let front : Front m.bytes (bare m) (length m.bytes) = subst (λ (l : List ℕ). Front l (bare m) (length m.bytes)) (append-nil m.bytes) (again []) in (
      body-again builder serial body m.bytes (ap (λ (x : MessageView). x.bytes) e) front.whole limit,
      ap (λ (x : MessageView). x.order) e,
      ap (λ (x : MessageView). x.signature) e,
    )

signature-is : (kinds : List SingleType) → IsSignature kinds → SignatureText kinds (unwrap_or (signature_field kinds) [])
signature-is [] h = record { valid = h; text = refl }
signature-is (t ∷ ts) h = record { valid = h; text = refl }

module _ {A : Type 0} (read : List Datum → A) (kinds : List SingleType) (values : List Datum) (m : MessageView) (x : A)
    (types : HasTypes m kinds) (body : BeginsBody m.order kinds (body_bytes m.bytes) values) (same : read values ≡ x) where
  -- what is there is read
  read-there : (r : Result A Error) → ReadsBody r read kinds m → Tells (λ y. y) r (Ok x)
  unfolding BeginsNoBody
  read-there (Ok y) t =
      let b = t.1 in ap Ok (sym same ∙ ap read (sym (b.only values body)) ∙ sym b.same)
  read-there (Err (errors.Variant faults.SignatureMismatch)) t = absurd (t types)
  read-there (Err (errors.Variant faults.Malformed)) t = absurd (t.1 values body)
  read-there (Err errors.Memory) t = tt
  read-there (Err other) t = absurd t

-- what was built of values is read as them
pub values_again : {A : Type 0} (read : List Datum → A) (values : List Datum) (taken : ℕ → Bool) (builder : BuilderView) (fds : List ℕ) (old new : ℕ) (m : MessageView) (x : A) (r : Result A Error)
    → IsSignature (map type_of values) → AreAllWellTyped values → BuildsValues taken builder values fds old new (Ok m) → ReadsAgain m → read values ≡ x
    → ReadsBody r read (map type_of values) m → Tells (λ y. y) r (Ok x)
values_again read values taken builder fds old new m x r signature well_typed b again same t =
    let kinds = map type_of values in
    let text = body_text builder.order values in
    let own = built-body (signed builder kinds) m.serial text m b.2.0.3 again b.2.0.2 in
    let types : HasTypes m kinds = subst (λ (o : Option (List ℕ)). SignatureText kinds (unwrap_or o [])) (sym own.2) (signature-is kinds signature) in
    let encoded : EncodeEach m.order 0 kinds values text =
    subst (λ (o : Endian). EncodeEach o 0 kinds values text) (sym own.1) (encoded-each builder.order 0 values (IsSignature-each kinds signature) well_typed b.0 b.1) in
    let there : BeginsBody m.order kinds (body_bytes m.bytes) values =
    record { front = text; rest = []; text = own.0 ∙ sym (append-nil text); signature = signature; encoded = encoded } in
    read-there read kinds values m x types there same r t
