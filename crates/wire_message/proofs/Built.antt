-- An outgoing message is built with the serial that it drew.
use Rattle.std.specs.{Int.w32}
use Rattle.std.proofs.Common.{set, ◌≡◌, ℕ, ◌<◌, ◌≤◌, refl, sym, ◌∙◌, ap, subst, arith, inl, inr, Bool, true, false, List, [], ◌∷◌, ◌++◌, length, length-append, map, Option, Some, Result, Ok, Err}
use Rattle.wire_number.specs.{declared.endian.Endian.Endian, Number.{number_text, padding, counted_text}}
use Rattle.wire_signature.specs.{SingleType.basic_alignment, declared.error.VariantError.VariantError}
use Rattle.wire_tree.specs.Datum.{Datum, text, string, text_type, type_of, data_of}
use Rattle.wire_message.specs.{Front.{MessageView, bare}, BuilderView.{BuilderView, built, header_text, message_text}, Signed.{signed, counted}, Bodies.{body_text, BuildsValues}, declared.error.Error.Error, Outgoing.{OutgoingMessageView, message_of, sender_of, sent_by, is_deep, is_long, MakesAt}}
use Rattle.wire_encoding.specs.Encoding.{AllFit, encoding, encodings}
use Rattle.wire_message.proofs.Fitting.{short_so, long_so}
use borrow.Author.Tests.{ltb-false}

-- ---- one message

-- the builder with this serial set
abbrev with_serial : BuilderView → Option ℕ → BuilderView
with_serial builder serial = record builder { serial = serial }

same_built : (outgoing : OutgoingMessageView) (set : Option ℕ) (serial : ℕ)
    → record (built (signed (counted (with_serial outgoing.builder set) outgoing.fds) (map type_of outgoing.values)) serial (body_text outgoing.builder.order outgoing.values)) { fds = outgoing.fds } ≡ message_of outgoing serial
unfolding message_of built message_text header_text
same_built outgoing set serial = refl

same_text : (outgoing : OutgoingMessageView) (set : Option ℕ) (serial : ℕ)
    → message_text (signed (counted (with_serial outgoing.builder set) outgoing.fds) (map type_of outgoing.values)) serial (body_text outgoing.builder.order outgoing.values) ≡ (message_of outgoing serial).bytes
unfolding message_of built message_text header_text
same_text outgoing set serial = refl

with_fds : (m n : MessageView) (fds : List ℕ) → bare m ≡ n → m.fds ≡ fds → m ≡ record n { fds = fds }
with_fds m n fds e f = ap (λ xs. record (bare m) { fds = xs }) f ∙ ap (λ (k : MessageView). record k { fds = fds }) e

makes_at : (taken : ℕ → Bool) (outgoing : OutgoingMessageView) (serial last new : ℕ) (r : Result MessageView Error) → is_deep outgoing ≡ false
    → BuildsValues taken (counted (with_serial outgoing.builder (Some serial)) outgoing.fds) outgoing.values outgoing.fds last new r → MakesAt outgoing serial r
makes_at taken outgoing serial last new (Ok m) shallow b =
    let w = b.2.0 in
    let is : m ≡ message_of outgoing serial =
    with_fds m _ outgoing.fds w.3 b.2.1 ∙ same_built outgoing (Some serial) m.serial ∙ ap (message_of outgoing) w.0 in
    (is, short_so outgoing serial b.1 (subst (λ (n : MessageView). length n.bytes ≤ 134217728) is w.2))
makes_at taken outgoing serial last new (Err Error.ExcessData) shallow b = long_so outgoing serial (elim b.3 [
  | inl unfit ↦ inl unfit
  | inr long ↦ inr (long.0, subst (λ text. 134217728 < length text) (ap (λ n. message_text (signed (counted (with_serial outgoing.builder (Some serial)) outgoing.fds) (map type_of outgoing.values)) n (body_text outgoing.builder.order outgoing.values)) b.1 ∙ same_text outgoing (Some serial) serial) long.1)
])
makes_at taken outgoing serial last new (Err (Error.Variant VariantError.Depth)) shallow b = absurd (b.1 (ltb-false _ _ shallow))
makes_at taken outgoing serial last new (Err Error.SerialsSpent) shallow b = absurd b.0
makes_at taken outgoing serial last new (Err Error.Memory) shallow b = tt
makes_at taken outgoing serial last new (Err other) shallow b = absurd b

-- an outgoing message of values, of which these are the parts, sent by the peer of that name
pub built_outgoing : (taken : ℕ → Bool) (name : Option (List ℕ)) (served : Bool) (builder sent made : BuilderView) (values all : List Datum) (fds slice : List ℕ) (outgoing : OutgoingMessageView) (serial last new : ℕ) (r : Result MessageView Error)
    → sent ≡ record builder { fields = record builder.fields { sender = sender_of name served builder.kind } } → made ≡ record sent { serial = Some serial } → slice ≡ fds → all ≡ values
    → record { builder = builder; values = all; fds = fds } ≡ outgoing → is_deep outgoing ≡ false
    → BuildsValues taken (counted made slice) values slice last new r → MakesAt (sent_by name served outgoing) serial r
built_outgoing taken name served builder sent made values all fds slice outgoing serial last new r e f g h is shallow b =
    let whole : OutgoingMessageView = record { builder = builder; values = all; fds = fds } in
    let set : made ≡ with_serial (sent_by name served whole).builder (Some serial) = f ∙ ap (λ d. with_serial d (Some serial)) e in
    subst (λ (p : OutgoingMessageView). MakesAt (sent_by name served p) serial r) is
    (makes_at taken (sent_by name served whole) serial last new r (ap is_deep is ∙ shallow)
    (subst (λ xs. BuildsValues taken (counted (with_serial (sent_by name served whole).builder (Some serial)) fds) xs fds last new r) (sym h)
    (subst (λ xs. BuildsValues taken (counted (with_serial (sent_by name served whole).builder (Some serial)) xs) values xs last new r) g
    (subst (λ d. BuildsValues taken (counted d slice) values slice last new r) set b))))

-- ---- a text that is too long

long_body : (order : Endian) (bytes : List ℕ) → 4294967295 < length bytes → 4294967295 < length (body_text order (text string bytes ∷ []))
unfolding encoding encodings
long_body order bytes long =
    let digits = number_text w32 order (length bytes) in
    omega (
      arith,
      long,
      length-append (padding 0 (basic_alignment (text_type string)) ++ counted_text w32 order bytes) [],
      length-append (padding 0 (basic_alignment (text_type string))) (counted_text w32 order bytes),
      length-append digits (bytes ++ 0 ∷ []),
      length-append bytes (0 ∷ []),
    )

long_with : (header body : List ℕ) → 4294967295 < length body → 134217728 < length (header ++ body)
long_with header body long = omega (arith, long, length-append header body)

long_message : (outgoing : OutgoingMessageView) (serial : ℕ) → 4294967295 < length (body_text outgoing.builder.order outgoing.values) → 134217728 < length (message_of outgoing serial).bytes
unfolding message_of built message_text
long_message outgoing serial long =
    long_with (header_text (signed (counted outgoing.builder outgoing.fds) (map type_of outgoing.values)) (length (body_text outgoing.builder.order outgoing.values)) serial) (body_text outgoing.builder.order outgoing.values) long

fits_one : (order : Endian) (bytes : List ℕ) → AllFit order 0 (data_of (text string bytes ∷ []))
unfolding AllFit
fits_one order bytes = (tt, tt)

-- one of such a text, sent by the peer of that name
pub long_outgoing : (name : Option (List ℕ)) (served : Bool) (builder : BuilderView) (all : List Datum) (bytes fds : List ℕ) (outgoing : OutgoingMessageView) (serial : ℕ) → all ≡ text string bytes ∷ []
    → record { builder = builder; values = all; fds = fds } ≡ outgoing → 4294967295 < length bytes → MakesAt (sent_by name served outgoing) serial (Err Error.ExcessData)
long_outgoing name served builder all bytes fds outgoing serial e is long =
    let whole : OutgoingMessageView = record { builder = builder; values = text string bytes ∷ []; fds = fds } in
    let same : whole ≡ outgoing = ap (λ xs. record { builder = builder; values = xs; fds = fds }) (sym e) ∙ is in
    subst (λ (p : OutgoingMessageView). is_long (sent_by name served p) serial ≡ true) same
    (long_so (sent_by name served whole) serial (inr (fits_one builder.order bytes, long_message (sent_by name served whole) serial (long_body builder.order bytes long))))
