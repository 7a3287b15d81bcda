-- What is written of a builder reads again as what the builder holds, whatever follows it.
use Rattle.std.proofs.Common.{◌≡◌, ℕ, Bool, Ok, ◌+◌, ◌<◌, ◌≤◌, ◌^◌, List, ◌++◌, length, take, drop, refl, sym, ap, subst, ◌∙◌, arith, length-append}
use Rattle.std.specs.Int.{w32}
use Rattle.std.proofs.lemmas.List.{take_at}
use Rattle.std.proofs.Math.Seq.{take-length}
use Rattle.wire_number.specs.declared.endian.Endian.{Endian}
use Rattle.wire_number.specs.Number.{number_text, number_at, pad, padding}
use Rattle.wire_message.specs.Field.{Fields, field_list, no_fields}
use Rattle.wire_message.specs.Front.{MessageView, message_view, bare, Front, word_at}
use Rattle.wire_message.specs.FieldOffsets.{found_fields, FieldOffsets, Stands}
use Rattle.wire_message.specs.BuilderView.{BuilderView, builder_fields, header_text, message_text, built, IsBuilder, IsHeaderOf, Builds, ReadsAgain}
use Rattle.wire_message.specs.SerialOrder.{IsSerial, last_after}
use Rattle.wire_message.specs.Valid.{AreFields}
use Rattle.wire_message.proofs.Building.{list-valid, list-short, list-says, HasWords, head-words, head_of, behind, body-put, header-laid, header-length}
use Rattle.wire_message.proofs.Grammar.{order_again}
use Rattle.wire_message.proofs.Lists.{known_fields, known-each, known-text, known-says}
use Rattle.wire_message.proofs.Moved.{front-moved, spans-more}

module _ (builder : BuilderView) (serial : ℕ) (body : List ℕ) where
  pub text-length : length (message_text builder serial body) ≡ 16 + length (builder_fields builder) + pad (16 + length (builder_fields builder)) 8 + length body
  unfolding message_text
  text-length = omega (arith, length-append (header_text builder (length body) serial) body, header-length builder (length body) serial)

  abbrev laid_text : List ℕ
  laid_text = head_of builder (length body) serial (behind builder body)

  laid-is : message_text builder serial body ≡ laid_text
  unfolding message_text
  laid-is = header-laid builder (length body) serial body

  words_of : HasWords builder.order (length body) serial (length (builder_fields builder)) (behind builder body) laid_text
  words_of = head-words builder (length body) serial (behind builder body)

  -- a word of the header, in the order that its first byte names
  word-of : (place n : ℕ) → number_at w32 builder.order place laid_text ≡ n → word_at place laid_text ≡ n
  word-of place n h = ap (λ (o : Endian). number_at w32 o place laid_text) (order_again laid_text builder.order refl) ∙ h

  -- the length of the body, as the header says it
  pub size-read : length body < 2 ^ 32 → word_at 4 (message_text builder serial body) ≡ length body
  size-read h = ap (word_at 4) laid-is ∙ word-of 4 (length body) (words_of.body_is h)

  own-front : IsBuilder builder → 0 < serial → serial < 2 ^ 32 → length (message_text builder serial body) ≤ 134217728
      → Front (message_text builder serial body) (message_view (message_text builder serial body) 0 builder.kind builder.order builder.flags serial builder.fields) (length (message_text builder serial body))
  own-front valid some below limit =
      let fields = builder_fields builder in
      let fs = field_list builder.fields in
      let long : length laid_text ≡ 16 + length fields + pad (16 + length fields) 8 + length body = sym (ap length laid-is) ∙ text-length in
      let short : length laid_text ≤ 134217728 = omega (arith, limit, ap length laid-is) in
      let word4 : word_at 4 laid_text ≡ length body = word-of 4 (length body) (words_of.body_is (omega arith)) in
      let word12 : word_at 12 laid_text ≡ length fields = word-of 12 (length fields) (words_of.size_is (omega arith)) in
      let front : Front laid_text (message_view laid_text 0 builder.kind builder.order builder.flags serial builder.fields) (length laid_text) = record {
        own = sym (take-length laid_text);
        there = omega arith;
        head = omega (arith, long);
        whole = long ∙ ap (λ (n : ℕ). 16 + length fields + pad (16 + length fields) 8 + n) (sym word4) ∙ ap (λ (n : ℕ). 16 + n + pad (16 + n) 8 + word_at 4 laid_text) (sym word12);
        limit = short;
        order = refl;
        type = refl;
        flags = omega (arith, valid.flags);
        serial = sym (word-of 8 serial (words_of.serial_is below));
        not_zero = some;
        fds = refl;
        fields = (
          known_fields fs,
          known-each builder.order fs 16 (list-short builder.order 16 fs (list-valid builder.fields valid.fields) (omega (arith, long))),
          ap (λ (n : ℕ). take n (drop 16 laid_text)) word12 ∙ ap (take (length fields)) words_of.rest_is ∙ take_at fields (padding (16 + length fields) 8 ++ body) (length fields) refl
              ∙ sym (known-text builder.order 16 fs),
          sym (known-says no_fields fs ∙ list-says builder.fields),
        );
      } in
      subst (λ (l : List ℕ). Front l (message_view l 0 builder.kind builder.order builder.flags serial builder.fields) (length l)) (sym laid-is) front

-- ---- of what was built

pub builder_again : (builder : BuilderView) (serial : ℕ) (body : List ℕ) → IsBuilder builder → 0 < serial → serial < 2 ^ 32 → length (message_text builder serial body) ≤ 134217728 → ReadsAgain (built builder serial body)
unfolding built
builder_again builder serial body valid some below limit = λ more.
    let text = message_text builder serial body in
    front-moved text (text ++ more) _ (length text) (own-front builder serial body valid some below limit) (omega (arith, length-append text more)) (take-length text ∙ sym (take_at text more (length text) refl))

pub again-of : (builder : BuilderView) (serial : ℕ) (body : List ℕ) (m : MessageView) → IsBuilder builder → 0 < serial → serial < 2 ^ 32 → bare m ≡ built builder serial body → length m.bytes ≤ 134217728 → ReadsAgain m
unfolding built
again-of builder serial body m valid some below e limit =
    let short : length (message_text builder serial body) ≤ 134217728 = omega (arith, limit, ap (λ (x : MessageView). length x.bytes) e) in
    subst (λ (x : MessageView). ReadsAgain x) (sym e) (builder_again builder serial body valid some below short)

-- how long a body is with its header
pub behind-length : (builder : BuilderView) (serial : ℕ) (head body mid : List ℕ) → head ≡ header_text builder 0 serial → mid ≡ head ++ body → length mid ≡ length (message_text builder serial body)
behind-length builder serial head body mid e m = omega (arith, ap length m, length-append head body, ap length e, header-length builder 0 serial, text-length builder serial body)

-- Bytes that were written of a builder, and the offsets of its fields in them.
pub record Written (builder : BuilderView) (serial : ℕ) (body text : List ℕ) (offsets : FieldOffsets) : Type 0 where
  pub long : length text ≤ 134217728
  pub stands : Stands text builder.kind builder.order builder.flags serial offsets
  pub message : message_view text 0 builder.kind builder.order builder.flags serial (found_fields text offsets) ≡ built builder serial body

-- A body behind its header, whose length is put into the header.
pub written : (builder : BuilderView) (serial size : ℕ) (head body mid text : List ℕ) (offsets : FieldOffsets) → IsBuilder builder → 0 < serial → serial < 2 ^ 32 → length mid ≤ 134217728
    → IsHeaderOf builder serial head offsets → mid ≡ head ++ body → text ≡ take 4 mid ++ (number_text w32 builder.order size ++ drop 8 mid) → size ≡ length body → Written builder serial body text offsets
unfolding message_text built
written builder serial size head body mid text offsets valid some below limit h m t s =
    let e = h.written in
    let rest = behind builder body in
    let first : mid ≡ head_of builder 0 serial rest = m ∙ ap (λ (l : List ℕ). l ++ body) e ∙ header-laid builder 0 serial body in
    let whole : text ≡ header_text builder (length body) serial ++ body =
    t ∙ ap (λ (l : List ℕ). take 4 l ++ (number_text w32 builder.order size ++ drop 8 l)) first
    ∙ body-put builder.order builder.kind builder.flags 0 serial (length (builder_fields builder)) size rest
    ∙ ap (λ (n : ℕ). head_of builder n serial rest) s ∙ sym (header-laid builder (length body) serial body) in
    let long : length text ≤ 134217728 = omega (arith, limit, ap length whole, behind-length builder serial head body mid e m) in
    let short : length (message_text builder serial body) ≤ 134217728 = omega (arith, long, ap length whole) in
    let more : length head ≤ length text = omega (arith, ap length whole, behind-length builder serial head body mid e m, ap length m, length-append head body) in
    let says : found_fields text offsets ≡ builder.fields = ap (λ (l : List ℕ). found_fields l offsets) whole ∙ h.found (length body) body in
    record {
      long = long;
      stands = record {
        front = subst (λ (x : Fields). Front text (message_view text 0 builder.kind builder.order builder.flags serial x) (length text)) (sym says)
            (subst (λ (l : List ℕ). Front l (message_view l 0 builder.kind builder.order builder.flags serial builder.fields) (length l)) (sym whole) (own-front builder serial body valid some below short));
        spans = spans-more (length head) (length text) offsets more h.spans;
        valid = subst (λ (x : Fields). AreFields x) (sym says) valid.fields;
      };
      message = ap (λ (x : Fields). message_view text 0 builder.kind builder.order builder.flags serial x) says ∙ ap (λ (l : List ℕ). message_view l 0 builder.kind builder.order builder.flags serial builder.fields) whole;
    }

-- the message with the serial that it was given
pub builds-ok : (taken : ℕ → Bool) (builder : BuilderView) (body : List ℕ) (old new serial : ℕ) (m : MessageView) → IsSerial taken builder.serial old serial → new ≡ last_after builder.serial old serial
    → (m ≡ built builder serial body) × (length m.bytes ≤ 134217728) → Builds taken builder body old new (Ok m)
unfolding built
builds-ok taken builder body old new serial m given last made =
    let same : m.serial ≡ serial = ap (λ (x : MessageView). x.serial) made.0 in (
      subst (λ (k : ℕ). IsSerial taken builder.serial old k) (sym same) given,
      last ∙ ap (λ (k : ℕ). last_after builder.serial old k) (sym same),
      made.1,
      made.0 ∙ ap (λ (k : ℕ). built builder k body) (sym same),
    )
