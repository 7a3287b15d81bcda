-- Building with a body: what each step refuses, building does.
use Rattle.std.proofs.Common.{◌≡◌, ℕ, ◌<◌, ◌++◌, ◌⊎◌, Bool, List, length, Ok, Err, arith, length-append, inl, inr}
use Rattle.wire_codec.proofs.Fits.{Decided}
use Rattle.wire_message.specs.Bodies.{BuildsOf, IsExcess, MakesOf}
use Rattle.wire_message.specs.SerialOrder.{IsSerial, last_after}
use Rattle.wire_message.specs.Content.{IsNotAppended}
use Rattle.wire_message.specs.BuilderView.{BuilderView, header_text, message_text, Writes}
use Rattle.wire_message.specs.Front.{MessageView, bare}
use Rattle.wire_message.specs.declared.error.Error.{Error}
use Rattle.wire_message.specs.declared.error.Error.TheVariants as errors
use Rattle.wire_message.proofs.Building.{header-length}
use Rattle.wire_message.proofs.Law.{builds-ok}

-- ---- the message of a body

module _ (builder : BuilderView) (text : List ℕ) (shallow fits : Type 0) (fds : List ℕ) where
  either : (n : ℕ) → Decided fits → 134217728 < n → (fits → ⊥) ⊎ (fits × (134217728 < n))
  either n (inl f) h = inl f
  either n (inr k) h = inr (k, h)

  pub header-refused : (serial : ℕ) (e : Error) → Decided fits → shallow → Writes (λ (x : List ℕ). x) (Err e) (header_text builder 0 serial)
      → MakesOf builder serial text shallow fits fds (Err e)
  unfolding message_text
  header-refused serial errors.ExcessData k s h =
      let head = header_text builder (length text) serial in
      let long : 134217728 < length (head ++ text) = omega (arith, h, header-length builder 0 serial, header-length builder (length text) serial, length-append head text) in
      (s, either (length (head ++ text)) k long)
  header-refused serial errors.Memory k s h = tt
  header-refused serial other k s h = absurd h

  longer : (serial : ℕ) → IsExcess fits text → IsExcess fits (message_text builder serial text)
  unfolding message_text
  longer serial (inl f) = inl f
  longer serial (inr p) = inr (p.0, (let h : 134217728 < length text = p.1 in omega (arith, length-append (header_text builder (length text) serial) text)))

  pub body-refused : (serial : ℕ) (e : Error) → shallow → IsNotAppended e text fits → MakesOf builder serial text shallow fits fds (Err e)
  body-refused serial errors.ExcessData s h = (s, longer serial h)
  body-refused serial errors.Memory s h = tt
  body-refused serial other s h = absurd h

  -- ---- with the serial that was drawn

  pub builds-it : (taken : ℕ → Bool) (old new serial : ℕ) (m : MessageView) → IsSerial taken builder.serial old serial → new ≡ last_after builder.serial old serial
      → MakesOf builder serial text shallow fits fds (Ok m) → BuildsOf taken builder text shallow fits fds old new (Ok m)
  builds-it taken old new serial m s l made = (made.0, made.1, (builds-ok taken builder text old new serial (bare m) s l (made.2, made.3), made.4))
