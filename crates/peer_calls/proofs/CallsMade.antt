-- What holds of each past: none of its calls was put before more messages were read than there are, their places in the outbox
-- rise, and a writer that was closed is a closed peer's.
use Rattle.peer_calls.specs.{History.{call_by, CallsEvent, PeerClosed, Put, OfLane, WriteFailed, CallFinished, AddMatch, RemoveMatch, Call, spend, fail_at, worse, CallsPast, after, no_past}, Names.{Writer, MessageView, Error}, Refinement.{Rising, AreSound}}
use Rattle.wire_message.specs.Plain.{edit, first_of}
use Rattle.std.proofs.{Common.{◌≡◌, ℕ, ◌≤◌, zero, suc, refl, sym, ◌∙◌, ap, arith, subst, true, false, is_some, Option, Some, None, List, [], ◌∷◌, ◌++◌, length, map, length-append, ◌<◌}, lemmas.List.map-append}
use Rattle.std.specs.List.{AllByRecursion}
use Rattle.peer_calls.proofs.Rising.{Below, Below-more, Rising-push}
use Rattle.wire_message.proofs.Edits.{all_push}

abbrev pub places : List Call → List ℕ
places cs = map (λ c. c.index) cs

pub places-edit : (k : ℕ) (cs : List Call) → places (edit k spend cs) ≡ places cs
places-edit k [] = refl
places-edit zero (c ∷ cs) = refl
places-edit (suc k) (c ∷ cs) = ap (λ ns. c.index ∷ ns) (places-edit k cs)

pub places-fail : (n : ℕ) (cs : List Call) → places (map (fail_at n) cs) ≡ places cs
places-fail n [] = refl
places-fail n (c ∷ cs) = ap (λ ns. c.index ∷ ns) (places-fail n cs)

-- ---- from

abbrev pub Early : ℕ → List Call → Type 0
Early n cs = AllByRecursion (λ (c : Call). c.from ≤ n) cs

-- ---- each event

-- one message more, with a call that has its place
grown : (ms : List MessageView) (m : MessageView) (cs : List Call) (c : Call) → c.index ≡ length ms → Below (length ms) (places cs) → Rising (places cs)
    → Below (length (ms ++ m ∷ [])) (places (cs ++ c ∷ [])) × Rising (places (cs ++ c ∷ []))
grown ms m cs c at b r =
    let P : List ℕ → Type 0 = λ ns. Below (length (ms ++ m ∷ [])) ns × Rising ns in
    subst P (ap (λ n. places cs ++ n ∷ []) (sym at) ∙ sym (map-append (λ (d : Call). d.index) cs (c ∷ [])))
    (all_push (λ x. x < length (ms ++ m ∷ [])) (places cs) (length ms) (omega (arith, length-append ms (m ∷ []))) (Below-more (length ms) (length (ms ++ m ∷ [])) (places cs) (omega (arith, length-append ms (m ∷ []))) b), Rising-push (length ms) (places cs) b r)

first_there : (o : Option Error) (error : Error) → is_some (first_of o error) ≡ true
first_there None error = refl
first_there (Some earlier) error = refl

worse_closed : (w : Writer) → worse w Writer.Failed ≡ Writer.Closed → w ≡ Writer.Closed
worse_closed Writer.Fine e = absurd (cc)
worse_closed Writer.Failed e = absurd (cc)
worse_closed Writer.Closed e = refl

abbrev pub IsSound : CallsPast → Type 0
IsSound h = AreSound h.outbox.put h.outbox.writer h.closing h.calls

pub sound_first : IsSound no_past
sound_first = record { below = tt; rise = tt; shut = λ e. absurd (cc) }

pub sound_after : (e : CallsEvent) (h : CallsPast) → IsSound h → IsSound (after e h)
sound_after (Put m (OfLane true)) h s = let g = grown h.outbox.put m h.calls (call_by h m false) refl s.below s.rise in record { below = g.0; rise = g.1; shut = s.shut }
sound_after (Put m (OfLane false)) h s = record {
  below = Below-more (length h.outbox.put) (length (h.outbox.put ++ m ∷ [])) (places h.calls) (omega (arith, length-append h.outbox.put (m ∷ []))) s.below;
  rise = s.rise;
  shut = s.shut;
}
sound_after (Put m (AddMatch rule asked)) h s = let g = grown h.outbox.put m h.calls (call_by h m true) refl s.below s.rise in record { below = g.0; rise = g.1; shut = s.shut }
sound_after (Put m RemoveMatch) h s = let g = grown h.outbox.put m h.calls (call_by h m true) refl s.below s.rise in record { below = g.0; rise = g.1; shut = s.shut }
sound_after (CallFinished k) h s = record {
  below = subst (Below (length h.outbox.put)) (sym (places-edit k h.calls)) s.below;
  rise = subst Rising (sym (places-edit k h.calls)) s.rise;
  shut = s.shut;
}
sound_after WriteFailed h s = record {
  below = subst (Below (length h.outbox.put)) (sym (places-fail h.outbox.done h.calls)) s.below;
  rise = subst Rising (sym (places-fail h.outbox.done h.calls)) s.rise;
  shut = λ e. s.shut (worse_closed h.outbox.writer e);
}
sound_after (PeerClosed error) h s = record { below = s.below; rise = s.rise; shut = λ e. first_there h.closing error }
sound_after e h s = record { below = s.below; rise = s.rise; shut = s.shut }
