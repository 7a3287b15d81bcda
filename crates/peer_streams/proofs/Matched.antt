-- How far a stream is opened once a message comes. The messages that are a stream's: how many of them it passed, that a message that comes is one more, and that it never passes
-- more than there are.
use Rattle.std.proofs.{Common.{◌≡◌, ◌+◌, ◌≤◌, refl, sym, ◌∙◌, ap, subst, arith, Bool, true, false, if◌then◌else◌, List, [], ◌∷◌, ◌++◌, length, drop, Option, Some, None, length-append}, lemmas.List.Elements.filter-append, lemmas.List.{drop-drop, append-nil, drop-append-le}}
use Rattle.peer_streams.specs.{Names.{MessageView, Rule, accepts}, History.{Received, Request, Stream, Phase, Asking, Denied, Since, phase, fresh, asking_stream, StreamsPast, after, Start, Behind, OnReturn, since_reply, phase_by}, Streams.{since_in, accepted, matched, offered, held}, Refinement.{start_count, IsWithin}}
use Rattle.wire_message.specs.Replying.{replies_to, is_return}

-- ---- how far a stream is opened once a message comes

-- a phase once the message came
abbrev pub stepped : MessageView → Phase → Phase
stepped m (Since ms) = Since (ms ++ m ∷ [])
stepped m (Denied r) = Denied r
stepped m (Asking add) = since_reply add (m ∷ [])

snoc_by : (m x : MessageView) (ms : List MessageView) (b r : Bool) (y z : Phase) → y ≡ stepped m z
    → (if b then (if r then Since (ms ++ m ∷ []) else Denied x) else y) ≡ stepped m (if b then (if r then Since ms else Denied x) else z)
snoc_by m x ms true true y z e = refl
snoc_by m x ms true false y z e = refl
snoc_by m x ms false r y z e = e

since_snoc : (add : Request) (ms : List MessageView) (m : MessageView) → since_reply add (ms ++ m ∷ []) ≡ stepped m (since_reply add ms)
since_snoc add [] m = refl
since_snoc add (x ∷ ms) m = snoc_by m x ms (replies_to add.serial x) (is_return x.kind) (since_reply add (ms ++ m ∷ [])) (since_reply add ms) (since_snoc add ms m)

step_by : (start : Start) (ms : List MessageView) (m : MessageView) → start_count start ≤ length ms → phase_by start (ms ++ m ∷ []) ≡ stepped m (phase_by start ms)
step_by (Behind count) ms m le = ap (λ xs. Since xs) (drop-append-le count ms (m ∷ []) le)
step_by (OnReturn add) ms m le = ap (since_reply add) (drop-append-le add.from ms (m ∷ []) le) ∙ since_snoc add (drop add.from ms) m

pub phase_took : (m : MessageView) (h : StreamsPast) (s : Stream) → start_count s.start ≤ length h.read → phase (after (Received m) h).read s ≡ stepped m (phase h.read s)
unfolding phase
phase_took m h s le = step_by s.start h.read m le

pub phase_same : (g h : StreamsPast) (s : Stream) → g.read ≡ h.read → phase g.read s ≡ phase h.read s
unfolding phase
phase_same g h s e = ap (λ (ms : List MessageView). phase ms s) e

-- ---- which messages are a stream's

-- What stands to a stream, by its count.
pub held_matched : (h : StreamsPast) (s : Stream) → held h.read s ≡ drop (s.skip + s.taken) (matched h.read s)
unfolding held offered
held_matched h s = drop-drop s.taken s.skip (matched h.read s)

pub accepted-append : (rule : Option Rule) (xs ys : List MessageView) → accepted rule (xs ++ ys) ≡ accepted rule xs ++ accepted rule ys
accepted-append None xs ys = refl
accepted-append (Some rule) xs ys = filter-append (accepts rule) xs ys

-- the message, where the stream runs and its rule accepts it
abbrev pub arriving : Phase → Option Rule → MessageView → List MessageView
arriving (Since ms) rule m = accepted rule (m ∷ [])
arriving (Denied r) rule m = []
arriving (Asking add) rule m = []

pub accepted_nothing : (rule : Option Rule) → accepted rule [] ≡ []
accepted_nothing None = refl
accepted_nothing (Some rule) = refl

answered_nothing : (b r : Bool) (add : Request) (m : MessageView) → since_in (if b then (if r then Since [] else Denied m) else Asking add) ≡ []
answered_nothing true true add m = refl
answered_nothing true false add m = refl
answered_nothing false r add m = refl

stepped_accepts : (p : Phase) (rule : Option Rule) (m : MessageView) → accepted rule (since_in (stepped m p)) ≡ accepted rule (since_in p) ++ arriving p rule m
stepped_accepts (Since ms) rule m = accepted-append rule ms (m ∷ [])
stepped_accepts (Denied r) rule m = sym (append-nil (accepted rule []))
stepped_accepts (Asking add) rule m = ap (accepted rule) (answered_nothing (replies_to add.serial m) (is_return m.kind) add m) ∙ sym (append-nil (accepted rule []))

-- a message that comes is one more, if the stream runs and its rule accepts it
pub matched_took : (m : MessageView) (h : StreamsPast) (s : Stream) → start_count s.start ≤ length h.read → matched (after (Received m) h).read s ≡ matched h.read s ++ arriving (phase h.read s) s.rule m
unfolding matched
matched_took m h s le = ap (λ p. accepted s.rule (since_in p)) (phase_took m h s le) ∙ stepped_accepts (phase h.read s) s.rule m

-- what was read says what a stream holds
pub held_same : (g h : StreamsPast) (s : Stream) → g.read ≡ h.read → held g.read s ≡ held h.read s
held_same g h s e = ap (λ (ms : List MessageView). held ms s) e

-- ---- none starts above what was read, or passed more than was its own

pub within_took : (m : MessageView) (h : StreamsPast) (s : Stream) → IsWithin h.read s → IsWithin (after (Received m) h).read s
within_took m h s w =
    let start = w.start in
    let passed = w.passed in
    record {
      start = omega (arith, length-append h.read (m ∷ []));
      passed = subst (λ (ms : List MessageView). s.skip + s.taken ≤ length ms) (sym (matched_took m h s start)) (omega (arith, length-append (matched h.read s) (arriving (phase h.read s) s.rule m)));
    }

pub within_fresh : (h : StreamsPast) (rule : Option Rule) (closing_delivered : Bool) → IsWithin h.read (fresh h rule closing_delivered)
within_fresh h rule closing_delivered = record { start = omega arith; passed = omega arith }

pub within_asking : (h : StreamsPast) (add : Request) (rule : Rule) → add.from ≡ length h.read → IsWithin h.read (asking_stream add rule)
within_asking h add rule e = record { start = omega (arith, e); passed = omega arith }
