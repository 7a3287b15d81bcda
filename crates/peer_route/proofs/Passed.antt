-- A front that a read ignored changes nothing but how many bytes the reads took.
use Rattle.std.proofs.{Common.{inl, inr, ◌≡◌, ℕ, refl, sym, ◌∙◌, ap, subst, Bool, true, false, List, ◌∷◌, ◌++◌, length, Option, Some, None}, lemmas.List.append-nil}
use Rattle.peer_route.specs.{Names.{MessageView, IgnoredFront, Error, Words, Answer, Entry}, Replay.{Setting, Replay, made_owners}, Plan.{Reads, reads_by, plan}, Entries.{IsMeant, IsQuiet, IsRead, Legal, replay, read_events, more_by}, Laws.with_taken}
use Rattle.peer_core.specs.{History.{Passed, Past, after, after_all}, Asked.{busy}, Refinement.{RouteView, Refines}}
use Rattle.peer_core.proofs.Core.{left_passed}
use Rattle.peer_route.proofs.Kept.{quiet_more}

-- ---- the event

pub core : (p : Past) (bytes : List ℕ) (v : RouteView) → Refines v p → Refines v (after (Passed bytes) p)
core p bytes v left = left_passed v bytes p left

-- ---- the entry

-- what the read leaves
leaves : (t : Replay) (e : Entry) (bytes : List ℕ) → e.read ≡ None → e.answer ≡ Answer.Passed bytes → IsQuiet e → more_by Reads e t ≡ with_taken (length bytes) t
leaves t e bytes read answer quiet =
    quiet_more Reads e t quiet
    ∙ ap (λ es. record { past = after_all es t.past; calls = t.calls; streams = t.streams ++ made_owners (Some e.lane) es; server = t.server; setting = t.setting })
    (ap (λ m. read_events m e.answer) read ∙ ap (read_events None) answer)
    ∙ ap (λ ns. record { past = after (Passed bytes) t.past; calls = t.calls; streams = ns; server = t.server; setting = t.setting }) (append-nil t.streams)

-- only a read of an open peer that isn't busy ignores a front
meant : (t : Replay) (e : Entry) (bytes : List ℕ) → e.answer ≡ Answer.Passed bytes → (shut : Option Error) (full : Bool) → IsMeant t.past (reads_by shut full) e
    → IgnoredFront bytes (length bytes) × (more_by (reads_by shut full) e t ≡ with_taken (length bytes) t)
meant t e bytes a (Some error) full is = let q : Answer.Closed error ≡ Answer.Passed bytes = sym is.1 ∙ a in cc
meant t e bytes a None true is = let q : Answer.Busy ≡ Answer.Passed bytes = sym is.1 ∙ a in cc
meant t e bytes a None false is = by e.read refl is.0
  where
    by : (m : Option MessageView) → e.read ≡ m → IsRead (length t.past.read) m e.answer → IgnoredFront bytes (length bytes) × (more_by Reads e t ≡ with_taken (length bytes) t)
    by (Some m) at found = let q : Answer.Got ≡ Answer.Passed bytes = sym found.0 ∙ a in cc
    by None at (inl end) = let q : Answer.Closed end.0 ≡ Answer.Passed bytes = sym end.1 ∙ a in cc
    by None at (inr passed) =
        let same : passed.0 ≡ bytes = (let q : Answer.Passed passed.0 ≡ Answer.Passed bytes = sym passed.1 ∙ a in cc) in
        (subst (λ bs. IgnoredFront bs (length bs)) same passed.2, leaves t e bytes at a is.1)

pub entry : (setting : Setting) (older : List Entry) (e : Entry) (bytes : List ℕ) → Legal setting (e ∷ older) → e.words ≡ Words.Read → e.answer ≡ Answer.Passed bytes
    → IgnoredFront bytes (length bytes) × (replay setting (e ∷ older) ≡ with_taken (length bytes) (replay setting older))
entry setting older e bytes legal w a =
    let t = replay setting older in
    let means = ap (plan t e.lane) w in
    let is = meant t e bytes a t.past.closing (busy t.past) (subst (λ pl. IsMeant t.past pl e) means legal.0) in
    (is.0, ap (λ pl. more_by pl e t) means ∙ is.1)
