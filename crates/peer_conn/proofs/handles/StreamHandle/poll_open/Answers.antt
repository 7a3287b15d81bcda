-- Only an opening is asked for.
use Rattle.std.proofs.Common.{◌≡◌, ℕ, sym, ap, subst, Some, slice_get}
use Rattle.peer_streams.specs.{History.Stream, Streams.{opening_deeds}}
use Rattle.peer_core.specs.{History.{Past, after_all}, Asked.{opening_answer, opening_events}, Refinement.Refines, Bus.IsShownAs}
use Rattle.peer_route.specs.Answers.{answer_of_opening}
use Rattle.peer_conn.specs.{Names.{OpenState, StreamHandle}, Handles.{IsHandleOf, did_all}}
use Rattle.peer_conn.proofs.{Held.{open_unknown, gone_unknown, opened_held}, RuleStreams.opening_told}
use Rattle.peer_conn.proofs.handles.StreamHandle.poll_open.Goals as goal

-- an open stream isn't asked for
asked_open : (p : Past) (k : ℕ) (s : Stream) (x : StreamHandle) (stream : ℕ) → slice_get p.streams k ≡ Some s → IsHandleOf p.read k s x → StreamHandle.Open stream ≡ x → (opening_answer p k ≡ OpenState.Unknown) × IsHandleOf p.read k s (StreamHandle.Open stream)
asked_open p k s x stream at is e = let its : IsHandleOf p.read k s (StreamHandle.Open stream) = subst (IsHandleOf p.read k s) (sym e) is in (open_unknown p k s at its.1, its)

asked_spent : (p : Past) (k : ℕ) (s : Stream) (x : StreamHandle) → slice_get p.streams k ≡ Some s → IsHandleOf p.read k s x → StreamHandle.Spent ≡ x → opening_answer p k ≡ OpenState.Unknown
asked_spent p k s x at is e = let its : IsHandleOf p.read k s StreamHandle.Spent = subst (IsHandleOf p.read k s) (sym e) is in gone_unknown p k s at its

pub returns-in-Open-clause-answer : goal.returns-in-Open-clause-answer
returns-in-Open-clause-answer c p k s left at is known = ap answer_of_opening (sym (asked_open p k s c.args.self.now c.in-Open.stream at is c.in-Open.ensures.value).0)

pub returns-in-Open-clause-left : goal.returns-in-Open-clause-left
returns-in-Open-clause-left c p k s left at is = subst (λ state. Refines c.args.route.now (after_all (opening_events k state) p)) (sym (asked_open p k s c.args.self.now c.in-Open.stream at is c.in-Open.ensures.value).0) left

pub returns-in-Open-clause-held : goal.returns-in-Open-clause-held
returns-in-Open-clause-held c p k s left at is =
    let its = asked_open p k s c.args.self.now c.in-Open.stream at is c.in-Open.ensures.value in
    subst (λ state. IsHandleOf p.read k (did_all (opening_deeds state) s) (StreamHandle.Open c.in-Open.stream)) (sym its.0) its.1

pub returns-in-Opening-clause-answer : goal.returns-in-Opening-clause-answer
returns-in-Opening-clause-answer c p k s left at is known =
    let its : IsHandleOf p.read k s (StreamHandle.Opening c.in-Opening.opening) = subst (IsHandleOf p.read k s) (sym c.in-Opening.ensures.value) is in
    let shown = subst (λ n. IsShownAs c.in-Opening.opening (opening_answer p n) c.poll_open.result) its.0 (c.poll_open.ensures.shown p left) in
    c.told-handle.ensures.answer c.in-Opening.opening (opening_answer p k) shown ((opening_told p k).1 known)

pub returns-in-Opening-clause-held : goal.returns-in-Opening-clause-held
returns-in-Opening-clause-held c p k s left at is =
    let its : IsHandleOf p.read k s (StreamHandle.Opening c.in-Opening.opening) = subst (IsHandleOf p.read k s) (sym c.in-Opening.ensures.value) is in
    let shown = subst (λ n. IsShownAs c.in-Opening.opening (opening_answer p n) c.poll_open.result) its.0 (c.poll_open.ensures.shown p left) in
    subst (IsHandleOf p.read k (did_all (opening_deeds (opening_answer p k)) s)) (sym (c.told-handle.ensures.held c.in-Opening.opening (opening_answer p k) shown)) (opened_held p k s c.in-Opening.opening at its.0 its.1)

pub returns-in-Spent-clause-answer : goal.returns-in-Spent-clause-answer
returns-in-Spent-clause-answer c p k s left at is known = ap answer_of_opening (sym (asked_spent p k s c.args.self.now at is c.in-Spent.ensures.value))

pub returns-in-Spent-clause-left : goal.returns-in-Spent-clause-left
returns-in-Spent-clause-left c p k s left at is = subst (λ state. Refines c.args.route.now (after_all (opening_events k state) p)) (sym (asked_spent p k s c.args.self.now at is c.in-Spent.ensures.value)) left
