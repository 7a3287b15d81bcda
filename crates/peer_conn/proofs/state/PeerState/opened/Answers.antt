-- The lane's handle is asked, if it has one.
use Rattle.std.proofs.{Common.{◌≡◌, ◌∙◌, sym, subst, refl, arith, set}, lemmas.Option.{slice_get_read, slice_get_past}}
use Rattle.std.specs.List.{slice_set}
use Rattle.peer_core.specs.{Asked.{opening_answer, opening_events}, History.after_all}
use Rattle.peer_conn.specs.{Handles.HasHandles, Invariant.{StateInvariant}}
use Rattle.peer_conn.proofs.Edited.{edit-at}
use Rattle.wire_message.proofs.Edits.{set_edit}
use Rattle.peer_conn.proofs.{Held.{past_unknown, its_handle, held_opened}, RuleStreams.{opened_did, unasked_did}}
use Rattle.peer_conn.proofs.state.PeerState.opened.Goals as goal

pub returns-then-stream-len-clause-did : goal.returns-then-stream-len-clause-did
returns-then-stream-len-clause-did c t lane s known =
    let before : StateInvariant _ t = subst (λ v. StateInvariant v t) (sym c.self.view_is) s in
    let none = slice_get_past c.self.inside.handles.items c.args.stream (omega (arith, c.len.ensures, c.self.inside.handles.ok.0, c.if-stream-len.true)) in
    rw (c.unknown.ensures) (unasked_did c.args.self.now t lane c.args.stream s (past_unknown t.past c.self.inside.handles.items c.args.stream before.keeps.held none))

pub returns-clause-did : goal.returns-clause-did
returns-clause-did c t lane s known =
    let before : StateInvariant _ t = subst (λ v. StateInvariant v t) (sym c.self.view_is) s in
    let hs = c.self.inside.handles.items in
    let k = c.args.stream in
    let x = c.poll_open.new.self in
    let at = slice_get_read hs c.len.result k c.index_mut.result.now (c.len.ensures ∙ c.self.inside.handles.ok.0) c.if-stream-len.false c.index_mut.ensures.value in
    let its = its_handle t.past hs k c.index_mut.result.now before.keeps.held at in
    let new : set hs k x ≡ slice_set hs k x =
    edit-at hs k (λ _. x) c.index_mut.result.now x (omega (arith, c.len.ensures, c.self.inside.handles.ok.0, c.if-stream-len.false)) c.index_mut.ensures.value refl ∙ sym (set_edit hs k x) in
    let held = held_opened t.past hs k its.0 x (opening_answer t.past k) its.1 (c.poll_open.ensures.held t.past k its.0 before.keeps.left its.1 its.2) before.keeps.held in
    opened_did _ (record { core = c.poll_open.new.route; calls = c.self.inside.calls; streams = c.self.inside.streams; server = c.self.inside.server; makes = c.self.inside.makes; handles = set hs k x; given = c.self.inside.given.items }) t lane k c.poll_open.result before
    (subst (HasHandles (after_all (opening_events k (opening_answer t.past k)) t.past)) (sym new) held) refl (c.poll_open.ensures.left t.past k its.0 before.keeps.left its.1 its.2) (c.poll_open.ensures.answer t.past k its.0 before.keeps.left its.1 its.2 known)
