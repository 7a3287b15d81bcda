use Rattle.std.proofs.{Common.{refl, sym, ◌∙◌, ap, arith}, lemmas.Option.{slice_get_read, slice_get_past}}
use Rattle.std.specs.Option.{option_and_then}
use Rattle.peer_conn.specs.{Handles.{open_in, open_at, without_open}, Invariant.PeerStateView}
use Rattle.peer_conn.proofs.Edited.{edit-at}
use Rattle.wire_message.proofs.Edits.{edit-past}
use Rattle.peer_conn.proofs.state.PeerState.hand_in.Goals as goal

pub returns-then-stream-len-clause-stream : goal.returns-then-stream-len-clause-stream
returns-then-stream-len-clause-stream c =
    sym (ap (option_and_then open_in) (slice_get_past c.self.inside.handles.items c.args.stream (omega (arith, c.len.ensures, c.self.inside.handles.ok.0, c.if-stream-len.true)))) ∙ ap (λ (v : PeerStateView). open_at v.handles c.args.stream) c.self.view_is

pub returns-then-stream-len-clause-left : goal.returns-then-stream-len-clause-left
returns-then-stream-len-clause-left c =
    let same = edit-past without_open c.self.inside.handles.items c.args.stream (slice_get_past c.self.inside.handles.items c.args.stream (omega (arith, c.len.ensures, c.self.inside.handles.ok.0, c.if-stream-len.true))) in
    rw (← c.self.view_is) (rw same refl)

pub returns-clause-stream : goal.returns-clause-stream
returns-clause-stream c =
    c.take_open.ensures.stream
    ∙ sym (ap (option_and_then open_in) (slice_get_read c.self.inside.handles.items c.len.result c.args.stream c.index_mut.result.now (c.len.ensures ∙ c.self.inside.handles.ok.0) c.if-stream-len.false c.index_mut.ensures.value))
    ∙ ap (λ (v : PeerStateView). open_at v.handles c.args.stream) c.self.view_is

pub returns-clause-left : goal.returns-clause-left
returns-clause-left c =
    let same = edit-at c.self.inside.handles.items c.args.stream without_open c.index_mut.result.now c.take_open.new.self (omega (arith, c.len.ensures, c.self.inside.handles.ok.0, c.if-stream-len.false)) c.index_mut.ensures.value c.take_open.ensures.left in
    rw (← c.self.view_is) (rw same refl)
