use Rattle.std.proofs.Common.{◌≡◌, sym, ◌∙◌, ap, subst}
use Rattle.peer_route.specs.{Plan.{Plan, plan}, Entries.{replay, past_after}}
use Rattle.peer_route.proofs.Writers.{fine_unfailed}
use Rattle.peer_run.specs.{Names.{SinkView, Entry}, Runs.Flushed}
use Rattle.peer_turns.specs.Objects.{IsPerformed}
use Rattle.peer_turns.proofs.Turned.{still_turned}
use Rattle.peer_run.proofs.{Performing.{performed, none_waits, trail_setting}, Following.all_done, KnownEnd.closed_known}
use Rattle.wire_framing.specs.declared.write_half.WriteHalf.{WriteHalf}
use Rattle.peer_run.proofs.run.perform.Goals as goal

pub returns-clause-running : goal.returns-clause-running
returns-clause-running g c setting start_in now_in start_out es same r =
    let outlet : WriteHalf g.row.W.Denot → SinkView = λ h. g.W.Sink.view h.sink in
    let t = replay setting es in
    let first = c.in_ok-entry.entry in
    let last = c.write_each.new.entry in
    let wrote = c.in_ok-write_each.ensures in
    let takes = ap (λ s. s.takes_fds) (trail_setting setting es) ∙ same in
    let begun = c.in_ok-entry.ensures.going t r.follows.stands (takes ∙ sym c.can_pass_unix_fd.ensures) (closed_known setting es r.follows.legal) in
    let none = all_done setting c.args.state.now es r.follows in
    let going = wrote.goes t begun none in
    let pls : plan t last.lane last.words ≡ plan t first.lane first.words = ap (λ (x : Entry). plan t x.lane x.words) wrote.entry in
    let flushed = subst (λ (p : Plan). Flushed start_out (outlet c.args.writer.now) (outlet c.write_each.new.half) (past_after p last t.past).outbox last.failed c.write_each.new.half.writing) (sym pls)
    (wrote.flushed start_out t begun none takes (fine_unfailed setting es) r.fine r.sinks) in
    let words : last.words ≡ c.args.command.now.words = ap (λ (x : Entry). x.words) wrote.entry ∙ c.in_ok-entry.ensures.command.1 in
    performed setting start_in now_in start_out (outlet c.args.writer.now) (outlet c.write_each.new.half) c.args.state.now c.finish.new.self c.args.writer.now.writing c.write_each.new.half.writing es last
    (subst IsPerformed (sym words) c.requires.performed) r going.acting (c.in_ok-finish.ensures t going) wrote.once flushed wrote.uncounted

pub returns-clause-objects : goal.returns-clause-objects
returns-clause-objects g c = λ t s takes known.
    let wrote = c.in_ok-write_each.ensures in
    let begun = c.in_ok-entry.ensures.going t s (takes ∙ sym c.can_pass_unix_fd.ensures) known in
    let going = wrote.goes t begun (none_waits t c.args.state.now s c.requires.written) in
    still_turned g.R.Registry.meanings t c.in_ok-entry.entry c.write_each.new.entry c.args.service.now c.begin.new.service wrote.entry c.in_ok-entry.ensures.unwritten going.acting (c.in_ok-entry.ensures.objects t s)
