use Rattle.std.proofs.{Common.{ℕ, ◌≡◌, ◌+◌, refl, sym, ◌∙◌, ap, subst, arith, true, false, length, slice_get, Some}, lemmas.Option.slice_get_within}
use Rattle.std.specs.Option.{option_copied}
use Rattle.peer_route.specs.{Plan.{Plan, plan}, Entries.{past_after, write_fault}}
use Rattle.peer_conn.proofs.Laid.{plan_does}
use Rattle.peer_run.specs.{Names.{SinkView, Entry, cause}, Runs.Flushed}
use Rattle.wire_framing.specs.declared.write_half.WriteHalf.{WriteHalf}
use Rattle.peer_run.proofs.Flushing.{send_grows, flushed_first, flushed_more, flushed_over}
use Rattle.peer_run.proofs.writing.write_each.Goals as goal

-- an entry of which nothing but the count changed, and then the count
more_of : (i e x : Entry) (n : ℕ) → e ≡ record i { written = e.written } → x ≡ record e { written = n } → x ≡ record i { written = x.written }
more_of i e x n same is = is ∙ ap (λ (y : Entry). record y { written = n }) same ∙ ap (λ k. record i { written = k }) (sym (ap (λ (y : Entry). y.written) is))

pub loop-message-init : goal.loop-message-init
loop-message-init g c = record {
  unfailed = c.requires.later.1;
  entry = refl;
  within = omega (arith, c.requires.later.0);
  goes = λ t going none. going;
  flushed = λ start t going none takes calm fine sinks.
      flushed_first start _ t (plan t c.args.entry.now.lane c.args.entry.now.words) c.args.entry.now c.args.half.now.writing (plan_does t c.args.entry.now.lane c.args.entry.now.words) going.acting c.requires.later fine sinks;
  grows = omega arith;
  takes = refl;
  uncounted = refl;
  same = refl;
}

pub wrote-requires : goal.wrote-requires
wrote-requires g c =
    let inv = c.loop-message.invariant in
    let goes = c.requires.goes in
    record { may = (inv.unfailed, slice_get_within c.loop-message.entry.put c.loop-message.entry.written c.in-Some.message.now (sym c.message_at.ensures ∙ ap option_copied c.in-Some.is), (goes.0, inv.goes goes.0 goes.1 goes.2, goes.2)) }

pub write_failed-requires : goal.write_failed-requires
write_failed-requires g c =
    let inv = c.loop-message.invariant in
    let goes = c.requires.goes in
    record { may = (inv.unfailed, slice_get_within c.loop-message.entry.put c.loop-message.entry.written c.in-Some.message.now (sym c.message_at.ensures ∙ ap option_copied c.in-Some.is), (goes.0, inv.goes goes.0 goes.1 goes.2, goes.2)) }

pub returns-in_err-went_out-clause-grows : goal.returns-in_err-went_out-clause-grows
returns-in_err-went_out-clause-grows g c =
    let more = send_grows (λ (h : WriteHalf g.row.W.Denot). g.W.Sink.view h.sink) c.loop-message.half c.send_message.new.self _ _ c.send_message.result _ _ c.send_message.ensures.unsupported c.send_message.ensures.over c.send_message.ensures.sends in
    omega (arith, c.loop-message.invariant.grows, more)

pub returns-then-not-branch-clause-grows : goal.returns-then-not-branch-clause-grows
returns-then-not-branch-clause-grows g c =
    let more = send_grows (λ (h : WriteHalf g.row.W.Denot). g.W.Sink.view h.sink) c.loop-message.half c.send_message.new.self _ _ c.send_message.result _ _ c.send_message.ensures.unsupported c.send_message.ensures.over c.send_message.ensures.sends in
    omega (arith, c.loop-message.invariant.grows, more)

pub returns-then-not-branch-clause-flushed : goal.returns-then-not-branch-clause-flushed
returns-then-not-branch-clause-flushed g c start t going none takes calm fine sinks =
    let inv = c.loop-message.invariant in
    let outlet : WriteHalf g.row.W.Denot → SinkView = λ h. g.W.Sink.view h.sink in
    let first = c.args.entry.now in
    let e = c.loop-message.entry in
    let there : slice_get e.put e.written ≡ Some c.in-Some.message.now = sym c.message_at.ensures ∙ ap option_copied c.in-Some.is in
    let pls : plan t e.lane e.words ≡ plan t first.lane first.words = ap (λ (x : Entry). plan t x.lane x.words) inv.entry in
    let f = subst (λ (p : Plan). Flushed start (outlet c.args.half.now) (outlet c.loop-message.half) (past_after p e t.past).outbox false c.loop-message.half.writing) (sym pls) (inv.flushed start t going none takes calm fine sinks) in
    let over = flushed_over start (outlet c.args.half.now) (outlet c.loop-message.half) (outlet c.send_message.new.self) c.loop-message.state t e c.in-Some.message.now c.send_message.result c.loop-message.half.writing c.send_message.new.self.writing
    (g.W.Sink.takes c.loop-message.half.sink) (inv.goes t going none) none inv.unfailed (slice_get_within e.put e.written c.in-Some.message.now there) (takes ∙ sym inv.takes) calm there
    (λ taken fine. c.send_message.ensures.sends taken (ap cause fine)) f (sym c.if-not-branch.true ∙ c.in_ok-went_out.ensures.0) c.in_ok-went_out.ensures.1 in
    rw (c.write_failed.ensures.entry)
    (subst (λ (p : Plan). Flushed start (outlet c.args.half.now) (outlet c.send_message.new.self) (past_after p (record e { failed = true; answer = write_fault }) t.past).outbox true c.send_message.new.self.writing) pls over)

pub loop-message-preserved : goal.loop-message-preserved
loop-message-preserved g c =
    let inv = c.loop-message.invariant in
    let outlet : WriteHalf g.row.W.Denot → SinkView = λ h. g.W.Sink.view h.sink in
    let first = c.args.entry.now in
    let e = c.loop-message.entry in
    let next = c.wrote.ensures.entry in
    let there : slice_get e.put e.written ≡ Some c.in-Some.message.now = sym c.message_at.ensures ∙ ap option_copied c.in-Some.is in
    let within = slice_get_within e.put e.written c.in-Some.message.now there in
    let count : c.wrote.new.entry.written ≡ e.written + 1 = ap (λ (x : Entry). x.written) next in
    let long : length c.wrote.new.entry.put ≡ length e.put = ap (λ (x : Entry). length x.put) next in
    record {
      unfailed = ap (λ (x : Entry). x.failed) next ∙ inv.unfailed;
      entry = more_of first e c.wrote.new.entry (e.written + 1) inv.entry next;
      within = omega (arith, count, long, within);
      goes = λ t going none. c.wrote.ensures.going t (inv.goes t going none) none;
      flushed = λ start t going none takes calm fine sinks.
          let pls : plan t e.lane e.words ≡ plan t first.lane first.words = ap (λ (x : Entry). plan t x.lane x.words) inv.entry in
          let f = subst (λ (p : Plan). Flushed start (outlet c.args.half.now) (outlet c.loop-message.half) (past_after p e t.past).outbox false c.loop-message.half.writing) (sym pls) (inv.flushed start t going none takes calm fine sinks) in
          let more = flushed_more start (outlet c.args.half.now) (outlet c.loop-message.half) (outlet c.send_message.new.self) c.loop-message.state t e c.in-Some.message.now c.send_message.result c.loop-message.half.writing
          c.send_message.new.self.writing (g.W.Sink.takes c.loop-message.half.sink) (inv.goes t going none) none inv.unfailed within (takes ∙ sym inv.takes) calm there
          (λ taken fine. c.send_message.ensures.sends taken (ap cause fine)) f (sym c.if-not-branch.false ∙ c.in_ok-went_out.ensures.0) in
          subst (λ (x : Entry). Flushed start (outlet c.args.half.now) (outlet c.send_message.new.self) (past_after (plan t first.lane first.words) x t.past).outbox false c.send_message.new.self.writing) (sym next)
          (subst (λ (p : Plan). Flushed start (outlet c.args.half.now) (outlet c.send_message.new.self) (past_after p (record e { written = e.written + 1 }) t.past).outbox false c.send_message.new.self.writing) pls more);
      grows = omega (arith, inv.grows, send_grows (λ (h : WriteHalf g.row.W.Denot). g.W.Sink.view h.sink) c.loop-message.half c.send_message.new.self _ _ c.send_message.result _ _ c.send_message.ensures.unsupported c.send_message.ensures.over c.send_message.ensures.sends);
      takes = c.send_message.ensures.fds ∙ inv.takes;
      uncounted = c.send_message.ensures.uncounted ∙ inv.uncounted;
      same = c.send_message.ensures.same ∙ inv.same;
    }
