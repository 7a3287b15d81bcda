use Rattle.std.proofs.Common.{ℕ, ◌∙◌, ◌<◌, ◌+◌, ◌-◌, ◌^◌, refl, arith, Ok, Err}
use Rattle.std.proofs.lemmas.Result.{err_from_is_err_and}
use Rattle.wire_message.specs.declared.error.Error.TheVariants as errors
use Rattle.wire_message.specs.declared.error.IoKind.TheVariants as kinds
use Rattle.wire_framing.specs.Views.{SourceView, SinkView}
use Rattle.watch_tool.specs.Reading.{Finds}
use Rattle.watch_tool.specs.Watching.{Watches, HidesNoFault}
use Rattle.watch_tool.specs.Traffic.{messages_of}
use Rattle.watch_tool.specs.Report.{lines}
use Rattle.watch_tool.proofs.Appending.{some_nothing, some_then, shows_some, closes_some}
use Rattle.watch_tool.proofs.Went.{Went, start_went, next_went, count_le}
use Rattle.watch_tool.proofs.Ending.{over_found, over_last, closes_watches, shows_watches, error_hides_none, found_hides_none, last_hides_none, carried, found_in, widens_then, widens_nothing}
use Rattle.watch_tool.proofs.Options.{if_it_is}
use Rattle.watch_tool.proofs.monitoring.watch.Goals as goal

pub loop-fronts-init : goal.loop-fronts-init
loop-fronts-init g c =
    let start : SourceView = g.S.Source.view c.args.half.now.source in
    let first : SinkView = g.K.Sink.view c.args.sink.now in
    record {
      few = omega arith;
      within = omega arith;
      empty = c.new-kept.ensures.items;
      went = if_it_is start.left (λ bytes. Went c.args.rules.now bytes 0 0 start start first first) (λ bytes is. start_went c.args.rules.now bytes start first is);
      source = omega arith;
      sink = refl;
      width = widens_nothing start.widest 65536;
      from = refl;
      appends = some_nothing first;
      uncounted = refl;
      fds = refl;
      to = refl;
    }

pub loop-fronts-preserved : goal.loop-fronts-preserved
loop-fronts-preserved g c =
    let inv = c.loop-fronts.invariant in
    let start : SourceView = g.S.Source.view c.args.half.now.source in
    let now : SourceView = g.S.Source.view c.loop-fronts.half.source in
    let new : SourceView = g.S.Source.view c.read_front.new.half.source in
    let first : SinkView = g.K.Sink.view c.args.sink.now in
    let sink : SinkView = g.K.Sink.view c.loop-fronts.sink in
    let last : SinkView = g.K.Sink.view c.show.new.sink in
    let fronts = c.loop-fronts.fronts in
    let count = c.loop-fronts.count in
    let next = c.in_ok-count-in-Ok.count in
    let r = c.in-Ok.received in
    let more = count_le r count in
    let is = c.in_ok-count-in-Ok.ensures.count in
    let fewer = inv.few in
    let some : fronts < 2 ^ 64 - 2 = c.loop-fronts-test.true in
    record {
      few = omega (arith, more, is, fewer);
      within = omega (arith, some);
      empty = c.in-Ok.ensures.empty (λ e. cc);
      went = carried start.left (λ bytes. Went c.args.rules.now bytes fronts count start now first sink) (λ bytes. Went c.args.rules.now bytes (fronts + 1) next start new first last)
          (λ bytes at w. next_went c.args.rules.now bytes fronts count next start now new first sink w r some
          (found_in now.left w.rest (λ bs. Finds (Ok r) count bs now new) w.left c.in-Ok.ensures.finds) is last c.in_ok-count-in-Ok.ensures.bytes) inv.went;
      source = omega (arith, inv.source, c.in-Ok.ensures.grows);
      sink = c.in_ok-count-in-Ok.ensures.bytes.2 ∙ inv.sink;
      width = widens_then start.widest now.widest new.widest 65536 inv.width c.in-Ok.ensures.width;
      from = c.in-Ok.ensures.same ∙ inv.from;
      appends = some_then first sink last inv.appends (lines c.args.rules.now (messages_of r), c.in_ok-count-in-Ok.ensures.bytes.0);
      uncounted = c.in_ok-count-in-Ok.ensures.uncounted ∙ inv.uncounted;
      fds = c.in_ok-count-in-Ok.ensures.fds ∙ inv.fds;
      to = c.in_ok-count-in-Ok.ensures.same ∙ inv.to;
    }

pub returns-in_err-count-in-Ok-clause-watches : goal.returns-in_err-count-in-Ok-clause-watches
returns-in_err-count-in-Ok-clause-watches g c =
    let inv = c.loop-fronts.invariant in
    let p = err_from_is_err_and c.from_residual.result c.from_residual.ensures.1 in
    let start : SourceView = g.S.Source.view c.args.half.now.source in
    let now : SourceView = g.S.Source.view c.loop-fronts.half.source in
    let new : SourceView = g.S.Source.view c.read_front.new.half.source in
    let first : SinkView = g.K.Sink.view c.args.sink.now in
    let sink : SinkView = g.K.Sink.view c.loop-fronts.sink in
    let last : SinkView = g.K.Sink.view c.show.new.sink in
    let fronts = c.loop-fronts.fronts in
    let count = c.loop-fronts.count in
    let r = c.in-Ok.received in
    let e = c.in_err-count-in-Ok.field-0.0 in
    rw (p.1, p.2)
    (carried start.left (λ bytes. Went c.args.rules.now bytes fronts count start now first sink)
    (λ bytes. Watches (Err e) c.args.rules.now bytes (record { source = start; source' = new; sink = first; sink' = last }))
    (λ bytes at w. shows_watches c.args.rules.now bytes fronts count start now new first sink last w c.loop-fronts-test.true r e
    (found_in now.left w.rest (λ bs. Finds (Ok r) count bs now new) w.left c.in-Ok.ensures.finds) c.in_err-count-in-Ok.ensures.bytes) inv.went)

pub returns-in-Err-clause-watches : goal.returns-in-Err-clause-watches
returns-in-Err-clause-watches g c =
    let inv = c.loop-fronts.invariant in
    let start : SourceView = g.S.Source.view c.args.half.now.source in
    let now : SourceView = g.S.Source.view c.loop-fronts.half.source in
    let new : SourceView = g.S.Source.view c.read_front.new.half.source in
    let first : SinkView = g.K.Sink.view c.args.sink.now in
    let sink : SinkView = g.K.Sink.view c.loop-fronts.sink in
    let last : SinkView = g.K.Sink.view c.close.new.sink in
    let fronts = c.loop-fronts.fronts in
    let count = c.loop-fronts.count in
    let e = c.in-Err.error in
    carried start.left (λ bytes. Went c.args.rules.now bytes fronts count start now first sink)
    (λ bytes. Watches c.close.result c.args.rules.now bytes (record { source = start; source' = new; sink = first; sink' = last }))
    (λ bytes at w. closes_watches c.args.rules.now bytes fronts count start now new first sink last w inv.within e
    (over_found fronts count w.rest start.stop now new e c.loop-fronts-test.true w.stop (found_in now.left w.rest (λ bs. Finds (Err e) count bs now new) w.left c.in-Err.ensures.finds))
    c.close.result c.close.ensures.closes) inv.went

pub returns-clause-watches : goal.returns-clause-watches
returns-clause-watches g c =
    let inv = c.loop-fronts.invariant in
    let start : SourceView = g.S.Source.view c.args.half.now.source in
    let now : SourceView = g.S.Source.view c.loop-fronts.half.source in
    let first : SinkView = g.K.Sink.view c.args.sink.now in
    let sink : SinkView = g.K.Sink.view c.loop-fronts.sink in
    let last : SinkView = g.K.Sink.view c.close-2.new.sink in
    let fronts = c.loop-fronts.fronts in
    let count = c.loop-fronts.count in
    let e = errors.InputOutput kinds.Ended in
    carried start.left (λ bytes. Went c.args.rules.now bytes fronts count start now first sink)
    (λ bytes. Watches c.close-2.result c.args.rules.now bytes (record { source = start; source' = now; sink = first; sink' = last }))
    (λ bytes at w. closes_watches c.args.rules.now bytes fronts count start now now first sink last w inv.within e
    (over_last fronts count w.rest start.stop now.left c.loop-fronts-test.false) c.close-2.result c.close-2.ensures.closes) inv.went

pub returns-in_err-count-in-Ok-clause-no_fault : goal.returns-in_err-count-in-Ok-clause-no_fault
returns-in_err-count-in-Ok-clause-no_fault g c =
    let p = err_from_is_err_and c.from_residual.result c.from_residual.ensures.1 in
    let start : SourceView = g.S.Source.view c.args.half.now.source in
    error_hides_none c.from_residual.result p.0 start.left start.stop p.1

pub returns-in-Err-clause-no_fault : goal.returns-in-Err-clause-no_fault
returns-in-Err-clause-no_fault g c =
    let start : SourceView = g.S.Source.view c.args.half.now.source in
    let now : SourceView = g.S.Source.view c.loop-fronts.half.source in
    let new : SourceView = g.S.Source.view c.read_front.new.half.source in
    let first : SinkView = g.K.Sink.view c.args.sink.now in
    let sink : SinkView = g.K.Sink.view c.loop-fronts.sink in
    let last : SinkView = g.K.Sink.view c.close.new.sink in
    let fronts = c.loop-fronts.fronts in
    let count = c.loop-fronts.count in
    let e = c.in-Err.error in
    carried start.left (λ bytes. Went c.args.rules.now bytes fronts count start now first sink) (λ bytes. HidesNoFault c.close.result bytes start.stop)
    (λ bytes at w. found_hides_none c.close.result e count bytes w.rest start.stop now new sink last w.stop
    (found_in now.left w.rest (λ bs. Finds (Err e) count bs now new) w.left c.in-Err.ensures.finds) c.close.ensures.closes) c.loop-fronts.invariant.went

pub returns-clause-no_fault : goal.returns-clause-no_fault
returns-clause-no_fault g c =
    let inv = c.loop-fronts.invariant in
    let start : SourceView = g.S.Source.view c.args.half.now.source in
    let now : SourceView = g.S.Source.view c.loop-fronts.half.source in
    let first : SinkView = g.K.Sink.view c.args.sink.now in
    let sink : SinkView = g.K.Sink.view c.loop-fronts.sink in
    let last : SinkView = g.K.Sink.view c.close-2.new.sink in
    let fronts = c.loop-fronts.fronts in
    let count = c.loop-fronts.count in
    carried start.left (λ bytes. Went c.args.rules.now bytes fronts count start now first sink) (λ bytes. HidesNoFault c.close-2.result bytes start.stop)
    (λ bytes at w. last_hides_none c.args.rules.now bytes fronts count start now first sink last c.close-2.result w inv.within c.loop-fronts-test.false c.close-2.ensures.closes) inv.went

pub returns-in_err-count-in-Ok-clause-appends : goal.returns-in_err-count-in-Ok-clause-appends
returns-in_err-count-in-Ok-clause-appends g c =
    let sink : SinkView = g.K.Sink.view c.loop-fronts.sink in
    let last : SinkView = g.K.Sink.view c.show.new.sink in
    let e = c.in_err-count-in-Ok.field-0.0 in
    some_then (g.K.Sink.view c.args.sink.now) sink last c.loop-fronts.invariant.appends
    (shows_some {A = ℕ} (Err e) (lines c.args.rules.now (messages_of c.in-Ok.received)) sink last c.in_err-count-in-Ok.ensures.bytes)

pub returns-in-Err-clause-appends : goal.returns-in-Err-clause-appends
returns-in-Err-clause-appends g c =
    let sink : SinkView = g.K.Sink.view c.loop-fronts.sink in
    let last : SinkView = g.K.Sink.view c.close.new.sink in
    some_then (g.K.Sink.view c.args.sink.now) sink last c.loop-fronts.invariant.appends (closes_some c.close.result c.in-Err.error sink last c.close.ensures.closes)

pub returns-clause-appends : goal.returns-clause-appends
returns-clause-appends g c =
    let sink : SinkView = g.K.Sink.view c.loop-fronts.sink in
    let last : SinkView = g.K.Sink.view c.close-2.new.sink in
    some_then (g.K.Sink.view c.args.sink.now) sink last c.loop-fronts.invariant.appends
    (closes_some c.close-2.result (errors.InputOutput kinds.Ended) sink last c.close-2.ensures.closes)
