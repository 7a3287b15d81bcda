use Rattle.std.proofs.Common.{◌≡◌, sym, ◌∙◌, ap, refl}
use Rattle.peer_run.specs.{Names.{is_bus, name_of}, Runs.Begins}
use Rattle.peer_route.specs.Replay.{Setting}
use Rattle.peer_service.specs.Service.{first_service, with_machine}
use Rattle.peer_run.proofs.Following.{follows_first}
use Rattle.peer_run.proofs.run.run_with.Goals as goal

pub run_each-requires-clause-begins : goal.run_each-requires-clause-begins
run_each-requires-clause-begins g c κs within =
    let setting : Setting = record { bus = is_bus c.args.setup.now.kind; name = name_of c.args.setup.now.kind; takes_fds = g.W.Sink.takes c.args.sink.now; queue = c.args.setup.now.queue } in (
      setting,
      record {
        follows = follows_first setting _ (c.new-state.ensures setting (sym c.is_bus.ensures) (sym (c.in_ok-name.ensures ∙ c.name.ensures)) refl);
        takes = rw (c.new-writer.ensures.sink) refl;
        fine = c.new-writer.ensures.fine;
      },
    )

pub returns-clause-run : goal.returns-clause-run
returns-clause-run g c =
    let setting : Setting = record { bus = is_bus c.args.setup.now.kind; name = name_of c.args.setup.now.kind; takes_fds = g.W.Sink.takes c.args.sink.now; queue = c.args.setup.now.queue } in
    let first = c.in_ok-service.ensures ∙ ap (λ m. with_machine m (first_service g.B.Interface.state c.args.boxes.items)) c.in_ok-machine_of.ensures in
    let from : c.run_each.new.reader.source.ghost_name ≡ c.new-reader.result.source.ghost_name = cc (c.in_ok-entries.ensures.same_source) in
    let to : c.run_each.new.writer.sink.ghost_name ≡ c.new-writer.result.sink.ghost_name = cc (c.in_ok-entries.ensures.same_sink) in
    let run = c.in_ok-entries.ensures.run setting (record {
      follows = follows_first setting _ (c.new-state.ensures setting (sym c.is_bus.ensures) (sym (c.in_ok-name.ensures ∙ c.name.ensures)) refl);
      takes = rw (c.new-writer.ensures.sink) refl;
      fine = c.new-writer.ensures.fine;
    }) in
    rw (c.source-1.given.1 (sym (from ∙ ap (λ r. r.ghost_name) c.new-reader.ensures)), c.sink-1.given.1 (sym (to ∙ ap (λ r. r.ghost_name) c.new-writer.ensures.sink)))
    (rw (first, c.new-reader.ensures, c.new-writer.ensures.sink) at run)
