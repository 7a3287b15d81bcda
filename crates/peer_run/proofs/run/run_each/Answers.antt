use Rattle.std.proofs.{Common.{[], ◌∷◌, ◌++◌, map, take, reverse, sym, ◌∙◌, ap, arith, refl}, lemmas.List.{take_all, take_more, reverse-append, map_push}}
use Rattle.peer_run.specs.Names.{command_of}
use Rattle.peer_route.specs.{Entries.replay}
use Rattle.peer_run.proofs.{Performing.trail_setting, Following.{start_running, runs_of}, KnownEnd.closed_known}
use Rattle.peer_run.proofs.run.run_each.Goals as goal

pub loop-command-init : goal.loop-command-init
loop-command-init g c = rw (c.new-entries.ensures.items) (record {
  stands = λ setting b. start_running setting _ _ _ _ b.follows b.fine;
  objects = λ setting b. refl;
  commands = refl;
  takes = refl;
  empty = c.new-kept.ensures.items;
  from = refl;
  to = refl;
  source = omega arith;
  sink = omega arith;
})

pub step-requires-clause-stands : goal.step-requires-clause-stands
step-requires-clause-stands g c κs within =
    let inv = c.loop-command.invariant in
    let setting = c.requires.begins.0 in
    let b = c.requires.begins.1 in
    let es = reverse c.loop-command.entries.items in
    let follows = (inv.stands setting b).follows in
    (replay setting es, follows.stands, ap (λ s. s.takes_fds) (trail_setting setting es) ∙ b.takes ∙ sym inv.takes, closed_known setting es follows.legal)

pub loop-command-preserved : goal.loop-command-preserved
loop-command-preserved g c =
    let inv = c.loop-command.invariant in
    let es = reverse c.loop-command.entries.items in
    let item = c.in_ok-entry.ensures.command ∙ c.command-item.is in
    record {
      stands = λ setting b. rw (c.in_ok-push.ensures.items, reverse-append c.loop-command.entries.items (c.in_ok-entry.entry ∷ []))
          (c.in_ok-entry.ensures.running setting _ _ _ (b.takes ∙ sym inv.takes) (inv.stands setting b));
      objects = λ setting b.
          let follows = (inv.stands setting b).follows in
          rw (c.in_ok-push.ensures.items, reverse-append c.loop-command.entries.items (c.in_ok-entry.entry ∷ [])) (
            c.loop-command.service,
            inv.objects setting b,
            c.in_ok-entry.ensures.objects (replay setting es) follows.stands (ap (λ s. s.takes_fds) (trail_setting setting es) ∙ b.takes ∙ sym inv.takes) (closed_known setting es follows.legal),
          );
      commands = ap (map command_of) (c.in_ok-push.ensures.items) ∙ map_push command_of c.loop-command.entries.items c.in_ok-entry.entry
          ∙ ap (λ xs. xs ++ command_of c.in_ok-entry.entry ∷ []) inv.commands
          ∙ ap (λ x. take c.loop-command.command-index c.args.commands.now ++ x ∷ []) item
          ∙ sym (take_more c.args.commands.now c.loop-command.command-index c.command-item.result c.loop-command-test.true);
      takes = c.in_ok-entry.ensures.takes ∙ inv.takes;
      empty = c.in_ok-entry.ensures.empty;
      from = c.in_ok-entry.ensures.same_source ∙ inv.from;
      to = c.in_ok-entry.ensures.same_sink ∙ inv.to;
      source = omega (arith, inv.source, c.in_ok-entry.ensures.source_grows);
      sink = omega (arith, inv.sink, c.in_ok-entry.ensures.sink_grows);
    }

pub returns-clause-run : goal.returns-clause-run
returns-clause-run g c = λ setting b.
    let inv = c.loop-command.invariant in
    runs_of (record { meanings = g.R.Registry.meanings; first = c.args.service.now }) setting _ _ _ _ _ _ c.args.commands.now c.loop-command.entries.items (inv.stands setting b)
    (inv.commands ∙ take_all c.loop-command.command-index c.args.commands.now (omega arith)) c.loop-command.service (inv.objects setting b)
