use Rattle.std.proofs.{Common.{sym, ap, subst, ◌∷◌}, lemmas.Result.IfOk-weaker}
use Rattle.peer_run.specs.{Names.{SourceView, SinkView, Entry}, Runs.{Reads, RunInvariant, Running}}
use Rattle.peer_run.proofs.Stepping.{running_read, all_so}
use Rattle.peer_turns.proofs.Turned.{is_on_objects, turns_still}
use Rattle.peer_run.proofs.run.step.Goals as goal

pub returns-in-Read-clause-running : goal.returns-in-Read-clause-running
returns-in-Read-clause-running g c =
    let old = c.args.state.now in
    let new = c.read.new.state in
    let lane = c.args.command.now.lane in
    let now : SourceView = g.S.Source.view c.args.reader.now.source in
    let then : SourceView = g.S.Source.view c.read.new.half.source in
    let outlet : SinkView = g.W.Sink.view c.args.writer.now.sink in
    all_so _ _ _ _ _ c.read.result c.read.ensures.entry c.read.ensures.follows c.read.ensures.reads c.read.ensures.moves
    (λ e is follows reads moves setting start_in start_out es takes r.
    subst (λ (x : Entry). Running setting start_in start_out new then outlet c.args.writer.now.writing (x ∷ es)) (sym is)
    (running_read setting start_in now then start_out outlet old new c.args.writer.now.writing es lane e.answer e.read (subst (λ (x : Entry). RunInvariant setting new (x ∷ es)) is (follows setting es r.follows))
    (subst (λ (x : Entry). Reads setting start_in then (x ∷ es)) is (reads setting start_in es r.follows r.reads)) moves r))

pub returns-in_default-clause-running : goal.returns-in_default-clause-running
returns-in_default-clause-running g c = IfOk-weaker c.perform.result _ _ (λ e so setting start_in start_out es takes r. so setting start_in _ start_out es takes r) c.perform.ensures.running

pub returns-in-Read-clause-objects : goal.returns-in-Read-clause-objects
returns-in-Read-clause-objects g c =
    IfOk-weaker c.read.result _ _ (λ e is t s takes known. turns_still g.R.Registry.meanings t e.lane e.words e c.args.service.now (ap is_on_objects (ap (λ (x : Entry). x.words) is))) c.read.ensures.entry

pub returns-in-Close-clause-objects : goal.returns-in-Close-clause-objects
returns-in-Close-clause-objects g c = λ t s takes known.
    turns_still g.R.Registry.meanings t c.close.result.lane c.close.result.words c.close.result c.args.service.now (ap is_on_objects (ap (λ (x : Entry). x.words) c.close.ensures.entry))
