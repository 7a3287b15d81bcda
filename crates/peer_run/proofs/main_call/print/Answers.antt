-- What is printed for each request.
use Rattle.std.proofs.Common.{◌≡◌, ◌∙◌, refl, sym, subst, ap, List, [], ◌∷◌, drop, map}
use Rattle.std.specs.Prelude.{string_bytes}
use Rattle.peer_turns.specs.Objects.{handed}
use Rattle.peer_run.specs.Program.{Ends, PrintsFor, Reports}
use Rattle.peer_run.proofs.Closing.{says_ends}
use Rattle.peer_run.proofs.main_call.print.Goals as goal

-- what stands behind the first is what each behind the first is
behind_first : {A B : Type 0} (f : A → B) (xs : List A) → map f (drop 1 xs) ≡ drop 1 (map f xs)
behind_first f [] = refl
behind_first f (x ∷ xs) = refl

pub returns-in-Run-clause-ends : goal.returns-in-Run-clause-ends
returns-in-Run-clause-ends g c = subst (λ r. Ends (PrintsFor (handed g.B.Interface.meaning g.B.Interface.state c.args.boxes.items) r (drop 1 (map (λ word. string_bytes word) c.args.words.now)) (g.I.Source.view c.args.input.now) (g.I.Source.view c.run_script.new.input)) (g.O.Sink.view c.args.output.now) (g.O.Sink.view c.run_script.new.output) c.run_script.result) c.in-Run.ensures.asks c.run_script.ensures

pub returns-in-Gen-clause-ends : goal.returns-in-Gen-clause-ends
returns-in-Gen-clause-ends g c = subst (λ r. Ends (PrintsFor (handed g.B.Interface.meaning g.B.Interface.state c.args.boxes.items) r (drop 1 (map (λ word. string_bytes word) c.args.words.now)) (g.I.Source.view c.args.input.now) (g.I.Source.view c.args.input.now)) (g.O.Sink.view c.args.output.now) (g.O.Sink.view c.run_generated.new.output) c.run_generated.result) c.in-Gen.ensures.asks c.run_generated.ensures

pub returns-in-Monitor-clause-ends : goal.returns-in-Monitor-clause-ends
returns-in-Monitor-clause-ends g c =
    let texts = ap (map (λ word. string_bytes word)) c.behind_first.ensures ∙ behind_first (λ word. string_bytes word) c.args.words.now in
    subst (λ r. Ends (PrintsFor (handed g.B.Interface.meaning g.B.Interface.state c.args.boxes.items) r (drop 1 (map (λ word. string_bytes word) c.args.words.now)) (g.I.Source.view c.args.input.now) (g.I.Source.view c.run_monitor.new.input)) (g.O.Sink.view c.args.output.now) (g.O.Sink.view c.run_monitor.new.output) c.run_monitor.result) c.in-Monitor.ensures.asks (subst (λ texts. Ends (Reports texts (g.I.Source.view c.args.input.now) (g.I.Source.view c.run_monitor.new.input)) (g.O.Sink.view c.args.output.now) (g.O.Sink.view c.run_monitor.new.output) c.run_monitor.result) texts c.run_monitor.ensures.ends)

pub returns-in-Unknown-clause-ends : goal.returns-in-Unknown-clause-ends
returns-in-Unknown-clause-ends g c = subst (λ r. Ends (PrintsFor (handed g.B.Interface.meaning g.B.Interface.state c.args.boxes.items) r (drop 1 (map (λ word. string_bytes word) c.args.words.now)) (g.I.Source.view c.args.input.now) (g.I.Source.view c.args.input.now)) (g.O.Sink.view c.args.output.now) (g.O.Sink.view c.say.new.output) c.say.result) c.in-Unknown.ensures.asks (says_ends _ _ _ _ 2 _ (refl, refl) c.say.ensures)
