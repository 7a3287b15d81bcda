-- What is printed with the program's own interfaces.
use Rattle.std.proofs.Common.{subst, map}
use Rattle.std.specs.Prelude.{string_bytes}
use Rattle.peer_boxes.specs.Own.{own_meaning, own_state}
use Rattle.peer_turns.specs.Objects.{handed}
use Rattle.peer_run.specs.Program.{Ends, Prints}
use Rattle.peer_run.proofs.Closing.{only_memory}
use Rattle.peer_run.proofs.own.program_main.Goals as goal

pub returns-in-Ok-clause-ends : goal.returns-in-Ok-clause-ends
returns-in-Ok-clause-ends g c = subst (λ boxes. Ends (Prints (handed own_meaning own_state boxes) (map (λ word. string_bytes word) c.args.words.now) (g.I.Source.view c.args.input.now) (g.I.Source.view c.print.new.input)) (g.O.Sink.view c.args.output.now) (g.O.Sink.view c.print.new.output) c.print.result) c.in-Ok.ensures c.print.ensures.ends

pub returns-in-Err-clause-ends : goal.returns-in-Err-clause-ends
returns-in-Err-clause-ends g c = only_memory _ _ _ _ c.say_memory.ensures
