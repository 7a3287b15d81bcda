-- What the monitor's answer says of what was printed.
use Rattle.std.proofs.Common.{arith}
use Rattle.peer_run.proofs.Reporting.{reported, unwritten, without_memory, unread, ends_in_time, says_other}
use Rattle.peer_run.proofs.monitored.report.Goals as goal

pub returns-in-Ok-clause-ends : goal.returns-in-Ok-clause-ends
returns-in-Ok-clause-ends g c = λ texts ok. reported texts c.args.rules.now ok (g.I.Source.view c.args.input.now) (g.I.Source.view c.monitor.new.source) (g.O.Sink.view c.args.output.now) (g.O.Sink.view c.monitor.new.sink) c.monitor.ensures.appends.0 c.monitor.ensures.appends.1 _ c.in-Ok.ensures.watches c.in-Ok.ensures.caused

pub returns-in-Err-Memory-clause-ends : goal.returns-in-Err-Memory-clause-ends
returns-in-Err-Memory-clause-ends g c = λ texts ok. without_memory texts c.args.rules.now ok (g.I.Source.view c.args.input.now) (g.I.Source.view c.monitor.new.source) (g.O.Sink.view c.args.output.now) (g.O.Sink.view c.monitor.new.sink) c.monitor.ensures.appends.0 c.monitor.ensures.appends.1 _ _ (rw c.in-Err-Memory.field-0-is at c.in-Err-Memory.ensures.watches) (rw c.in-Err-Memory.field-0-is at c.in-Err-Memory.ensures.caused) c.say_memory.ensures

pub returns-in-Err-ReadFault-clause-ends : goal.returns-in-Err-ReadFault-clause-ends
returns-in-Err-ReadFault-clause-ends g c = λ texts ok. unread texts c.args.rules.now ok (g.I.Source.view c.args.input.now) (g.I.Source.view c.monitor.new.source) (g.O.Sink.view c.args.output.now) (g.O.Sink.view c.monitor.new.sink) c.monitor.ensures.appends.0 c.monitor.ensures.appends.1 _ _ (rw c.in-Err-ReadFault.field-0-is at c.in-Err-ReadFault.ensures.watches) (rw c.in-Err-ReadFault.field-0-is at c.in-Err-ReadFault.ensures.caused) c.say.ensures

pub returns-in-Err-WriteFault-clause-ends : goal.returns-in-Err-WriteFault-clause-ends
returns-in-Err-WriteFault-clause-ends g c = λ texts ok. unwritten texts c.args.rules.now ok (g.I.Source.view c.args.input.now) (g.I.Source.view c.monitor.new.source) (g.O.Sink.view c.args.output.now) (g.O.Sink.view c.monitor.new.sink) c.monitor.ensures.appends.0 c.monitor.ensures.appends.1 (rw c.in-Err-WriteFault.field-0-is at c.in-Err-WriteFault.ensures.watches) (rw c.in-Err-WriteFault.field-0-is at c.in-Err-WriteFault.ensures.caused)

pub returns-in-Ok-clause-in_time : goal.returns-in-Ok-clause-in_time
returns-in-Ok-clause-in_time g c = λ none. ends_in_time _ c.args.rules.now (g.I.Source.view c.args.input.now) (g.I.Source.view c.monitor.new.source) (g.O.Sink.view c.args.output.now) (g.O.Sink.view c.monitor.new.sink) c.in-Ok.ensures.watches c.in-Ok.ensures.no_fault

pub returns-in-Err-Memory-clause-in_time : goal.returns-in-Err-Memory-clause-in_time
returns-in-Err-Memory-clause-in_time g c = λ none. absurd (says_other _ _ _ _ _ c.say_memory.ensures (omega arith) none)

pub returns-in-Err-ReadFault-clause-in_time : goal.returns-in-Err-ReadFault-clause-in_time
returns-in-Err-ReadFault-clause-in_time g c = λ none. absurd (says_other _ _ _ _ _ c.say.ensures (omega arith) none)
