-- What the texts' rules, or the first text that is no rule, say of what was printed.
use Rattle.std.proofs.Common.{refl, inl, inr, arith}
use Rattle.std.specs.Prelude.{map, string_bytes}
use Rattle.peer_run.specs.Program.{NoRule}
use Rattle.peer_run.proofs.Closing.{says_ends, only_memory}
use Rattle.peer_run.proofs.Reporting.{says_other}
use Rattle.peer_run.proofs.monitored.run_monitor.Goals as goal

pub returns-in-Ok-clause-ends : goal.returns-in-Ok-clause-ends
returns-in-Ok-clause-ends g c = c.report.ensures.ends (map (λ text. string_bytes text) c.args.texts.now) (rw c.as_slice.ensures.value c.in-Ok.ensures)

pub returns-in-Err-Memory-clause-ends : goal.returns-in-Err-Memory-clause-ends
returns-in-Err-Memory-clause-ends g c = only_memory _ _ _ _ c.say_memory.ensures

pub returns-in-Err-Rule-clause-ends : goal.returns-in-Err-Rule-clause-ends
returns-in-Err-Rule-clause-ends g c =
    elim c.say_rule.ensures [
      | inl says ↦ says_ends _ _ _ _ 2 _ (NoRule _ refl (rw c.in-Err-Rule.field-0-is at c.in-Err-Rule.ensures) refl) says
      | inr says ↦ only_memory _ _ _ _ says
    ]

pub returns-in-Err-Memory-clause-in_time : goal.returns-in-Err-Memory-clause-in_time
returns-in-Err-Memory-clause-in_time g c = λ none. absurd (says_other _ _ _ _ _ c.say_memory.ensures (omega arith) none)

pub returns-in-Err-Rule-clause-in_time : goal.returns-in-Err-Rule-clause-in_time
returns-in-Err-Rule-clause-in_time g c = λ none.
    elim c.say_rule.ensures [
      | inl says ↦ absurd (says_other _ _ _ _ _ says (omega arith) none)
      | inr says ↦ absurd (says_other _ _ _ _ _ says (omega arith) none)
    ]
