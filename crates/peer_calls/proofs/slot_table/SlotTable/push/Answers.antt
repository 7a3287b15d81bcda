-- The call's slot is stored under the next number.
use Rattle.std.proofs.Common.{◌+◌, ◌++◌, ◌∷◌, [], sym, ◌∙◌, ap, subst, arith, OnErr, Result, Ok, Err}
use Rattle.std.specs.Int.{from_bool}
use Rattle.peer_calls.specs.{Names.Slot, Keeping.{slots_of, IsKept}}
use Rattle.peer_calls.proofs.Kept.{slots_same, slots_push, count_fits, kept_same, kept_pushed}
use Rattle.peer_calls.proofs.slot_table.SlotTable.push.Goals as goal

on-err : {A E P : Type 0} (r : Result A E) → P → OnErr r P
on-err (Ok x) p = tt
on-err (Err e) p = p

pub invariant_of-self : goal.invariant_of-self
invariant_of-self c = kept_same c.self.invariant c.insert.new.self c.in_err-insert.ensures.err

pub returns-in_err-insert-clause-err : goal.returns-in_err-insert-clause-err
returns-in_err-insert-clause-err c =
    on-err c.from_residual.result (slots_same c.self.inside.made c.self.inside.kept c.insert.new.self c.in_err-insert.ensures.err ∙ c.self.view_is)

pub overflow_add-self : goal.overflow_add-self
overflow_add-self c = omega (arith, c.in-Some.ensures, count_fits c.self.invariant c.args.internal)

pub invariant_of-self-2 : goal.invariant_of-self-2
invariant_of-self-2 c =
    subst (λ n. IsKept n c.insert.new.self (c.self.inside.internal + from_bool c.args.internal)) (sym c.in-Some.ensures.1)
    (kept_pushed c.self.invariant c.insert.new.self c.args.serial c.args.internal c.in_ok-insert.ensures.updates)

pub returns-clause-ok : goal.returns-clause-ok
returns-clause-ok c =
    ap (λ n. slots_of n c.insert.new.self) c.in-Some.ensures.1
    ∙ slots_push c.self.inside.made c.self.inside.kept c.insert.new.self (Slot.Waiting c.args.serial c.args.internal) c.in_ok-insert.ensures.updates
    ∙ ap (λ ss. ss ++ Slot.Waiting c.args.serial c.args.internal ∷ []) c.self.view_is
