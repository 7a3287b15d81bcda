-- What the level answers is answered, and it is left so.
use Rattle.std.proofs.Common.{sym, subst, IfOk}
use Rattle.peer_boxes.specs.declared.own.OwnInterface.{OwnInterface}
use Rattle.peer_boxes.specs.declared.own.OwnInterface.TheVariants.{Level}
use Rattle.peer_boxes.specs.Own.{own_meaning, own_state}
use Rattle.peer_boxes.proofs.own.OwnInterfaceInterface.set_mut.Goals as goal

pub returns-in-Level-clause-told : goal.returns-in-Level-clause-told
returns-in-Level-clause-told c = subst (λ (own : OwnInterface). IfOk c.set_mut-in-Level.result (λ a. (own_meaning own).sets (own_state own) c.args.property.now c.args.value.now a (own_state (Level c.set_mut-in-Level.new.self)))) (sym c.in-Level.is) c.set_mut-in-Level.ensures.told
