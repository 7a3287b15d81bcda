-- What the level answers is answered.
use Rattle.std.proofs.Common.{sym, subst, IfOk}
use Rattle.object_interface.specs.Meaning.{Settles}
use Rattle.peer_boxes.specs.declared.own.OwnInterface.{OwnInterface}
use Rattle.peer_boxes.specs.Own.{own_meaning, own_state}
use Rattle.peer_boxes.proofs.own.OwnInterfaceInterface.set.Goals as goal

pub returns-in-Level-clause-told : goal.returns-in-Level-clause-told
returns-in-Level-clause-told c = subst (λ (own : OwnInterface). IfOk c.set-in-Level.result (λ a. Settles a ((own_meaning own).sets (own_state own) c.args.property.now c.args.value.now a (own_state own)))) (sym c.in-Level.is) c.set-in-Level.ensures.told
