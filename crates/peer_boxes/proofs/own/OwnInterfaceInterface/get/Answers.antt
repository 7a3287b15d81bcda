-- What the level gives is given.
use Rattle.std.proofs.Common.{sym, subst, IfOk}
use Rattle.peer_boxes.specs.declared.own.OwnInterface.{OwnInterface}
use Rattle.peer_boxes.specs.Own.{own_meaning, own_state}
use Rattle.peer_boxes.proofs.own.OwnInterfaceInterface.get.Goals as goal

pub returns-in-Level-clause-told : goal.returns-in-Level-clause-told
returns-in-Level-clause-told c = subst (λ (own : OwnInterface). IfOk c.get-in-Level.result (λ a. (own_meaning own).gets (own_state own) c.args.property.now a)) (sym c.in-Level.is) c.get-in-Level.ensures.told
