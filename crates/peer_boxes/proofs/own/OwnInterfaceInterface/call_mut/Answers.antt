-- What a greeter or the level answers is answered, and it is left so.
use Rattle.std.proofs.Common.{sym, subst, IfOk}
use Rattle.peer_boxes.specs.declared.own.OwnInterface.{OwnInterface}
use Rattle.peer_boxes.specs.declared.own.OwnInterface.TheVariants.{Greeter, Level}
use Rattle.peer_boxes.specs.Own.{own_meaning, own_state}
use Rattle.peer_boxes.proofs.own.OwnInterfaceInterface.call_mut.Goals as goal

pub returns-in-Greeter-clause-told : goal.returns-in-Greeter-clause-told
returns-in-Greeter-clause-told c = subst (λ (own : OwnInterface). IfOk c.call_mut.result (λ a. (own_meaning own).calls_mut (own_state own) c.args.message.now c.args.member.now a (own_state (Greeter c.call_mut.new.self)))) (sym c.in-Greeter.is) c.call_mut.ensures.told

pub returns-in-Level-clause-told : goal.returns-in-Level-clause-told
returns-in-Level-clause-told c = subst (λ (own : OwnInterface). IfOk c.call_mut-in-Level.result (λ a. (own_meaning own).calls_mut (own_state own) c.args.message.now c.args.member.now a (own_state (Level c.call_mut-in-Level.new.self)))) (sym c.in-Level.is) c.call_mut-in-Level.ensures.told
