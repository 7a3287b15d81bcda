use Rattle.std.proofs.Common.{sym, ap, ◌∙◌, codes}
use Rattle.std.proofs.lemmas.Option.{MatchOption-at_none, MatchOption-at_some}
use Rattle.object_tree.specs.Texts.{is_same}
use Rattle.peer_boxes.proofs.Answering.{greets, refuses}
use Rattle.peer_boxes.proofs.greeter.GreeterInterface.call_mut.Goals as goal

pub returns-in-Some-clause-told : goal.returns-in-Some-clause-told
returns-in-Some-clause-told c =
    let is = sym (c.eq.ensures ∙ ap (λ t. is_same t (codes "SayHello")) c.as_str.ensures.value) ∙ c.if-eq.true in
    let b = MatchOption-at_some _ _ _ c.in-Some.is c.in_ok-name.ensures in
    greets c.say_hello.result c.args.message.now c.args.member.now _ _ _ is (b.0, b.1, ap (λ x. x.0) b.2) c.say_hello.ensures.count c.say_hello.ensures.said

pub returns-in-None-clause-told : goal.returns-in-None-clause-told
returns-in-None-clause-told c =
    let is = sym (c.eq.ensures ∙ ap (λ t. is_same t (codes "SayHello")) c.as_str.ensures.value) ∙ c.if-eq.true in
    refuses c.invalid_arguments.result c.args.message.now c.args.member.now _ is (MatchOption-at_none _ _ c.in-None.is c.in_ok-name.ensures) c.invalid_arguments.ensures
