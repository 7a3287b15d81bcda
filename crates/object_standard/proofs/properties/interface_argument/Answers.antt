use Rattle.std.proofs.Common.{[], ap, ◌∙◌}
use Rattle.std.proofs.lemmas.Option.{MatchOption-at_none, MatchOption-at_some}
use Rattle.object_standard.specs.Properties.{of_interface}
use Rattle.object_standard.proofs.Bodies.{names_none, settled, interface_body}
use Rattle.object_standard.proofs.properties.interface_argument.Goals as goal

pub returns-in_default : goal.returns-in_default
returns-in_default c = names_none c.args.message.now of_interface (MatchOption-at_none _ _ c.in_default.is c.in_ok-interface.ensures)

pub returns : goal.returns
returns c =
    let b = MatchOption-at_some _ _ _ c.in-Some.is c.in_ok-interface.ensures in
    settled c.named.result c.args.message.now of_interface c.as_str.result.now []
    (interface_body c.args.message.now b.0 c.as_str.result.now b.1 (c.as_str.ensures.value ∙ ap (λ x. x.0) b.2)) c.named.ensures
