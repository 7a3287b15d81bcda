use Rattle.std.proofs.Common.{[], ◌∷◌, ap, ◌∙◌}
use Rattle.std.proofs.lemmas.Option.{MatchOption-at_none, MatchOption-at_some}
use Rattle.wire_tree.specs.Datum.{text, string, variant}
use Rattle.object_standard.specs.Properties.{of_setting}
use Rattle.object_standard.proofs.Bodies.{names_none, no_name, setting_body}
use Rattle.object_standard.proofs.properties.setting_arguments.Goals as goal

pub returns-in_default : goal.returns-in_default
returns-in_default c = names_none c.args.message.now of_setting (MatchOption-at_none _ _ c.in_default.is c.in_ok-interface.ensures)

pub returns : goal.returns
returns c =
    let b = MatchOption-at_some _ _ _ c.in-Some.is c.in_ok-interface.ensures in
    no_name c.args.message.now of_setting c.as_str.result.now (text string c.in-Some.property ∷ variant c.in-Some.value ∷ [])
    (setting_body c.args.message.now b.0 c.as_str.result.now c.in-Some.property c.in-Some.value b.1 (c.as_str.ensures.value ∙ ap (λ x. x.0) b.2) (ap (λ x. x.1) b.2) (ap (λ x. x.2) b.2))
    (MatchOption-at_none _ _ c.in-None.is c.in_ok-interface-2.ensures)
