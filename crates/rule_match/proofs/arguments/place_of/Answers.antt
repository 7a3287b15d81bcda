use Rattle.std.proofs.Common.{◌∙◌, ap, rules, tests, nat_le, length}
use Rattle.std.specs.Prelude.{unwrap_or}
use Rattle.std.proofs.lemmas.Iterator.{YieldsList-from_slice}
use Rattle.std.proofs.lemmas.Iterator.Search.{position_from_yields_List}
use Rattle.rule_match.specs.declared.arguments.Argument.{Argument}
use Rattle.rule_match.proofs.Positions.{place_told}
use Rattle.rule_match.proofs.arguments.place_of.Goals as goal

pub returns-clause-place : goal.returns-clause-place
returns-clause-place c =
    let xs = c.args.arguments.now in
    let test = λ (a : Argument). nat_le c.args.index a.index in
    let found = position_from_yields_List test _ _ c.position.result c.position.ensures.ran (YieldsList-from_slice xs c.iter.ensures.rest) (λ x b q k. search (rules, tests)) in
    c.unwrap_or.ensures ∙ ap (λ o. unwrap_or o (length xs)) found ∙ place_told test xs
