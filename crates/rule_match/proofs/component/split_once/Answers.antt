use Rattle.std.proofs.Common.{rules, tests, ℕ}
use Rattle.std.specs.Prelude.{◌==◌}
use Rattle.std.proofs.lemmas.Iterator.{YieldsList-from_slice}
use Rattle.std.proofs.lemmas.Iterator.Search.{position_from_yields_List}
use Rattle.rule_match.proofs.Utf8.{split_there, nothing_there}
use Rattle.rule_match.proofs.component.split_once.Goals as goal

pub returns : goal.returns
returns c =
    let xs = c.args.text.now in
    let told = position_from_yields_List (λ (b : ℕ). b == 61) _ _ c.position.result c.position.ensures.ran (YieldsList-from_slice xs c.iter.ensures.rest) (λ x b q k. search (rules, tests)) in
    split_there xs c.position.result told c.in_ok-at.at c.in_ok-at.was

pub returns-in_err-at : goal.returns-in_err-at
returns-in_err-at c =
    let xs = c.args.text.now in
    let told = position_from_yields_List (λ (b : ℕ). b == 61) _ _ c.position.result c.position.ensures.ran (YieldsList-from_slice xs c.iter.ensures.rest) (λ x b q k. search (rules, tests)) in
    let missing = nothing_there xs c.position.result told c.in_err-at.was in
    rw c.from_residual.ensures missing
