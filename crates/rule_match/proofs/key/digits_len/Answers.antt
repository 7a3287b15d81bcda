use Rattle.std.proofs.Common.{◌∙◌, ap, ℕ, rules, tests, not, length}
use Rattle.std.specs.Prelude.{unwrap_or}
use Rattle.std.specs.Char.{is_ascii_digit}
use Rattle.std.proofs.lemmas.Iterator.{YieldsList-from_slice}
use Rattle.std.proofs.lemmas.Iterator.Search.{position_from_yields_List}
use Rattle.rule_match.proofs.Positions.{place_told}
use Rattle.rule_match.proofs.key.digits_len.Goals as goal

pub returns-clause-value : goal.returns-clause-value
returns-clause-value c =
    let xs = c.args.text.now in
    let test = λ (b : ℕ). not (is_ascii_digit b) in
    let found = position_from_yields_List test _ _ c.position.result c.position.ensures.ran (YieldsList-from_slice xs c.iter.ensures.rest) (λ x b q k. search (rules, tests)) in
    c.unwrap_or.ensures ∙ ap (λ o. unwrap_or o (length xs)) found ∙ place_told test xs
