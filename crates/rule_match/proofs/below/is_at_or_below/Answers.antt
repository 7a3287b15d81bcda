use Rattle.std.proofs.Common.{◌≡◌, false, rules}
use Rattle.rule_match.specs.ArgumentTests.{is_at_or_below}
use Rattle.rule_match.proofs.Texts.{below_told}
use Rattle.rule_match.proofs.below.is_at_or_below.Goals as goal

pub returns-in-Some-clause-below : goal.returns-in-Some-clause-below
returns-in-Some-clause-below c =
    let test : c.begins_with_or_ends.result ≡ is_at_or_below c.args.separator c.args.prefix.now c.args.text.now = search rules in
    below_told c.args.separator c.args.prefix.now c.args.text.now c.begins_with_or_ends.result test

pub returns-in-None-clause-below : goal.returns-in-None-clause-below
returns-in-None-clause-below c =
    let test : false ≡ is_at_or_below c.args.separator c.args.prefix.now c.args.text.now = search rules in
    below_told c.args.separator c.args.prefix.now c.args.text.now false test
