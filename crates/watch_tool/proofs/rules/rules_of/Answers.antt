use Rattle.std.proofs.Common.{ℕ, List, subst, Ok, Err, Vec, Global}
use Rattle.std.proofs.lemmas.Result.{err_from_is_err_and}
use Rattle.std.specs.Prelude.{string_bytes}
use Rattle.rule_match.specs.declared.owned.OwnedMatchRule.{OwnedMatchRule}
use Rattle.watch_tool.specs.Rules.{TellsRule}
use Rattle.watch_tool.proofs.Ruled.{rules_before_more, refused_at}
use Rattle.watch_tool.proofs.rules.rules_of.Goals as goal

pub returns-in_err-push_rule : goal.returns-in_err-push_rule
returns-in_err-push_rule c =
    let e = c.in_err-push_rule.field-0.0 in
    let p = err_from_is_err_and c.from_residual.result c.from_residual.ensures.1 in
    let told = subst (λ (t : List ℕ). TellsRule {A = Unit {0}} (Err e) t c.loop-index.index c.loop-index.rules.items c.push_rule.new.rules.items) c.deref.ensures c.in_err-push_rule.ensures in
    rw (p.1, p.2)
    (refused_at (λ text. string_bytes text) c.args.texts.now (λ (rules : Vec OwnedMatchRule Global). rules.items) e c.loop-index.index c.index-texts-index.result c.loop-index.rules.items c.push_rule.new.rules.items
    c.loop-index-test.true c.index-texts-index.is c.loop-index.invariant told)

pub loop-index-preserved : goal.loop-index-preserved
loop-index-preserved c =
    let told = subst (λ (t : List ℕ). TellsRule {A = Unit {0}} (Ok tt) t c.loop-index.index c.loop-index.rules.items c.push_rule.new.rules.items) c.deref.ensures c.in_ok-push_rule.ensures in
    rules_before_more (λ text. string_bytes text) c.args.texts.now c.loop-index.index c.index-texts-index.result c.loop-index.rules.items c.push_rule.new.rules.items
    c.loop-index-test.true c.index-texts-index.is c.loop-index.invariant told
