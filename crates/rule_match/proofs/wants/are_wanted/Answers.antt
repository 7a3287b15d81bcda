use Rattle.std.proofs.Common.{◌≡◌, ◌∙◌, ◌<◌, ◌&&◌, sym, ap, length, arith}
use Rattle.std.specs.List.{list_all}
use Rattle.std.proofs.lemmas.Bool.Decides.{nat_tests}
use Rattle.std.proofs.lemmas.List.Elements.{All-drop}
use Rattle.rule_match.specs.declared.arguments.Argument.{Argument}
use Rattle.rule_match.specs.ArgumentTests.{has_at, is_path, is_string}
use Rattle.rule_match.specs.Sources.{arguments_from}
use Rattle.rule_match.proofs.Asking.{others_decide, first_fails, none_left, left_fails, right_fails}
use Rattle.rule_match.proofs.wants.are_wanted.Goals as goal

pub returns-then-not-is_first_string-clause-has : goal.returns-then-not-is_first_string-clause-has
returns-then-not-is_first_string-clause-has c = λ ds are.
    let was = c.loop-strings.invariant in
    let has = c.is_first_string.ensures.has ds (ap arguments_from was.source ∙ are) in
    left_fails _ _ (first_fails (λ (a : Argument). has_at (is_string a.text) a.index ds) c.loop-strings.strings.now (sym has ∙ c.if-not-is_first_string.true)) ∙ sym (was.left ds are)

pub loop-strings-preserved-then-is_string_next : goal.loop-strings-preserved-then-is_string_next
loop-strings-preserved-then-is_string_next c =
    let was = c.loop-strings.invariant in
    record {
      walk = c.is_first_string.ensures.walk;
      source = c.is_first_string.ensures.source ∙ was.source;
      strings = rw c.behind_first-strings.ensures (All-drop (λ (a : Argument). a.index < 64) 1 c.loop-strings.strings.now was.strings);
      paths = was.paths;
      left = λ ds are.
          let has = c.is_first_string.ensures.has ds (ap arguments_from was.source ∙ are) in
          let others = others_decide (λ (a : Argument). has_at (is_string a.text) a.index ds) c.loop-strings.strings.now (sym has ∙ c.if-not-is_first_string.false)
          ∙ ap (list_all (λ (a : Argument). has_at (is_string a.text) a.index ds)) (sym c.behind_first-strings.ensures) in
          was.left ds are ∙ ap (λ b. b && list_all (λ (a : Argument). has_at (is_path a.text) a.index ds) c.loop-strings.paths.now) others;
    }

pub returns-then-not-is_first_path-clause-has : goal.returns-then-not-is_first_path-clause-has
returns-then-not-is_first_path-clause-has c = λ ds are.
    let was = c.loop-strings.invariant in
    let has = c.is_first_path.ensures.has ds (ap arguments_from was.source ∙ are) in
    right_fails _ _ (first_fails (λ (a : Argument). has_at (is_path a.text) a.index ds) c.loop-strings.paths.now (sym has ∙ c.if-not-is_first_path.true)) ∙ sym (was.left ds are)

pub loop-strings-preserved : goal.loop-strings-preserved
loop-strings-preserved c =
    let was = c.loop-strings.invariant in
    record {
      walk = c.is_first_path.ensures.walk;
      source = c.is_first_path.ensures.source ∙ was.source;
      strings = was.strings;
      paths = rw c.behind_first-paths.ensures (All-drop (λ (a : Argument). a.index < 64) 1 c.loop-strings.paths.now was.paths);
      left = λ ds are.
          let has = c.is_first_path.ensures.has ds (ap arguments_from was.source ∙ are) in
          let others = others_decide (λ (a : Argument). has_at (is_path a.text) a.index ds) c.loop-strings.paths.now (sym has ∙ c.if-not-is_first_path.false)
          ∙ ap (list_all (λ (a : Argument). has_at (is_path a.text) a.index ds)) (sym c.behind_first-paths.ensures) in
          was.left ds are ∙ ap (λ b. list_all (λ (a : Argument). has_at (is_string a.text) a.index ds) c.loop-strings.strings.now && b) others;
    }

pub returns-clause-has : goal.returns-clause-has
returns-clause-has c = λ ds are.
    let strings : length c.loop-strings.strings.now ≡ 0 = grind (arith, nat_tests) in
    let paths : length c.loop-strings.paths.now ≡ 0 = grind (arith, nat_tests) in
    sym (c.loop-strings.invariant.left ds are ∙ ap (λ b. b && list_all (λ (a : Argument). has_at (is_path a.text) a.index ds) c.loop-strings.paths.now) (none_left (λ (a : Argument). has_at (is_string a.text) a.index ds) c.loop-strings.strings.now strings)
    ∙ none_left (λ (a : Argument). has_at (is_path a.text) a.index ds) c.loop-strings.paths.now paths)
