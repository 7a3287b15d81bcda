-- The index after the greatest.
use Rattle.std.proofs.Common.{◌≡◌, refl, sym, ap, ◌∙◌, ◌+◌, ◌-◌, ◌≤◌, List, [], ◌∷◌, length, get_or, arith}
use Rattle.rule_match.specs.declared.arguments.Argument.{Argument}
use Rattle.rule_match.specs.Arguments.{index_after}

pub after_last : (a : Argument) (rest : List Argument) (d : Argument) → index_after (a ∷ rest) ≡ (get_or (a ∷ rest) (length rest) d).index + 1
after_last a [] d = refl
after_last a (b ∷ rest) d = after_last b rest d

pub last_after : (xs : List Argument) (x : Argument) → 1 ≤ length xs → x ≡ get_or xs (length xs - 1) x → index_after xs ≡ x.index + 1
last_after [] x some at = absurd (omega arith)
last_after (a ∷ rest) x some at =
    let end : length (a ∷ rest) - 1 ≡ length rest = omega arith in
    let is : x ≡ get_or (a ∷ rest) (length rest) x = rw end at at in
    after_last a rest x ∙ ap (λ y. y.index + 1) (sym is)
