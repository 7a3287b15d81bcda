use Rattle.std.proofs.Common.{◌≡◌, None, arith, rules, sym, ◌∙◌, ap}
use Rattle.std.specs.Option.{option_copied}
use Rattle.wire_signature.specs.Parsing.{rest_of}
use Rattle.wire_signature.proofs.Steps.{many_at-end, rest_of-last, rest_of-more, rest_of-none, type_at-kind}
use Rattle.wire_signature.proofs.walk.+walk.Goals as goal

pub skip_type-returns : goal.skip_type-returns
skip_type-returns t c = c.skip_kind.ensures ∙ sym (ap rest_of (type_at-kind _ _ _ _ _ _ (omega arith) c.in_ok-first.ensures))

pub skip_types-returns-in-Some : goal.skip_types-returns-in-Some
skip_types-returns-in-Some t c = sym (c.loop.invariant ∙ ap rest_of (many_at-end _ _ _ _ _ (sym c.in-Some.ensures)))

pub skip_types-returns-in_err-rest : goal.skip_types-returns-in_err-rest
skip_types-returns-in_err-rest t c =
    let none : option_copied c.from_residual.result ≡ None = search rules in
    none ∙ sym (c.loop.invariant ∙ rest_of-none _ _ _ _ (omega arith) (sym c.in_default.ensures) c.in_err-rest.ensures)

pub skip_types-loop-preserved : goal.skip_types-loop-preserved
skip_types-loop-preserved t c =
    c.loop.invariant ∙ rest_of-more _ _ _ _ _ _ (omega arith) (sym c.in_default.ensures) c.in_ok-rest.ensures

pub skip_types-returns : goal.skip_types-returns
skip_types-returns t c = c.behind-2.ensures ∙ sym (c.loop.invariant ∙ rest_of-last _ _ _ _ (omega arith))
