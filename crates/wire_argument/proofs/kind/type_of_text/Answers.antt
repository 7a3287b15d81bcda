use Rattle.std.proofs.Common.{◌≡◌, true, false, ap, sym, subst, ◌∙◌}
use Rattle.std.specs.Str.{is_utf8}
use Rattle.std.proofs.lemmas.Str.{is_utf8-from_IsUtf8}
use Rattle.wire_signature.specs.SingleType.{TypeText}
use Rattle.wire_signature.proofs.Ascii.{type_utf8}
use Rattle.wire_argument.proofs.TypeTexts.{own_kind}
use Rattle.wire_argument.proofs.kind.type_of_text.Goals as goal

pub returns-clause-value : goal.returns-clause-value
returns-clause-value c =
    λ t h. own_kind c.try_from.result t c.in-Some.text.now (subst (TypeText t) (sym (c.in-Some.ensures.0 ∙ c.as_bytes.ensures)) h) c.try_from.ensures.told

pub unreachable-requires : goal.unreachable-requires
unreachable-requires c =
    let low : is_utf8 c.args.text.now ≡ true = is_utf8-from_IsUtf8 c.args.text.now (type_utf8 c.args.text.now c.requires.0 c.requires.1.text) in
    let high : is_utf8 c.args.text.now ≡ false = sym (ap is_utf8 c.as_bytes.ensures) ∙ c.in-None.ensures in
    absurd cc
