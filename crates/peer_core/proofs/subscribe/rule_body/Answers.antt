-- A text that isn't too long is taken: it is UTF-8, and has no 0 byte.
use Rattle.std.proofs.{Common.{sym, ◌∙◌, subst, length, ◌≤◌, ◌<◌}, lemmas.Str.IsUtf8-string_bytes}
use Rattle.std.specs.List.{All}
use Rattle.peer_core.specs.Names.{string, IsTextOf}
use Rattle.rule_match.proofs.NoZero.{no_zero}
use Rattle.peer_core.proofs.subscribe.rule_body.Goals as goal

pub unreachable-requires : goal.unreachable-requires
unreachable-requires c =
    let r = c.args.rule.now in
    let same = c.in_ok-to_string.ensures.ok in
    let text = c.in-Err.ensures.short.0 ∙ c.from_string.ensures in
    let told = rw c.in-Err-Malformed.field-0-is at c.in-Err-Malformed.ensures.told in
    told.1 (
      subst (IsTextOf string) (sym text) (
        IsUtf8-string_bytes c.in_ok-to_string.field-0,
        subst (All (λ b. 0 < b)) (sym same) (no_zero r c.rules_hold_their_grammar.ensures.arguments c.rules_hold_their_grammar.ensures.names),
        subst (λ bytes. length bytes ≤ 4294967295) c.from_string.ensures c.in-Err.ensures.short.1,
      ),
      tt,
    )
