use Rattle.std.proofs.Common.{◌↔◌, ◌∙◌, ◌<◌, ap, subst, List, ℕ, IsTrue}
use Rattle.std.specs.List.{All}
use Rattle.wire_message.specs.Front.{MessageView}
use Rattle.rule_match.specs.Matching.{HeaderMatches}
use Rattle.rule_match.proofs.Accepted.{told, refused_by_header, left_to_arguments}
use Rattle.rule_match.proofs.rule.MatchRule.matches_candidate.Goals as goal

pub returns-then-match_header-clause-matches : goal.returns-then-match_header-clause-matches
returns-then-match_header-clause-matches c =
    let head = subst (λ (m : MessageView). IsTrue c.match_header.result ↔ HeaderMatches c.args.self.now m) c.message-2.ensures c.match_header.ensures in
    let low = subst (λ (bytes : List ℕ). All (λ b. b < 256) bytes) (c.data.ensures ∙ ap (λ (m : MessageView). m.bytes) c.message.ensures) c.tell_bytes.ensures in
    told c.match_arguments.result c.args.self.now c.args.candidate.now low
    (c.match_arguments.ensures.accepts ∙ left_to_arguments c.match_header.result c.args.self.now c.args.candidate.now head c.if-match_header.true)

pub returns-then-match_header-clause-accepts : goal.returns-then-match_header-clause-accepts
returns-then-match_header-clause-accepts c =
    let head = subst (λ (m : MessageView). IsTrue c.match_header.result ↔ HeaderMatches c.args.self.now m) c.message-2.ensures c.match_header.ensures in
    c.match_arguments.ensures.accepts ∙ left_to_arguments c.match_header.result c.args.self.now c.args.candidate.now head c.if-match_header.true

pub returns-else-match_header-clause-accepts : goal.returns-else-match_header-clause-accepts
returns-else-match_header-clause-accepts c =
    let head = subst (λ (m : MessageView). IsTrue c.match_header.result ↔ HeaderMatches c.args.self.now m) c.message-2.ensures c.match_header.ensures in
    c.if-match_header.false ∙ refused_by_header c.match_header.result c.args.self.now c.args.candidate.now head c.if-match_header.false
