use Rattle.std.proofs.Common.{◌≡◌, sym, ap, subst, refl, ◌∙◌, Ok, IfOk}
use Rattle.peer_conn.specs.{Names.{rule_in_bytes, Acted, Answer, Makes}, Invariant.{PeerStateView, StateInvariant, Did, unopened_answer}}
use Rattle.peer_core.specs.{History.{Made, after}, Refinement.Refines, Bus.OpensRule}
use Rattle.peer_streams.specs.History.{Ruled}
use Rattle.peer_route.specs.{Replay.count, Plan.opens}
use Rattle.peer_conn.proofs.{Quietly.{makes_did, answers_did}, RuleStreams.{asking_did, opened_left, opened_plan, unopened_did, misread_did, rule_read}}
use Rattle.peer_conn.proofs.state.PeerState.open.Goals as goal

pub returns-in-Err-clause-did : goal.returns-in-Err-clause-did
returns-in-Err-clause-did c t s =
    rw (c.as_slice.ensures.value) at (misread_did c.args.self.now t c.args.lane (rule_in_bytes c.as_slice.result.now) c.args.max_queued c.in-Err.error c.refused.result s c.in-Err.ensures c.refused.ensures)

pub returns-in-Ok-Open-clause-did : goal.returns-in-Ok-Open-clause-did
returns-in-Ok-Open-clause-did c t s =
    let before : StateInvariant _ t = subst (λ v. StateInvariant v t) (sym c.self.view_is) s in
    let read : Ok c.in-Ok.rule ≡ rule_in_bytes c.args.text.now = rule_read c.in-Ok.rule (rule_in_bytes c.as_slice.result.now) c.in-Ok.ensures ∙ ap rule_in_bytes c.as_slice.ensures.value in
    let is = opened_left c.self.inside.route c.open_rule.new.self t c.in-Ok.rule c.args.max_queued c.in-Ok-Open.stream (subst (λ o. OpensRule c.self.inside.route c.open_rule.new.self c.in-Ok.rule c.args.max_queued t.past (Ok o)) c.in-Ok-Open.field-0-is (c.in-Ok-Open.ensures.opens t.past before.keeps.left)) in
    subst (λ x. IfOk c.made.result (Did c.made.new.self t c.args.lane (opens t c.args.lane x c.args.max_queued t.past.closing))) read
    (subst (λ p. IfOk c.made.result (Did c.made.new.self t c.args.lane p)) (sym (opened_plan t c.args.lane c.in-Ok.rule c.args.max_queued is.2 is.3 is.4))
    (makes_did _ c.made.new.self t c.args.lane (Ruled c.in-Ok.rule c.args.max_queued) c.in-Ok-Open.stream c.made.result before tt is.1
    (subst (λ v. Refines v (after (Made (Ruled c.in-Ok.rule c.args.max_queued)) t.past)) (sym c.made.ensures.rest.0) is.0) c.made.ensures.held c.made.ensures.given c.made.ensures.answer))

pub returns-in_ok-push-in-Ok-Opening-2-clause-did : goal.returns-in_ok-push-in-Ok-Opening-2-clause-did
returns-in_ok-push-in-Ok-Opening-2-clause-did c t s =
    let before : StateInvariant _ t = subst (λ v. StateInvariant v t) (sym c.self.view_is) s in
    let read : Ok c.in-Ok.rule ≡ rule_in_bytes c.args.text.now = rule_read c.in-Ok.rule (rule_in_bytes c.as_slice.result.now) c.in-Ok.ensures ∙ ap rule_in_bytes c.as_slice.ensures.value in
    let now : PeerStateView = record { core = c.open_rule.new.self; calls = c.self.inside.calls; streams = c.self.inside.streams; server = c.self.inside.server; makes = c.self.inside.makes; handles = c.push.new.self.items; given = c.push-in-Ok-Opening.new.self.items } in
    let did : Acted = record { answer = Answer.Opening (count c.args.lane c.self.inside.streams) c.in-Ok-Opening.opening.serial; makes = Makes.Opening } in
    rw (c.count.ensures, c.serial-serial.ensures) (subst (λ x. Did now t c.args.lane (opens t c.args.lane x c.args.max_queued t.past.closing) did) read
    (asking_did _ now t c.args.lane c.in-Ok.rule c.args.max_queued c.in-Ok-Opening.opening before c.in_ok-push-in-Ok-Opening.ensures.items c.in_ok-push-in-Ok-Opening-2.ensures.items (subst (λ o. OpensRule c.self.inside.route c.open_rule.new.self c.in-Ok.rule c.args.max_queued t.past (Ok o)) c.in-Ok-Opening.field-0-is (c.in-Ok-Opening.ensures.opens t.past before.keeps.left))))

pub returns-in-Err-open_rule-clause-did : goal.returns-in-Err-open_rule-clause-did
returns-in-Err-open_rule-clause-did c t s =
    let before : StateInvariant _ t = subst (λ v. StateInvariant v t) (sym c.self.view_is) s in
    let read : Ok c.in-Ok.rule ≡ rule_in_bytes c.args.text.now = rule_read c.in-Ok.rule (rule_in_bytes c.as_slice.result.now) c.in-Ok.ensures ∙ ap rule_in_bytes c.as_slice.ensures.value in
    let now : PeerStateView = record { core = c.open_rule.new.self; calls = c.self.inside.calls; streams = c.self.inside.streams; server = c.self.inside.server; makes = c.self.inside.makes; handles = c.self.inside.handles.items; given = c.self.inside.given.items } in
    subst (λ x. IfOk c.unopened.result (Did now t c.args.lane (opens t c.args.lane x c.args.max_queued t.past.closing))) read
    (answers_did unopened_answer now t c.args.lane (opens t c.args.lane (Ok c.in-Ok.rule) c.args.max_queued t.past.closing) c.in-Err-open_rule.error c.unopened.result c.unopened.ensures
    (unopened_did _ now t c.args.lane c.in-Ok.rule c.args.max_queued c.in-Err-open_rule.error before refl refl (c.in-Err-open_rule.ensures.opens t.past before.keeps.left)))
