-- The rule comes last, with its first stream.
use Rattle.std.proofs.{Common.{refl, sym, ap, ◌∙◌, is_some, cond, Some, None}, lemmas.Bool.eq-eqb}
use Rattle.peer_streams.proofs.{SubscribedLookups.has_one, SubscribedSteps.{absent_of, come_limits, come_held, count_more, kept_more}}
use Rattle.peer_streams.proofs.subscriptions.Subscriptions.subscribe.Goals as goal

pub recount-self-inside-requires : goal.recount-self-inside-requires
recount-self-inside-requires c =
    count_more c.self.inside.rules c.insert.new.self c.self.inside.full c.in_ok-key.key c.in_ok-first.first c.is_full-is_full.result c.self.invariant.counted
    (absent_of c.self.inside.rules.entries c.args.self.now c.args.rule.now c.in_ok-key.key c.self.view_is c.in_ok-key.ensures c.requires)
    c.in_ok-insert.ensures.entries c.is_full-is_full.ensures.full

pub invariant_of-self-2 : goal.invariant_of-self-2
invariant_of-self-2 c =
    kept_more c.self.inside.rules c.insert.new.self c.self.inside.full c.recount-self-inside.result c.in_ok-key.key c.in_ok-first.first c.self.invariant
    (absent_of c.self.inside.rules.entries c.args.self.now c.args.rule.now c.in_ok-key.key c.self.view_is c.in_ok-key.ensures c.requires)
    c.in_ok-insert.ensures.entries c.in_ok-insert.ensures.unique
    (has_one c.in_ok-first.first.list c.args.stream (ap is_some (c.in_ok-first.ensures.held c.args.stream ∙ ap (λ b. cond b (Some None) None) (eq-eqb c.args.stream c.args.stream refl))))
    c.is_full-is_full.ensures.most c.recount-self-inside.ensures

pub returns-clause-limits : goal.returns-clause-limits
returns-clause-limits c =
    come_limits c.self.inside.rules c.args.self.now c.args.rule.now c.self.view_is
    (sym (absent_of c.self.inside.rules.entries c.args.self.now c.args.rule.now c.args.rule.now c.self.view_is refl c.requires))
    c.in_ok-key.key c.insert.new.self c.in_ok-first.first c.in_ok-key.ensures c.in_ok-insert.ensures.updates _ c.in_ok-first.ensures.limit

pub returns-clause-held : goal.returns-clause-held
returns-clause-held c =
    come_held c.self.inside.rules c.args.self.now c.args.rule.now c.self.view_is
    (sym (absent_of c.self.inside.rules.entries c.args.self.now c.args.rule.now c.args.rule.now c.self.view_is refl c.requires))
    c.in_ok-key.key c.insert.new.self c.in_ok-first.first c.in_ok-key.ensures c.in_ok-insert.ensures.updates c.args.stream c.in_ok-first.ensures.held
