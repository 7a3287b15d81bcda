-- The rule's streams may hold more; one without a rule changes nothing.
use Rattle.std.proofs.{Common.{sym, ◌∙◌, ap, subst, is_some, None, Some}, lemmas.Bool.false≢true}
use Rattle.peer_streams.specs.{History.{Did, Asked, after}, Refinement.{RefinesStreams}, Keeping.{Parts}}
use Rattle.peer_streams.proofs.{StreamsMade.{there_so}, RuledStreams.{streams_asked, streams_kept}, LookedUp.{usable_found, usable_is, rule_known}, HeldChanges.{IsRaised, raised_views, raised_kept}}
use Rattle.peer_streams.proofs.streams.Streams.ask.Goals as goal

pub returns-in_default-clause-has : goal.returns-in_default-clause-has
returns-in_default-clause-has c p left there =
    absurd (false≢true (there_so p c.args.stream None (usable_found c.self.invariant c.args.self.now c.self.view_is p left c.args.stream None (rw c.in_default.is at c.usable.ensures)) ∙ there))

pub returns-in_default-clause-raised : goal.returns-in_default-clause-raised
returns-in_default-clause-raised c p left there =
    absurd (false≢true (there_so p c.args.stream None (usable_found c.self.invariant c.args.self.now c.self.view_is p left c.args.stream None (rw c.in_default.is at c.usable.ensures)) ∙ there))

pub returns-in_default-rule-clause-has : goal.returns-in_default-rule-clause-has
returns-in_default-rule-clause-has c p left there =
    let parts : Parts = record { made = c.self.inside.made; states = c.self.inside.states.entries; lists = c.self.inside.lists } in
    let st = c.in-Some.state.now in
    let usable = usable_is parts c.args.stream st (rw c.in-Some.is at c.usable.ensures) in
    let mine = subst (λ v. RefinesStreams v p) (sym c.self.view_is) left in
    ap is_some (sym c.in_default-rule.is ∙ rule_known c.self.invariant p mine c.args.stream st usable there)

pub returns-in_default-rule-clause-raised : goal.returns-in_default-rule-clause-raised
returns-in_default-rule-clause-raised c p left there =
    let parts : Parts = record { made = c.self.inside.made; states = c.self.inside.states.entries; lists = c.self.inside.lists } in
    let st = c.in-Some.state.now in
    let usable = usable_is parts c.args.stream st (rw c.in-Some.is at c.usable.ensures) in
    let mine = subst (λ v. RefinesStreams v p) (sym c.self.view_is) left in
    streams_kept c.args.self.now p c.args.stream c.args.limit left (sym (rule_known c.self.invariant p mine c.args.stream st usable there) ∙ c.in_default-rule.is)

pub returns-clause-has : goal.returns-clause-has
returns-clause-has c p left there =
    let parts : Parts = record { made = c.self.inside.made; states = c.self.inside.states.entries; lists = c.self.inside.lists } in
    let st = c.in-Some.state.now in
    let usable = usable_is parts c.args.stream st (rw c.in-Some.is at c.usable.ensures) in
    let mine = subst (λ v. RefinesStreams v p) (sym c.self.view_is) left in
    ap is_some (sym c.in-Some-rule.is ∙ rule_known c.self.invariant p mine c.args.stream st usable there)

pub invariant_of-self : goal.invariant_of-self
invariant_of-self c = raised_kept c.self.invariant c.raise.new.self c.inner.result.now c.args.limit (record { limits = c.raise.ensures.limits; held = c.raise.ensures.held })

pub returns-clause-raised : goal.returns-clause-raised
returns-clause-raised c p left there =
    let parts : Parts = record { made = c.self.inside.made; states = c.self.inside.states.entries; lists = c.self.inside.lists } in
    let st = c.in-Some.state.now in
    let rule = c.inner.result.now in
    let usable = usable_is parts c.args.stream st (rw c.in-Some.is at c.usable.ensures) in
    let mine = subst (λ v. RefinesStreams v p) (sym c.self.view_is) left in
    let is : IsRaised parts c.raise.new.self rule c.args.limit = record { limits = c.raise.ensures.limits; held = c.raise.ensures.held } in
    subst (λ qs. RefinesStreams qs (after (Did c.args.stream (Asked c.args.limit)) p)) (sym (raised_views c.self.invariant c.raise.new.self rule c.args.limit is))
    (streams_asked _ p c.args.stream c.args.limit rule mine
    (sym (rule_known c.self.invariant p mine c.args.stream st usable there) ∙ c.in-Some-rule.is ∙ ap (λ r. Some r) (sym c.inner.ensures)))
