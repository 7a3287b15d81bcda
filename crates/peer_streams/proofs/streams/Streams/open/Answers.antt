-- One stream more that holds nothing.
use Rattle.std.proofs.Common.{refl, sym, ◌∙◌, ap, subst, true, [], ◌∷◌, ◌++◌, length, Some, None, if◌then◌else◌, ◌==◌}
use Rattle.peer_streams.specs.{Names.{StreamState, Progress}, Subscriptions.limit_in, Keeping.{Parts, state_at, held_of, messages_of, views}, Refinement.{Active, RefinesStreams}, History.{Made, Plain, after}}
use Rattle.peer_streams.proofs.{KeptMore.{Adds, absent, nowhere, kept_more, listed_more, added_plain, adds_held}, KeptSame.{Same, same_views, on_err}, StreamsMade.{new_held, streams_made}, Views.views_length}
use Rattle.peer_streams.proofs.streams.Streams.open.Goals as goal

pub returns-in_err-open-clause-err : goal.returns-in_err-open-clause-err
returns-in_err-open-clause-err c =
    let p : Parts = record { made = c.self.inside.made; states = c.self.inside.states.entries; lists = c.self.inside.lists } in
    let q : Parts = record { made = c.self.inside.made; states = c.reserve.new.self.entries; lists = c.open.new.self } in
    let s : Same p q = record {
      made = refl;
      states = c.reserve.ensures.entries.2;
      limits = λ r. ap (λ l. limit_in l.rules r) c.in_err-open.ensures.err;
      held = λ o k. ap (λ l. held_of l o k) c.in_err-open.ensures.err;
    } in on_err c.from_residual-in_err-open.result (same_views s ∙ c.self.view_is)

pub invariant_of-self-2 : goal.invariant_of-self-2
invariant_of-self-2 c =
    let p : Parts = record { made = c.self.inside.made; states = c.self.inside.states.entries; lists = c.self.inside.lists } in
    let q : Parts = record { made = c.in_ok-made.made; states = c.put.new.states.entries; lists = c.open.new.self } in
    let st : StreamState = record { rule = None; progress = Progress.Active; closing_delivered = c.args.closing_delivered; open_reported = true } in
    let a : Adds p q st (Some (Some [])) = record {
      made = c.in_ok-made.ensures;
      states = λ k. c.put.ensures.0 k ∙ ap (λ o. if p.made == k then Some c.active.result else o) (c.reserve.ensures.entries.2 k) ∙ ap (λ x. if p.made == k then Some x else state_at p k) c.active.ensures;
      held = c.in_ok-open.ensures.held (nowhere c.self.invariant None p.made (absent c.self.invariant));
    } in kept_more c.self.invariant a refl c.self.inside.waiting.items (listed_more c.self.invariant a refl)

pub returns-clause-number : goal.returns-clause-number
returns-clause-number c =
    sym (views_length (record { made = c.self.inside.made; states = c.self.inside.states.entries; lists = c.self.inside.lists })) ∙ ap length c.self.view_is

pub returns-clause-ok : goal.returns-clause-ok
returns-clause-ok c h left closing =
    let p : Parts = record { made = c.self.inside.made; states = c.self.inside.states.entries; lists = c.self.inside.lists } in
    let q : Parts = record { made = c.in_ok-made.made; states = c.put.new.states.entries; lists = c.open.new.self } in
    let st : StreamState = record { rule = None; progress = Progress.Active; closing_delivered = c.args.closing_delivered; open_reported = true } in
    let a : Adds p q st (Some (Some [])) = record {
      made = c.in_ok-made.ensures;
      states = λ k. c.put.ensures.0 k ∙ ap (λ o. if p.made == k then Some c.active.result else o) (c.reserve.ensures.entries.2 k) ∙ ap (λ x. if p.made == k then Some x else state_at p k) c.active.ensures;
      held = c.in_ok-open.ensures.held (nowhere c.self.invariant None p.made (absent c.self.invariant));
    } in
    subst (λ v. RefinesStreams v (after (Made Plain) h))
    (sym (added_plain a (λ r. ap (λ v. limit_in v r) c.in_ok-open.ensures.rules)
    ∙ ap (λ x. views p ++ x ∷ []) (ap (λ o. record (new_held None Active c.args.closing_delivered) { items = messages_of o }) (adds_held a) ∙ ap (new_held None Active) closing)))
    (streams_made (views p) h (subst (λ v. RefinesStreams v h) (sym c.self.view_is) left))
