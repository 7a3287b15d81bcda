-- A stream more of the rule, which is open, and what the others of its rule may hold then.
use Rattle.std.proofs.Common.{◌≡◌, ℕ, refl, sym, ◌∙◌, ap, subst, true, false, [], ◌∷◌, ◌++◌, length, map, if◌then◌else◌, ◌==◌, ◌&&◌, is_some, Option, Some, None, IsSome}
use Rattle.std.specs.Option.{option_map, option_eq}
use Rattle.peer_lists.specs.Holdings.{begun}
use Rattle.peer_streams.specs.{Names.{Rule, StreamState, Progress}, Rules.is_same, Subscriptions.{limit_in, held_in, limit_asked}, Keeping.{Parts, state_at, held_of, messages_of, views}, Refinement.{Active, RefinesStreams}, History.{fresh, Made, Ruled, after}}
use Rattle.peer_streams.proofs.{Capacities.asked_capacity, KeptMore.{Adds, Raises, absent, nowhere, kept_more, listed_more, added_ruled, raised_own, adds_held, begins}, KeptSame.{Same, same_views, on_err}, RuledStreams.{raise_held, streams_ruled, new_ruled}, StreamsMade.new_held, Views.views_length}
use Rattle.peer_streams.proofs.streams.Streams.open_rule.Goals as goal

pub returns-in_err-reserve-2-clause-err : goal.returns-in_err-reserve-2-clause-err
returns-in_err-reserve-2-clause-err c =
    let p : Parts = record { made = c.self.inside.made; states = c.self.inside.states.entries; lists = c.self.inside.lists } in
    let q : Parts = record { made = c.self.inside.made; states = c.reserve.new.self.entries; lists = c.reserve-2.new.self } in
    let s : Same p q = record {
      made = refl;
      states = c.reserve.ensures.entries.2;
      limits = λ r. ap (λ l. limit_in l.rules r) c.in_err-reserve-2.ensures.err;
      held = λ o j. ap (λ l. held_of l o j) c.in_err-reserve-2.ensures.err;
    } in on_err c.from_residual-in_err-reserve-2.result (same_views s ∙ c.self.view_is)

pub invariant_of-self-2 : goal.invariant_of-self-2
invariant_of-self-2 c =
    let p : Parts = record { made = c.self.inside.made; states = c.self.inside.states.entries; lists = c.self.inside.lists } in
    let q : Parts = record { made = c.in_ok-made.made; states = c.put.new.states.entries; lists = c.begin.new.self } in
    let rule = c.args.rule in
    let given : (o : Option Rule) (j : ℕ) → held_of c.reserve-2.new.self o j ≡ (if option_eq is_same (Some rule) o && p.made == j then Some None else held_of p.lists o j) =
    subst (λ (r : Rule). held_of p.lists (Some r) p.made ≡ None → (o : Option Rule) (j : ℕ) → held_of c.reserve-2.new.self o j ≡ (if option_eq is_same (Some r) o && p.made == j then Some None else held_of p.lists o j))
    c.inner.ensures c.in_ok-reserve-2.ensures.held (nowhere c.self.invariant (Some rule) p.made (absent c.self.invariant)) in
    let st : StreamState = record { rule = Some rule; progress = Progress.Active; closing_delivered = c.args.closing_delivered; open_reported = true } in
    let a : Adds p q st (Some (Some [])) = record {
      made = c.in_ok-made.ensures;
      states = λ j. c.put.ensures.0 j ∙ ap (λ o. if p.made == j then Some c.active.result else o) (c.reserve.ensures.entries.2 j) ∙ ap (λ x. if p.made == j then Some x else state_at p j) c.active.ensures;
      held = λ o j. c.begin.ensures.held o j ∙ ap (λ x. if option_eq is_same (Some rule) o && p.made == j then option_map begun x else x) (given o j) ∙ begins (option_eq is_same (Some rule) o && p.made == j) (held_of p.lists o j);
    } in
    kept_more c.self.invariant a refl c.self.inside.waiting.items (listed_more c.self.invariant a refl)

pub returns-clause-number : goal.returns-clause-number
returns-clause-number c =
    sym (views_length (record { made = c.self.inside.made; states = c.self.inside.states.entries; lists = c.self.inside.lists })) ∙ ap length c.self.view_is

pub returns-clause-ok : goal.returns-clause-ok
returns-clause-ok c h left closing =
    let p : Parts = record { made = c.self.inside.made; states = c.self.inside.states.entries; lists = c.self.inside.lists } in
    let q : Parts = record { made = c.in_ok-made.made; states = c.put.new.states.entries; lists = c.begin.new.self } in
    let rule = c.args.rule in
    let given : (o : Option Rule) (j : ℕ) → held_of c.reserve-2.new.self o j ≡ (if option_eq is_same (Some rule) o && p.made == j then Some None else held_of p.lists o j) =
    subst (λ (r : Rule). held_of p.lists (Some r) p.made ≡ None → (o : Option Rule) (j : ℕ) → held_of c.reserve-2.new.self o j ≡ (if option_eq is_same (Some r) o && p.made == j then Some None else held_of p.lists o j))
    c.inner.ensures c.in_ok-reserve-2.ensures.held (nowhere c.self.invariant (Some rule) p.made (absent c.self.invariant)) in
    let st : StreamState = record { rule = Some rule; progress = Progress.Active; closing_delivered = c.args.closing_delivered; open_reported = true } in
    let a : Adds p q st (Some (Some [])) = record {
      made = c.in_ok-made.ensures;
      states = λ j. c.put.ensures.0 j ∙ ap (λ o. if p.made == j then Some c.active.result else o) (c.reserve.ensures.entries.2 j) ∙ ap (λ x. if p.made == j then Some x else state_at p j) c.active.ensures;
      held = λ o j. c.begin.ensures.held o j ∙ ap (λ x. if option_eq is_same (Some rule) o && p.made == j then option_map begun x else x) (given o j) ∙ begins (option_eq is_same (Some rule) o && p.made == j) (held_of p.lists o j);
    } in
    let raises : Raises p q rule c.args.asked = record {
      limits = subst (λ (x : Rule). (r : Rule) → limit_in q.lists.rules r ≡ (if is_same x r then Some (limit_asked (limit_in p.lists.rules x) x c.args.asked) else limit_in p.lists.rules r))
          c.inner.ensures (λ r. c.begin.ensures.limits r ∙ c.in_ok-reserve-2.ensures.limits r);
    } in
    let used = subst (λ (x : Rule). IsSome (limit_in p.lists.rules x) → (j : ℕ) × IsSome (held_in p.lists.rules x j)) c.inner.ensures c.in_ok-reserve-2.ensures.used in
    let was = subst (λ v. RefinesStreams v h) (sym c.self.view_is) left in
    let limit = limit_asked (limit_in p.lists.rules rule) rule c.args.asked in
    let capacity = asked_capacity c.self.invariant h rule c.args.asked was used in
    let new = new_ruled h rule (is_some h.closing) in
    let shown_is =
    ap (λ n. record (new_held (Some (record { rule = rule; limit = n })) Active c.args.closing_delivered) { items = messages_of (held_of q.lists (Some rule) p.made) }) (raised_own rule c.args.asked raises)
    ∙ ap (λ o. record (new_held (Some (record { rule = rule; limit = limit })) Active c.args.closing_delivered) { items = messages_of o }) (adds_held a)
    ∙ ap (new_held (Some (record { rule = rule; limit = limit })) Active) closing in
    subst (λ v. RefinesStreams v (after (Made (Ruled rule c.args.asked)) h)) (sym (added_ruled c.self.invariant a rule c.args.asked raises ∙ ap (λ x. map (raise_held rule c.args.asked) (views p) ++ x ∷ []) shown_is))
    (streams_ruled (views p) h rule c.args.asked Active (is_some h.closing) limit (fresh h (Some rule) (is_some h.closing)) was new capacity)
