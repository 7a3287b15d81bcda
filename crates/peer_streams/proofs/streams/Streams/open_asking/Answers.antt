-- A stream more of the rule, which waits, and what the others of its rule may hold then.
use Rattle.std.proofs.Common.{◌≡◌, ℕ, refl, sym, ◌∙◌, ap, subst, false, [], ◌∷◌, ◌++◌, length, map, if◌then◌else◌, ◌==◌, ◌&&◌, Option, Some, None, IsSome}
use Rattle.std.specs.Option.{option_eq}
use Rattle.peer_streams.specs.{Names.{Rule, StreamState, Progress}, Rules.is_same, Subscriptions.{limit_in, held_in, limit_asked}, Keeping.{Parts, state_at, held_of, views, AreKept}, Refinement.{Awaits, RefinesStreams}, History.{asking_stream, Asks, after}}
use Rattle.peer_streams.proofs.{Capacities.asked_capacity, KeptMore.{Adds, Raises, absent, nowhere, kept_more, listed_waits, added_ruled, raised_own}, KeptSame.{Same, same_views, on_err}, RuledStreams.{raise_held, streams_ruled, new_asking}, StreamsMade.new_held, Views.views_length}
use Rattle.peer_streams.proofs.streams.Streams.open_asking.Goals as goal

pub returns-in_err-push-clause-err : goal.returns-in_err-push-clause-err
returns-in_err-push-clause-err c =
    let p : Parts = record { made = c.self.inside.made; states = c.self.inside.states.entries; lists = c.self.inside.lists } in
    let q : Parts = record { made = c.self.inside.made; states = c.reserve.new.self.entries; lists = c.self.inside.lists } in
    let s : Same p q = record { made = refl; states = c.reserve.ensures.entries.2; limits = λ r. refl; held = λ o j. refl } in on_err c.from_residual-in_err-push.result (same_views s ∙ c.self.view_is)

pub returns-in_err-reserve-2-clause-err : goal.returns-in_err-reserve-2-clause-err
returns-in_err-reserve-2-clause-err c =
    let p : Parts = record { made = c.self.inside.made; states = c.self.inside.states.entries; lists = c.self.inside.lists } in
    let q : Parts = record { made = c.self.inside.made; states = c.reserve.new.self.entries; lists = c.reserve-2.new.self } in
    let s : Same p q = record {
      made = refl;
      states = c.reserve.ensures.entries.2;
      limits = λ r. ap (λ l. limit_in l.rules r) c.in_err-reserve-2.ensures.err;
      held = λ o j. ap (λ l. held_of l o j) c.in_err-reserve-2.ensures.err;
    } in on_err c.from_residual-in_err-reserve-2.result (same_views s ∙ c.self.view_is)

pub invariant_of-self-2 : goal.invariant_of-self-2
invariant_of-self-2 c =
    let p : Parts = record { made = c.self.inside.made; states = c.self.inside.states.entries; lists = c.self.inside.lists } in
    let q : Parts = record { made = c.in_ok-made.made; states = c.put.new.states.entries; lists = c.reserve-2.new.self } in
    let rule = c.args.rule in
    let given : (o : Option Rule) (j : ℕ) → held_of c.reserve-2.new.self o j ≡ (if option_eq is_same (Some rule) o && p.made == j then Some None else held_of p.lists o j) =
    subst (λ (r : Rule). held_of p.lists (Some r) p.made ≡ None → (o : Option Rule) (j : ℕ) → held_of c.reserve-2.new.self o j ≡ (if option_eq is_same (Some r) o && p.made == j then Some None else held_of p.lists o j))
    c.inner.ensures c.in_ok-reserve-2.ensures.held (nowhere c.self.invariant (Some rule) p.made (absent c.self.invariant)) in
    let st : StreamState = record { rule = Some rule; progress = Progress.AwaitingReply c.args.serial c.args.index None; closing_delivered = false; open_reported = false } in
    let a : Adds p q st (Some None) = record {
      made = c.in_ok-made.ensures;
      states = λ j. c.put.ensures.0 j ∙ ap (λ o. if p.made == j then Some c.asking.result else o) (c.reserve.ensures.entries.2 j) ∙ ap (λ x. if p.made == j then Some x else state_at p j) c.asking.ensures;
      held = given;
    } in
    subst (AreKept q) (sym c.in_ok-push.ensures.items) (kept_more c.self.invariant a refl (c.self.inside.waiting.items ++ p.made ∷ []) (listed_waits c.self.invariant a))

pub returns-clause-number : goal.returns-clause-number
returns-clause-number c =
    sym (views_length (record { made = c.self.inside.made; states = c.self.inside.states.entries; lists = c.self.inside.lists })) ∙ ap length c.self.view_is

pub returns-clause-ok : goal.returns-clause-ok
returns-clause-ok c h add left serial index from =
    let p : Parts = record { made = c.self.inside.made; states = c.self.inside.states.entries; lists = c.self.inside.lists } in
    let q : Parts = record { made = c.in_ok-made.made; states = c.put.new.states.entries; lists = c.reserve-2.new.self } in
    let rule = c.args.rule in
    let given : (o : Option Rule) (j : ℕ) → held_of c.reserve-2.new.self o j ≡ (if option_eq is_same (Some rule) o && p.made == j then Some None else held_of p.lists o j) =
    subst (λ (r : Rule). held_of p.lists (Some r) p.made ≡ None → (o : Option Rule) (j : ℕ) → held_of c.reserve-2.new.self o j ≡ (if option_eq is_same (Some r) o && p.made == j then Some None else held_of p.lists o j))
    c.inner.ensures c.in_ok-reserve-2.ensures.held (nowhere c.self.invariant (Some rule) p.made (absent c.self.invariant)) in
    let st : StreamState = record { rule = Some rule; progress = Progress.AwaitingReply c.args.serial c.args.index None; closing_delivered = false; open_reported = false } in
    let a : Adds p q st (Some None) = record {
      made = c.in_ok-made.ensures;
      states = λ j. c.put.ensures.0 j ∙ ap (λ o. if p.made == j then Some c.asking.result else o) (c.reserve.ensures.entries.2 j) ∙ ap (λ x. if p.made == j then Some x else state_at p j) c.asking.ensures;
      held = given;
    } in
    let raises : Raises p q rule c.args.asked = record {
      limits = subst (λ (x : Rule). (r : Rule) → limit_in q.lists.rules r ≡ (if is_same x r then Some (limit_asked (limit_in p.lists.rules x) x c.args.asked) else limit_in p.lists.rules r))
          c.inner.ensures c.in_ok-reserve-2.ensures.limits;
    } in
    let used = subst (λ (x : Rule). IsSome (limit_in p.lists.rules x) → (j : ℕ) × IsSome (held_in p.lists.rules x j)) c.inner.ensures c.in_ok-reserve-2.ensures.used in
    let was = subst (λ v. RefinesStreams v h) (sym c.self.view_is) left in
    let limit = limit_asked (limit_in p.lists.rules rule) rule c.args.asked in
    let capacity = asked_capacity c.self.invariant h rule c.args.asked was used in
    let new = new_asking h add rule from in
    let shown_is =
    ap (λ n. new_held (Some (record { rule = rule; limit = n })) (Awaits c.args.serial c.args.index) false) (raised_own rule c.args.asked raises)
    ∙ ap (λ s. new_held (Some (record { rule = rule; limit = limit })) s false) (ap (λ n. Awaits n c.args.index) serial ∙ ap (Awaits add.serial) index) in
    subst (λ v. RefinesStreams v (after (Asks add rule c.args.asked) h)) (sym (added_ruled c.self.invariant a rule c.args.asked raises ∙ ap (λ x. map (raise_held rule c.args.asked) (views p) ++ x ∷ []) shown_is))
    (streams_ruled (views p) h rule c.args.asked (Awaits add.serial add.index) false limit (asking_stream add rule) was new capacity)
