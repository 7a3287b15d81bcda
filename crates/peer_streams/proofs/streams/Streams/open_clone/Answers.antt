-- A stream more that holds what an open one holds.
use Rattle.std.proofs.{Common.{refl, sym, ◌∙◌, ap, subst, [], ◌∷◌, ◌++◌, length, if◌then◌else◌, ◌==◌, Some, None}, lemmas.List.length-map}
use Rattle.std.specs.List.{slice_get}
use Rattle.peer_streams.specs.{Names.{StreamState, Progress}, Keeping.{Parts, held_of, views}, History.{Made, Cloned, after}, Refinement.{kept, RefinesStreams}}
use Rattle.peer_streams.proofs.{KeptMore.{Adds, absent, nowhere, kept_more, listed_more, added_plain, adds_clone, stands_active, clone_shown}, KeptSame.{Same, same_views, kept_same, clones_memory}, LookedUp.{IsUsable, usable_found, usable_is, active_view}, StreamsMade.{there_so, found_so, streams_cloned}, Views.views_length}
use Rattle.peer_streams.proofs.streams.Streams.open_clone.Goals as goal

pub returns-in_default : goal.returns-in_default
returns-in_default c h left = (sym (there_so h c.args.stream None (usable_found c.self.invariant c.args.self.now c.self.view_is h left c.args.stream None c.in_default.ensures)), refl)

pub invariant_of-self-in_err-open_clone : goal.invariant_of-self-in_err-open_clone
invariant_of-self-in_err-open_clone c =
    let p : Parts = record { made = c.self.inside.made; states = c.self.inside.states.entries; lists = c.self.inside.lists } in
    let q : Parts = record { made = c.self.inside.made; states = c.reserve.new.self.entries; lists = c.open_clone.new.self } in
    let s : Same p q = record {
      made = refl;
      states = c.reserve.ensures.entries.2;
      limits = c.in_err-open_clone.ensures.limits;
      held = c.in_err-open_clone.ensures.err (nowhere c.self.invariant c.in_ok-copy.copy.rule p.made (absent c.self.invariant));
    } in
    kept_same c.self.invariant s

pub returns-in_err-open_clone : goal.returns-in_err-open_clone
returns-in_err-open_clone c h left =
    let p : Parts = record { made = c.self.inside.made; states = c.self.inside.states.entries; lists = c.self.inside.lists } in
    let q : Parts = record { made = c.self.inside.made; states = c.reserve.new.self.entries; lists = c.open_clone.new.self } in
    let s : Same p q = record {
      made = refl;
      states = c.reserve.ensures.entries.2;
      limits = c.in_err-open_clone.ensures.limits;
      held = c.in_err-open_clone.ensures.err (nowhere c.self.invariant c.in_ok-copy.copy.rule p.made (absent c.self.invariant));
    } in
    clones_memory (RefinesStreams (views q) (after (Made (Cloned c.args.stream)) h)) c.args.self.now (views q) c.args.stream h c.from_residual-in_err-open_clone.result c.from_residual-in_err-open_clone.ensures.1 (same_views s ∙ c.self.view_is)

pub invariant_of-self-2 : goal.invariant_of-self-2
invariant_of-self-2 c =
    let p : Parts = record { made = c.self.inside.made; states = c.self.inside.states.entries; lists = c.self.inside.lists } in
    let q : Parts = record { made = c.in_ok-made.made; states = c.put.new.states.entries; lists = c.open_clone.new.self } in
    let k = c.args.stream in
    let st : StreamState = record c.in-Some.state.now { progress = Progress.Active } in
    let is : IsUsable p k c.in-Some.state.now = usable_is p k c.in-Some.state.now c.in-Some.ensures in
    let a : Adds p q st (held_of p.lists st.rule k) = adds_clone p q st c.in_ok-copy.copy k c.in_ok-made.ensures
    (λ j. c.put.ensures.0 j ∙ ap (λ o. if p.made == j then Some c.in_ok-copy.copy else o) (c.reserve.ensures.entries.2 j)) c.in_ok-copy.ensures
    (c.in_ok-open_clone.ensures.ok (nowhere c.self.invariant c.in_ok-copy.copy.rule p.made (absent c.self.invariant))) in
    kept_more c.self.invariant a (stands_active c.self.invariant k c.in-Some.state.now is.known is.active) c.self.inside.waiting.items (listed_more c.self.invariant a refl)

pub returns : goal.returns
returns c h left =
    let p : Parts = record { made = c.self.inside.made; states = c.self.inside.states.entries; lists = c.self.inside.lists } in
    let q : Parts = record { made = c.in_ok-made.made; states = c.put.new.states.entries; lists = c.open_clone.new.self } in
    let k = c.args.stream in
    let st : StreamState = record c.in-Some.state.now { progress = Progress.Active } in
    let is : IsUsable p k c.in-Some.state.now = usable_is p k c.in-Some.state.now c.in-Some.ensures in
    let a : Adds p q st (held_of p.lists st.rule k) = adds_clone p q st c.in_ok-copy.copy k c.in_ok-made.ensures
    (λ j. c.put.ensures.0 j ∙ ap (λ o. if p.made == j then Some c.in_ok-copy.copy else o) (c.reserve.ensures.entries.2 j)) c.in_ok-copy.ensures
    (c.in_ok-open_clone.ensures.ok (nowhere c.self.invariant c.in_ok-copy.copy.rule p.made (absent c.self.invariant))) in
    let found = usable_found c.self.invariant c.args.self.now c.self.view_is h left k (Some c.in-Some.state.now) c.in-Some.ensures in
    let at = found_so h (slice_get h.streams k) (active_view p k c.in-Some.state.now) found in
    let limits = c.in_ok-open_clone.ensures.limits in (
      sym (there_so h k (Some (active_view p k c.in-Some.state.now)) found),
      sym (views_length p) ∙ ap length (c.self.view_is ∙ left.shown) ∙ length-map h.streams (kept h.capacities.rules h.read),
      subst (λ v. RefinesStreams v (after (Made (Cloned k)) h)) (sym (added_plain a limits ∙ ap (λ x. views p ++ x ∷ []) (clone_shown a k refl limits ∙ at.3)))
          (streams_cloned k (views p) h at.0 at.1 at.2 (subst (λ v. RefinesStreams v h) (sym c.self.view_is) left)),
    )
