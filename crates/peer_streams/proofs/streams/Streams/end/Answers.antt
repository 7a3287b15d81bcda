-- Nothing is stored of the stream any more; nothing was of one that isn't known.
use Rattle.std.proofs.Common.{refl, sym, ◌∙◌, ap, subst}
use Rattle.peer_streams.specs.{Keeping.{Parts, views}, Refinement.RefinesStreams, History.{Did, Gone, after}}
use Rattle.peer_streams.proofs.{KeptLess.{Closes, kept_less, closed_views, unknown_views}, StreamsMade.streams_ended}
use Rattle.peer_streams.proofs.streams.Streams.end.Goals as goal

pub returns-in_default : goal.returns-in_default
returns-in_default c h left =
    let p : Parts = record { made = c.self.inside.made; states = c.self.inside.states.entries; lists = c.self.inside.lists } in
    let same = ap (λ es. views (record { made = c.self.inside.made; states = es; lists = c.self.inside.lists })) c.in_default.ensures.unchanged in
    subst (λ v. RefinesStreams v (after (Did c.args.stream Gone) h)) (sym (same ∙ unknown_views p c.args.stream (sym c.in_default.ensures.value)))
    (streams_ended c.args.stream (views p) h (subst (λ v. RefinesStreams v h) (sym c.self.view_is) left))

pub invariant_of-self-2 : goal.invariant_of-self-2
invariant_of-self-2 c =
    let p : Parts = record { made = c.self.inside.made; states = c.self.inside.states.entries; lists = c.self.inside.lists } in
    let q : Parts = record { made = c.self.inside.made; states = c.remove.new.self.entries; lists = c.close.new.self } in
    let closes : Closes p q c.args.stream c.in-Some.state = record {
      was = sym c.in-Some.ensures.value;
      made = refl;
      states = c.in-Some.ensures.updates.0;
      held = c.close.ensures.held;
      limits = c.close.ensures.limits;
    } in kept_less c.self.invariant closes

pub returns : goal.returns
returns c h left =
    let p : Parts = record { made = c.self.inside.made; states = c.self.inside.states.entries; lists = c.self.inside.lists } in
    let q : Parts = record { made = c.self.inside.made; states = c.remove.new.self.entries; lists = c.close.new.self } in
    let closes : Closes p q c.args.stream c.in-Some.state = record {
      was = sym c.in-Some.ensures.value;
      made = refl;
      states = c.in-Some.ensures.updates.0;
      held = c.close.ensures.held;
      limits = c.close.ensures.limits;
    } in
    subst (λ v. RefinesStreams v (after (Did c.args.stream Gone) h)) (sym (closed_views c.self.invariant closes))
    (streams_ended c.args.stream (views p) h (subst (λ v. RefinesStreams v h) (sym c.self.view_is) left))
