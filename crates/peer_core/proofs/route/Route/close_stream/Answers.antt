-- The streams are closed, and the bus is told, or can't be.
use Rattle.peer_core.specs.{History.streams_of, Refinement.RouteView, Unsubscribe.{MayClose, ClosesStreams}, Names.{Error, Spent}}
use Rattle.std.proofs.{Common.{◌≡◌, sym, ◌∙◌, ap, subst, ℕ, Option}, lemmas.Bool.true≢false}
use Rattle.peer_streams.specs.Refinement.{RefinesStreams}
use Rattle.peer_core.proofs.Leavings.{closes_gone, closes_over}
use Rattle.peer_core.proofs.route.Route.close_stream.Goals as goal

pub returns-in-Ok : goal.returns-in-Ok
returns-in-Ok c = record {
  closes = λ h left.
      let v = c.args.self.now in
      let k = c.number-number.result in
      let o = c.number_of-other.result in
      let there = sym (c.are_open.ensures h left) ∙ c.if-not-are_open.false in
      let may : MayClose h k o = (there, sym (c.close_waits.ensures h left there) ∙ c.if-close_waits.false) in
      let same : c.send_remove_matches.new.self.streams ≡ v.streams = ap (λ (u : RouteView). u.streams) c.in-Ok.ensures.more.same in
      subst (λ (n : ℕ). ClosesStreams v c.end_both.new.self n c.args.second h (Spent.Gone c.in-Ok.last)) c.number-number.ensures
      (subst (λ (j : Option ℕ). ClosesStreams v c.end_both.new.self k j h (Spent.Gone c.in-Ok.last)) c.number_of-other.ensures
      (closes_gone v c.send_remove_matches.new.self c.end_both.new.self h k o c.in-Ok.last left may c.in-Ok.ensures.more c.end_both.ensures.same
      (c.end_both.ensures.streams h (subst (λ qs. RefinesStreams qs (streams_of h)) (sym same) left.streams)) (c.in-Ok.ensures.tells h left there)));
}

pub returns : goal.returns
returns c = record {
  closes = λ h left.
      let v = c.args.self.now in
      let k = c.number-number.result in
      let o = c.number_of-other.result in
      let there = sym (c.are_open.ensures h left) ∙ c.if-not-are_open.false in
      let may : MayClose h k o = (there, sym (c.close_waits.ensures h left there) ∙ c.if-close_waits.false) in
      let some : c.in-Err.error ≡ Error.Memory → ⊥ = λ e. true≢false (sym (c.is_memory.ensures.1 e) ∙ c.if-is_memory.false) in
      let streams = ap (λ (u : RouteView). u.streams) c.in-Err.ensures.same in
      let same = c.end_both-in-Err.ensures.same ∙ ap (λ (u : RouteView). record u { streams = c.end_both-in-Err.new.self.streams }) c.in-Err.ensures.same in
      subst (λ (n : ℕ). ClosesStreams v c.end_both-in-Err.new.self n c.args.second h (Spent.Over c.in-Err.error)) c.number-number.ensures
      (subst (λ (j : Option ℕ). ClosesStreams v c.end_both-in-Err.new.self k j h (Spent.Over c.in-Err.error)) c.number_of-other.ensures
      (closes_over v c.send_remove_matches.new.self c.end_both-in-Err.new.self h k o c.in-Err.error left may same (c.end_both-in-Err.ensures.streams h (subst (λ qs. RefinesStreams qs (streams_of h)) (sym streams) left.streams)) some
      (c.in-Err.ensures.tells h left there)));
}
