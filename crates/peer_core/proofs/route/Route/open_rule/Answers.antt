-- The AddMatch isn't put, and what was done is taken back.
use Rattle.std.proofs.Common.{Ok, sym, ◌∙◌, subst}
use Rattle.peer_core.proofs.{Core.streams_len, Openings.opens_not}
use Rattle.peer_core.specs.{History.calls_of, Names.Opens, Bus.OpensBy, Refinement.{RouteView, Refines}}
use Rattle.peer_calls.proofs.Index.{open_none}
use Rattle.peer_core.proofs.route.Route.open_rule.Goals as goal

pub returns-in-Err : goal.returns-in-Err
returns-in-Err c = record {
  opens = λ h left.
      let w = subst (λ (v : RouteView). Refines v h) (sym c.self.view_is) left in
      let shut = sym w.calls.closing ∙ sym c.closing.ensures ∙ open_none c.closing.result (sym c.is_some.ensures ∙ c.if-is_some.false) in
      let idle = sym (c.match_call_pending.ensures.flying (calls_of h) w.calls) ∙ c.if-match_call_pending.false in
      opens_not c.args.self.now c.put_asking.new.self c.take_back.new.self c.args.rule c.args.max_queued c.in-Err.error h (shut, idle) (sym (c.if-not-asks_bus.ensures h left))
      (c.take_back.ensures c.args.self.now c.mark-mark.ensures c.in-Err.ensures.more) left (c.in-Err.ensures.asks h left);
}

-- The stream is open at once.
pub returns-then-not-asks_bus : goal.returns-then-not-asks_bus
returns-then-not-asks_bus c = record {
  opens = λ h left.
      let w = subst (λ (v : RouteView). Refines v h) (sym c.self.view_is) left in
      let shut = sym w.calls.closing ∙ sym c.closing.ensures ∙ open_none c.closing.result (sym c.is_some.ensures ∙ c.if-is_some.false) in
      let idle = sym (c.match_call_pending.ensures.flying (calls_of h) w.calls) ∙ c.if-match_call_pending.false in (
        shut,
        idle,
        subst (λ b. OpensBy b c.args.self.now c.open_unasked.new.self c.args.rule c.args.max_queued h (Ok (Opens.Open c.in_ok-open_unasked.field-0))) (c.if-not-asks_bus.ensures h left)
            (c.in_ok-open_unasked.ensures.number ∙ streams_len c.args.self.now h left, c.in_ok-open_unasked.ensures.left h left),
      );
}
