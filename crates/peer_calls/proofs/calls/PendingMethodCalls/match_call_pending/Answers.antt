-- One of the peer's own waits exactly where a slot says so.
use Rattle.std.proofs.Common.{◌∙◌, sym, ap, subst, ◌&&◌}
use Rattle.std.specs.List.{list_any}
use Rattle.peer_calls.specs.Refinement.{is_internal_slot, RefinesCalls}
use Rattle.peer_calls.proofs.{CallsAfter.is_none_not, Slots.flying-left}
use Rattle.peer_calls.proofs.calls.PendingMethodCalls.match_call_pending.Goals as goal

pub returns-then-is_none : goal.returns-then-is_none
returns-then-is_none c = record {
  flying = λ h left.
      let ss = c.self.inside.slots in
      let open_ = is_none_not c.self.inside.closing c.is_none.result c.is_none.ensures ∙ c.if-is_none.true in
      flying-left ss c.self.inside.closing h c.has_internal.result (subst (λ v. RefinesCalls v h) (sym c.self.view_is) left)
      (c.has_internal.ensures ∙ ap (λ x. x && list_any is_internal_slot ss) (sym open_));
}

pub returns-else-is_none : goal.returns-else-is_none
returns-else-is_none c = record {
  flying = λ h left.
      let ss = c.self.inside.slots in
      let shut_ = is_none_not c.self.inside.closing c.is_none.result c.is_none.ensures ∙ c.if-is_none.false in
      flying-left ss c.self.inside.closing h c.is_none.result (subst (λ v. RefinesCalls v h) (sym c.self.view_is) left)
      (c.if-is_none.false ∙ ap (λ x. x && list_any is_internal_slot ss) (sym shut_));
}
