-- The stream is emptied, and its cursor removed.
use Rattle.std.proofs.Common.{◌-◌, sym, ◌∙◌, ap, refl, arith, ℕ, Option, Some, option_map, is_some}
use Rattle.peer_lists.specs.{Holdings.{held_by, without_first}}
use Rattle.peer_lists.proofs.{Counting.{weight_yes, weight_no, count_found}, Steps.shared_closed, Cloning.{if_so, if_not, one_less, at_end, none_so, held_gone}}
use Rattle.peer_lists.proofs.shared_list.SharedList.close.Goals as goal

pub loop-smaller : goal.loop-smaller
loop-smaller c =
    one_less (held_by c.loop.self c.args.stream) (held_by c.take.new.self c.args.stream) (sym (c.if-is_some.ensures ∙ ap is_some c.take.ensures.gives))
    (c.take.ensures.left c.args.stream ∙ if_so c.args.stream c.args.stream (option_map without_first (held_by c.loop.self c.args.stream)) (held_by c.loop.self c.args.stream) refl)

pub returns-in_default : goal.returns-in_default
returns-in_default c =
    held_gone c.self.inside.passed c.self.inside.entries.items c.self.inside.cursors c.remove.new.self c.args.stream c.take.new.self c.args.self.now c.self.view_is c.remove.ensures.updates
    (λ k ne. c.take.ensures.left k ∙ if_not c.args.stream k (option_map without_first (held_by c.loop.self k)) (held_by c.loop.self k) ne ∙ c.loop.invariant k ne)

pub overflow_sub-self : goal.overflow_sub-self
overflow_sub-self c =
    omega (arith, c.self.invariant.begins, count_found (λ (o : Option ℕ). is_some o) c.args.stream c.self.inside.cursors.entries c.in-Some.cursor (sym c.remove.ensures.value ∙ c.in-Some.is) (sym c.if-is_some-2.ensures))

pub invariant_of-self-then-is_some-2 : goal.invariant_of-self-then-is_some-2
invariant_of-self-then-is_some-2 c =
    let empty = none_so c.take.result (sym c.if-is_some.ensures) ∙ c.take.ensures.gives in
    let left = c.take.ensures.left c.args.stream ∙ if_so c.args.stream c.args.stream (option_map without_first (held_by c.loop.self c.args.stream)) (held_by c.loop.self c.args.stream) refl in
    let was = sym c.remove.ensures.value ∙ c.in-Some.is in
    shared_closed c.self.invariant c.remove.new.self c.args.stream c.in-Some.cursor was (λ d at. at_end c.self.invariant c.take.new.self c.self.view_is c.loop.self c.args.stream d empty left (was ∙ ap (λ o. Some o) at)) c.remove.ensures.entries c.remove.ensures.ordered
    (c.self.inside.begun - 1) (omega (arith, c.self.invariant.begins, count_found (λ (o : Option ℕ). is_some o) c.args.stream c.self.inside.cursors.entries c.in-Some.cursor was (sym c.if-is_some-2.ensures), weight_yes (λ (o : Option ℕ). is_some o) c.in-Some.cursor (sym c.if-is_some-2.ensures)))

pub invariant_of-self-else-is_some-2 : goal.invariant_of-self-else-is_some-2
invariant_of-self-else-is_some-2 c =
    let empty = none_so c.take.result (sym c.if-is_some.ensures) ∙ c.take.ensures.gives in
    let left = c.take.ensures.left c.args.stream ∙ if_so c.args.stream c.args.stream (option_map without_first (held_by c.loop.self c.args.stream)) (held_by c.loop.self c.args.stream) refl in
    let was = sym c.remove.ensures.value ∙ c.in-Some.is in
    shared_closed c.self.invariant c.remove.new.self c.args.stream c.in-Some.cursor was (λ d at. at_end c.self.invariant c.take.new.self c.self.view_is c.loop.self c.args.stream d empty left (was ∙ ap (λ o. Some o) at)) c.remove.ensures.entries c.remove.ensures.ordered
    c.self.inside.begun (omega (arith, weight_no (λ (o : Option ℕ). is_some o) c.in-Some.cursor (sym c.if-is_some-2.ensures)))

pub returns-then-is_some-2 : goal.returns-then-is_some-2
returns-then-is_some-2 c =
    held_gone c.self.inside.passed c.self.inside.entries.items c.self.inside.cursors c.remove.new.self c.args.stream c.take.new.self c.args.self.now c.self.view_is c.remove.ensures.updates
    (λ k ne. c.take.ensures.left k ∙ if_not c.args.stream k (option_map without_first (held_by c.loop.self k)) (held_by c.loop.self k) ne ∙ c.loop.invariant k ne)

pub returns-else-is_some-2 : goal.returns-else-is_some-2
returns-else-is_some-2 c =
    held_gone c.self.inside.passed c.self.inside.entries.items c.self.inside.cursors c.remove.new.self c.args.stream c.take.new.self c.args.self.now c.self.view_is c.remove.ensures.updates
    (λ k ne. c.take.ensures.left k ∙ if_not c.args.stream k (option_map without_first (held_by c.loop.self k)) (held_by c.loop.self k) ne ∙ c.loop.invariant k ne)
