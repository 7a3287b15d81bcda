-- The message of the first stream, and of the second, if there is one.
use Rattle.std.proofs.{Common.{◌≡◌, ◌∙◌, sym, ap, subst, map, true, List, [], ◌++◌, None, Err, Vec, Global}, lemmas.Result.err_from_is_err_and}
use Rattle.wire_message.specs.{declared.outgoing.OutgoingMessage.OutgoingMessage, Outgoing.OutgoingMessageView}
use Rattle.peer_core.specs.{Asked.{are_open, leaves, leaving}, Unsubscribe.MakesRemovals}
use Rattle.peer_core.proofs.{Leavings.{gone_behind, first_open, two_open, unmade_first, unmade_second, made_one, made_two}, route.Route.removals.Goals.{in-Some+in_ok-add_removal-in-Some, in-None}, BusMessages.remove_match}
use Rattle.peer_core.proofs.route.Route.removals.Goals as goal

abbrev items : Vec OutgoingMessage Global → List OutgoingMessageView
items v = v.items

pub returns-in_err-add_removal-clause-made : goal.returns-in_err-add_removal-clause-made
returns-in_err-add_removal-clause-made c h left there =
    let q = err_from_is_err_and c.from_residual.result c.from_residual.ensures.1 in
    rw (q.1, q.2)
    (unmade_first (λ (done : Unit {0}). c.add_removal.new.messages.items) items c.new-messages.result.items h c.args.stream c.args.second c.in_err-add_removal.field-0.0
    (c.in_err-add_removal.ensures.made h left (first_open h c.args.stream c.args.second there)))

pub returns-in_err-add_removal-in-Some-clause-made : goal.returns-in_err-add_removal-in-Some-clause-made
returns-in_err-add_removal-in-Some-clause-made c h left there =
    let q = err_from_is_err_and c.from_residual-in_err-add_removal-in-Some.result c.from_residual-in_err-add_removal-in-Some.ensures.1 in
    let both = two_open h c.args.stream c.in-Some.second (subst (λ o. are_open h c.args.stream o ≡ true) c.in-Some.is there) in
    rw (q.1, q.2)
    (subst (λ o. MakesRemovals items [] (leaving h c.args.stream o) (Err c.in_err-add_removal-in-Some.field-0.0)) (sym c.in-Some.is)
    (unmade_second (λ (done : Unit {0}). c.add_removal-in-Some.new.messages.items) items c.add_removal.new.messages.items h c.args.stream c.in-Some.second c.in_err-add_removal-in-Some.field-0.0
    (c.in_err-add_removal-in-Some.ensures.made h left both.1)))

pub returns-clause-made : goal.returns-clause-made
returns-clause-made c h left there =
    let first = c.in_ok-add_removal.ensures.made h left (first_open h c.args.stream c.args.second there)
    ∙ ap (λ xs. xs ++ map (remove_match None) (leaves (gone_behind None c.args.stream h) c.args.stream)) c.new-messages.ensures.items in
    elim c.match-second.branch [
      | in-Some+in_ok-add_removal-in-Some w ↦
          let both = two_open h c.args.stream w.in-Some.second (subst (λ o. are_open h c.args.stream o ≡ true) w.in-Some.is there) in
          ap items w.messages-is
          ∙ made_two h c.args.stream w.in-Some.second c.add_removal.new.messages.items _ first (w.in_ok-add_removal-in-Some.ensures.made h left both.1)
          ∙ ap (λ o. map (remove_match None) (leaving h c.args.stream o)) (sym w.in-Some.is)
      | in-None w ↦
          ap items w.messages-is ∙ made_one h c.args.stream c.add_removal.new.messages.items first ∙ ap (λ o. map (remove_match None) (leaving h c.args.stream o)) (sym w.in-None.is)
    ]
