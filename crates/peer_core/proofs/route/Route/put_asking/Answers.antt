-- AddMatch is put, and a stream waits for its return.
use Rattle.std.proofs.{Common.{refl, ◌∙◌, sym, ap, subst, codes, length, true, false, List, [], ◌∷◌, ◌++◌, None, Ok, Vec, Global}, lemmas.Result.err_from_is_err_and}
use Rattle.peer_core.specs.{Names.Issued, History.{streams_of, request_of}, contracts.route.Route.the_view, BusCall.match_call, Refinement.RouteView, Placing.{PutsAll, IsMore}}
use Rattle.peer_calls.specs.Placing.{posts}
use Rattle.wire_message.specs.Outgoing.{OutgoingMessageView}
use Rattle.peer_core.proofs.{BusMessages.add_is, Issues.left_posts, Openings.{asking_refused, asking_put}}
use Rattle.peer_core.proofs.route.Route.put_asking.Goals as goal

abbrev items : Vec Issued Global → List Issued
items v = v.items

pub match_message-requires : goal.match_message-requires
match_message-requires c = add_is

pub returns-in_err-put_all-clause-asks : goal.returns-in_err-put_all-clause-asks
returns-in_err-put_all-clause-asks c h left =
    let q = err_from_is_err_and c.from_residual-in_err-put_all.result c.from_residual-in_err-put_all.ensures.1 in
    let message = c.in_ok-match_message.ensures.message ∙ ap (match_call (codes "AddMatch") None) c.inner.ensures in
    let list = c.in_ok-push.ensures.items ∙ ap (λ (xs : List OutgoingMessageView). xs ++ c.in_ok-match_message.field-0 ∷ []) c.new-messages.ensures.items ∙ ap (λ (l : OutgoingMessageView). l ∷ []) message in
    rw (q.1, q.2)
    (asking_refused items c.put_all.new.self c.put_all.new.self c.args.self.now.name c.push.new.self.items c.args.rule c.args.asked h c.in_err-put_all.field-0.0 left.name list
    (c.in_err-put_all.ensures.puts h (left_posts c.args.self.now h left)))

pub returns-clause-asks : goal.returns-clause-asks
returns-clause-asks c h left =
    let message = c.in_ok-match_message.ensures.message ∙ ap (match_call (codes "AddMatch") None) c.inner.ensures in
    let list = c.in_ok-push.ensures.items ∙ ap (λ (xs : List OutgoingMessageView). xs ++ c.in_ok-match_message.field-0 ∷ []) c.new-messages.ensures.items ∙ ap (λ (l : OutgoingMessageView). l ∷ []) message in
    let more = subst (λ (v : RouteView). IsMore c.args.self.now v) (sym c.self-2.view_is) c.in_ok-put_all.ensures.more in
    let puts = subst (λ (v : RouteView). PutsAll items v (posts true c.args.self.now.name false c.push.new.self.items) h (Ok c.in_ok-put_all.field-0)) (sym c.self-2.view_is)
    (c.in_ok-put_all.ensures.puts h (left_posts c.args.self.now h left)) in
    asking_put items c.in_ok-put_all.field-0 c.args.self.now (the_view c.self-2.inside) c.open_asking.new.self c.push.new.self.items c.args.rule c.args.asked h
    (record { stream = c.in_ok-stream.stream; index = c.len-index.result; serial = c.last-serial.result }) left more list puts
    (c.len-index.ensures ∙ c.self.inside.outbox.ok.0 ∙ ap (λ (v : RouteView). length v.outbox) c.self.view_is) c.last-serial.ensures c.in_ok-stream.ensures.number
    (λ m kept serial place. c.in_ok-stream.ensures.ok (streams_of h) (request_of h m) kept serial place refl)
