-- The messages are made and put.
use Rattle.std.proofs.{Common.{◌≡◌, sym, ◌∙◌, ap, length, ◌==◌, List, [], Vec, Global}, lemmas.Bool.{true≢false, eqb-true}, lemmas.Result.err_from_is_err_and}
use Rattle.peer_core.specs.{Names.Issued, Refinement.RouteView, Asked.leaving}
use Rattle.peer_core.proofs.{Issues.left_posts, Leavings.{gone_both, gone_posts, tells_none, tells_put, tells_not}}
use Rattle.peer_calls.proofs.Placed.{none_left}
use Rattle.peer_core.proofs.route.Route.send_remove_matches.Goals as goal

abbrev items : Vec Issued Global → List Issued
items v = v.items

pub returns-then-is_empty-clause-tells : goal.returns-then-is_empty-clause-tells
returns-then-is_empty-clause-tells c h left there =
    let messages = c.in_ok-messages.messages in
    let none = none_left messages.items (sym messages.ok.0 ∙ eqb-true _ 0 (sym c.is_empty.ensures ∙ c.if-is_empty.true)) in
    tells_none c.args.self.now (gone_both c.args.stream c.args.second h) (leaving h c.args.stream c.args.second) (sym (c.in_ok-messages.ensures.made h left there) ∙ none)
    (gone_posts c.args.self.now h c.args.stream c.args.second (left_posts c.args.self.now h left))

pub returns-in_err-put-clause-tells : goal.returns-in_err-put-clause-tells
returns-in_err-put-clause-tells c h left there =
    let q = err_from_is_err_and c.from_residual-in_err-put.result c.from_residual-in_err-put.ensures.1 in
    let messages = c.in_ok-messages.messages in
    let some : messages.items ≡ [] → ⊥ = λ e. absurd (true≢false (sym (ap (λ n. n == 0) (messages.ok.0 ∙ ap length e)) ∙ sym c.is_empty.ensures ∙ c.if-is_empty.false)) in
    let g = gone_both c.args.stream c.args.second h in
    let old = gone_posts c.args.self.now h c.args.stream c.args.second (left_posts c.args.self.now h left) in
    rw (q.1, q.2)
    (tells_not items c.put.new.self c.put.new.self c.args.self.now.name g (leaving h c.args.stream c.args.second) messages.items c.in_err-put.field-0.0 (c.in_ok-messages.ensures.made h left there) some old.name
    (c.in_err-put.ensures.puts g old))

pub returns-clause-tells : goal.returns-clause-tells
returns-clause-tells c h left there =
    let messages = c.in_ok-messages.messages in
    let some : messages.items ≡ [] → ⊥ = λ e. absurd (true≢false (sym (ap (λ n. n == 0) (messages.ok.0 ∙ ap length e)) ∙ sym c.is_empty.ensures ∙ c.if-is_empty.false)) in
    let g = gone_both c.args.stream c.args.second h in
    let old = gone_posts c.args.self.now h c.args.stream c.args.second (left_posts c.args.self.now h left) in
    tells_put items c.in_ok-put.field-0 c.put.new.self c.args.self.now.name g (leaving h c.args.stream c.args.second) messages.items c.last.result (c.in_ok-messages.ensures.made h left there) some old.name
    (c.last.ensures ∙ ap (λ (v : RouteView). v.last) c.self.view_is) (c.in_ok-put.ensures.puts g old)
