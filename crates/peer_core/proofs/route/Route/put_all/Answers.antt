-- All messages are put, or it is said why not.
use Rattle.peer_core.specs.{History.calls_of, Names.Issued, contracts.route.Route.the_view, Refinement.RouteView, Placing.{PutsAll, RefinesPosts}}
use Rattle.std.proofs.{Common.{◌≡◌, ◌==◌, ℕ, [], refl, sym, ◌∙◌, ap, subst, length, List, Vec, Global, Ok, Err}, lemmas.Bool.{true≢false, eqb-true}, lemmas.Result.err_from_is_err_and}
use Rattle.std.specs.List.{list_any}
use Rattle.peer_calls.specs.Placing.{posts, Places}
use Rattle.wire_message.specs.Outgoing.{is_deep}
use Rattle.peer_calls.proofs.{Drawn.DrawsEach, Placed.none_left, Refusing.issued_deep}
use Rattle.peer_core.proofs.Issues.{puts_none, puts_not_drawn, puts_not_placed, puts_barred, puts_placed}
use Rattle.peer_core.proofs.route.Route.put_all.Goals as goal

abbrev items : Vec Issued Global → List Issued
items v = v.items

abbrev numbers : Vec ℕ Global → List ℕ
numbers v = v.items

pub returns-then-is_empty-clause-puts : goal.returns-then-is_empty-clause-puts
returns-then-is_empty-clause-puts c h left =
    let none : length c.args.list.items ≡ 0 = sym c.args.list.ok.0 ∙ eqb-true _ 0 (sym c.is_empty.ensures ∙ c.if-is_empty.true) in
    puts_none items c.args.self.now h c.args.list.items c.args.internal c.args.self.now.name c.args.served c.new.result (none_left c.args.list.items none) c.new.ensures.items left

pub returns-then-is_some_deep-clause-puts : goal.returns-then-is_some_deep-clause-puts
returns-then-is_some_deep-clause-puts c h left =
    let some : c.args.list.items ≡ [] → ⊥ = λ e. absurd (true≢false (sym (ap (λ n. n == 0) (c.args.list.ok.0 ∙ ap length e)) ∙ sym c.is_empty.ensures ∙ c.if-is_empty.false)) in
    let deep = ap (list_any is_deep) (sym c.as_slice.ensures.value) ∙ sym c.is_some_deep.ensures ∙ c.if-is_some_deep.true in
    (issued_deep (calls_of h) c.args.internal c.args.self.now.name c.args.served c.args.list.items some deep, tt)

pub returns-in_err-serials-clause-puts : goal.returns-in_err-serials-clause-puts
returns-in_err-serials-clause-puts c h left =
    let q = err_from_is_err_and c.from_residual.result c.from_residual.ensures.1 in
    let old = subst (λ (v : RouteView). RefinesPosts v h) (sym c.self.view_is) left in
    let name = c.args.self.now.name in
    let shallow = ap (list_any is_deep) (sym c.as_slice.ensures.value) ∙ sym c.is_some_deep.ensures ∙ c.if-is_some_deep.false in
    rw (q.1, q.2)
    (puts_not_drawn items (record (the_view c.self.inside) { calls = c.draw_each.new.calls; last = c.draw_each.new.serials }) h c.args.internal name c.args.served c.args.list.items shallow numbers c.draw_each.new.calls c.draw_each.new.serials c.in_err-serials.field-0.0
    (subst (λ ps. DrawsEach numbers (posts c.args.internal name c.args.served ps) (calls_of h) c.draw_each.new.calls c.draw_each.new.serials (Err c.in_err-serials.field-0.0)) c.as_slice-2.ensures.value
    (c.in_err-serials.ensures.drawn (calls_of h) name c.args.served old.counted)))

pub returns-in_err-issued-clause-puts : goal.returns-in_err-issued-clause-puts
returns-in_err-issued-clause-puts c h left =
    let q = err_from_is_err_and c.from_residual-in_err-issued.result c.from_residual-in_err-issued.ensures.1 in
    let old = subst (λ (v : RouteView). RefinesPosts v h) (sym c.self.view_is) left in
    let name = (the_view c.self.inside).name in
    let serials = c.in_ok-serials.serials in
    let shallow = ap (list_any is_deep) (sym c.as_slice.ensures.value) ∙ sym c.is_some_deep.ensures ∙ c.if-is_some_deep.false in
    let draws = subst (λ ps. DrawsEach numbers (posts c.args.internal name c.args.served ps) (calls_of h) c.draw_each.new.calls c.draw_each.new.serials (Ok serials)) c.as_slice-2.ensures.value (c.in_ok-serials.ensures.drawn (calls_of h) name c.args.served old.counted) in
    let new : RouteView = record (the_view c.self.inside) { calls = c.draw_each.new.calls; last = c.draw_each.new.serials; outbox = c.post_each.new.outbox.items; places = c.post_each.new.places.items } in
    rw (q.1, q.2)
    (subst (λ (v : RouteView). PutsAll items new (posts c.args.internal v.name c.args.served c.args.list.items) h (Err c.in_err-issued.field-0.0)) c.self.view_is
    (puts_not_placed items new h c.args.internal name c.args.served c.args.list.items shallow items serials.items (calls_of h) c.post_each.new.outbox.items c.post_each.new.places.items c.in_err-issued.field-0.0 draws.0
    (subst (λ ns. Places items (posts c.args.internal name c.args.served c.args.list.items) ns (calls_of h) c.post_each.new.outbox.items c.post_each.new.places.items (Err c.in_err-issued.field-0.0)) c.as_slice-3.ensures.value
    (c.in_err-issued.ensures.placed (calls_of h) c.args.internal old.placed))))

pub returns-in-None-clause-puts : goal.returns-in-None-clause-puts
returns-in-None-clause-puts c h left =
    let old = subst (λ (v : RouteView). RefinesPosts v h) (sym c.self.view_is) left in
    let name = (the_view c.self.inside).name in
    let serials = c.in_ok-serials.serials in
    let issued = c.in_ok-issued.issued in
    let some : c.args.list.items ≡ [] → ⊥ = λ e. absurd (true≢false (sym (ap (λ n. n == 0) (c.args.list.ok.0 ∙ ap length e)) ∙ sym c.is_empty.ensures ∙ c.if-is_empty.false)) in
    let shallow = ap (list_any is_deep) (sym c.as_slice.ensures.value) ∙ sym c.is_some_deep.ensures ∙ c.if-is_some_deep.false in
    let draws = subst (λ ps. DrawsEach numbers (posts c.args.internal name c.args.served ps) (calls_of h) c.draw_each.new.calls c.draw_each.new.serials (Ok serials)) c.as_slice-2.ensures.value (c.in_ok-serials.ensures.drawn (calls_of h) name c.args.served old.counted) in
    let places = subst (λ ns. Places items (posts c.args.internal name c.args.served c.args.list.items) ns (calls_of h) c.post_each.new.outbox.items c.post_each.new.places.items (Ok issued)) c.as_slice-3.ensures.value (c.in_ok-issued.ensures.placed (calls_of h) c.args.internal old.placed) in
    let new : RouteView = record (the_view c.self.inside) { calls = c.draw_each.new.calls; last = c.draw_each.new.serials; outbox = c.post_each.new.outbox.items; places = c.post_each.new.places.items } in
    subst (λ (v : RouteView). PutsAll items new (posts c.args.internal v.name c.args.served c.args.list.items) h (Ok issued)) c.self.view_is
    (puts_placed items new h c.args.internal name c.args.served c.args.list.items shallow serials.items some draws.0 (the_view c.self.inside) old issued draws.1 places (sym c.bars.ensures ∙ c.in-None.is) refl refl)

pub returns-clause-puts : goal.returns-clause-puts
returns-clause-puts c h left =
    let old = subst (λ (v : RouteView). RefinesPosts v h) (sym c.self.view_is) left in
    let name = (the_view c.self.inside).name in
    let serials = c.in_ok-serials.serials in
    let some : c.args.list.items ≡ [] → ⊥ = λ e. absurd (true≢false (sym (ap (λ n. n == 0) (c.args.list.ok.0 ∙ ap length e)) ∙ sym c.is_empty.ensures ∙ c.if-is_empty.false)) in
    let shallow = ap (list_any is_deep) (sym c.as_slice.ensures.value) ∙ sym c.is_some_deep.ensures ∙ c.if-is_some_deep.false in
    let draws = subst (λ ps. DrawsEach numbers (posts c.args.internal name c.args.served ps) (calls_of h) c.draw_each.new.calls c.draw_each.new.serials (Ok serials)) c.as_slice-2.ensures.value (c.in_ok-serials.ensures.drawn (calls_of h) name c.args.served old.counted) in
    let places = subst (λ ns. Places items (posts c.args.internal name c.args.served c.args.list.items) ns (calls_of h) c.post_each.new.outbox.items c.post_each.new.places.items (Ok c.in_ok-issued.issued)) c.as_slice-3.ensures.value (c.in_ok-issued.ensures.placed (calls_of h) c.args.internal old.placed) in
    let new : RouteView = record (the_view c.self.inside) { calls = c.draw_each.new.calls; last = c.draw_each.new.serials; outbox = c.post_each.new.outbox.items; places = c.post_each.new.places.items } in
    subst (λ (v : RouteView). PutsAll items new (posts c.args.internal v.name c.args.served c.args.list.items) h (Err c.in-Some.error)) c.self.view_is
    (puts_barred items new h c.args.internal name c.args.served c.args.list.items shallow serials.items some draws.0 (the_view c.self.inside) old c.in-Some.error places.0 (sym c.bars.ensures ∙ c.in-Some.is))
