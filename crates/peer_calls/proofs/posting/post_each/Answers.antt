-- One message more is placed, or it is too long.
use Rattle.std.proofs.{Common.{arith, ◌≡◌, [], ◌∷◌, ◌++◌, ◌<◌, ◌+◌, ◌^◌, false, Vec, Global, drop, length, sym, ◌∙◌, ap, subst}, lemmas.Bool.or_parts, lemmas.List.length_push, lemmas.Result.err_from_is_err_and}
use Rattle.std.specs.List.{list_any, AllByRecursion}
use Rattle.peer_calls.specs.{Names.Issued, Placing.posts}
use Rattle.wire_message.specs.Outgoing.{is_deep, OutgoingMessageView}
use Rattle.peer_calls.proofs.Placed.{Placing, placing_more, placing_refused, placing_done, next_left, next_placing, none_left, grows_more}
use Rattle.peer_calls.proofs.posting.post_each.Goals as goal

pub returns-in_err-post-clause-placed : goal.returns-in_err-post-clause-placed
returns-in_err-post-clause-placed c h internal placed =
    let q = err_from_is_err_and c.from_residual.result c.from_residual.ensures.1 in
    let inv = c.loop-outgoing.invariant in
    let left = next_left c.args.serials.now (length c.loop-outgoing.issued.items) c.len.result c.loop-outgoing.outgoing-iterator.rest.items _ _ (c.len.ensures ∙ c.loop-outgoing.issued.ok.0) inv.2 c.in-Some.ensures.steps.0 in
    let x = next_placing internal c.args.name.now c.args.served h _ _ _ _ _ _ _ _ _ _ _ c.in-Some.ensures.steps.0 left (inv.0 h internal placed) in
    rw (q.1, q.2) (placing_refused (λ (v : Vec Issued Global). v.items) _ _ h _ _ _ _ _ _ c.post.new.outbox.items _ c.post.new.places.items c.in_err-post.field-0.0 x (c.in_err-post.ensures.placed x.now internal x.placed))

pub loop-outgoing-preserved : goal.loop-outgoing-preserved
loop-outgoing-preserved c =
    let inv = c.loop-outgoing.invariant in
    let more = c.next.new.self.rest.items in
    let serials = c.args.serials.now in
    let issued = c.loop-outgoing.issued.items in
    let is : c.loop-outgoing.outgoing-iterator.rest.items ≡ c.in-Some.outgoing ∷ more = c.in-Some.ensures.steps.0 in
    let left = next_left serials (length issued) c.len.result c.loop-outgoing.outgoing-iterator.rest.items c.in-Some.outgoing more (c.len.ensures ∙ c.loop-outgoing.issued.ok.0) inv.2 is in
    let rest : drop (length issued + 1) serials ≡ drop (length c.push.new.self.items) serials =
    ap (λ n. drop n serials) (sym (length_push issued c.in_ok-post.field-0) ∙ ap length (sym c.in_ok-push.ensures.items)) in (
      λ h internal placed.
          let x = next_placing internal c.args.name.now c.args.served h _ _ _ _ _ _ _ _ _ _ _ is left (inv.0 h internal placed) in
          let one = c.in_ok-post.ensures.placed x.now internal x.placed in
          subst (λ js. Placing (posts internal c.args.name.now c.args.served c.args.list.items) serials h (posts internal c.args.name.now c.args.served more) (drop (length c.push.new.self.items) serials) js c.post.new.outbox.items c.post.new.places.items)
          (sym c.in_ok-push.ensures.items)
          (subst (λ ns. Placing (posts internal c.args.name.now c.args.served c.args.list.items) serials h (posts internal c.args.name.now c.args.served more) ns (issued ++ c.in_ok-post.field-0 ∷ []) c.post.new.outbox.items c.post.new.places.items) rest
          (placing_more _ _ h _ _ _ _ _ c.in_ok-post.field-0 _ _ _ _ x one.0 one.1 one.2)),
      subst (AllByRecursion (λ serial. 0 < serial)) rest (subst (AllByRecursion (λ serial. 0 < serial)) left inv.1).1,
      (let e : length (drop (length issued + 1) serials) + 1 ≡ length more + 1 = omega (arith, sym (ap length left) ∙ inv.2 ∙ ap length is) in ap length (sym rest) ∙ omega (arith, e)),
      (or_parts (is_deep c.in-Some.outgoing) (list_any is_deep more) (subst (λ ps. list_any is_deep ps ≡ false) is inv.3)).1,
      (subst (AllByRecursion (λ (p : OutgoingMessageView). length p.fds < 2 ^ 32)) is inv.4).1,
      grows_more _ _ _ inv.5 c.in_ok-post.ensures.more,
      grows_more _ _ _ inv.6 c.in_ok-post.ensures.grown,
    )

pub returns-clause-placed : goal.returns-clause-placed
returns-clause-placed c h internal placed =
    let it = c.loop-outgoing.outgoing-iterator in
    let none : it.rest.items ≡ [] = none_left it.rest.items (sym it.rest.ok.0 ∙ c.in-None.ensures.steps.0) in
    placing_done _ _ h _ _ _ _
    (subst (λ rest. Placing (posts internal c.args.name.now c.args.served c.args.list.items) c.args.serials.now h (posts internal c.args.name.now c.args.served rest) (drop (length c.loop-outgoing.issued.items) c.args.serials.now) c.loop-outgoing.issued.items c.loop-outgoing.outbox.items c.loop-outgoing.places.items)
    none (c.loop-outgoing.invariant.0 h internal placed))
