-- The stream is opened at the end, and moves back to where the original stands.
use Rattle.std.proofs.{Common.{◌≡◌, ◌-◌, ◌==◌, if◌then◌else◌, sym, ◌∙◌, ap, refl, arith, drop, true, false, Some, None, Result, Ok, Err, OnOk, OnErr, is_err}, lemmas.Bool.false≢true, lemmas.Result.on_ok_weaker}
use Rattle.peer_lists.specs.{Cursors.messages, Holdings.held_by}
use Rattle.peer_lists.proofs.{Views.{by_key, held_is}, Cloning.{fills_none, fills_more, fills_all, fills_undone, held_length}}
use Rattle.peer_lists.proofs.shared_list.SharedList.open_clone.Goals as goal

ok_so : {A E P : Type 0} (r : Result A E) → is_err r ≡ false → OnOk r P → P
ok_so (Ok x) e p = p
ok_so (Err x) e p = absurd (false≢true (sym e))

err_so : {A E P : Type 0} (r : Result A E) → is_err r ≡ true → OnErr r P → P
err_so (Ok x) e p = absurd (false≢true e)
err_so (Err x) e p = p

pub returns-in_default-clause-ok : goal.returns-in_default-clause-ok
returns-in_default-clause-ok c none k =
    let held = held_is c.self.inside.passed c.self.inside.entries.items c.self.inside.cursors c.args.self.now c.self.view_is c.args.original None (sym c.get.ensures.value ∙ sym c.copied.ensures ∙ c.in_default.is) in
    by_key c.args.stream k (held_by c.args.self.now k) (held_by c.args.self.now c.args.original) (held_by c.args.self.now k) (λ e. ap (held_by c.args.self.now) (sym e) ∙ none ∙ sym held) (λ ne. refl)

pub returns-in_default-cursor-clause-ok : goal.returns-in_default-cursor-clause-ok
returns-in_default-cursor-clause-ok c =
    let at = sym c.get.ensures.value ∙ sym c.copied.ensures ∙ c.in-Some.is ∙ ap (λ o. Some o) c.in_default-cursor.is in
    let held = held_is c.self.inside.passed c.self.inside.entries.items c.self.inside.cursors c.args.self.now c.self.view_is c.args.original (Some None) at in
    on_ok_weaker c.reserve.result (λ f none k. f none k ∙ ap (λ o. if c.args.stream == k then o else held_by c.args.self.now k) (sym held)) c.reserve.ensures.ok

pub loop-init : goal.loop-init
loop-init c = fills_none c.args.self.now c.args.original c.args.stream c.open.new.self c.in_ok-open.ensures.ok

pub loop-preserved : goal.loop-preserved
loop-preserved c =
    let at = sym c.get.ensures.value ∙ sym c.copied.ensures ∙ c.in-Some.is ∙ ap (λ o. Some o) c.in-Some-cursor.is in
    fills_more c.args.self.now c.args.original c.args.stream c.loop.counter c.loop.self c.give_back.new.self c.loop.invariant
    (λ ms whole. omega (arith, c.loop-test.true, c.len.ensures, c.self.inside.entries.ok.0, held_length c.self.invariant c.args.self.now c.self.view_is c.args.original c.in-Some-cursor.cursor ms at whole))
    (ok_so c.give_back.result (sym c.if-is_err.ensures.value) c.give_back.ensures.ok)

pub returns-then-is_err-clause-err : goal.returns-then-is_err-clause-err
returns-then-is_err-clause-err c =
    let at = sym c.get.ensures.value ∙ sym c.copied.ensures ∙ c.in-Some.is ∙ ap (λ o. Some o) c.in-Some-cursor.is in
    fills_undone c.args.self.now c.args.original c.args.stream c.loop.counter c.loop.self c.give_back.new.self c.close.new.self c.loop.invariant (drop (c.in-Some-cursor.cursor - c.self.inside.passed) (messages c.self.inside.entries.items))
    (held_is c.self.inside.passed c.self.inside.entries.items c.self.inside.cursors c.args.self.now c.self.view_is c.args.original (Some (Some c.in-Some-cursor.cursor)) at)
    (err_so c.give_back.result (sym c.if-is_err.ensures.value) c.give_back.ensures.err) c.close.ensures

pub returns-clause-ok : goal.returns-clause-ok
returns-clause-ok c =
    let at = sym c.get.ensures.value ∙ sym c.copied.ensures ∙ c.in-Some.is ∙ ap (λ o. Some o) c.in-Some-cursor.is in
    let ms = drop (c.in-Some-cursor.cursor - c.self.inside.passed) (messages c.self.inside.entries.items) in
    let whole = held_is c.self.inside.passed c.self.inside.entries.items c.self.inside.cursors c.args.self.now c.self.view_is c.args.original (Some (Some c.in-Some-cursor.cursor)) at in
    fills_all c.args.self.now c.args.original c.args.stream c.loop.counter c.loop.self c.loop.invariant ms whole
    (omega (arith, c.loop-test.false, c.len.ensures, c.self.inside.entries.ok.0, held_length c.self.invariant c.args.self.now c.self.view_is c.args.original c.in-Some-cursor.cursor ms at whole))
