-- The return opens it, and an error denies it.
use Rattle.std.proofs.Common.{◌≡◌, ◌==◌, refl, sym, ◌∙◌, ap, subst, if◌then◌else◌, not, Some, None, is_some}
use Rattle.std.proofs.lemmas.Bool.{and_from}
use Rattle.peer_streams.specs.{Names.{StreamState, Progress, is_return}, Keeping.state_at, Arriving.{parts, is_answered, IsReady}}
use Rattle.peer_streams.proofs.Settling.{opened, denied}
use Rattle.peer_streams.proofs.arriving.settle.Goals as goal

pub returns-then-is_return-clause-changes : goal.returns-then-is_return-clause-changes
returns-then-is_return-clause-changes c made waiting was ready =
    let st = c.in-Some.state.now in
    let new = record st { progress = Progress.Active } in
    let at = sym c.in-Some.ensures.value in
    let u = (c.get_mut.follows.holds new).3 (ap is_some at) in
    opened c.args.message.now c.args.stream st (parts made c.args.states.now.entries c.args.lists.now) (parts made (c.get_mut.follows.lender new).entries c.begin.new.self) waiting refl at
    (sym c.if-not-is_answered.ensures) (sym c.if-is_return.ensures) u.0 (record { limits = c.begin.ensures.limits; held = c.begin.ensures.held }) was

pub returns-else-is_return-clause-changes : goal.returns-else-is_return-clause-changes
returns-else-is_return-clause-changes c made waiting was ready =
    let m = c.args.message.now in
    let st = c.in-Some.state.now in
    let new = c.deny.new.self in
    let at = sym c.in-Some.ensures.value in
    let u = (c.get_mut.follows.holds new).3 (ap is_some at) in
    let answered = sym c.if-not-is_answered.ensures in
    let return = sym c.if-is_return.ensures in
    let p = parts made c.args.states.now.entries c.args.lists.now in
    let is : new ≡ record st { rule = None; progress = Progress.Denied m } = c.deny.ensures m ((subst (IsReady m) at ready) (and_from (is_answered m st.progress) (not (is_return m.kind)) answered (ap not return))) in
    denied m c.args.stream st p (parts made (c.get_mut.follows.lender new).entries c.close.new.self) waiting refl at answered return
    (λ j. u.0 j ∙ ap (λ (w : StreamState). if c.args.stream == j then Some w else state_at p j) is) (record { limits = c.close.ensures.limits; held = c.close.ensures.held }) was
