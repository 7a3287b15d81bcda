-- While the peer is open, the map has the new call's serial.
use Rattle.std.proofs.{Common.{arith, ◌≡◌, sym, ◌∙◌, Some, subst, false, OnOk, Result, Ok, Err}, lemmas.Bool.true≢false}
use Rattle.std.specs.{Result.is_err, Ordering.nat_cmp, BTreeMap.UpdatesBy}
use Rattle.peer_calls.specs.Refinement.{IsIndex}
use Rattle.peer_calls.proofs.Index.{registered}
use Rattle.peer_calls.proofs.calls.PendingMethodCalls.register.Goals as goal

at-ok : {A E P : Type 0} (r : Result A E) → is_err r ≡ false → OnOk r P → P
at-ok (Ok x) none p = p
at-ok (Err e) none p = absurd (true≢false none)

pub invariant_of-self-else-is_err : goal.invariant_of-self-else-is_err
invariant_of-self-else-is_err c open_ =
    let put = at-ok c.insert.result (sym c.is_err.ensures.value ∙ c.if-is_err.false) c.insert.ensures.updates in
    subst (IsIndex c.insert.new.self) (sym c.in_ok-push.ensures.ok)
    (registered c.self.inside.waiting c.insert.new.self c.self.inside.slots c.self.inside.closing c.args.self.now c.args.serial c.args.internal c.self.view_is open_
    c.requires.free c.requires.in_circle (omega (arith, c.ranges.serial.fits))
    (subst (λ n. UpdatesBy nat_cmp (nat_cmp c.args.serial) c.self.inside.waiting c.insert.new.self (Some n)) c.len-call.ensures put) c.self.invariant)
