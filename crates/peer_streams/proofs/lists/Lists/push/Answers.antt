-- What the rules' streams did not take is taken back from the others.
use Rattle.std.proofs.{Common.{◌≡◌, ℕ, sym, true, Option, Some, None, Result, Ok, Err, OnErr}, lemmas.Bool.false≢true}
use Rattle.std.specs.Result.{is_err}
use Rattle.peer_streams.specs.{Names.Rule, Keeping.held_of}
use Rattle.peer_streams.proofs.KeptSame.{on_err}
use Rattle.peer_streams.proofs.lists.Lists.push.Goals as goal

at_err : {A E P : Type 0} (r : Result A E) → is_err r ≡ true → OnErr r P → P
at_err (Ok x) e p = absurd (false≢true e)
at_err (Err x) e p = p

pub returns-then-is_err-clause-err : goal.returns-then-is_err-clause-err
returns-then-is_err-clause-err g c = on_err c.push-pushed.result by
  where
    by : (o : Option Rule) (k : ℕ) → held_of record { plain = c.take_back.new.self; rules = c.push-pushed.new.self } o k ≡ held_of c.args.self.now o k
    by None k = c.take_back.ensures c.args.self.now.plain c.args.message.now c.in_ok-push.ensures.ok k
    by (Some r) k = at_err c.push-pushed.result (sym c.if-is_err.ensures.value) c.push-pushed.ensures.err r k
