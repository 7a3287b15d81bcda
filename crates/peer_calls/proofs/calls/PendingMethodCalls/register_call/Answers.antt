-- The call is issued.
use Rattle.std.proofs.Common.{OnOk, Result, Ok, Err, sym, ◌∙◌, ap, refl, false, true}
use Rattle.peer_calls.specs.{History.{Put, OfLane, after}, Refinement.waiting_serial}
use Rattle.peer_calls.proofs.Drawn.{called, with_call}
use Rattle.peer_calls.proofs.calls.PendingMethodCalls.register_call.Goals as goal

on-ok : {A E P Q : Type 0} (r : Result A E) → OnOk r P → (P → Q) → OnOk r Q
on-ok (Ok x) p f = f p
on-ok (Err e) p f = tt

pub returns-clause-left : goal.returns-clause-left
returns-clause-left c =
    on-ok c.register.result c.register.ensures.ok (λ is h m e left.
    called m false c.args.self.now _ (after (Put m (OfLane true)) h) h
    (is ∙ ap (λ n. with_call false n c.args.self.now) (sym e)) refl refl refl
    (ap (waiting_serial c.args.self.now) e ∙ c.requires.free) left)
