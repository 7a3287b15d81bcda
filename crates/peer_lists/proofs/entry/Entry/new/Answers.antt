-- A copy more is of the message too.
use Rattle.std.proofs.{Common.{◌≡◌, ◌+◌, ◌∷◌, [], sym, ◌∙◌, ap, subst, length, length-append}, lemmas.List.Elements.All-push}
use Rattle.peer_lists.specs.Entries.{AreCopies}
use Rattle.peer_lists.proofs.entry.Entry.new.Goals as goal

pub loop-preserved : goal.loop-preserved
loop-preserved c = record {
  copies = subst (AreCopies c.args.message.now) (sym c.in_ok-push.ensures.items) (All-push (λ copy. copy ≡ c.args.message.now) c.loop.copies.items c.in_ok-clone.field-0 c.loop.invariant.copies c.in_ok-clone.ensures);
  count = ap length c.in_ok-push.ensures.items ∙ length-append c.loop.copies.items (c.in_ok-clone.field-0 ∷ []) ∙ ap (λ n. n + 1) c.loop.invariant.count;
}
