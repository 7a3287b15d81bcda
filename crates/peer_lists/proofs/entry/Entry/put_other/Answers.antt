-- A copy more is of the message too.
use Rattle.std.proofs.{Common.{◌≡◌, sym, subst}, lemmas.List.Elements.All-push}
use Rattle.peer_lists.specs.Entries.{AreCopies}
use Rattle.peer_lists.proofs.entry.Entry.put_other.Goals as goal

pub invariant_of-self-2 : goal.invariant_of-self-2
invariant_of-self-2 c =
    subst (AreCopies c.self.inside.message) (sym c.in_ok-push.ensures.items) (All-push (λ copy. copy ≡ c.self.inside.message) c.self.inside.others.items c.in_ok-copy.copy c.self.invariant c.in_ok-copy.ensures)
