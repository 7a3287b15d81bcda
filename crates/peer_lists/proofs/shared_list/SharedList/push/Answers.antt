-- The message stands at the end, in a copy for each stream that has begun.
use Rattle.std.proofs.Common.{◌≡◌, ◌+◌, ◌∙◌, ap, subst, arith, option_map}
use Rattle.peer_lists.specs.{Entries.Kept, Cursors.{holdings, AreShared}, Holdings.{held_by, with_message}}
use Rattle.peer_lists.proofs.{Steps.shared_pushed, Views.{held_pushed, held_by_none}}
use Rattle.peer_lists.proofs.shared_list.SharedList.push.Goals as goal

pub returns-then-self-eq0-clause-ok : goal.returns-then-self-eq0-clause-ok
returns-then-self-eq0-clause-ok c k =
    let none = subst (AreShared c.self.inside.passed c.self.inside.entries.items c.self.inside.cursors) c.if-self-eq0.true c.self.invariant in
    subst (λ v. held_by v k ≡ option_map (with_message c.args.message.now) (held_by v k)) c.self.view_is (held_by_none none c.args.message.now k)

pub invariant_of-self-2 : goal.invariant_of-self-2
invariant_of-self-2 c =
    shared_pushed c.self.invariant c.push_back.new.self.items c.in_ok-entry.entry (ap (λ (e : Kept). e.others + 1) c.in_ok-entry.ensures ∙ omega (arith, c.if-self-eq0.false))
    (omega (arith, c.self.invariant.fits, c.if-self-len.false, c.len.ensures, c.self.inside.entries.ok.0)) c.in_ok-push_back.ensures.items

pub returns-clause-ok : goal.returns-clause-ok
returns-clause-ok c k =
    held_pushed c.self.invariant c.push_back.new.self.items c.in_ok-entry.entry c.in_ok-push_back.ensures.items k
    ∙ ap (λ (e : Kept). option_map (with_message e.message) (held_by (holdings c.self.inside.passed c.self.inside.entries.items c.self.inside.cursors) k)) c.in_ok-entry.ensures
    ∙ ap (λ v. option_map (with_message c.args.message.now) (held_by v k)) c.self.view_is
