-- Some stream holds all that is kept.
use Rattle.std.proofs.Common.{◌<◌, ◌≤◌, ◌∙◌, sym, ap, subst, length}
use Rattle.peer_lists.specs.Holdings.{held_by, most_of}
use Rattle.peer_lists.proofs.Views.{most_so, most_within, most_reached}
use Rattle.peer_lists.proofs.shared_list.SharedList.most.Goals as goal

pub returns-clause-most : goal.returns-clause-most
returns-clause-most c = c.len.ensures ∙ c.self.inside.entries.ok.0 ∙ most_so c.self.invariant ∙ ap most_of c.self.view_is

pub returns-clause-within : goal.returns-clause-within
returns-clause-within c k ms e =
    subst (λ n. length ms ≤ n) (sym (c.len.ensures ∙ c.self.inside.entries.ok.0)) (most_within c.self.inside.passed c.self.inside.entries.items c.self.inside.cursors k ms (ap (λ v. held_by v k) c.self.view_is ∙ e))

pub returns-clause-reached : goal.returns-clause-reached
returns-clause-reached c lt =
    let len = c.len.ensures ∙ c.self.inside.entries.ok.0 in
    let h = most_reached c.self.invariant (subst (λ n. 0 < n) len lt) in (h.0, h.1, ap (λ v. held_by v h.0) (sym c.self.view_is) ∙ h.2, h.3 ∙ sym len)
