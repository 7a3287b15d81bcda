-- The first message that the stream holds; one that holds none is told what closed the peer.
use Rattle.std.proofs.{Common.{◌≡◌, sym, ◌∙◌, ap, subst, is_some, [], ◌∷◌, Some, None, Ok, ne_eqb}, lemmas.Option.{none-some, same_Some}}
use Rattle.std.specs.Option.{option_copied_mut}
use Rattle.peer_streams.specs.{Names.{StreamState}, History.{after_all}, Streams.{take_by, take_events}, Refinement.{RefinesStreams}, Keeping.{Parts, state_at, held_of, messages_of, once_told, views}}
use Rattle.peer_streams.proofs.{StreamsMade.{take_so}, LookedUp.{active_view, usable_found, usable_is, first_messages, holds_none, holds_first}, HeldChanges.{IsTaken, kept_taken, kept_changed, alike_changed, taken_view, taken_none, taken_same}, LookedTaken.{taken_left, told_view, told_alike}}
use Rattle.peer_streams.proofs.streams.Streams.take.Goals as goal

pub returns-in_default-clause-gives : goal.returns-in_default-clause-gives
returns-in_default-clause-gives c p left closed =
    take_so p c.args.stream c.args.closing None (usable_found c.self.invariant c.args.self.now c.self.view_is p left c.args.stream None (rw c.in_default.is at c.usable.ensures)) closed

pub invariant_of-self : goal.invariant_of-self
invariant_of-self c =
    let st = c.in-Some.state.now in kept_taken c.self.invariant c.take.new.self st.rule c.args.stream (record { limits = c.take.ensures.limits; held = c.take.ensures.held })

pub returns-in-Some-take-clause-gives : goal.returns-in-Some-take-clause-gives
returns-in-Some-take-clause-gives c p left closed =
    let parts : Parts = record { made = c.self.inside.made; states = c.self.inside.states.entries; lists = c.self.inside.lists } in
    let st = c.in-Some.state.now in
    let m = c.in-Some-take.message in
    let held = held_of parts.lists st.rule c.args.stream in
    let has = holds_first (messages_of held) m (sym (first_messages held) ∙ sym c.take.ensures.gives ∙ c.in-Some-take.is) in
    ap (λ ms. Ok (take_by ms c.args.closing st.closing_delivered)) (sym has.1)
    ∙ take_so p c.args.stream c.args.closing (Some (active_view parts c.args.stream st))
    (usable_found c.self.invariant c.args.self.now c.self.view_is p left c.args.stream (Some st) (rw c.in-Some.is at c.usable.ensures)) closed

pub returns-in-Some-take-clause-left : goal.returns-in-Some-take-clause-left
returns-in-Some-take-clause-left c p left =
    let parts : Parts = record { made = c.self.inside.made; states = c.self.inside.states.entries; lists = c.self.inside.lists } in
    let st = c.in-Some.state.now in
    let k = c.args.stream in
    let m = c.in-Some-take.message in
    let held = held_of parts.lists st.rule k in
    let has = holds_first (messages_of held) m (sym (first_messages held) ∙ sym c.take.ensures.gives ∙ c.in-Some-take.is) in
    let usable = usable_is parts k st (rw c.in-Some.is at c.usable.ensures) in
    let taken : IsTaken parts c.take.new.self st.rule k = record { limits = c.take.ensures.limits; held = c.take.ensures.held } in
    subst (λ qs. RefinesStreams qs (after_all (take_events k (Ok (take_by (m ∷ has.0) None st.closing_delivered))) p)) (sym (taken_view parts c.take.new.self k st m has.0 usable taken has.1))
    (taken_left c.self.invariant p (subst (λ v. RefinesStreams v p) (sym c.self.view_is) left) k st usable (m ∷ has.0) None has.1)

-- ---- it holds nothing

pub returns-in_default-get_mut-clause-gives : goal.returns-in_default-get_mut-clause-gives
returns-in_default-get_mut-clause-gives c p left closed =
    let parts : Parts = record { made = c.self.inside.made; states = c.self.inside.states.entries; lists = c.self.inside.lists } in
    let st = c.in-Some.state.now in
    let usable = usable_is parts c.args.stream st (rw c.in-Some.is at c.usable.ensures) in
    absurd (none-some st (ap option_copied_mut (sym c.in_default-get_mut.is) ∙ c.get_mut.ensures.value ∙ usable.known))

pub invariant_of-self-2 : goal.invariant_of-self-2
invariant_of-self-2 c =
    let parts : Parts = record { made = c.self.inside.made; states = c.self.inside.states.entries; lists = c.self.inside.lists } in
    let st = c.in-Some.state.now in
    let k = c.args.stream in
    let usable = usable_is parts k st (rw c.in-Some.is at c.usable.ensures) in
    let taken : IsTaken parts c.take.new.self st.rule k = record { limits = c.take.ensures.limits; held = c.take.ensures.held } in
    let found : Some c.in-Some-get_mut.state.now ≡ state_at parts k = ap option_copied_mut (sym c.in-Some-get_mut.is) ∙ c.get_mut.ensures.value in
    let same : c.in-Some-get_mut.state.now ≡ st = same_Some c.in-Some-get_mut.state.now st (found ∙ usable.known) in
    let now : c.tell.new.state ≡ once_told c.args.closing st = c.tell.ensures.left ∙ ap (once_told c.args.closing) same in
    let alike = told_alike c.args.closing st in
    let states = c.get_mut.follows.lender c.tell.new.state in
    let u = (c.get_mut.follows.holds c.tell.new.state).3 (ap is_some usable.known) in
    kept_changed (kept_taken c.self.invariant c.take.new.self st.rule k taken) states.entries k (Some st) (Some c.tell.new.state) usable.known u.1 (λ j ne. u.2 j (ne_eqb k j ne))
    (alike_changed st c.tell.new.state (ap (λ (x : StreamState). x.rule) now ∙ alike.0) (ap (λ (x : StreamState). x.progress) now ∙ alike.1))

pub returns-clause-gives : goal.returns-clause-gives
returns-clause-gives c p left closed =
    let parts : Parts = record { made = c.self.inside.made; states = c.self.inside.states.entries; lists = c.self.inside.lists } in
    let st = c.in-Some.state.now in
    let k = c.args.stream in
    let held = held_of parts.lists st.rule k in
    let usable = usable_is parts k st (rw c.in-Some.is at c.usable.ensures) in
    let none = holds_none (messages_of held) (sym (first_messages held) ∙ sym c.take.ensures.gives ∙ c.in_default-take.is) in
    let found : Some c.in-Some-get_mut.state.now ≡ state_at parts k = ap option_copied_mut (sym c.in-Some-get_mut.is) ∙ c.get_mut.ensures.value in
    let same : c.in-Some-get_mut.state.now ≡ st = same_Some c.in-Some-get_mut.state.now st (found ∙ usable.known) in
    ap (λ r. Ok r) (c.tell.ensures.gives ∙ ap (λ (x : StreamState). take_by [] c.args.closing x.closing_delivered) same)
    ∙ ap (λ ms. Ok (take_by ms c.args.closing st.closing_delivered)) (sym none)
    ∙ take_so p k c.args.closing (Some (active_view parts k st))
    (usable_found c.self.invariant c.args.self.now c.self.view_is p left k (Some st) (rw c.in-Some.is at c.usable.ensures)) closed

pub returns-clause-left : goal.returns-clause-left
returns-clause-left c p left =
    let parts : Parts = record { made = c.self.inside.made; states = c.self.inside.states.entries; lists = c.self.inside.lists } in
    let st = c.in-Some.state.now in
    let k = c.args.stream in
    let held = held_of parts.lists st.rule k in
    let usable = usable_is parts k st (rw c.in-Some.is at c.usable.ensures) in
    let none = holds_none (messages_of held) (sym (first_messages held) ∙ sym c.take.ensures.gives ∙ c.in_default-take.is) in
    let taken : IsTaken parts c.take.new.self st.rule k = record { limits = c.take.ensures.limits; held = c.take.ensures.held } in
    let after_taken : Parts = record parts { lists = c.take.new.self } in
    let found : Some c.in-Some-get_mut.state.now ≡ state_at parts k = ap option_copied_mut (sym c.in-Some-get_mut.is) ∙ c.get_mut.ensures.value in
    let same : c.in-Some-get_mut.state.now ≡ st = same_Some c.in-Some-get_mut.state.now st (found ∙ usable.known) in
    let states = c.get_mut.follows.lender c.tell.new.state in
    let u = (c.get_mut.follows.holds c.tell.new.state).3 (ap is_some usable.known) in
    let mine = subst (λ v. RefinesStreams v p) (sym (taken_same parts c.take.new.self st.rule k taken none ∙ c.self.view_is)) left in
    let usable_then = usable_is after_taken k st (rw c.in-Some.is at c.usable.ensures) in
    let told = told_view after_taken states.entries k st c.args.closing usable_then (u.1 ∙ ap (λ x. Some x) (c.tell.ensures.left ∙ ap (once_told c.args.closing) same)) (λ j ne. u.2 j (ne_eqb k j ne)) in
    subst (λ r. RefinesStreams (views (record after_taken { states = states.entries })) (after_all (take_events k (Ok r)) p))
    (sym (c.tell.ensures.gives ∙ ap (λ (x : StreamState). take_by [] c.args.closing x.closing_delivered) same))
    (subst (λ qs. RefinesStreams qs (after_all (take_events k (Ok (take_by [] c.args.closing st.closing_delivered))) p)) (sym told)
    (taken_left (kept_taken c.self.invariant c.take.new.self st.rule k taken) p mine k st usable_then [] c.args.closing
    (ap messages_of (taken_none parts c.take.new.self st.rule k taken none st.rule k) ∙ none)))
