-- By what is known of the stream; one that will not be open is gone.
use Rattle.std.proofs.{Common.{◌≡◌, sym, ◌∙◌, ap, subst, true, Some, ne_eqb}, lemmas.Option.same_Some}
use Rattle.std.specs.{Bool.nat_eq, HashMap.{Updates}, Option.{option_copied, IfSome}}
use Rattle.peer_streams.specs.{Names.{StreamState}, History.{Did, Gone, Opened, after, after_all}, Streams.{opening_events}, Refinement.{RefinesStreams}, Keeping.{Parts, state_at, views, refusal_of}}
use Rattle.peer_streams.proofs.{StreamsMade.{streams_ended}, LookedTaken.{asked_answer, asked_unknown, asked_reported, asked_active, asked_waiting, asked_waits, asked_denied, refused_gone, refused_view, opened_left, reported_view}}
use Rattle.peer_streams.proofs.streams.Streams.ask_open.Goals as goal

-- ---- nothing is known of it

pub returns-in_default-clause-told : goal.returns-in_default-clause-told
returns-in_default-clause-told c p left closed =
    asked_unknown c.self.invariant p (subst (λ v. RefinesStreams v p) (sym c.self.view_is) left) c.args.stream (sym (ap option_copied (sym c.in_default.is) ∙ c.get.ensures.value))

pub returns-in_default-clause-left : goal.returns-in_default-clause-left
returns-in_default-clause-left c p left closed =
    subst (λ state. RefinesStreams c.args.self.now (after_all (opening_events c.args.stream state) p)) (returns-in_default-clause-told c p left closed) left

-- ---- it was told so before

pub returns-then-state-clause-told : goal.returns-then-state-clause-told
returns-then-state-clause-told c p left closed =
    let st = c.in-Some.state.now in
    asked_reported st.progress c.args.closing st.open_reported c.if-state.true
    ∙ asked_answer c.self.invariant p (subst (λ v. RefinesStreams v p) (sym c.self.view_is) left) c.args.stream st (sym (ap option_copied (sym c.in-Some.is) ∙ c.get.ensures.value)) c.args.closing closed

pub returns-then-state-clause-left : goal.returns-then-state-clause-left
returns-then-state-clause-left c p left closed =
    subst (λ state. RefinesStreams c.args.self.now (after_all (opening_events c.args.stream state) p)) (returns-then-state-clause-told c p left closed) left

-- ---- it is open

pub returns-then-is_active-clause-told : goal.returns-then-is_active-clause-told
returns-then-is_active-clause-told c p left closed =
    let st = c.in-Some.state.now in
    asked_active st.progress c.args.closing st.open_reported c.if-state.false (sym c.is_active.ensures ∙ c.if-is_active.true)
    ∙ asked_answer c.self.invariant p (subst (λ v. RefinesStreams v p) (sym c.self.view_is) left) c.args.stream st (sym (ap option_copied (sym c.in-Some.is) ∙ c.get.ensures.value)) c.args.closing closed

pub returns-then-is_active-clause-left : goal.returns-then-is_active-clause-left
returns-then-is_active-clause-left c p left closed =
    let parts : Parts = record { made = c.self.inside.made; states = c.self.inside.states.entries; lists = c.self.inside.lists } in
    let st = c.in-Some.state.now in
    let k = c.args.stream in
    let mine = subst (λ v. RefinesStreams v p) (sym c.self.view_is) left in
    let known : state_at parts k ≡ Some st = sym (ap option_copied (sym c.in-Some.is) ∙ c.get.ensures.value) in
    let told = returns-then-is_active-clause-told c p left closed in
    let states = c.report_open.new.states in
    let put = subst (λ o. IfSome o (λ (x : StreamState). Updates nat_eq c.self.inside.states states k (Some (record x { open_reported = true })))) known c.report_open.ensures in
    subst (λ state. RefinesStreams (views (record parts { states = states.entries })) (after_all (opening_events k state) p)) told
    (subst (λ qs. RefinesStreams qs (after (Did k Opened) p)) (sym (reported_view parts states.entries k st known put.1 (λ j ne. put.2 j (ne_eqb k j ne))))
    (opened_left c.self.invariant p mine k st known told))

-- ---- it waits

pub returns-in_default-closing-clause-told : goal.returns-in_default-closing-clause-told
returns-in_default-closing-clause-told c p left closed =
    let st = c.in-Some.state.now in
    ap asked_waiting (sym c.in_default-closing.is) ∙ asked_waits st.progress c.args.closing st.open_reported c.if-state.false (sym c.waits.ensures ∙ c.if-waits.true)
    ∙ asked_answer c.self.invariant p (subst (λ v. RefinesStreams v p) (sym c.self.view_is) left) c.args.stream st (sym (ap option_copied (sym c.in-Some.is) ∙ c.get.ensures.value)) c.args.closing closed

pub returns-in_default-closing-clause-left : goal.returns-in_default-closing-clause-left
returns-in_default-closing-clause-left c p left closed =
    subst (λ state. RefinesStreams c.args.self.now (after_all (opening_events c.args.stream state) p)) (returns-in_default-closing-clause-told c p left closed) left

pub returns-then-waits-clause-told : goal.returns-then-waits-clause-told
returns-then-waits-clause-told c p left closed =
    let st = c.in-Some.state.now in
    ap asked_waiting (sym c.in-Some-closing.is) ∙ asked_waits st.progress c.args.closing st.open_reported c.if-state.false (sym c.waits.ensures ∙ c.if-waits.true)
    ∙ asked_answer c.self.invariant p (subst (λ v. RefinesStreams v p) (sym c.self.view_is) left) c.args.stream st (sym (ap option_copied (sym c.in-Some.is) ∙ c.get.ensures.value)) c.args.closing closed

pub returns-then-waits-clause-left : goal.returns-then-waits-clause-left
returns-then-waits-clause-left c p left closed =
    subst (λ state. RefinesStreams c.end.new.self (after_all (opening_events c.args.stream state) p)) (returns-then-waits-clause-told c p left closed) (c.end.ensures p left)

-- ---- it was denied

pub returns-in-Some-remove-clause-told : goal.returns-in-Some-remove-clause-told
returns-in-Some-remove-clause-told c p left closed =
    let st = c.in-Some-remove.state in
    let was : Some st ≡ Some c.in-Some.state.now = sym c.in-Some-remove.is ∙ c.remove.ensures.value ∙ sym (ap option_copied (sym c.in-Some.is) ∙ c.get.ensures.value) in
    let same : st ≡ c.in-Some.state.now = same_Some st c.in-Some.state.now was in
    c.into_refusal.ensures ∙ ap (λ (x : StreamState). refusal_of x.progress) same
    ∙ asked_denied c.in-Some.state.now.progress c.args.closing c.in-Some.state.now.open_reported c.if-state.false (sym c.is_active.ensures ∙ c.if-is_active.false) (sym c.waits.ensures ∙ c.if-waits.false)
    ∙ asked_answer c.self.invariant p (subst (λ v. RefinesStreams v p) (sym c.self.view_is) left) c.args.stream c.in-Some.state.now (sym (ap option_copied (sym c.in-Some.is) ∙ c.get.ensures.value)) c.args.closing closed

pub returns-in-Some-remove-clause-left : goal.returns-in-Some-remove-clause-left
returns-in-Some-remove-clause-left c p left closed =
    let parts : Parts = record { made = c.self.inside.made; states = c.self.inside.states.entries; lists = c.self.inside.lists } in
    let st = c.in-Some.state.now in
    let k = c.args.stream in
    let mine = subst (λ v. RefinesStreams v p) (sym c.self.view_is) left in
    let states = c.remove.new.self in
    let u = c.remove.ensures.updates in
    let same : c.in-Some-remove.state ≡ st = same_Some c.in-Some-remove.state st (sym c.in-Some-remove.is ∙ c.remove.ensures.value ∙ sym (ap option_copied (sym c.in-Some.is) ∙ c.get.ensures.value)) in
    subst (λ state. RefinesStreams (views (record parts { states = states.entries })) (after_all (opening_events k state) p)) (ap (λ (x : StreamState). refusal_of x.progress) (sym same) ∙ sym c.into_refusal.ensures ∙ returns-in-Some-remove-clause-told c p left closed)
    (subst (λ h. RefinesStreams (views (record parts { states = states.entries })) h) (refused_gone st.progress p k (sym c.is_active.ensures ∙ c.if-is_active.false) (sym c.waits.ensures ∙ c.if-waits.false))
    (subst (λ qs. RefinesStreams qs (after (Did k Gone) p)) (sym (refused_view parts states.entries k u.1 (λ j ne. u.2 j (ne_eqb k j ne)))) (streams_ended k (views parts) p mine)))
