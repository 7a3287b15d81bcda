-- By what is known of the stream, and what it holds.
use Rattle.std.proofs.Common.{◌≡◌, ◌∙◌, sym, ap, refl, Bool, true, false, ◌&&◌, ◌==◌, length, Some, None}
use Rattle.peer_streams.specs.{Keeping.{Parts, held_of, messages_of}}
use Rattle.peer_streams.proofs.{StreamsMade.{ended_so}, LookedUp.{active_view, first_messages, none_first, none_result, usable_found}}
use Rattle.std.specs.Option.{is_none}
use Rattle.peer_streams.proofs.streams.Streams.is_terminated.Goals.{then-closed, else-closed}
use Rattle.peer_streams.proofs.streams.Streams.is_terminated.Goals as goal

ends : (a b e : Bool) → (a && b) ≡ true → e ≡ (a && b && e)
ends true true e is = refl
ends true false e is = cc
ends false b e is = cc

joined_true : (a b v : Bool) → a ≡ true → v ≡ b → (a && b) ≡ v
joined_true true b v e is = sym is
joined_true false b v e is = cc

joined_false : (a b v : Bool) → a ≡ false → v ≡ a → (a && b) ≡ v
joined_false true b v e is = cc
joined_false false b v e is = sym is

goes_on : (a b e : Bool) → (a && b) ≡ false → false ≡ (a && b && e)
goes_on true true e is = cc
goes_on true false e is = refl
goes_on false b e is = refl

pub returns-in-None : goal.returns-in-None
returns-in-None c p left closed =
    ended_so p c.args.stream c.args.closed None (usable_found c.self.invariant c.args.self.now c.self.view_is p left c.args.stream None (rw c.in-None.is at c.usable.ensures)) closed

pub returns-then-state : goal.returns-then-state
returns-then-state c p left closed =
    let parts : Parts = record { made = c.self.inside.made; states = c.self.inside.states.entries; lists = c.self.inside.lists } in
    let st = c.in-Some.state.now in
    let held = held_of parts.lists st.rule c.args.stream in
    let both : (c.args.closed && st.closing_delivered) ≡ true = elim c.if-closed.branch [
      | then-closed w ↦ joined_true c.args.closed st.closing_delivered c.if-closed.value w.if-closed.true w.value-is ∙ c.if-state.true
      | else-closed w ↦ joined_false c.args.closed st.closing_delivered c.if-closed.value w.if-closed.false w.value-is ∙ c.if-state.true
    ] in
    none_result (λ m. m.now) c.first.result _ c.is_none.result c.first.ensures c.is_none.ensures ∙ ap (λ o. is_none o) (first_messages held) ∙ none_first (messages_of held)
    ∙ ends c.args.closed st.closing_delivered (length (messages_of held) == 0) both
    ∙ ended_so p c.args.stream c.args.closed (Some (active_view parts c.args.stream st))
    (usable_found c.self.invariant c.args.self.now c.self.view_is p left c.args.stream (Some st) (rw c.in-Some.is at c.usable.ensures)) closed

pub returns-else-state : goal.returns-else-state
returns-else-state c p left closed =
    let parts : Parts = record { made = c.self.inside.made; states = c.self.inside.states.entries; lists = c.self.inside.lists } in
    let st = c.in-Some.state.now in
    let held = held_of parts.lists st.rule c.args.stream in
    let both : (c.args.closed && st.closing_delivered) ≡ false = elim c.if-closed.branch [
      | then-closed w ↦ joined_true c.args.closed st.closing_delivered c.if-closed.value w.if-closed.true w.value-is ∙ c.if-state.false
      | else-closed w ↦ joined_false c.args.closed st.closing_delivered c.if-closed.value w.if-closed.false w.value-is ∙ c.if-state.false
    ] in
    c.if-state.false ∙ goes_on c.args.closed st.closing_delivered (length (messages_of held) == 0) both
    ∙ ended_so p c.args.stream c.args.closed (Some (active_view parts c.args.stream st))
    (usable_found c.self.invariant c.args.self.now c.self.view_is p left c.args.stream (Some st) (rw c.in-Some.is at c.usable.ensures)) closed
