use Rattle.std.proofs.Common.{◌≡◌, ◌≤◌, ◌-◌, ◌⊎◌, ℕ, inl, inr, List, length, ap, sym, ◌∙◌, subst, arith}
use Rattle.peer_conn.specs.{Names.MessageView, Invariant.PeerStateView}
use Rattle.peer_core.specs.{History.{WriteFailed, after_all}, Refinement.{RouteView, Refines}}
use Rattle.peer_route.specs.Entries.{repeat}
use Rattle.peer_conn.proofs.Written.{once_more}
use Rattle.peer_conn.proofs.state.PeerState.fail_rest.Goals as goal

pub loop-self-preserved : goal.loop-self-preserved
loop-self-preserved c =
    let inv = c.loop-self.invariant in
    let moves = c.write_fault.ensures.moves in
    record {
      left = λ p left. subst (Refines c.write_fault.new.self)
          (sym (once_more (c.loop-self.self-inside.route.done - c.self.inside.route.done) (c.write_fault.new.self.done - c.self.inside.route.done) WriteFailed p (omega (arith, moves.1, inv.more))))
          (c.write_fault.ensures.left (after_all (repeat (c.loop-self.self-inside.route.done - c.self.inside.route.done) WriteFailed) p) (inv.left p left));
      more = omega (arith, moves.1, inv.more);
      most = inr (let same : length c.write_fault.new.self.outbox ≡ length c.loop-self.self-inside.route.outbox = ap length moves.0 in omega (arith, moves.1, same, c.loop-self-test.true, c.outbox_done.ensures, c.outbox_len.ensures));
      outbox = moves.0 ∙ inv.outbox;
      calls = inv.calls;
      streams = inv.streams;
      server = inv.server;
      handles = inv.handles;
      given = inv.given;
      makes = inv.makes;
    }

-- the loop ends past the last one
ends : (old now len : ℕ) → (now ≡ old) ⊎ (now ≤ len) → len ≤ now → now - old ≡ len - old
ends old now len (inl same) past = omega (arith, same, past)
ends old now len (inr most) past = omega (arith, most, past)

pub returns-clause-left : goal.returns-clause-left
returns-clause-left c = λ p left.
    let inv = c.loop-self.invariant in
    let core : c.args.self.now.core ≡ c.self.inside.route = sym (ap (λ (v : PeerStateView). v.core) c.self.view_is) in
    let past : length c.loop-self.self-inside.route.outbox ≤ c.loop-self.self-inside.route.done = omega (arith, c.loop-self-test.false, c.outbox_done.ensures, c.outbox_len.ensures) in
    let count = ends c.self.inside.route.done c.loop-self.self-inside.route.done (length c.loop-self.self-inside.route.outbox) inv.most past in
    subst (λ n. Refines c.loop-self.self-inside.route (after_all (repeat n WriteFailed) p)) (count ∙ ap (λ (ms : List MessageView). length ms - c.self.inside.route.done) (inv.outbox ∙ ap (λ (v : RouteView). v.outbox) (sym core)) ∙ ap (λ (v : RouteView). length c.args.self.now.core.outbox - v.done) (sym core)) (inv.left p (subst (λ v. Refines v p) core left))
