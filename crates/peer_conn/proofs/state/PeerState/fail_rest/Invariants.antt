-- Those that were done since failed.
use Rattle.std.proofs.Common.{◌≡◌, ◌≤◌, ◌-◌, ◌⊎◌, length}
use Rattle.peer_core.specs.{History.{Past, WriteFailed, after_all}, Refinement.Refines}
use Rattle.peer_route.specs.Entries.{repeat}
use Rattle.peer_conn.proofs.state.PeerState.fail_rest.Given as goal

abbrev pub invariant-loop-self : goal.invariant-loop-self
invariant-loop-self l = record {
  left : (p : Past) → Refines l.initial.self-inside.route p → Refines l.self-inside.route (after_all (repeat (l.self-inside.route.done - l.initial.self-inside.route.done) WriteFailed) p);
  more : l.initial.self-inside.route.done ≤ l.self-inside.route.done;
  most : (l.self-inside.route.done ≡ l.initial.self-inside.route.done) ⊎ (l.self-inside.route.done ≤ length l.self-inside.route.outbox);
  outbox : l.self-inside.route.outbox ≡ l.initial.self-inside.route.outbox;
  calls : l.self-inside.calls ≡ l.initial.self-inside.calls;
  streams : l.self-inside.streams ≡ l.initial.self-inside.streams;
  server : l.self-inside.server ≡ l.initial.self-inside.server;
  handles : l.self-inside.handles ≡ l.initial.self-inside.handles;
  given : l.self-inside.given ≡ l.initial.self-inside.given;
  makes : l.self-inside.makes ≡ l.initial.self-inside.makes;
}

abbrev pub decreases-loop-self : goal.decreases-loop-self
decreases-loop-self l = length l.self-inside.route.outbox - l.self-inside.route.done
