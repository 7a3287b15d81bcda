-- What a past leaves of a peer: all that the answers to come depend on.
use Rattle.std.specs.{Prelude.{ℕ, ◌≡◌, Bool, ◌&&◌, is_none, List, length, map, Option}, List.{list_any}}
use Rattle.peer_core.specs.{Names.{MessageView, Writer}, History.{Past, calls_of, streams_of}}
use Rattle.peer_calls.specs.Refinement.{CallsView, RefinesCalls, AreSound}
use Rattle.peer_streams.specs.Refinement.{StreamView, RefinesStreams, is_over}

-- What contracts see of a peer's core: what is kept of each stream; how many messages one without a rule may hold
-- before reads wait; `places` has for each call the place of its message in the outbox; `name` is the peer's own.
pub record RouteView : Type 0 where
  pub calls : CallsView
  pub bus : Bool
  pub name : Option (List ℕ)
  pub streams : List StreamView
  pub main : ℕ
  pub read : ℕ
  pub last : ℕ
  pub outbox : List MessageView
  pub places : List ℕ
  pub done : ℕ
  pub writer : Writer

-- a read takes nothing now
unfoldable pub is_busy : RouteView → Bool
is_busy v = is_none v.calls.closing && list_any (is_over v.main) v.streams

-- The past leaves this core.
pub record Refines (v : RouteView) (h : Past) : Type 0 where
  pub calls : RefinesCalls v.calls (calls_of h)
  pub bus : v.bus ≡ h.bus
  pub name : v.name ≡ h.name
  pub streams : RefinesStreams v.streams (streams_of h)
  pub main : v.main ≡ h.capacities.main
  pub read : v.read ≡ length h.read
  pub last : v.last ≡ h.outbox.last
  pub outbox : v.outbox ≡ h.outbox.put
  pub places : v.places ≡ map (λ c. c.index) h.calls
  pub done : v.done ≡ h.outbox.done
  pub writer : v.writer ≡ h.outbox.writer
  pub sound : AreSound h.outbox.put h.outbox.writer h.closing h.calls
