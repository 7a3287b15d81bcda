-- What a test's peer means by putting a signal, and the signals that are put in tests.
use Rattle.std.specs.Prelude.{◌≡◌, ℕ, false, List, [], ◌∷◌, codes, None, Some, Result}
use Rattle.wire_tree.specs.Datum.{Datum, num, uint32}
use Rattle.wire_message.specs.declared.error.Error.{Error}
use Rattle.wire_message.specs.Outgoing.{OutgoingMessageView, sent_by}
use Rattle.object_signals.specs.Emitting.{EmitterView, changed_from, added_from, removed_from}
use Rattle.object_standard.specs.declared.object_manager.ManagedObject.{ManagedObject}
use Rattle.peer_calls.specs.Issuing.{Posting, posted}
use Rattle.peer_core.specs.{History.{Past}, Refinement.{RouteView, Refines}, Issuing.{IssuesBy}}

-- one message, whose sender is the peer
abbrev pub one_of : RouteView → OutgoingMessageView → List Posting
one_of peer m = posted false (sent_by peer.name false m) ∷ []

-- One message, whose sender is the peer, is put in the outbox behind those before it, and its serial is told; or it isn't put, for the reason
-- that is due or for want of memory, and nothing is changed (D-Bus Specification, "Message Protocol", "Types of messages", "Signal Emission").
abbrev pub PutsOne : RouteView → OutgoingMessageView → Result ℕ Error → RouteView → Type 0
PutsOne old m result new = (p : Past) → Refines old p → IssuesBy (λ serial serials. serials ≡ serial ∷ []) (new ≡ old) (Refines new) (one_of old m) p result

-- signals from the root, for one connection
abbrev pub from_root : EmitterView
from_root = record { path = codes "/"; destination = Some (codes ":1.5") }

-- the property `V` of `a.b` has a new value, which isn't told
abbrev pub is_changed : OutgoingMessageView
is_changed = changed_from from_root (codes "a.b") [] (codes "V" ∷ [])

-- the object at `/a` has the interfaces `a.b` and `c.d` no more
abbrev pub is_removed : OutgoingMessageView
is_removed = removed_from from_root (codes "/a") (codes "a.b" ∷ codes "c.d" ∷ [])

-- the object at `/a` has the interface `a.b`, whose property `V` is 7
abbrev pub object : ManagedObject
object = record { path = codes "/a"; interfaces = record { name = codes "a.b"; properties = (codes "V", num uint32 7) ∷ [] } ∷ [] }

-- this is told to whoever listens
abbrev pub is_added : OutgoingMessageView
is_added = added_from (record { path = codes "/"; destination = None }) object
