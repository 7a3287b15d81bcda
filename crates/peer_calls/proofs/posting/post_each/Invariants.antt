-- The messages that were passed are placed; the rest may be, each with its serial.
use Rattle.std.proofs.Common.{◌≡◌, ◌<◌, ◌^◌, Bool, drop, length, false}
use Rattle.std.specs.List.{list_any, AllByRecursion}
use Rattle.peer_calls.specs.{History.CallsPast, Placing.{IsPlaced, posts, Grows}}
use Rattle.wire_message.specs.Outgoing.{is_deep}
use Rattle.peer_calls.proofs.Placed.{Placing}
use Rattle.peer_calls.proofs.posting.post_each.Given as goal

abbrev pub invariant-loop-outgoing : goal.invariant-loop-outgoing
invariant-loop-outgoing l =
    let rest = l.outgoing-iterator.rest.items in
    let left = drop (length l.issued.items) l.serials in
    ((p : CallsPast) (internal : Bool) → IsPlaced l.fn.outbox.items l.fn.places.items p
    → Placing (posts internal l.name l.served l.fn.list.items) l.serials p (posts internal l.name l.served rest) left l.issued.items l.outbox.items l.places.items)
    × AllByRecursion (λ serial. 0 < serial) left
    × (length left ≡ length rest)
    × (list_any is_deep rest ≡ false)
    × AllByRecursion (λ p. length p.fds < 2 ^ 32) rest
    × Grows l.fn.outbox.items l.outbox.items
    × Grows l.fn.places.items l.places.items
