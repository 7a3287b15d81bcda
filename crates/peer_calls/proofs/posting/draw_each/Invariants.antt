-- The messages that were passed have their serials, each above 0, and made their calls.
use Rattle.std.proofs.Common.{◌≡◌, ◌<◌, ℕ, Bool, List, Option, drop, length}
use Rattle.std.specs.List.{AllByRecursion}
use Rattle.peer_calls.specs.{History.CallsPast, Placing.{IsCounted, posts, AreMade}}
use Rattle.peer_calls.proofs.Drawn.{Drawing}
use Rattle.peer_calls.proofs.posting.draw_each.Given as goal

abbrev pub invariant-loop-outgoing : goal.invariant-loop-outgoing
invariant-loop-outgoing l =
    ((p : CallsPast) (name : Option (List ℕ)) (served : Bool) → IsCounted l.fn.calls l.fn.serials p
    → Drawing (posts l.internal name served l.list) p l.drawn.items (posts l.internal name served (drop l.outgoing-index l.list)) l.calls l.serials)
    × AllByRecursion (λ serial. 0 < serial) l.drawn.items
    × (length l.drawn.items ≡ l.outgoing-index)
    × AreMade l.fn.calls l.calls
