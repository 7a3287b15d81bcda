-- What is lent to be changed.
use Rattle.std.specs.Borrow.{Lends, MutBor, Fml}
use Rattle.peer_calls.specs.Refinement.{CallsView}
use Rattle.peer_core.specs.{Refinement.RouteView, contracts.route.Route.the_row}
use Rattle.peer_calls.specs.contracts.calls.PendingMethodCalls.{the_row as calls_row}

-- The core ends with the last value behind the reference as its calls.
abbrev pub LendsCalls : MutBor RouteView → MutBor CallsView → Fml
LendsCalls route calls = Lends the_row calls_row route calls (λ w. record route.now { calls = w })
