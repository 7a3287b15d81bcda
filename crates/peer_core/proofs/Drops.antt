-- What dropping a call leaves, and whether the peer takes a message now.
use Rattle.peer_core.specs.{History.{calls_of, Past, after, after_all}, Names.{Error}, Asked.{drop_events}, Refinement.{is_busy, RouteView, Refines}}
use Rattle.std.proofs.{Common.{◌≡◌, ℕ, is_some, ◌&&◌, is_none, sym, ◌∙◌, ap, Bool, true, false, not, Option, Some, None, Result, Ok, Err}}
use Rattle.std.specs.{List.{list_any}}
use Rattle.peer_calls.specs.{Refinement.{CallsView, RefinesCalls}}
use Rattle.peer_streams.specs.Refinement.{is_over}
use Rattle.peer_core.proofs.Core.{left_spent, left_same}
use Rattle.peer_calls.specs.History.{after_all as calls_after_all}
use Rattle.peer_calls.specs.Calls.{drop_events as calls_drop_events}

pub left_dropped : (v : RouteView) (cv : CallsView) (k : ℕ) (r : Result (Unit {0}) Error) (h : Past) → Refines v h
    → RefinesCalls cv (calls_after_all (calls_drop_events k r) (calls_of h)) → Refines (record v { calls = cv }) (after_all (drop_events k r) h)
left_dropped v cv k (Ok done) h left after = left_spent v cv k h left after
left_dropped v cv k (Err error) h left after = left_same v cv h left after

is_none_by : (o : Option Error) (b : Bool) → is_some o ≡ b → is_none o ≡ not b
is_none_by None b e = ap not e
is_none_by (Some error) b e = ap not e

pub busy_open : (v : RouteView) (b : Bool) → is_some v.calls.closing ≡ false → b ≡ list_any (is_over v.main) v.streams → b ≡ is_busy v
unfolding is_busy
busy_open v b open_ e = e ∙ ap (λ x. x && list_any (is_over v.main) v.streams) (sym (is_none_by v.calls.closing false open_))

pub busy_shut : (v : RouteView) (b : Bool) → is_some v.calls.closing ≡ true → b ≡ false → b ≡ is_busy v
unfolding is_busy
busy_shut v b shut_ e = e ∙ ap (λ x. x && list_any (is_over v.main) v.streams) (sym (is_none_by v.calls.closing true shut_))
