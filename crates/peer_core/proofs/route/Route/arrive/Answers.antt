-- The message went to the call that waits for it, and to each stream.
use Rattle.peer_core.specs.{History.{calls_of, streams_of, Received, after}, Refinement.{RouteView, Refines}}
use Rattle.std.proofs.Common.{sym, ◌∙◌, subst, ◌≡◌, false, OnOk, Option, Some, None, IfSome, IfNone, Result, Ok, Err}
use Rattle.std.specs.Result.{is_err}
use Rattle.peer_calls.specs.{History.{CallsPast, Received as CallsTook, after as calls_after}, Refinement.RefinesCalls}
use Rattle.peer_streams.specs.{History.{StreamsPast, Received as StreamsTook, after as streams_after}, Refinement.RefinesStreams}
use Rattle.peer_core.proofs.Core.{left_took}
use Rattle.peer_core.proofs.route.Route.arrive.Goals as goal

-- whether a call took the message or not
either : {A : Type 0} (o : Option A) (P Q R : Type 0) → IfNone o P → IfSome o (λ m. Q) → (P → R) → (Q → R) → R
either None P Q R none some p q = p none
either (Some m) P Q R none some p q = q some

-- what an Ok says
fine : {A E : Type 0} (r : Result A E) (P : Type 0) → is_err r ≡ false → OnOk r P → P
fine (Ok x) P e p = p
fine (Err x) P e p = cc

pub returns-clause-left : goal.returns-clause-left
returns-clause-left g c h left =
    let was = subst (λ (v : RouteView). Refines v h) (sym c.self.view_is) left in
    let open_ : h.closing ≡ None = sym left.calls.closing ∙ c.requires.is_open in
    let calls : RefinesCalls c.complete_call.new.self (calls_of (after (Received c.args.message) h)) =
    either c.complete_call.result ((p : CallsPast) → RefinesCalls c.self.inside.calls p → RefinesCalls c.complete_call.new.self (calls_after (CallsTook c.args.message) p))
    ((p : CallsPast) → RefinesCalls c.self.inside.calls p → p.closing ≡ None → RefinesCalls c.complete_call.new.self (calls_after (CallsTook c.args.message) p))
    (RefinesCalls c.complete_call.new.self (calls_of (after (Received c.args.message) h)))
    c.complete_call.ensures.none c.complete_call.ensures.left (λ took. took (calls_of h) was.calls) (λ back. back (calls_of h) was.calls open_) in
    left_took _ c.complete_call.new.self c.arrive.new.self c.args.message h was calls
    (fine c.arrive.result ((p : StreamsPast) → RefinesStreams c.self.inside.streams p → RefinesStreams c.arrive.new.self (streams_after (StreamsTook c.args.message) p)) (sym c.is_err.ensures.value ∙ c.if-is_err.false) c.arrive.ensures.ok (streams_of h) was.streams)
