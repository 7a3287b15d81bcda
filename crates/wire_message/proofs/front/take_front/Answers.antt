use Rattle.std.proofs.Common.{◌≡◌, ◌∙◌, List, ℕ, length, take, sym, ap, subst, arith}
use Rattle.wire_message.specs.Head.{IsStanding, received_view}
use Rattle.wire_message.specs.Outcome.{StandsOn, received_bytes}
use Rattle.wire_message.specs.declared.received.Received.{Received}
use Rattle.wire_message.proofs.Moved.{whole_stands}
use Rattle.wire_message.proofs.front.take_front.Goals as goal

pub returns-then-total-len-clause-found : goal.returns-then-total-len-clause-found
returns-then-total-len-clause-found c =
    let stands = subst (λ (l : List ℕ). IsStanding l c.in_ok-parts.total c.in_ok-parts.parts) c.as_slice.ensures.value c.in_ok-parts.ensures.stands in
    whole_stands c.args.bytes.now.items _ c.in_ok-parts.total c.in_ok-parts.parts c.take_whole.result stands (omega (arith, c.if-total-len.true, c.len.ensures)) c.take_whole.ensures.received

pub returns-clause-found : goal.returns-clause-found
returns-clause-found c =
    let bytes = c.args.bytes.now.items in
    let stands = subst (λ (l : List ℕ). IsStanding l c.in_ok-parts.total c.in_ok-parts.parts) c.as_slice.ensures.value c.in_ok-parts.ensures.stands in
    let same : c.in_ok-received.received ≡ received_view (take c.in_ok-parts.total bytes) c.in_ok-parts.parts =
    c.in_ok-received.ensures.received ∙ ap (λ (l : List ℕ). received_view (take c.in_ok-parts.total l) c.in_ok-parts.parts) c.as_slice-2.ensures.value in
    subst (λ (r : Received). StandsOn bytes r (length (received_bytes r))) (sym same) stands
