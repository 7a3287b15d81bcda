use Rattle.std.proofs.Common.{◌≡◌, ◌+◌, ◌≤◌, ◌∙◌, sym, ap, length, drop, Some, arith, length-append}
use Rattle.std.proofs.lemmas.Result.{err_from_is_err_and}
use Rattle.wire_message.specs.Outcome.{head_fault}
use Rattle.wire_framing.specs.Kept.{once_more}
use Rattle.wire_framing.proofs.Asked.{asks_then, came_to, went_of, rest_joined, fewer, reads_to, refused, head_fault-take, head_right, head_total, own_short, own_refused, own_to}
use Rattle.wire_framing.proofs.read_to_message.read_to_message.Goals as goal

pub returns-in_err-take_until-clause-own : goal.returns-in_err-take_until-clause-own
returns-in_err-take_until-clause-own g c = own_short _ _ (fewer c.in_err-take_until.field-0.0 16 _ c.in_err-take_until.ensures.filled)

pub returns-in_err-total-clause-found : goal.returns-in_err-total-clause-found
returns-in_err-total-clause-found g c =
    let p = err_from_is_err_and c.from_residual-in_err-total.result c.from_residual-in_err-total.ensures.1 in
    let b1 = c.take_until.new.bytes.items in
    let long : 16 ≤ length b1 = c.in_ok-take_until.ensures.filled in
    let e = c.in_err-total.field-0.0 in
    let fault : head_fault b1 ≡ Some e = sym (head_fault-take b1 long) ∙ rw c.deref.ensures.value at c.in_err-total.ensures in
    rw (p.1, p.2) (refused e b1 _ (g.S.Source.view c.args.source.now) (g.S.Source.view c.take_until.new.source) long (went_of _ (g.S.Source.view c.args.source.now) (g.S.Source.view c.take_until.new.source) c.in_ok-take_until.ensures.came) fault).0

pub returns-in_err-total-clause-own : goal.returns-in_err-total-clause-own
returns-in_err-total-clause-own g c =
    let b1 = c.take_until.new.bytes.items in
    let long : 16 ≤ length b1 = c.in_ok-take_until.ensures.filled in
    let e = c.in_err-total.field-0.0 in
    let fault : head_fault b1 ≡ Some e = sym (head_fault-take b1 long) ∙ rw c.deref.ensures.value at c.in_err-total.ensures in
    own_refused _ b1 e long fault c.in_ok-take_until.ensures.own

pub returns-clause-found : goal.returns-clause-found
returns-clause-found g c =
    let b1 = c.take_until.new.bytes.items in
    let b2 = c.take_until-2.new.bytes.items in
    let long : 16 ≤ length b1 = c.in_ok-take_until.ensures.filled in
    let said = rw c.deref.ensures.value at c.in_ok-total.ensures in
    let more = c.take_until-2.ensures in
    let n = c.in_ok-total.field-0 in
    reads_to c.take_until-2.result n b2 (head_right b1 b2 (drop (length b1) b2) more.grown long said.0) (head_total n b1 b2 (drop (length b1) b2) more.grown long said.1) more.filled

pub returns-clause-own : goal.returns-clause-own
returns-clause-own g c =
    let b0 = c.args.bytes.now.items in
    let b1 = c.take_until.new.bytes.items in
    let b2 = c.take_until-2.new.bytes.items in
    let long : 16 ≤ length b1 = c.in_ok-take_until.ensures.filled in
    let said = rw c.deref.ensures.value at c.in_ok-total.ensures in
    let more = c.take_until-2.ensures in
    let n = c.in_ok-total.field-0 in
    own_to c.take_until-2.result n b0 b1 b2 (head_right b1 b2 (drop (length b1) b2) more.grown long said.0) (head_total n b1 b2 (drop (length b1) b2) more.grown long said.1) c.in_ok-take_until.ensures.own more.own more.filled

pub returns-clause-came : goal.returns-clause-came
returns-clause-came g c =
    let went = went_of _ (g.S.Source.view c.args.source.now) (g.S.Source.view c.take_until.new.source) c.in_ok-take_until.ensures.came in
    let joined = rest_joined _ _ _ c.in_ok-take_until.ensures.grown c.take_until-2.ensures.grown in
    came_to c.take_until-2.result _ _ _ (g.S.Source.view c.args.source.now) (g.S.Source.view c.take_until.new.source) (g.S.Source.view c.take_until-2.new.source) joined went c.take_until-2.ensures.came

pub returns-clause-asks : goal.returns-clause-asks
returns-clause-asks g c =
    let b0 = c.args.bytes.now.items in
    let b1 = c.take_until.new.bytes.items in
    let b2 = c.take_until-2.new.bytes.items in
    let joined = rest_joined b0 b1 b2 c.in_ok-take_until.ensures.grown c.take_until-2.ensures.grown in
    let len = ap length joined in
    let sum = length-append (drop (length b0) b1) (drop (length b1) b2) in
    let last = once_more c.take_until-2.result in
    asks_then (g.S.Source.view c.args.source.now) (g.S.Source.view c.take_until.new.source) (g.S.Source.view c.take_until-2.new.source) (length (drop (length b0) b1) + 0) (length (drop (length b1) b2) + last) (length (drop (length b0) b2) + last)
    c.in_ok-take_until.ensures.asks c.take_until-2.ensures.asks (omega (arith, len, sum))
