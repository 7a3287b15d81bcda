use Rattle.std.proofs.Common.{◌+◌, ◌-◌, ◌/◌, ◌<◌, length, arith, sym, ◌∙◌, ap}
use Rattle.std.proofs.lemmas.Bool.Decides.{nat_tests}
use Rattle.std.proofs.lemmas.List.{map-append}
use Rattle.wire_tree.specs.Datum.{width}
use Rattle.wire_number.specs.ReaderView.{cursor_of}
use Rattle.wire_encoding.specs.Reading.{many_at}
use Rattle.wire_encoding.proofs.Loops.{joined_more, joined_end}
use Rattle.wire_codec.specs.Packed.{plain_at}
use Rattle.wire_codec.proofs.PackedReads.{plain_short, plain_took, next_left, one_ahead, none_ahead, all_fit, none_joined, round_more}
use Rattle.wire_codec.proofs.read_packed.read_numbers.Goals as goal

pub returns-in-None-clause-found : goal.returns-in-None-clause-found
returns-in-None-clause-found g c =
    let count = ap (λ k. length c.args.elements.rest.now / k) (c.width.ensures.exact ∙ ap width c.fixed-fixed.ensures) in
    let more = one_ahead g.T.Number.fixed c.loop.counter (length c.args.elements.rest.now / c.width.result) (length c.loop.left.rest.now) (length c.args.elements.rest.now) (omega arith) count c.loop.invariant.left in
    let none = ap (λ n. plain_at n c.args.order (cursor_of c.loop.left)) (sym c.fixed-fixed.ensures) ∙ c.in-None.ensures.found in
    none_joined g.T.Number.fixed c.args.order (length c.args.elements.rest.now - c.loop.counter) (cursor_of c.loop.left) _ (many_at (length c.args.elements.rest.now) (plain_at g.T.Number.fixed c.args.order) (cursor_of c.args.elements)) c.loop.invariant.found (omega (arith, more.1)) more.0 none

pub loop-preserved : goal.loop-preserved
loop-preserved g c =
    let count = ap (λ k. length c.args.elements.rest.now / k) (c.width.ensures.exact ∙ ap width c.fixed-fixed.ensures) in
    let more = one_ahead g.T.Number.fixed c.loop.counter (length c.args.elements.rest.now / c.width.result) (length c.loop.left.rest.now) (length c.args.elements.rest.now) (omega arith) count c.loop.invariant.left in
    let found = ap (λ n. plain_at n c.args.order (cursor_of c.loop.left)) (sym c.fixed-fixed.ensures) ∙ c.in-Some.ensures.found in
    let took = plain_took g.T.Number.fixed c.args.order (cursor_of c.loop.left) (c.in-Some.bits, cursor_of c.in-Some.after) found in
    record {
      found = rw (c.push_reserved.ensures.items, map-append, c.from_bits.ensures.round)
          (joined_more (length c.args.elements.rest.now - (c.loop.counter + 1)) _ _ (cursor_of c.loop.left) (c.in-Some.bits, cursor_of c.in-Some.after) _ (many_at (length c.args.elements.rest.now) (plain_at g.T.Number.fixed c.args.order) (cursor_of c.args.elements))
          c.loop.invariant.found (omega (arith, more.1)) more.0 found);
      left = next_left g.T.Number.fixed c.loop.counter _ _ _ took.left c.loop.invariant.left;
      long = omega (arith, c.push_reserved.ensures.len);
      room = omega (arith, c.push_reserved.ensures.capacity);
      round = rw c.push_reserved.ensures.items (round_more _ _ _ _ c.loop.invariant.round (ap g.T.Number.of_bits c.from_bits.ensures.round ∙ sym c.from_bits.ensures.value));
    }

pub returns-then-is_empty-clause-found : goal.returns-then-is_empty-clause-found
returns-then-is_empty-clause-found g c =
    c.loop.invariant.found ∙ joined_end _ _ (cursor_of c.loop.left) _ (grind (arith, nat_tests))

pub returns-then-is_empty-clause-room : goal.returns-then-is_empty-clause-room
returns-then-is_empty-clause-room g c =
    all_fit g.T.Number.fixed _ _ (c.loop.invariant.room ∙ ap (λ k. length c.args.elements.rest.now / k) (c.width.ensures.exact ∙ ap width c.fixed-fixed.ensures))

pub returns-else-is_empty-clause-found : goal.returns-else-is_empty-clause-found
returns-else-is_empty-clause-found g c =
    let some : 0 < length c.loop.left.rest.now = grind (arith, nat_tests) in
    let count = ap (λ k. length c.args.elements.rest.now / k) (c.width.ensures.exact ∙ ap width c.fixed-fixed.ensures) in
    let last = none_ahead g.T.Number.fixed c.loop.counter (length c.args.elements.rest.now / c.width.result) (length c.loop.left.rest.now) (length c.args.elements.rest.now) (omega arith) count c.loop.invariant.left some in
    none_joined g.T.Number.fixed c.args.order (length c.args.elements.rest.now - c.loop.counter) (cursor_of c.loop.left) _ (many_at (length c.args.elements.rest.now) (plain_at g.T.Number.fixed c.args.order) (cursor_of c.args.elements)) c.loop.invariant.found (omega (arith, last.1)) some
    (plain_short g.T.Number.fixed c.args.order (cursor_of c.loop.left) last.0)
