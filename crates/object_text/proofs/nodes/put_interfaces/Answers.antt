use Rattle.std.proofs.Common.{◌++◌, sym, ap, arith, string_bytes}
use Rattle.std.specs.Prelude.{flat_map}
use Rattle.object_text.specs.Text.{interface_text}
use Rattle.std.proofs.lemmas.Result.{on_ok_weaker}
use Rattle.object_text.proofs.Among.{merged, turn, end, told_is, ascending}
use Rattle.object_text.proofs.nodes.put_interfaces.Goals as goal

pub loop-each-init : goal.loop-each-init
loop-each-init c = (
  ap (λ l. string_bytes c.args.out.now ++ flat_map (interface_text c.args.indent) l) (sym (told_is c.args.standing.now c.args.own.now)),
  omega arith,
)

pub loop-each-preserved : goal.loop-each-preserved
loop-each-preserved c =
    turn (interface_text c.args.indent) (string_bytes c.loop-each.out) (string_bytes c.put_each.new.out) (string_bytes c.put_interface.new.out) _
    c.args.own.now c.args.standing.now c.loop-each.each-index c.loop-each.next c.count_before-count.result c.each-item.result
    c.loop-each-test.true c.each-item.is (ascending c.args.standing.now c.requires.ascending) c.loop-each.invariant.1
    c.count_before-count.ensures.count c.count_before-count.ensures.within c.loop-each.invariant.0 c.in_ok-put_each.ensures c.in_ok-put_interface.ensures

pub returns : goal.returns
returns c =
    on_ok_weaker c.put_each-2.result
    (λ put. end (interface_text c.args.indent) (string_bytes c.loop-each.out) (string_bytes c.put_each-2.new.out) _
    c.args.own.now c.args.standing.now c.loop-each.each-index c.loop-each.next
    c.loop-each-test.false (ascending c.args.standing.now c.requires.ascending) c.loop-each.invariant.0 put)
    c.put_each-2.ensures
