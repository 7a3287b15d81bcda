use Rattle.std.proofs.Common.{◌∙◌, sym, ap}
use Rattle.wire_signature.specs.SingleType.{basic}
use Rattle.wire_tree.specs.Datum.{num_type}
use Rattle.wire_tree.specs.DatumView.{datum_of}
use Rattle.wire_argument.proofs.Elements.{element_item}
use Rattle.wire_argument.proofs.numbers.listed.Goals as goal

pub bits_of-requires : goal.bits_of-requires
bits_of-requires g c =
    (element_item datum_of (basic (num_type g.T.Number.fixed)) c.args.trees.now c.loop-each.each-index c.each-item.result c.requires c.loop-each-test.true c.each-item.is).0

pub returns-in-None-clause-error : goal.returns-in-None-clause-error
returns-in-None-clause-error g c =
    let same = (element_item datum_of (basic (num_type g.T.Number.fixed)) c.args.trees.now c.loop-each.each-index c.each-item.result c.requires c.loop-each-test.true c.each-item.is).1 in
    absurd (c.in-None.ensures.none (same ∙ ap (λ n. basic (num_type n)) (sym c.fixed.ensures)))
