use Rattle.std.proofs.Common.{arith}
use Rattle.std.proofs.lemmas.Bool.Decides.{nat_tests}
use Rattle.wire_names.proofs.Scanning.{all_scanned, at_the_end, one_further}
use Rattle.wire_names.proofs.grammar.each_is_element.Goals as goal

pub returns-then-begins : goal.returns-then-begins
returns-then-begins c =
    grind (arith, nat_tests, all_scanned c.args.separator c.args.kind.hyphen c.args.kind.leading_digit c.args.text.now, c.loop-byte.invariant, one_further c.args.separator c.args.kind.hyphen c.args.kind.leading_digit c.loop-byte.begins c.args.text.now c.loop-byte.byte-index 0 c.loop-byte-test.true)

pub returns-else-may_stand : goal.returns-else-may_stand
returns-else-may_stand c =
    grind (arith, nat_tests, all_scanned c.args.separator c.args.kind.hyphen c.args.kind.leading_digit c.args.text.now, c.loop-byte.invariant, one_further c.args.separator c.args.kind.hyphen c.args.kind.leading_digit c.loop-byte.begins c.args.text.now c.loop-byte.byte-index 0 c.loop-byte-test.true)

pub returns : goal.returns
returns c =
    grind (arith, all_scanned c.args.separator c.args.kind.hyphen c.args.kind.leading_digit c.args.text.now, c.loop-byte.invariant, at_the_end c.args.separator c.args.kind.hyphen c.args.kind.leading_digit c.loop-byte.begins c.args.text.now c.loop-byte.byte-index (omega arith))
