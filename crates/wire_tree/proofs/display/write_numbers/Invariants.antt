use Rattle.std.proofs.Common.{[], false, take}
use Rattle.std.specs.Fmt.{HasWritten, IsPlainFormatter}
use Rattle.wire_tree.specs.Datum.{num}
use Rattle.wire_tree.specs.Packed.{numbers_bits, numbers_type}
use Rattle.wire_tree.specs.Printing.{datum_text}
use Rattle.wire_tree.proofs.Printed.{listed}
use Rattle.wire_tree.proofs.display.write_numbers.Given as goal

abbrev pub invariant-loop-i : goal.invariant-loop-i
invariant-loop-i g l =
    IsPlainFormatter l.initial.f → HasWritten g.W.Write.write_str_gives l.initial.f
    (listed (λ told n. datum_text told (num (numbers_type l.numbers) n)) [] l.told false (take l.i (numbers_bits l.numbers))) l.f
