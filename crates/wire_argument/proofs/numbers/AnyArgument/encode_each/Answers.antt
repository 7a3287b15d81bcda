use Rattle.std.proofs.Common.{map, subst}
use Rattle.wire_tree.specs.Datum.{data_of}
use Rattle.wire_encoding.proofs.Packed.{width_is}
use Rattle.wire_codec.specs.Writing.{WritesAll}
use Rattle.wire_codec.proofs.PackedWrites.{numbers_written}
use Rattle.wire_argument.proofs.NumberLists.{data_bits}
use Rattle.wire_argument.proofs.numbers.AnyArgument.encode_each.Goals as goal

pub returns : goal.returns
returns g c =
    subst (λ ds. WritesAll c.write_numbers.result (data_of ds) c.args.encoder.now c.write_numbers.new.encoder) (data_bits g.T.Number.bits g.T.Number.fixed c.args.items.now)
    (numbers_written c.write_numbers.result g.T.Number.fixed (map g.T.Number.bits c.args.items.now) _ _ _ (width_is g.T.Number.fixed).1 c.requires.placed c.write_numbers.ensures)
