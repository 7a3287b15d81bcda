use Rattle.std.proofs.Common.{length}
use Rattle.wire_number.specs.ReaderView.{cursor_of}
use Rattle.wire_argument.proofs.NumberLists.{numbers_given}
use Rattle.wire_argument.proofs.numbers.AnyArgument.decode_each.Goals as goal

pub returns : goal.returns
returns g c =
    numbers_given (λ v. v.items) g.T.Number.bits g.T.Number.of_bits c.read_numbers.result g.T.Number.fixed c.args._room c.args.order (length c.args.elements.rest.now) (cursor_of c.args.elements)
    c.requires c.read_numbers.ensures.found c.read_numbers.ensures.round
