use Rattle.std.proofs.Common.{◌∙◌, sym, ap, Some}
use Rattle.wire_number.specs.Reading.{made}
use Rattle.wire_number.specs.ReaderView.{cursor_of}
use Rattle.wire_encoding.specs.Reading.{num_at}
use Rattle.wire_argument.proofs.NumberLists.{number_read}
use Rattle.wire_argument.proofs.numbers.AnyArgument.decode.Goals as goal

pub returns-in-Some : goal.returns-in-Some
returns-in-Some g c =
    number_read g.T.Number.of_bits g.T.Number.fixed c.args._room c.args.order (cursor_of c.args.reader)
    ∙ ap (λ n. made g.T.Number.of_bits (num_at n c.args.order (cursor_of c.args.reader))) (sym c.fixed.ensures)
    ∙ ap (made g.T.Number.of_bits) c.in-Some.ensures.found ∙ ap (λ x. Some (x, cursor_of c.in-Some.after)) (sym c.from_bits.ensures.value)

pub returns-in-None : goal.returns-in-None
returns-in-None g c =
    number_read g.T.Number.of_bits g.T.Number.fixed c.args._room c.args.order (cursor_of c.args.reader)
    ∙ ap (λ n. made g.T.Number.of_bits (num_at n c.args.order (cursor_of c.args.reader))) (sym c.fixed.ensures)
    ∙ ap (made g.T.Number.of_bits) c.in-None.ensures.found
