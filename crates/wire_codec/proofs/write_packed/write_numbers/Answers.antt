use Rattle.std.proofs.Common.{◌≡◌, ◌+◌, ◌*◌, length, map, [], sym, ◌∙◌, ap, subst}
use Rattle.std.proofs.lemmas.Bool.{false≢true}
use Rattle.wire_tree.specs.Datum.{width}
use Rattle.wire_codec.specs.Encoder.{Within}
use Rattle.wire_codec.specs.Packed.{numbers_text}
use Rattle.wire_codec.proofs.Writes.{nothing}
use Rattle.wire_codec.proofs.PackedWrites.{numbers_long}
use Rattle.wire_codec.proofs.write_packed.write_numbers.Goals as goal

pub returns-then-not-has_room : goal.returns-then-not-has_room
returns-then-not-has_room g c =
    let long : length (numbers_text g.T.Number.fixed c.args.encoder.now.order (map g.T.Number.bits c.args.items.now)) ≡ length c.args.items.now * c.width-width.result =
    numbers_long g.T.Number.bits g.T.Number.fixed c.args.encoder.now.order c.args.items.now ∙ ap (λ k. length c.args.items.now * k) (sym (c.width-width.ensures.exact ∙ ap width c.fixed.ensures)) in (
      λ k. false≢true (sym c.if-not-has_room.true ∙ c.has_room.ensures.1 (subst (λ n. Within c.args.encoder.now.end (length c.args.encoder.now.items + n)) long k.1)),
      ([], nothing _),
    )
