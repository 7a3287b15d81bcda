use Rattle.wire_codec.proofs.write.put_type.Goals as goal

pub returns-in-Some : goal.returns-in-Some
returns-in-Some c = rw c.in-Some.ensures (rw c.letter.ensures at (c.put_letter.ensures c.args.encoder.now.order))
