use Rattle.std.proofs.Common.{arith, sym, ◌∙◌, ap, subst, Ok, Err, ◌≡◌, take}
use Rattle.wire_tree.specs.DatumView.{datum_of}
use Rattle.wire_codec.specs.Encoder.{EncoderView}
use Rattle.wire_codec.specs.Writing.{WritesValue, Encoded}
use Rattle.wire_codec.proofs.EncodeLaws.{around, encoded_value, not_encoded}
use Rattle.wire_codec.proofs.encoding.encode.Goals as goal

pub returns-in-Ok : goal.returns-in-Ok
returns-in-Ok c =
    let start : c.new-encoder.result ≡ around c.args.order c.shift_of.result c.args.out.now.items =
    c.new-encoder.ensures ∙ ap (λ v. around c.args.order c.shift_of.result v.items) c.replace-bytes.ensures.value in
    subst (λ bytes. Encoded {A = Unit {0}} (Ok tt) c.args.order c.args.at c.args.value.now c.args.out.now.items bytes) (sym c.into_bytes.ensures.bytes)
    (encoded_value c.args.order c.args.at c.shift_of.result c.args.value.now (datum_of c.tree-tree.result.now) c.args.out.now.items _ c.tree-tree.ensures.tree
    (omega (arith, c.shift_of.ensures.place)) (c.is_within.ensures.0 c.if-not-is_within.false) c.tree-tree.ensures.valid
    (subst (λ w. WritesValue {A = Unit {0}} (Ok tt) (datum_of c.tree-tree.result.now) w c.write_value-written.new.encoder) start c.in-Ok.ensures))

pub returns-in-Err : goal.returns-in-Err
returns-in-Err c =
    let start : c.new-encoder.result ≡ around c.args.order c.shift_of.result c.args.out.now.items =
    c.new-encoder.ensures ∙ ap (λ v. around c.args.order c.shift_of.result v.items) c.replace-bytes.ensures.value in
    not_encoded c.args.order c.args.at c.shift_of.result c.args.value.now (datum_of c.tree-tree.result.now) c.args.out.now.items _ c.tree-tree.ensures.tree
    (omega (arith, c.shift_of.ensures.place)) (c.is_within.ensures.0 c.if-not-is_within.false) c.in-Err.error _ _
    (subst (λ w. WritesValue {A = Unit {0}} (Err c.in-Err.error) (datum_of c.tree-tree.result.now) w c.write_value-written.new.encoder) start c.in-Err.ensures)
    (omega arith) (c.truncate.ensures.items ∙ ap (λ bytes. take c.len-before.result bytes) c.into_bytes.ensures.bytes)
