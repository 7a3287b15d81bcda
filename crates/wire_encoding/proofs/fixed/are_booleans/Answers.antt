use Rattle.std.proofs.Common.{sym, ◌∙◌, arith}
use Rattle.wire_encoding.proofs.Packed.{boolean_first, boolean_next, boolean_not, booleans_end, booleans_left}
use Rattle.wire_encoding.proofs.fixed.are_booleans.Goals as goal

pub loop-index-init : goal.loop-index-init
loop-index-init c place h = boolean_first _ _ place 0 (omega arith)

pub loop-index-preserved : goal.loop-index-preserved
loop-index-preserved c place h = c.loop-index.invariant place h ∙ boolean_next _ _ place _ h c.loop-index-test.true (omega arith)

pub returns-then-read_u32-gt1 : goal.returns-then-read_u32-gt1
returns-then-read_u32-gt1 c place h =
    sym (c.loop-index.invariant place h ∙ boolean_not _ _ place _ h c.loop-index-test.true (omega arith))

pub returns-then-bytes-ne0 : goal.returns-then-bytes-ne0
returns-then-bytes-ne0 c place h = sym (booleans_left _ _ place h c.if-bytes-ne0.true)

pub returns : goal.returns
returns c place h = sym (c.loop-index.invariant place h ∙ booleans_end _ _ place c.loop-index.index c.if-bytes-ne0.false (omega arith))
