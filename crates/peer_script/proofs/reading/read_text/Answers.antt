use Rattle.std.proofs.Common.{arith, sym, ◌∙◌}
use Rattle.std.specs.declared.alloc.AllocError.{AllocError}
use Rattle.peer_script.specs.Reading.{said}
use Rattle.peer_script.proofs.Read.{taken, refused, outside, nothing_read, may_come, may_not_come}
use Rattle.peer_script.proofs.reading.read_text.Goals as goal

pub loop-line-init : goal.loop-line-init
loop-line-init c =
    record {
      said = nothing_read c.args.text.now c.new.result.items c.new-2.result.items c.new.ensures.items c.new-2.ensures.items;
      numbered = omega arith;
    }

pub returns-in_default-2 : goal.returns-in_default-2
returns-in_default-2 c =
    outside _ c.loop-line.progress.stage (said c.loop-line.progress) c.loop-line.number c.in-Some.line.now c.loop-line.rest.now c.in-Some.more.now c.loop-line.invariant.said c.in-Some.ensures.0
    (sym c.in_ok-line.ensures ∙ c.in_default-2.is)

pub returns-then-not-branch : goal.returns-then-not-branch
returns-then-not-branch c =
    refused _ c.loop-line.progress.stage (said c.loop-line.progress) c.loop-line.number c.in-Some.line.now c.loop-line.rest.now c.in-Some.more.now c.in-Some-2.line c.loop-line.invariant.said c.in-Some.ensures.0
    (sym c.in_ok-line.ensures ∙ c.in-Some-2.is)
    (may_not_come AllocError c.in_ok-take_line.field-0 _ c.take_line.new.progress _ c.if-not-branch.true c.in_ok-take_line.ensures)

pub loop-line-preserved : goal.loop-line-preserved
loop-line-preserved c =
    let came = may_come AllocError c.in_ok-take_line.field-0 _ c.take_line.new.progress _ c.if-not-branch.false c.in_ok-take_line.ensures in
    record {
      said = taken _ c.loop-line.progress.stage (said c.loop-line.progress) c.loop-line.number c.in-Some.line.now c.loop-line.rest.now c.in-Some.more.now c.in-Some-2.line _ c.loop-line.invariant.said c.in-Some.ensures.0
          (sym c.in_ok-line.ensures ∙ c.in-Some-2.is) came;
      numbered = omega (arith, c.in-Some.ensures.1);
    }
