use Rattle.std.proofs.Common.{rules, arith, ◌∙◌, refl, sym, subst, take}
use Rattle.std.specs.Io.KnownBytes.{Consumes}
use Rattle.std.proofs.KnownBytes.{Consumes-nil}
use Rattle.peer_script.specs.Reading.{IsWithin, PassesLimit}
use Rattle.peer_script.proofs.Lines.{within_nothing, nothing_ends, ends_so_far, consumed_more, input_passes}
use Rattle.peer_script.proofs.script.read_through.Goals as goal

pub reading-init : goal.reading-init
reading-init g c =
    let nothing = c.new-bytes.ensures.items in
    record {
      within = within_nothing _ nothing;
      ended = nothing_ends _ nothing;
      room = c.requires;
      consumed = subst (Consumes _ _) (sym nothing) (Consumes-nil _);
      same = refl;
      risen = omega arith;
    }

pub reading-preserved : goal.reading-preserved
reading-preserved g c =
    let inv = c.reading.invariant in
    let read = c.in-Ok.ensures.bytes in
    let more = c.in_ok-extend_from_slice-in-Ok.ensures.items in
    record {
      within = subst IsWithin c.as_slice.ensures.value c.if-passes_limit.ensures;
      ended = ends_so_far c.reading.ended c.line_ends-ended.result c.reading.bytes.items (take c.in-Ok.count c.read.new.buf) _ inv.ended c.line_ends-ended.ensures more;
      room = search rules;
      consumed = consumed_more _ _ _ _ _ _ more inv.consumed read.1;
      same = read.3 ∙ inv.same;
      risen = omega arith;
    }

pub returns-then-passes_limit-clause-told : goal.returns-then-passes_limit-clause-told
returns-then-passes_limit-clause-told g c =
    let more = c.in_ok-extend_from_slice-in-Ok.ensures.items in
    input_passes _ _ _ (consumed_more _ _ _ _ _ _ more c.reading.invariant.consumed c.in-Ok.ensures.bytes.1) (subst PassesLimit c.as_slice.ensures.value c.if-passes_limit.ensures)
