use Rattle.std.proofs.Common.{rules, ◌∙◌, subst}
use Rattle.std.specs.Io.KnownBytes.{Appends}
use Rattle.wire_framing.proofs.Gone.{Appends-then, room_then, gone_more}
use Rattle.wire_framing.proofs.sink.write_front.Goals as goal

pub loop-at-preserved : goal.loop-at-preserved
loop-at-preserved g c =
    let inv = c.loop-at.invariant in
    let wrote = c.in-Ok.ensures in
    record {
      within = search rules;
      gone = subst (Appends _ _) (gone_more c.loop-at.at c.in-Ok.count _) (Appends-then _ _ _ _ _ inv.gone wrote.bytes.2);
      room = room_then _ _ _ _ _ inv.room wrote.bytes.3;
      faults = wrote.bytes.4 ∙ inv.faults;
      closes = wrote.uncounted ∙ inv.closes;
      fds = wrote.fds ∙ inv.fds;
      same = wrote.same ∙ inv.same;
    }
