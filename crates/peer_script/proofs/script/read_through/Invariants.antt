use Rattle.std.proofs.Common.{◌≡◌, ◌-◌, ◌≤◌, nat_eq, length}
use Rattle.std.specs.Io.KnownBytes.{Consumes}
use Rattle.std.specs.List.{count_by}
use Rattle.peer_script.specs.Reading.{IsWithin}
use Rattle.peer_script.proofs.script.read_through.Given as goal

abbrev pub invariant-reading : goal.invariant-reading
invariant-reading g l =
    let start = g.I.Source.view l.initial.input in
    let source = g.I.Source.view l.input in
    record {
      within : IsWithin l.bytes.items;
      ended : l.ended ≡ count_by (λ b. nat_eq b 10) l.bytes.items;
      room : length l.buffer ≡ 65536;
      consumed : Consumes start.left source.left l.bytes.items;
      same : source.stop ≡ start.stop;
      risen : start.faults ≤ source.faults;
    }

abbrev pub decreases-reading : goal.decreases-reading
decreases-reading g l = 1073741825 - length l.bytes.items
