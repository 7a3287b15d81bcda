use Rattle.std.proofs.Common.{◌≡◌, ◌++◌, map}
use Rattle.std.specs.Prelude.{decimal}
use Rattle.std.specs.List.{join_with_byte}
use Rattle.watch_tool.specs.Report.{is_any}
use Rattle.watch_tool.proofs.Words.{before}
use Rattle.watch_tool.proofs.line.put_indices.Given as goal

abbrev pub invariant-loop-index : goal.invariant-loop-index
invariant-loop-index l = record {
  text : l.text.items ≡ l.initial.text.items ++ join_with_byte 44 (map decimal (before l.rules l.message l.index));
  any : l.any ≡ is_any (before l.rules l.message l.index);
  candidate : l.candidate ≡ l.message;
}
