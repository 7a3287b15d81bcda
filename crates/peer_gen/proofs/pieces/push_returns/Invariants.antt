use Rattle.std.proofs.Common.{◌≡◌, ◌+◌, ◌-◌, ◌++◌, map}
use Rattle.std.specs.List.{range_with_len}
use Rattle.peer_script.specs.{Script.Gave, Reading.given}
use Rattle.peer_gen.specs.Generated.{return_to}
use Rattle.peer_gen.proofs.pieces.push_returns.Given as goal

abbrev pub invariant-loop-index : goal.invariant-loop-index
invariant-loop-index l = given l.pieces.items ≡ given l.initial.pieces.items ++ map (λ index. Gave (return_to (l.block.first + l.block.calls - index))) (range_with_len 0 l.index)
