use Rattle.std.proofs.Common.{◌≡◌, ◌%◌, ℕ}
use Rattle.wire_encoding.proofs.Packed.{are_booleans, booleans_from}
use Rattle.wire_encoding.proofs.fixed.are_booleans.Given as goal

-- the bytes from here on are booleans exactly where all are
abbrev pub invariant-loop-index : goal.invariant-loop-index
invariant-loop-index l = (place : ℕ) → place % 4 ≡ 0 → are_booleans l.order l.bytes place ≡ booleans_from l.order l.bytes place l.index
