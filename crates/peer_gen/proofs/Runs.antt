-- The commands of a generated script are those of `run`, and are few.
use Rattle.std.proofs.Common.{ℕ, zero, suc, ◌+◌, ◌*◌, ◌≤◌, List, [], ◌∷◌, ◌++◌, map, replicate, flat_map, length, length-append, arith}
use Rattle.std.proofs.lemmas.{List.{length-map, length-replicate}, List.FromFn.length-range_with_len}
use Rattle.std.specs.List.{AllByRecursion, range_with_len}
use Rattle.std.specs.Int.{div_ceil}
use Rattle.peer_words.specs.declared.words.Command.{Command}
use Rattle.peer_words.specs.declared.words.Words.TheVariants as words
use Rattle.peer_words.specs.OfRun.{IsOfRun}
use Rattle.peer_gen.specs.declared.block.Block.{Block}
use Rattle.peer_gen.specs.Generated.{block_after, blocks, command, call, poll, take, opening, closing, block_commands}

-- each command is one of `run`
abbrev Run : List Command → Type 0
Run cs = AllByRecursion (λ (c : Command). IsOfRun c.words) cs

joined : (xs ys : List Command) → Run xs → Run ys → Run (xs ++ ys)
joined [] ys h k = k
joined (x ∷ xs) ys h k = (h.0, joined xs ys h.1 k)

repeated : (n : ℕ) (c : Command) → IsOfRun c.words → Run (replicate n c)
repeated zero c h = tt
repeated (suc n) c h = (h, repeated n c h)

polls : (first : ℕ) (ns : List ℕ) → Run (map (λ index. command (poll (first + index))) ns)
polls first [] = tt
polls first (n ∷ ns) = (tt, polls first ns)

of_block : (b : Block) → Run (block_commands b)
of_block b =
    joined _ (replicate b.calls (command (take 2)))
    (joined _ (command (take 1) ∷ [])
    (joined _ (replicate (b.calls + 1) (command (take 0)))
    (joined _ (map (λ index. command (poll (b.first + index))) (range_with_len 0 b.calls))
    (joined (replicate b.calls (command call)) (replicate (b.calls + 1) (command words.Read)) (repeated b.calls (command call) tt) (repeated (b.calls + 1) (command words.Read) tt))
    (polls b.first (range_with_len 0 b.calls)))
    (repeated (b.calls + 1) (command (take 0)) tt))
    (tt, tt))
    (repeated b.calls (command (take 2)) tt)

of_blocks : (bs : List Block) → Run (flat_map block_commands bs)
of_blocks [] = tt
of_blocks (b ∷ bs) = joined (block_commands b) _ (of_block b) (of_blocks bs)

pub all_run : (bs : List Block) → AllByRecursion (λ (c : Command). IsOfRun c.words) (opening ++ flat_map block_commands bs ++ closing)
all_run bs = (tt, (tt, (tt, joined (flat_map block_commands bs) closing (of_blocks bs) (tt, (tt, (tt, (tt, tt)))))))

few_of_block : (b : Block) → b.calls ≤ 7 → length (block_commands b) ≤ 38
few_of_block b h = simp (length-append, length-replicate, length-map, length-range_with_len) (omega arith)

few_of_blocks : (count : ℕ) (ns : List ℕ) → length (flat_map block_commands (map (block_after count) ns)) ≤ 38 * length ns
few_of_blocks count [] = omega arith
few_of_blocks count (n ∷ ns) =
    omega (arith, length-append (block_commands (block_after count n)) (flat_map block_commands (map (block_after count) ns)), few_of_block (block_after count n) (omega arith), few_of_blocks count ns)

pub are_few : (count : ℕ) → length (opening ++ flat_map block_commands (blocks count) ++ closing) ≤ 6 * count + 45
are_few count =
    omega (arith, length-append (flat_map block_commands (blocks count)) closing, few_of_blocks count (range_with_len 0 (div_ceil count 7)), length-range_with_len 0 (div_ceil count 7))
