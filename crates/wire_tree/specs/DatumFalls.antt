-- Each value within a value holds fewer values than it.
use Rattle.std.specs.Prelude.{◌≤◌, max, List, [], ◌∷◌, map}
use Rattle.std.proofs.Common.{arith}
use denote.Param.Weighed.{most as largest}
use Rattle.wire_tree.specs.Datum.{data_of, entries_of, size_of, sizes_of}
use Rattle.wire_tree.specs.DatumView.{datum_of, pair_of}
use Rattle.wire_tree.specs.declared.tree.Tree.{Tree}
use Rattle.wire_tree.specs.declared.tree.Tree.TheVariants.{U8}
use Rattle.wire_tree.specs.declared.tree.Entries.TheDeep.{deep-Tree}

-- no tree is deeper than it is large
pub deep_le-size_of : (t : Tree) → max (deep-Tree t) 0 ≤ size_of (datum_of t)
deep_le-size_of (U8 x) = omega arith
deep_le-size_of t = omega arith

-- no tree of a list is deeper than all of them together are large
pub most_le-sizes_of : (ts : List Tree) → max (largest deep-Tree ts) 0 ≤ sizes_of (data_of (map datum_of ts))
most_le-sizes_of [] = omega arith
most_le-sizes_of (t ∷ ts) = omega (arith, deep_le-size_of t, most_le-sizes_of ts)

-- no tree among the keys and values of a dict is deeper than all of them together are large
pub pairs_le-sizes_of : (ps : List (Tree × Tree)) → max (largest (λ p. max (deep-Tree p.0) (max (deep-Tree p.1) 0)) ps) 0
    ≤ sizes_of (entries_of (map pair_of ps))
pairs_le-sizes_of [] = omega arith
pairs_le-sizes_of (p ∷ ps) = omega (arith, deep_le-size_of p.0, deep_le-size_of p.1, pairs_le-sizes_of ps)
