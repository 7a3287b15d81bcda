use Rattle.std.proofs.Common.{◌≡◌, map, take, fold}
use Rattle.wire_tree.specs.Datum.{data_of, entries_of, size_of, sizes_of}
use Rattle.wire_tree.specs.DatumView.{datum_of, pair_of}
use Rattle.wire_tree.specs.Equal.{writes_of, writes_in}
use Rattle.wire_tree.proofs.hash.+feeding.Given as goal

abbrev pub decreases-feed_all : goal.decreases-feed_all
decreases-feed_all g l = sizes_of (data_of (map datum_of l.trees.now))

abbrev pub decreases-feed_pairs : goal.decreases-feed_pairs
decreases-feed_pairs g l = sizes_of (entries_of (map pair_of l.pairs.now))

abbrev pub decreases-feed : goal.decreases-feed
decreases-feed g l = size_of (datum_of l.tree.now)

abbrev pub invariant-feed_all-loop-each : goal.invariant-feed_all-loop-each
invariant-feed_all-loop-each g l = l.state ≡ fold g.H.Hasher.write l.initial.state (writes_of (data_of (map datum_of (take l.each-index l.trees))))

abbrev pub invariant-feed_pairs-loop-each : goal.invariant-feed_pairs-loop-each
invariant-feed_pairs-loop-each g l = l.state ≡ fold g.H.Hasher.write l.initial.state (writes_in (entries_of (map pair_of (take l.each-index l.pairs))))
