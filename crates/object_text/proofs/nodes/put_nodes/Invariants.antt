use Rattle.std.proofs.Common.{◌≡◌, ◌++◌, [], drop, length, map, reverse, string_bytes, vec_len}
use Rattle.object_text.specs.Nodes.{nodes_text}
use Rattle.object_text.proofs.Finishing.{finish}
use Rattle.object_text.proofs.nodes.put_nodes.Given as goal

-- what was put, with what is left of the objects inside and behind the open nodes, is the whole
abbrev pub invariant-loop-object : goal.invariant-loop-object
invariant-loop-object l =
    string_bytes l.out ++ finish l.standing (reverse (map (λ p. p.now) l.open.items)) (drop l.object-index l.objects) ≡ string_bytes l.fn.out ++ nodes_text l.standing (length l.objects) 2 l.objects

abbrev pub invariant-loop-above : goal.invariant-loop-above
invariant-loop-above l =
    string_bytes l.out ++ finish l.standing (reverse (map (λ p. p.now) l.open.items)) (drop l.object-index l.objects) ≡ string_bytes l.fn.out ++ nodes_text l.standing (length l.objects) 2 l.objects

abbrev pub decreases-loop-above : goal.decreases-loop-above
decreases-loop-above l = vec_len l.open

abbrev pub invariant-loop-out : goal.invariant-loop-out
invariant-loop-out l =
    string_bytes l.out ++ finish l.standing (reverse (map (λ p. p.now) l.open.items)) [] ≡ string_bytes l.fn.out ++ nodes_text l.standing (length l.objects) 2 l.objects

abbrev pub decreases-loop-out : goal.decreases-loop-out
decreases-loop-out l = vec_len l.open
