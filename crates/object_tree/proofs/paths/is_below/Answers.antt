use Rattle.std.proofs.Common.{◌≡◌, arith}
use Rattle.std.proofs.lemmas.Bool.Decides.{nat_tests}
use Rattle.std.specs.Cmp.Lexicographic.{same_text, other_text}
use Rattle.object_tree.specs.Objects.{root}
use Rattle.object_tree.proofs.Below.{root_short, root_long, not_longer, not_slash, by_front}
use Rattle.object_tree.proofs.paths.is_below.Goals.{then-other-path-via-then-other-path, then-other-path-via-else-other-path+then-other-path-ne47}
use Rattle.object_tree.proofs.paths.is_below.Goals as goal

pub returns-then-other-gt1 : goal.returns-then-other-gt1
returns-then-other-gt1 c =
    let is : c.args.path.now ≡ root = same_text c.args.path.now root (grind arith) in
    let told = root_long c.args.other.now (grind arith) in
    grind arith

pub returns-else-other-gt1 : goal.returns-else-other-gt1
returns-else-other-gt1 c =
    let is : c.args.path.now ≡ root = same_text c.args.path.now root (grind arith) in
    let told = root_short c.args.other.now (grind arith) in
    grind (arith, nat_tests)

pub returns-then-other-path : goal.returns-then-other-path
returns-then-other-path c =
    elim c.then-other-path.branch [ then-other-path-via-then-other-path w ↦ not_longer c.args.path.now c.args.other.now (other_text c.args.path.now root (grind arith)) (grind arith) | then-other-path-via-else-other-path+then-other-path-ne47 w ↦ not_slash c.args.path.now c.args.other.now (other_text c.args.path.now root (grind arith)) (grind arith) ]

pub returns : goal.returns
returns c = by_front c.args.path.now c.args.other.now c.eq-2.result (other_text c.args.path.now root (grind arith)) (grind arith) (grind arith) (grind arith)
