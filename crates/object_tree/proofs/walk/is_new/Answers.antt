use Rattle.std.proofs.Common.{◌≡◌, sym, ◌∙◌, ap, not, ◌||◌, ◌-◌, take, false, List, ℕ, arith}
use Rattle.object_tree.specs.Objects.{is_same, is_below}
use Rattle.object_tree.proofs.Stepped.{no_slash, slash, swap_same}
use Rattle.object_tree.proofs.walk.is_new.Goals as goal

pub returns-then-as_bytes-at-ne47 : goal.returns-then-as_bytes-at-ne47
returns-then-as_bytes-at-ne47 c =
    let value = c.as_bytes.ensures.value in
    let test = c.if-as_bytes-at-ne47.true in
    sym (no_slash c.args.last.now c.args.path.now c.args.at c.requires.last c.requires.less (λ e. grind arith))

pub returns-then-ne : goal.returns-then-ne
returns-then-ne c =
    let value = c.as_bytes.ensures.value in
    let test = c.if-as_bytes-at-ne47.false in
    let front : c.range-front.result.now ≡ take c.args.at c.args.path.now = (let whole : c.args.at - 0 ≡ c.args.at = omega arith in c.range-front.ensures.value ∙ ap (λ i. take i c.args.path.now) whole) in
    let other : is_same c.args.last.now c.range-front.result.now ≡ false = (let n = c.ne.ensures in let t = c.if-ne.true in grind arith) in
    let apart : is_same (take c.args.at c.args.path.now) c.args.last.now ≡ false = swap_same (take c.args.at c.args.path.now) c.args.last.now ∙ ap (is_same c.args.last.now) (sym front) ∙ other in
    ap not (c.is_below.ensures ∙ ap (λ (x : List ℕ). is_below x c.args.last.now) front) ∙ sym (ap (λ b. not (b || is_below (take c.args.at c.args.path.now) c.args.last.now)) apart)
    ∙ sym (slash c.args.last.now c.args.path.now c.args.at c.requires.some c.requires.less (grind arith))
