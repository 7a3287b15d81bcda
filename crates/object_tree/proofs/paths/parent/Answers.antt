use Rattle.std.proofs.Common.{◌≡◌, sym, ◌∙◌, ap, subst, arith, ℕ, List, ◌∷◌, length, take, get_or, ◌-◌, length-take-le}
use Rattle.std.proofs.lemmas.Str.Pattern.{rfind_char}
use Rattle.std.proofs.lemmas.Option.{MatchOption-at_some, MatchOption-at_none}
use Rattle.object_tree.specs.Objects.{ancestors}
use Rattle.object_tree.proofs.Ways.{way_up, way_root, way_bare}
use Rattle.object_tree.proofs.paths.parent.Goals as goal

pub returns-in_default : goal.returns-in_default
returns-in_default c =
    way_bare c.args.path.now (MatchOption-at_none _ _ c.in_default.is (rfind_char 47 c.args.path.now c.rfind.result c.rfind.ensures.cases (omega arith)))

pub returns-then-end-gt0 : goal.returns-then-end-gt0
returns-then-end-gt0 c =
    let at = MatchOption-at_some _ _ c.in-Some.end c.in-Some.is (rfind_char 47 c.args.path.now c.rfind.result c.rfind.ensures.cases (omega arith)) in
    let v : c.range.result.now ≡ take c.in-Some.end c.args.path.now = (let whole : c.in-Some.end - 0 ≡ c.in-Some.end = omega arith in c.range.ensures.value ∙ ap (λ i. take i c.args.path.now) whole) in
    let up = way_up c.args.path.now c.in-Some.end (omega arith) at.0 at.1 at.2 in
    let count = length-take-le c.in-Some.end c.args.path.now (omega (arith, at.0)) in
    let same = ap length v in
    let e : c.in-Some.end ≡ length c.range.result.now = omega (arith, count, same) in
    (subst (λ (x : List ℕ). ancestors c.args.path.now ≡ x ∷ ancestors x) (sym v) up, omega (arith, e, at.0), v ∙ ap (λ i. take i c.args.path.now) e)

pub returns-then-path-gt1 : goal.returns-then-path-gt1
returns-then-path-gt1 c =
    let at = MatchOption-at_some _ _ c.in-Some.end c.in-Some.is (rfind_char 47 c.args.path.now c.rfind.result c.rfind.ensures.cases (omega arith)) in
    let zero_is : c.in-Some.end ≡ 0 = omega arith in
    let slash : get_or c.args.path.now 0 0 ≡ 47 = subst (λ i. get_or c.args.path.now i 0 ≡ 47) zero_is at.1 in
    let way = way_root c.args.path.now (omega arith) slash (λ i a b. at.2 i (omega (arith, zero_is)) b) in
    (way.0, omega arith, way.1)
