-- The three interfaces that each object has ascend by their names.
use Rattle.std.proofs.Common.{◌≡◌, refl, sym, subst, List, ℕ, map, Result, Ok, Err, IfOk}
use Rattle.std.specs.List.Sorted.{IsStrictlySortedBy}
use Rattle.object_tree.specs.Texts.{text_cmp}
use Rattle.object_interface.specs.declared.description.DescribedInterface.{DescribedInterface}
use Rattle.object_standard.specs.Standing.{standing}

abbrev Ascend : List DescribedInterface → Type 0
Ascend list = IsStrictlySortedBy text_cmp (map (λ (i : DescribedInterface). i.name) list)

ascending : Ascend standing
unfolding IsStrictlySortedBy
ascending = ((refl, (refl, tt)), ((refl, tt), (tt, tt)))

pub each_ascending : {L E : Type 0} (r : Result L E) (items : L → List DescribedInterface) → IfOk r (λ list. items list ≡ standing) → IfOk r (λ list. Ascend (items list))
each_ascending (Ok list) items is = subst Ascend (sym is) ascending
each_ascending (Err e) items is = tt
