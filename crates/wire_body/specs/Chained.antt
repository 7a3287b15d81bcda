-- The first of a list of values, and those behind it.
use Rattle.std.specs.Prelude.{◌≡◌, List, [], ◌∷◌}
use Rattle.std.proofs.Common.{ap, ◌∙◌}
use Rattle.wire_signature.specs.SingleType.{SingleType}
use Rattle.wire_tree.specs.Datum.{Datum, struct, no_data}

-- of no values nothing is said
abbrev pub first_of : List Datum → Datum
first_of [] = struct no_data
first_of (d ∷ ds) = d

-- the values behind the first; of no values none
abbrev pub rest_of : List Datum → List Datum
rest_of [] = []
rest_of (d ∷ ds) = ds

-- Lists of types whose first types are one, and whose other types are, are one list.
pub same_cons : (t u : SingleType) (ts us : List SingleType) → t ≡ u → ts ≡ us → t ∷ ts ≡ u ∷ us
same_cons t u ts us e f = ap (λ r. r ∷ ts) e ∙ ap (λ rs. u ∷ rs) f
