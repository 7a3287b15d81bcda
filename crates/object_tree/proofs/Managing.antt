-- The manager of a path, looked for on the way up from it.
use Rattle.std.proofs.Common.{◌≡◌, refl, sym, ◌∙◌, ap, ℕ, List, [], ◌∷◌, Bool, true, false, Option, Some, None, if◌then◌else◌, find}
use Rattle.object_tree.specs.Objects.{Objects, ancestors, is_manager, manager_of}

-- the first path on the way up is it, or it is the manager of that one
manager_step : (objects : Objects) (front above : List ℕ) → ancestors front ≡ above ∷ ancestors above → manager_of objects front ≡ (if is_manager objects above then Some above else manager_of objects above)
manager_step objects front above way = ap (find (is_manager objects)) way

by_test : (b : Bool) (above : List ℕ) (later found : Option (List ℕ)) → found ≡ (if b then Some above else None) → (m : List ℕ) → found ≡ Some m → (if b then Some above else later) ≡ Some m
by_test true above later found is m some = sym is ∙ some
by_test false above later found is m some = let q : None ≡ Some m = sym is ∙ some in cc

pub found_there : (objects : Objects) (front above m : List ℕ) (found : Option (List ℕ)) → ancestors front ≡ above ∷ ancestors above → found ≡ (if is_manager objects above then Some above else None) → found ≡ Some m → manager_of objects front ≡ Some m
found_there objects front above m found way is some = manager_step objects front above way ∙ by_test (is_manager objects above) above (manager_of objects above) found is m some

by_none : (b : Bool) (above : List ℕ) (later found : Option (List ℕ)) → found ≡ (if b then Some above else None) → found ≡ None → (if b then Some above else later) ≡ later
by_none true above later found is none = let q : Some above ≡ None = sym is ∙ none in cc
by_none false above later found is none = refl

pub found_above : (objects : Objects) (front above : List ℕ) (found : Option (List ℕ)) → ancestors front ≡ above ∷ ancestors above → found ≡ (if is_manager objects above then Some above else None) → found ≡ None → manager_of objects front ≡ manager_of objects above
found_above objects front above found way is none = manager_step objects front above way ∙ by_none (is_manager objects above) above (manager_of objects above) found is none

pub none_above : (objects : Objects) (front : List ℕ) → ancestors front ≡ [] → manager_of objects front ≡ None
none_above objects front way = ap (find (is_manager objects)) way
