-- The tree by the paths that were put in: with each of them the paths on the way to it.
use Rattle.std.specs.Prelude.{ℕ, zero, suc, ◌+◌, ◌-◌, nat_lt, Bool, false, not, ◌&&◌, ◌||◌, if◌then◌else◌, List, [], ◌∷◌, ◌++◌, length, take, drop, filter, map, option_map, unwrap_or}
use Rattle.std.specs.List.{AllByRecursion, slice_get}
use Rattle.std.specs.List.Sorted.{IsStrictlySortedBy}
use Rattle.std.specs.Map.{keys_of}
use Rattle.std.specs.Ordering.{is_gt}
use Rattle.object_tree.specs.Objects.{Objects, Rows, IsObject, text_cmp, is_same, is_below}

-- the fronts of a text but for the empty one and itself, the shortest first; so many bytes of it are looked at
abbrev pub rising : ℕ → List ℕ → List (List ℕ)
rising zero text = []
rising (suc n) text = rising n text ++ take (suc n) text ∷ []

-- the first path is on the way to the second, and neither is it `last` nor on the way to that
abbrev pub is_new_way : List ℕ → List ℕ → List ℕ → Bool
is_new_way last path front = is_below front path && not (is_same front last || is_below front last)

-- the paths on the way to a path that aren't `last` nor on the way to that, ascending
abbrev pub ways : List ℕ → List ℕ → List (List ℕ)
ways last path = filter (is_new_way last path) (rising (length path - 1) path)

-- objects without interfaces at these paths
abbrev pub bare_at : List (List ℕ) → Objects
bare_at paths = map {B = List ℕ × Rows} (λ path. (path, [])) paths

-- these objects, with those on the way to each that aren't on the way to the one before, the first of which is after `last`
abbrev pub closed_from : List ℕ → Objects → Objects
closed_from last [] = []
closed_from last (o ∷ objects) = bare_at (ways last o.0) ++ o ∷ closed_from o.0 objects

-- these objects, with those on the way to each
unfoldable pub closed : Objects → Objects
closed objects = closed_from [] objects

-- how many of the objects, which ascend, are before a path
abbrev pub place : Objects → List ℕ → ℕ
place [] path = 0
place (o ∷ objects) path = if is_gt (text_cmp path o.0) then suc (place objects path) else 0

-- the path at that place is the path, or below it
abbrev pub is_from : Objects → ℕ → List ℕ → Bool
is_from objects at path = unwrap_or (option_map (λ o. is_same o.0 path || is_below path o.0) (slice_get objects at)) false

-- the path is in the tree without the object at that place, by the one before or the one after
abbrev pub is_without : Objects → ℕ → List ℕ → Bool
is_without objects at path = nat_lt 0 at && is_from objects (at - 1) path || is_from objects (at + 1) path

-- the objects below a path with which a list begins
abbrev pub run : List ℕ → Objects → Objects
run path [] = []
run path (o ∷ objects) = if is_below path o.0 then o ∷ run path objects else []

-- those with which the list begins from that place on, with those on the way to each
abbrev pub walked : List ℕ → Objects → ℕ → Objects
walked path objects at = closed_from path (run path (drop at objects))

-- objects that ascend, each of which has a path and names
pub record AreNodes (objects : Objects) : Type 0 where
  pub sorted : IsStrictlySortedBy text_cmp (keys_of objects)
  pub valid : AllByRecursion IsObject objects
