-- The text of objects, those below one another inside one another (D-Bus Specification, "Introspection Data Format").
use Rattle.std.specs.Prelude.{ℕ, zero, suc, ◌+◌, ◌==◌, if◌then◌else◌, List, [], ◌∷◌, ◌++◌, length, map, drop, codes, flat_map, fold, take_while}
use Rattle.std.specs.List.{prefix_len, after_last}
use Rattle.std.specs.List.Sorted.{IsStrictlySortedBy}
use Rattle.std.specs.Ordering.{is_lt}
use Rattle.object_tree.specs.Objects.{text_cmp, is_below}
use Rattle.object_interface.specs.declared.description.DescribedInterface.{DescribedInterface}
use Rattle.object_text.specs.declared.described.DescribedObject.{DescribedObject}
use Rattle.object_text.specs.Text.{line, opening, closing, interface_text}

-- an interface put among others: before the first whose name is after its own
abbrev pub put_among : List DescribedInterface → DescribedInterface → List DescribedInterface
put_among [] i = i ∷ []
put_among (o ∷ others) i = if is_lt (text_cmp i.name o.name) then i ∷ o ∷ others else o ∷ put_among others i

-- they ascend by their names
abbrev pub AreAscending : List DescribedInterface → Type 0
AreAscending interfaces = IsStrictlySortedBy text_cmp (map (λ (i : DescribedInterface). i.name) interfaces)

-- the interfaces that an object is told to have: its own, and among them the standing ones, which each object has
unfoldable pub told : List DescribedInterface → List DescribedInterface → List DescribedInterface
told standing own = fold put_among own standing

-- a node, whose first line says that: its interfaces, and what is inside it
unfoldable pub node_text : List DescribedInterface → ℕ → List ℕ → List DescribedInterface → List ℕ → List ℕ
node_text standing indent first own within =
    line indent first ++ flat_map (interface_text (indent + 2)) (told standing own) ++ within ++ line indent (closing (codes "node"))

-- the last element of a path, by which its node goes
abbrev pub last_element : List ℕ → List ℕ
last_element path = after_last (λ b. b == 47) path

-- the objects from the front on that are below a path, and those from the first on that isn't
abbrev pub inside : List ℕ → List DescribedObject → List DescribedObject
inside path objects = take_while (λ o. is_below path o.path) objects

abbrev pub behind : List ℕ → List DescribedObject → List DescribedObject
behind path objects = drop (prefix_len (λ o. is_below path o.path) objects) objects

-- The nodes of objects in the order of their paths: in each stand those of the objects behind it that are below it, up to the first that
-- isn't. There are at most so many.
abbrev pub nodes_text : List DescribedInterface → ℕ → ℕ → List DescribedObject → List ℕ
nodes_text standing zero indent objects = []
nodes_text standing (suc room) indent [] = []
nodes_text standing (suc room) indent (o ∷ objects) =
    node_text standing indent (opening (codes "node") (last_element o.path)) o.interfaces (nodes_text standing room (indent + 2) (inside o.path objects))
    ++ nodes_text standing room indent (behind o.path objects)

-- what stands before all nodes
abbrev pub header : List ℕ
header =
    codes "\n<!DOCTYPE node PUBLIC \"-//freedesktop//DTD D-BUS Object Introspection 1.0//EN\"\n \"http://www.freedesktop.org/standards/dbus/1.0/introspect.dtd\">\n"

-- What is told of objects: the first is the one that was asked, whose node has no name, and the nodes of the others stand in it. Of no
-- object nothing is told.
unfoldable pub introspection : List DescribedInterface → List DescribedObject → List ℕ
introspection standing [] = header
introspection standing (o ∷ objects) = header ++ node_text standing 0 (codes "<node>") o.interfaces (nodes_text standing (length objects) 2 objects)
