-- The text of an interface (D-Bus Specification, "Introspection Data Format"). Names are by their grammar without a character that XML
-- would want written otherwise.
use Rattle.std.specs.Prelude.{ℕ, ◌+◌, List, ◌++◌, [], codes, replicate, flat_map, Option, Some, None}
use Rattle.wire_signature.specs.SingleType.{type_text}
use Rattle.object_interface.specs.declared.description.Access.{Access}
use Rattle.object_interface.specs.declared.description.Access.TheVariants.{Read, Write, ReadWrite}
use Rattle.object_interface.specs.declared.description.DescribedArgument.{DescribedArgument}
use Rattle.object_interface.specs.declared.description.DescribedMethod.{DescribedMethod}
use Rattle.object_interface.specs.declared.description.DescribedSignal.{DescribedSignal}
use Rattle.object_interface.specs.declared.description.DescribedProperty.{DescribedProperty}
use Rattle.object_interface.specs.declared.description.DescribedInterface.{DescribedInterface}

-- a line: so many spaces, what it says, and the byte that ends it
unfoldable pub line : ℕ → List ℕ → List ℕ
line indent text = replicate indent 32 ++ text ++ codes "\n"

-- an attribute of an element
abbrev pub attribute : List ℕ → List ℕ → List ℕ
attribute name value = codes " " ++ name ++ codes "=\"" ++ value ++ codes "\""

-- what opens an element that has a name
unfoldable pub opening : List ℕ → List ℕ → List ℕ
opening element name = codes "<" ++ element ++ attribute (codes "name") name ++ codes ">"

-- what closes an element
unfoldable pub closing : List ℕ → List ℕ
closing element = codes "</" ++ element ++ codes ">"

-- an argument's name as an attribute; one without a name has none
abbrev pub name_attribute : Option (List ℕ) → List ℕ
name_attribute None = []
name_attribute (Some name) = attribute (codes "name") name

-- which way the argument of a method goes
abbrev pub direction : List ℕ → List ℕ
direction way = attribute (codes "direction") way

-- an argument, with that behind its type
unfoldable pub argument_text : ℕ → List ℕ → DescribedArgument → List ℕ
argument_text indent more a = line indent (codes "<arg" ++ name_attribute a.name ++ attribute (codes "type") (type_text a.ty) ++ more ++ codes "/>")

-- a method: what it takes, and then what it gives
unfoldable pub method_text : ℕ → DescribedMethod → List ℕ
method_text indent m =
    line indent (opening (codes "method") m.name)
    ++ flat_map (argument_text (indent + 2) (direction (codes "in"))) m.inputs
    ++ flat_map (argument_text (indent + 2) (direction (codes "out"))) m.outputs
    ++ line indent (closing (codes "method"))

-- a signal, whose arguments all go one way
unfoldable pub signal_text : ℕ → DescribedSignal → List ℕ
signal_text indent s =
    line indent (opening (codes "signal") s.name)
    ++ flat_map (argument_text (indent + 2) []) s.arguments
    ++ line indent (closing (codes "signal"))

-- what may be done with a property
abbrev pub access_text : Access → List ℕ
access_text Read = codes "read"
access_text Write = codes "write"
access_text ReadWrite = codes "readwrite"

-- a property
unfoldable pub property_text : ℕ → DescribedProperty → List ℕ
property_text indent p =
    line indent (codes "<property" ++ attribute (codes "name") p.name ++ attribute (codes "type") (type_text p.ty) ++ attribute (codes "access") (access_text p.access) ++ codes "/>")

-- an interface: its methods, its signals and its properties, each in the order of its description
unfoldable pub interface_text : ℕ → DescribedInterface → List ℕ
interface_text indent i =
    line indent (opening (codes "interface") i.name)
    ++ flat_map (method_text (indent + 2)) i.description.methods
    ++ flat_map (signal_text (indent + 2)) i.description.signals
    ++ flat_map (property_text (indent + 2)) i.description.properties
    ++ line indent (closing (codes "interface"))
