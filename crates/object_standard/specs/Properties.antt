-- `org.freedesktop.DBus.Properties` (D-Bus Specification, "Standard Interfaces", "org.freedesktop.DBus.Properties").
use Rattle.std.specs.Prelude.{ℕ, List, [], ◌∷◌, map, codes, IsTrue, Option, None, Some, Result, Ok, Err}
use Rattle.std.specs.List.{fold}
use Rattle.std.specs.BTreeMap.{insert_entry}
use Rattle.wire_names.specs.Names.{is_interface_name}
use Rattle.wire_signature.specs.SingleType.{SingleType, basic, variant as any, array as array_of, dict as dict_of}
use Rattle.wire_signature.specs.declared.basic.BasicType.TheVariants as basics
use Rattle.wire_tree.specs.Datum.{Datum, array, dict, text, string, variant, data_of, entries_of}
use Rattle.wire_message.specs.Front.{MessageView}
use Rattle.wire_message.specs.declared.fdo_kind.Kind.{Kind}
use Rattle.wire_message.specs.declared.fdo.Error.{Error}
use Rattle.object_interface.specs.Arguments.{IsBody}
use Rattle.object_interface.specs.Describing.{argument, method, signal, described}
use Rattle.object_interface.specs.Errors.{alone, unknown}
use Rattle.object_interface.specs.declared.answer.Signal.{Signal}
use Rattle.object_interface.specs.declared.answer.DispatchResult2.{DispatchResult2}
use Rattle.object_interface.specs.declared.answer.DispatchResult2.TheVariants.{Done}
use Rattle.object_interface.specs.declared.description.DescribedArgument.{DescribedArgument}
use Rattle.object_interface.specs.declared.description.DescribedMethod.{DescribedMethod}
use Rattle.object_interface.specs.declared.description.DescribedSignal.{DescribedSignal}
use Rattle.object_interface.specs.declared.description.Description.{Description}
use Rattle.object_tree.specs.Texts.{text_cmp}
use Rattle.object_tree.specs.Standard.{standard_name}
use Rattle.object_tree.specs.declared.standard.StandardInterface.{StandardInterface}

-- ---- arguments

-- those of GetAll: the name of an interface
abbrev pub of_interface : List SingleType
of_interface = basic basics.String ∷ []

-- those of Get: the name of an interface and that of a property
abbrev pub of_property : List SingleType
of_property = basic basics.String ∷ basic basics.String ∷ []

-- those of Set: the name of an interface, that of a property, and the value that the property is set to
abbrev pub of_setting : List SingleType
of_setting = basic basics.String ∷ basic basics.String ∷ any ∷ []

-- The arguments are of these types, the first is the name of an interface (D-Bus Specification, "Valid Names", "Interface names"), and
-- these are the others.
pub record NamesInterface (m : MessageView) (types : List SingleType) (interface : List ℕ) (rest : List Datum) : Type 0 where
  pub body : IsBody m types (text string interface ∷ rest)
  pub name : IsTrue (is_interface_name interface)

-- there are no such arguments
abbrev pub NamesNone : MessageView → List SingleType → Type 0
NamesNone m types = (interface : List ℕ) (rest : List Datum) → NamesInterface m types interface rest → ⊥

-- ---- properties: a{sv}

-- properties with one more in its place; a value that is there under its name gives way to it
abbrev pub with_property : List (List ℕ × Datum) → List ℕ × Datum → List (List ℕ × Datum)
with_property properties p = insert_entry text_cmp properties p.0 p.1

-- properties ascending by the bytes of their names, of two of one name the later one
abbrev pub sorted : List (List ℕ × Datum) → List (List ℕ × Datum)
sorted properties = fold with_property [] properties

-- a property's name, and its value in a variant
abbrev pub property_entry : List ℕ × Datum → Datum × Datum
property_entry p = (text string p.0, variant p.1)

-- the properties of an interface
abbrev pub properties_value : List (List ℕ × Datum) → Datum
properties_value properties = dict basics.String any (entries_of (map property_entry (sorted properties)))

-- its type
abbrev pub properties_type : SingleType
properties_type = dict_of basics.String any

-- ---- answers

-- the interface has no property of this name: the text is `Unknown property 'NAME'`
abbrev pub unknown_property : List ℕ → DispatchResult2
unknown_property property = alone (Err (unknown Kind.UnknownProperty (codes "property") property))

-- the answer to the property's value
abbrev pub answer_of_get : List ℕ → Option (Result Datum Error) → DispatchResult2
answer_of_get property None = unknown_property property
answer_of_get property (Some (Ok value)) = alone (Ok (variant value ∷ []))
answer_of_get property (Some (Err error)) = alone (Err error)

-- the answer to what an interface says of its property being set
abbrev pub answer_of_set : List ℕ → DispatchResult2 → DispatchResult2
answer_of_set property (Done done) = Done done
answer_of_set property other = unknown_property property

-- ---- PropertiesChanged

-- names: as
abbrev pub names_value : List (List ℕ) → Datum
names_value names = array (basic basics.String) (data_of (map (text string) names))

-- its type
abbrev pub names_type : SingleType
names_type = array_of (basic basics.String)

-- its values: an interface's name, its properties that have new values, and the names of those whose values aren't told
abbrev pub changed_values : List ℕ → List (List ℕ × Datum) → List (List ℕ) → List Datum
changed_values interface changed invalidated = text string interface ∷ properties_value changed ∷ names_value invalidated ∷ []

-- the signal, to whoever listens
abbrev pub changed_signal : List ℕ → List (List ℕ × Datum) → List (List ℕ) → Signal
changed_signal interface changed invalidated = record {
  interface = standard_name StandardInterface.Properties;
  member = codes "PropertiesChanged";
  destination = None;
  body = changed_values interface changed invalidated;
}

-- ---- what introspection tells of the interface

-- an interface, one of its properties, and the value of that
abbrev pub interface_name : DescribedArgument
interface_name = argument (codes "interface_name") (basic basics.String)

abbrev pub property_name : DescribedArgument
property_name = argument (codes "property_name") (basic basics.String)

abbrev pub property_value : DescribedArgument
property_value = argument (codes "value") any

abbrev pub get : DescribedMethod
get = method (codes "Get") (interface_name ∷ property_name ∷ []) (property_value ∷ [])

abbrev pub set : DescribedMethod
set = method (codes "Set") (interface_name ∷ property_name ∷ property_value ∷ []) []

abbrev pub get_all : DescribedMethod
get_all = method (codes "GetAll") (interface_name ∷ []) (argument (codes "props") properties_type ∷ [])

abbrev pub properties_changed : DescribedSignal
properties_changed = signal (codes "PropertiesChanged")
    (interface_name ∷ argument (codes "changed_properties") properties_type ∷ argument (codes "invalidated_properties") names_type ∷ [])

unfoldable pub properties_description : Description
properties_description = described (get ∷ set ∷ get_all ∷ []) (properties_changed ∷ [])
