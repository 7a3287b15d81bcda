-- `org.freedesktop.DBus.ObjectManager` (D-Bus Specification, "Standard Interfaces", "org.freedesktop.DBus.ObjectManager").
use Rattle.std.specs.Prelude.{ℕ, List, [], ◌∷◌, map, codes}
use Rattle.wire_signature.specs.SingleType.{SingleType, basic, dict as dict_of}
use Rattle.wire_signature.specs.declared.basic.BasicType.TheVariants as basics
use Rattle.wire_tree.specs.Datum.{Datum, dict, text, string, object_path, entries_of}
use Rattle.object_interface.specs.Describing.{argument, method, signal, described}
use Rattle.object_interface.specs.declared.description.DescribedArgument.{DescribedArgument}
use Rattle.object_interface.specs.declared.description.DescribedMethod.{DescribedMethod}
use Rattle.object_interface.specs.declared.description.DescribedSignal.{DescribedSignal}
use Rattle.object_interface.specs.declared.description.Description.{Description}
use Rattle.object_standard.specs.Properties.{properties_type, properties_value, names_type, names_value}
use Rattle.object_standard.specs.declared.object_manager.ManagedInterface.{ManagedInterface}
use Rattle.object_standard.specs.declared.object_manager.ManagedObject.{ManagedObject}

-- ---- interfaces: a{sa{sv}}

-- an interface's name, and its properties
abbrev pub interface_entry : ManagedInterface → Datum × Datum
interface_entry i = (text string i.name, properties_value i.properties)

-- the interfaces of an object, in the order in which they stand
abbrev pub interfaces_value : List ManagedInterface → Datum
interfaces_value interfaces = dict basics.String properties_type (entries_of (map interface_entry interfaces))

-- its type
abbrev pub interfaces_type : SingleType
interfaces_type = dict_of basics.String properties_type

-- ---- objects: a{oa{sa{sv}}}

-- an object's path, and its interfaces
abbrev pub object_entry : ManagedObject → Datum × Datum
object_entry o = (text object_path o.path, interfaces_value o.interfaces)

-- objects, in the order in which they stand
abbrev pub managed_value : List ManagedObject → Datum
managed_value objects = dict basics.ObjectPath interfaces_type (entries_of (map object_entry objects))

-- its type
abbrev pub objects_type : SingleType
objects_type = dict_of basics.ObjectPath interfaces_type

-- ---- signals

-- the values of InterfacesAdded: an object's path, and interfaces that were added there
abbrev pub added_values : ManagedObject → List Datum
added_values o = text object_path o.path ∷ interfaces_value o.interfaces ∷ []

-- the values of InterfacesRemoved: an object's path, and the names of interfaces that were removed there
abbrev pub removed_values : List ℕ → List (List ℕ) → List Datum
removed_values path names = text object_path path ∷ names_value names ∷ []

-- ---- what introspection tells of the interface

abbrev pub get_managed_objects : DescribedMethod
get_managed_objects = method (codes "GetManagedObjects") [] (argument (codes "objpath_interfaces_and_properties") objects_type ∷ [])

-- an object below
abbrev pub path_argument : DescribedArgument
path_argument = argument (codes "object_path") (basic basics.ObjectPath)

abbrev pub interfaces_added : DescribedSignal
interfaces_added = signal (codes "InterfacesAdded") (path_argument ∷ argument (codes "interfaces_and_properties") interfaces_type ∷ [])

abbrev pub interfaces_removed : DescribedSignal
interfaces_removed = signal (codes "InterfacesRemoved") (path_argument ∷ argument (codes "interfaces") names_type ∷ [])

unfoldable pub manager_description : Description
manager_description = described (get_managed_objects ∷ []) (interfaces_added ∷ interfaces_removed ∷ [])
