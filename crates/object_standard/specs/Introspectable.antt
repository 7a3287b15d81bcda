-- `org.freedesktop.DBus.Introspectable` (D-Bus Specification, "Standard Interfaces", "org.freedesktop.DBus.Introspectable").
use Rattle.std.specs.Prelude.{[], ◌∷◌, codes}
use Rattle.wire_signature.specs.SingleType.{basic}
use Rattle.wire_signature.specs.declared.basic.BasicType.TheVariants as basics
use Rattle.object_interface.specs.Describing.{argument, method, described}
use Rattle.object_interface.specs.declared.description.DescribedMethod.{DescribedMethod}
use Rattle.object_interface.specs.declared.description.Description.{Description}

-- what introspection tells of the interface
abbrev pub introspect : DescribedMethod
introspect = method (codes "Introspect") [] (argument (codes "xml_data") (basic basics.String) ∷ [])

unfoldable pub introspectable_description : Description
introspectable_description = described (introspect ∷ []) []
