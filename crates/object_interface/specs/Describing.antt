-- What introspection tells of an interface, part by part (D-Bus Specification, "Introspection Data Format").
use Rattle.std.specs.Prelude.{ℕ, List, [], Some}
use Rattle.wire_signature.specs.SingleType.{SingleType}
use Rattle.object_interface.specs.declared.description.Access.{Access}
use Rattle.object_interface.specs.declared.description.DescribedArgument.{DescribedArgument}
use Rattle.object_interface.specs.declared.description.DescribedMethod.{DescribedMethod}
use Rattle.object_interface.specs.declared.description.DescribedSignal.{DescribedSignal}
use Rattle.object_interface.specs.declared.description.DescribedProperty.{DescribedProperty}
use Rattle.object_interface.specs.declared.description.Description.{Description}

-- an argument, a method, a signal and a property of that name
abbrev pub argument : List ℕ → SingleType → DescribedArgument
argument name ty = record { name = Some name; ty = ty }

abbrev pub method : List ℕ → List DescribedArgument → List DescribedArgument → DescribedMethod
method name inputs outputs = record { name = name; inputs = inputs; outputs = outputs }

abbrev pub signal : List ℕ → List DescribedArgument → DescribedSignal
signal name arguments = record { name = name; arguments = arguments }

abbrev pub property : List ℕ → SingleType → Access → DescribedProperty
property name ty access = record { name = name; ty = ty; access = access }

-- without methods, signals and properties
abbrev pub nothing : Description
nothing = record { methods = []; signals = []; properties = [] }

-- without properties
abbrev pub described : List DescribedMethod → List DescribedSignal → Description
described methods signals = record nothing { methods = methods; signals = signals }
