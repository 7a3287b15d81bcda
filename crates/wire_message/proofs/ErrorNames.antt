-- The names of errors are in their grammar (D-Bus Specification, "Valid Names", "Error names").
use Rattle.std.proofs.Common.{refl}
use Rattle.wire_message.specs.declared.fdo_kind.Kind.{Kind}
use Rattle.wire_message.specs.declared.fdo_kind.Kind.TheVariants as kinds
use Rattle.wire_message.specs.StandardNames.{kind_name}
use Rattle.wire_message.specs.FdoErrors.{fdo_name}
use Rattle.wire_message.specs.declared.fdo.Error.{Error as FdoError}
use Rattle.wire_message.specs.declared.fdo.Error.TheVariants as fdo
use Rattle.wire_names.specs.Names.{IsErrorName, is_error_name, is_interface_name, is_dotted, is_element}

kind-name-valid : (kind : Kind) → IsErrorName (kind_name kind)
unfolding kind_name is_error_name is_interface_name is_dotted is_element
kind-name-valid kinds.Failed = refl
kind-name-valid kind = refl

pub fdo_name_valid : (error : FdoError) → IsErrorName (fdo_name error)
unfolding is_error_name is_interface_name is_dotted is_element
fdo_name_valid (fdo.ZBus error) = refl
fdo_name_valid (fdo.Std error) = kind-name-valid error.kind
