-- When two errors are the same.
use Rattle.std.specs.Prelude.{◌≡◌}
use Rattle.wire_message.specs.declared.error.Error.{Error}
use Rattle.wire_message.specs.declared.error.Error.TheVariants as errors

-- They are of one variant and hold the same beside it; what a method's error holds is not looked at.
abbrev pub Same : Error → Error → Type 0
Same (errors.InputOutput kind) (errors.InputOutput other) = kind ≡ other
Same (errors.Variant kind) (errors.Variant other) = kind ≡ other
Same (errors.Names kind) (errors.Names other) = kind ≡ other
Same (errors.MethodError name detail message) (errors.MethodError name₂ detail₂ message₂) = Unit {0}
Same (errors.FDO error) (errors.FDO other) = (error.kind ≡ other.kind) × (error.text ≡ other.text)
Same (errors.Failure text) (errors.Failure other) = text ≡ other
Same (errors.MissingParameter name) (errors.MissingParameter other) = name.now ≡ other.now
Same (errors.InterfaceExists name path) (errors.InterfaceExists name₂ path₂) = (name ≡ name₂) × (path ≡ path₂)
Same error other = error ≡ other
