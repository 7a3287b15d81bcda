-- What is printed of an error, and its description.
use Rattle.std.specs.Prelude.{ℕ, List, [], ◌++◌, codes, Option, Some, None}
use Rattle.wire_message.specs.StandardNames.{kind_name}
use Rattle.wire_message.specs.declared.fdo.StandardError.{StandardError}
use Rattle.wire_message.specs.declared.error.Error.{Error}
use Rattle.wire_message.specs.declared.error.Error.TheVariants as errors
use Rattle.wire_message.specs.declared.error.IoKind.{IoKind}
use Rattle.wire_message.specs.declared.error.IoKind.TheVariants as kinds
use Rattle.wire_names.specs.declared.error.NamesError.{NamesError}
use Rattle.wire_names.specs.declared.error.NamesError.TheVariants as names
use Rattle.wire_signature.specs.declared.error.VariantError.{VariantError}
use Rattle.wire_signature.specs.declared.error.VariantError.TheVariants as faults

-- the kinds' names
abbrev pub io_text : IoKind → List ℕ
io_text kinds.Ended = codes "Ended"
io_text kinds.Fault = codes "Fault"
io_text kinds.Closed = codes "Closed"
io_text kinds.WriteFault = codes "WriteFault"
io_text kinds.TimedOut = codes "TimedOut"

-- what is printed of an error of a name or an object path
abbrev pub names_text : NamesError → List ℕ
names_text names.Unique = codes "Unique"
names_text names.WellKnown = codes "WellKnown"
names_text names.Bus = codes "Bus"
names_text names.Interface = codes "Interface"
names_text names.Member = codes "Member"
names_text names.Error = codes "Error"
names_text names.Path = codes "Path"
names_text names.Memory = codes "Memory"

-- what is printed of an error of a type, a value or a signature
abbrev pub variant_text : VariantError → List ℕ
variant_text faults.Signature = codes "Signature"
variant_text faults.Depth = codes "Depth"
variant_text faults.Malformed = codes "Malformed"
variant_text faults.SignatureMismatch = codes "SignatureMismatch"
variant_text faults.Memory = codes "Memory"

-- a standard error
abbrev pub standard_text : StandardError → List ℕ
standard_text error = kind_name error.kind ++ codes ": " ++ error.text

-- the detail of a method's error
abbrev pub detail_text : Option (List ℕ) → List ℕ
detail_text None = codes "no details"
detail_text (Some detail) = detail

-- where an interface stands already, from the end of its name on
unfoldable pub place : List ℕ → List ℕ
place path = codes "` already exists at `" ++ path ++ codes "`"

-- an error that holds nothing beside its kind; of another this says nothing
abbrev pub bare_text : Error → List ℕ
bare_text errors.InterfaceNotFound = codes "Interface not found"
bare_text errors.InvalidField = codes "invalid message field"
bare_text errors.ExcessData = codes "excess data"
bare_text errors.IncorrectEndian = codes "incorrect endian"
bare_text errors.InvalidReply = codes "Invalid D-Bus method reply"
bare_text errors.MissingField = codes "A required field is missing from message headers"
bare_text errors.InvalidGUID = codes "Invalid GUID"
bare_text errors.Unsupported = codes "Connection support is lacking"
bare_text errors.NameTaken = codes "name already taken on the bus"
bare_text errors.InvalidMatchRule = codes "Invalid match rule string"
bare_text errors.Memory = codes "Memory"
bare_text errors.SerialsSpent = codes "SerialsSpent"
bare_text errors.UnknownHandle = codes "UnknownHandle"
bare_text errors.Busy = codes "Busy"
bare_text error = []

-- an error, with what it holds beside its kind
abbrev pub error_text : Error → List ℕ
error_text (errors.InputOutput kind) = codes "I/O error: " ++ io_text kind
error_text (errors.Variant kind) = codes "variant error: " ++ variant_text kind
error_text (errors.Names kind) = codes "invalid " ++ names_text kind
error_text (errors.MethodError name detail message) = name ++ codes ": " ++ detail_text detail
error_text (errors.FDO error) = standard_text error
error_text (errors.Failure text) = text
error_text (errors.MissingParameter name) = codes "Parameter `" ++ name.now ++ codes "` was not specified but it is required"
error_text (errors.InterfaceExists name path) = codes "Interface `" ++ name ++ place path
error_text error = bare_text error

-- what went wrong, in general
abbrev pub description : Error → Option (List ℕ)
description errors.InterfaceNotFound = Some (codes "interface not found")
description (errors.InputOutput kind) = Some (codes "i/o error")
description errors.InvalidField = Some (codes "invalid field")
description errors.ExcessData = Some (codes "excess data")
description (errors.Variant kind) = Some (codes "variant error")
description (errors.Names kind) = Some (codes "names error")
description errors.IncorrectEndian = Some (codes "incorrect endian")
description errors.InvalidReply = Some (codes "invalid reply")
description (errors.MethodError name detail message) = detail
description errors.MissingField = Some (codes "a required field is missing from message headers")
description errors.InvalidGUID = Some (codes "invalid GUID")
description errors.Unsupported = Some (codes "connection support is lacking")
description (errors.FDO error) = Some (codes "FDO error")
description errors.NameTaken = Some (codes "name already taken on the bus")
description errors.InvalidMatchRule = Some (codes "invalid match rule string")
description (errors.Failure text) = Some text
description (errors.MissingParameter name) = Some (codes "A required parameter is missing")
description (errors.InterfaceExists name path) = Some (codes "interface already exists")
description error = None
