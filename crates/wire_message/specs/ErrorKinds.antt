-- Errors of the crates below as errors of messages and peers: out of memory stays out of memory.
use Rattle.wire_message.specs.declared.error.Error.{Error}
use Rattle.wire_message.specs.declared.error.Error.TheVariants as errors
use Rattle.wire_names.specs.declared.guid.GuidError.{GuidError}
use Rattle.wire_names.specs.declared.guid.GuidError.TheVariants as guids
use Rattle.wire_names.specs.declared.error.NamesError.{NamesError}
use Rattle.wire_names.specs.declared.error.NamesError.TheVariants as names
use Rattle.wire_signature.specs.declared.error.VariantError.{VariantError}
use Rattle.wire_signature.specs.declared.error.VariantError.TheVariants as faults

-- an error of a type, a value or a signature, as an error of messages and peers
abbrev pub error_of_variant : VariantError → Error
error_of_variant faults.Memory = errors.Memory
error_of_variant kind = errors.Variant kind

-- an error of a name or an object path, as an error of messages and peers
abbrev pub error_of_names : NamesError → Error
error_of_names names.Memory = errors.Memory
error_of_names kind = errors.Names kind

-- an error of a server's or a machine's identifier, as an error of messages and peers
abbrev pub error_of_guid : GuidError → Error
error_of_guid guids.Memory = errors.Memory
error_of_guid guids.InvalidGUID = errors.InvalidGUID
