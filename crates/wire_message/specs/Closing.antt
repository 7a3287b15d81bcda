-- The errors that close a peer.
use Rattle.std.specs.Prelude.{Bool, true, false}
use Rattle.wire_message.specs.declared.error.Error.{Error}
use Rattle.wire_message.specs.declared.error.Error.TheVariants as errors
use Rattle.wire_message.specs.declared.closing.Cause.{Cause}
use Rattle.wire_message.specs.declared.closing.Cause.TheVariants as causes

-- the end or a fault of what is read or written, and what a header is refused by
abbrev pub closes : Error → Bool
closes (errors.InputOutput kind) = true
closes (errors.Variant kind) = true
closes errors.IncorrectEndian = true
closes errors.ExcessData = true
closes error = false

-- the error that closed the peer, as callers are given it
abbrev pub error_of : Cause → Error
error_of (causes.InputOutput kind) = errors.InputOutput kind
error_of (causes.Variant kind) = errors.Variant kind
error_of causes.IncorrectEndian = errors.IncorrectEndian
error_of causes.ExcessData = errors.ExcessData

-- what an error closes a peer by; of one that closes none this says nothing
abbrev pub cause_of : Error → Cause
cause_of (errors.InputOutput kind) = causes.InputOutput kind
cause_of (errors.Variant kind) = causes.Variant kind
cause_of errors.IncorrectEndian = causes.IncorrectEndian
cause_of error = causes.ExcessData
