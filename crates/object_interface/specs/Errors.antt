-- Errors that answer the calls of a service's objects (D-Bus Specification, "Types of messages", "Errors").
use Rattle.std.specs.Prelude.{ℕ, List, [], ◌++◌, codes, None, Result, Err}
use Rattle.wire_tree.specs.Datum.{Datum}
use Rattle.wire_message.specs.declared.fdo_kind.Kind.{Kind}
use Rattle.wire_message.specs.declared.fdo.Error.{Error}
use Rattle.wire_message.specs.declared.fdo.Error.TheVariants.{Std}
use Rattle.object_interface.specs.declared.answer.DispatchResult2.{DispatchResult2}
use Rattle.object_interface.specs.declared.answer.DispatchResult2.TheVariants.{Done}

-- ---- errors

-- the call lacks what every call of an object's method has to have
abbrev pub missing : List ℕ → Error
missing what = Std (record { kind = Kind.Failed; text = codes "Missing " ++ what })

-- there is nothing of that name
abbrev pub unknown : Kind → List ℕ → List ℕ → Error
unknown kind what name = Std (record { kind = kind; text = codes "Unknown " ++ (what ++ (codes " '" ++ (name ++ codes "'"))) })

-- no object has this path: the text is `Unknown object 'PATH'`
abbrev pub unknown_object : List ℕ → Error
unknown_object path = unknown Kind.UnknownObject (codes "object") path

-- the object has no interface of this name: the text is `Unknown interface 'NAME'`
abbrev pub unknown_interface : List ℕ → Error
unknown_interface name = unknown Kind.UnknownInterface (codes "interface") name

-- the interface has no method of this name: the text is `Unknown method 'MEMBER'`
abbrev pub unknown_method : List ℕ → Error
unknown_method member = unknown Kind.UnknownMethod (codes "method") member

-- ---- answers

-- a reply, or an error, without signals
abbrev pub alone : Result (List Datum) Error → DispatchResult2
alone answer = Done (record { result = answer; before = []; after = []; notifier = None })

-- the answer that is one of the standard errors, with that text
abbrev pub fails : Kind → List ℕ → DispatchResult2
fails kind text = alone (Err (Std (record { kind = kind; text = text })))

-- the arguments aren't those of the method
abbrev pub invalid : DispatchResult2
invalid = fails Kind.InvalidArgs (codes "Invalid arguments")
