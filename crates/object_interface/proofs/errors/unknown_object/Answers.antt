use Rattle.std.proofs.Common.{codes, refl}
use Rattle.wire_message.specs.declared.fdo_kind.Kind.{Kind}
use Rattle.object_interface.specs.Errors.{unknown_object}
use Rattle.object_interface.proofs.Zeros.{path_no_zero, unknown_sendable, sendable_as}
use Rattle.object_interface.proofs.errors.unknown_object.Goals as goal

pub returns-clause-sendable : goal.returns-clause-sendable
returns-clause-sendable c =
    sendable_as c.unknown.result (unknown_object c.as_str.result.now)
    (unknown_sendable Kind.UnknownObject (codes "object") c.as_str.result.now refl (rw c.as_str.ensures.value (path_no_zero c.args.path.now c.as_str.ensures.valid))) c.unknown.ensures
