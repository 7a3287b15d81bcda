use Rattle.std.proofs.Common.{codes, refl}
use Rattle.wire_message.specs.declared.fdo_kind.Kind.{Kind}
use Rattle.object_interface.specs.Errors.{unknown_interface}
use Rattle.object_interface.proofs.Zeros.{interface_no_zero, unknown_sendable, sendable_as}
use Rattle.object_interface.proofs.errors.unknown_interface.Goals as goal

pub returns-clause-sendable : goal.returns-clause-sendable
returns-clause-sendable c =
    sendable_as c.unknown.result (unknown_interface c.as_str.result.now)
    (unknown_sendable Kind.UnknownInterface (codes "interface") c.as_str.result.now refl (rw c.as_str.ensures.value (interface_no_zero c.args.name.now c.as_str.ensures.valid))) c.unknown.ensures
