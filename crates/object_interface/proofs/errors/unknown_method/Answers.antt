use Rattle.std.proofs.Common.{codes, refl}
use Rattle.wire_message.specs.declared.fdo_kind.Kind.{Kind}
use Rattle.object_interface.specs.Errors.{unknown_method}
use Rattle.object_interface.proofs.Zeros.{member_no_zero, unknown_sendable, sendable_as}
use Rattle.object_interface.proofs.errors.unknown_method.Goals as goal

pub returns-clause-sendable : goal.returns-clause-sendable
returns-clause-sendable c =
    sendable_as c.unknown.result (unknown_method c.as_str.result.now)
    (unknown_sendable Kind.UnknownMethod (codes "method") c.as_str.result.now refl (rw c.as_str.ensures.value (member_no_zero c.args.member.now c.as_str.ensures.valid))) c.unknown.ensures
