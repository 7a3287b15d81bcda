-- Methods that take no arguments (D-Bus Specification, "Standard Interfaces").
use Rattle.std.specs.Prelude.{◌≡◌, List, []}
use Rattle.wire_signature.specs.SingleType.{SingleType}
use Rattle.wire_message.specs.Front.{MessageView}
use Rattle.object_interface.specs.Arguments.{IsBody, IsNoBody}
use Rattle.object_interface.specs.Errors.{invalid}
use Rattle.object_interface.specs.declared.answer.DispatchResult2.{DispatchResult2}

-- no arguments
abbrev pub of_none : List SingleType
of_none = []

-- the answer of a method that takes no arguments: that one where there are none, else that they are invalid
pub data TakesNone (m : MessageView) (P : DispatchResult2 → Type 0) (answer : DispatchResult2) : Type 0 where
  Taken : IsBody m [] [] → P answer → TakesNone m P answer
  Refused : IsNoBody m [] → answer ≡ invalid → TakesNone m P answer
