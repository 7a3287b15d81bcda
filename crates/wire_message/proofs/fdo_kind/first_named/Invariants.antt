use Rattle.std.proofs.Common.{◌≢◌}
use Rattle.std.specs.List.{AllWithin}
use Rattle.wire_message.specs.StandardNames.{kind_name}
use Rattle.wire_message.proofs.fdo_kind.first_named.Given as goal

-- no kind so far has the name
abbrev pub invariant-loop-kind : goal.invariant-loop-kind
invariant-loop-kind l = AllWithin (λ kind. kind_name kind ≢ l.text) l.kinds 0 l.kind-index
