use Rattle.std.proofs.Common.{rules, ◌≢◌}
use Rattle.std.proofs.lemmas.Slice.Eq.{bytes_eq-Decides}
use Rattle.wire_message.specs.StandardNames.{kind_name}
use Rattle.wire_message.proofs.StandardNames.{one_more}
use Rattle.wire_message.proofs.fdo_kind.first_named.Goals as goal

pub loop-kind-preserved : goal.loop-kind-preserved
loop-kind-preserved c =
    one_more (λ kind. kind_name kind ≢ c.args.text.now) c.args.kinds.now c.loop-kind.kind-index (search rules) (search (rules, bytes_eq-Decides)) c.loop-kind.invariant
