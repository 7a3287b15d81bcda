use Rattle.std.proofs.Common.{refl, ap, unwrap_or, []}
use Rattle.wire_signature.proofs.Exact.{types_in-again}
use Rattle.wire_argument.proofs.texts.SignatureArgument.check.Goals as goal

pub returns-clause-round : goal.returns-clause-round
returns-clause-round c =
    ap (λ o. unwrap_or o []) (types_in-again c.args.self.now _ (record { valid = c.types-types.ensures.valid; text = refl }))
