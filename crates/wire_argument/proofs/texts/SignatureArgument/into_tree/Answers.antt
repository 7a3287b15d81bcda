use Rattle.std.proofs.Common.{refl, ap, unwrap_or, []}
use Rattle.wire_signature.proofs.Exact.{types_in-again}
use Rattle.wire_argument.proofs.texts.SignatureArgument.into_tree.Goals as goal

pub returns-clause-round : goal.returns-clause-round
returns-clause-round c =
    let k = c.in_ok-to_text.ensures in ap (λ o. unwrap_or o []) (types_in-again c.args.self _ (record { valid = k.valid; text = refl }))
