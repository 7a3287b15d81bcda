use Rattle.std.proofs.Common.{◌≡◌, ◌∙◌, arith}
use Rattle.std.proofs.lemmas.Result.{err_from_is_err_and}
use Rattle.wire_signature.specs.SingleType.{basic}
use Rattle.wire_tree.specs.Datum.{type_of}
use Rattle.wire_argument.proofs.Dicts.{basic_depth, basic_told, told_malformed}
use Rattle.wire_argument.proofs.dict.check_entry.Goals as goal

pub returns-in_err-check-clause-told : goal.returns-in_err-check-clause-told
returns-in_err-check-clause-told g c =
    let kind : type_of (g.K.Argument.datum c.args.key.now) ≡ basic g.K.Key.basic = g.met.K.Argument.of_kind c.args.key.now ∙ g.met.K.Key.is_basic in
    let p = err_from_is_err_and c.from_residual.result c.from_residual.ensures.1 in
    rw (p.1, p.2)
    (told_malformed c.in_err-check.field-0.0 _ _ _ _ _ _ (basic_told (g.K.Argument.datum c.args.key.now) g.K.Key.basic c.in_err-check.field-0.0 c.args.room kind c.in_err-check.ensures.told)
    (λ w. w.0) c.in_err-check.ensures.told)

pub returns-else-room-eq0-clause-told : goal.returns-else-room-eq0-clause-told
returns-else-room-eq0-clause-told g c =
    let kind : type_of (g.K.Argument.datum c.args.key.now) ≡ basic g.K.Key.basic = g.met.K.Argument.of_kind c.args.key.now ∙ g.met.K.Key.is_basic in (
      (c.in_ok-check.ensures.told.0, (c.in_ok-check-2.ensures.told.0, tt)),
      omega (arith, basic_depth (g.K.Argument.datum c.args.key.now) g.K.Key.basic kind, c.in_ok-check-2.ensures.told.1),
    )
