use Rattle.std.proofs.Common.{◌≡◌, take, arith, refl, ◌∙◌, ap}
use Rattle.wire_codec.proofs.EncodeLaws.{around}
use Rattle.wire_body.proofs.BodyLaws.{body_stays, body_cut}
use Rattle.wire_body.proofs.arguments_bytes.append_arguments.Goals as goal

pub returns-in-Ok : goal.returns-in-Ok
returns-in-Ok g c =
    body_stays c.args.order (g.T.ToBody.datums c.args.body.now) _ c.args.out.now.items _ _ (c.new-encoder.ensures ∙ ap (λ v. around c.args.order 0 v.items) c.replace-bytes.ensures.value) refl
    c.requires.placed _ c.into_bytes.ensures.bytes c.in-Ok.ensures

pub returns-in-Err : goal.returns-in-Err
returns-in-Err g c =
    body_cut c.args.order (g.T.ToBody.datums c.args.body.now) _ c.args.out.now.items _ _ (c.new-encoder.ensures ∙ ap (λ v. around c.args.order 0 v.items) c.replace-bytes.ensures.value) refl
    c.requires.placed c.in-Err.error _ c.len-before.result (omega arith) (c.truncate.ensures.items ∙ ap (λ bytes. take c.len-before.result bytes) c.into_bytes.ensures.bytes) c.in-Err.ensures
