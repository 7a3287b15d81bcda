use Rattle.std.proofs.lemmas.Result.{err_from_is_err_and}
use Rattle.peer_words.proofs.Letters.{refused, misplaced}
use Rattle.peer_words.proofs.call_words.with_body.Goals as goal

pub returns-in_err-builder : goal.returns-in_err-builder
returns-in_err-builder c =
    let p = err_from_is_err_and c.from_residual.result c.from_residual.ensures.1 in
    rw (p.1, p.2) (record { makes = refused _ _ (misplaced c.args.builder _ c.args.body c.args.flags c.args.takes_fds c.in_err-builder.ensures); carried = tt; few = tt })
