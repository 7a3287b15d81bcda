use Rattle.std.proofs.Common.{◌∙◌, sym}
use Rattle.std.proofs.lemmas.Result.{err_from_is_err_and}
use Rattle.watch_tool.proofs.Ending.{no_last_line, not_some}
use Rattle.watch_tool.proofs.monitoring.close.Goals as goal

pub returns-in_err-put_end-clause-closes : goal.returns-in_err-put_end-clause-closes
returns-in_err-put_end-clause-closes g c =
    let p = err_from_is_err_and c.from_residual.result c.from_residual.ensures.1 in
    no_last_line c.from_residual.result p.0 c.args.error (g.K.Sink.view c.args.sink.now) p.1 p.2 (sym c.failure_of.ensures ∙ not_some c.failure_of.result c.in_default.not-Some)
