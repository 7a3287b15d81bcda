use Rattle.std.proofs.Common.{◌-◌, ◌^◌, ◌<◌, arith, Ok, Err}
use Rattle.std.proofs.lemmas.Result.{err_from_is_err_and}
use Rattle.wire_framing.proofs.Whole.{nothing_received}
use Rattle.wire_framing.proofs.Kept.{failed_told, failed_cause, failed_takes, unmade_told, unmade_cause, unmade_takes, made_told, made_takes, made_own}
use Rattle.wire_framing.proofs.Spends.{failed_spends, whole_spends}
use Rattle.wire_framing.proofs.read_half.ReadHalf.receive_message.Goals as goal

pub returns-then-seq-eq18446744073709551615-clause-told : goal.returns-then-seq-eq18446744073709551615-clause-told
returns-then-seq-eq18446744073709551615-clause-told g c = nothing_received _ _ _ (omega arith)

pub returns-in_err-received-in-Ok-clause-told : goal.returns-in_err-received-in-Ok-clause-told
returns-in_err-received-in-Ok-clause-told g c =
    let p = err_from_is_err_and c.from_residual.result c.from_residual.ensures.1 in
    let below : c.args.seq - 1 < 2 ^ 64 - 2 = omega arith in
    let whole = c.in-Ok.ensures in
    rw (p.1, p.2) (unmade_told c.in_err-received-in-Ok.field-0.0 (c.args.seq - 1) _ _ (g.S.Source.view c.args.self.now.source) (g.S.Source.view c.read_to_message.new.source) below whole.grown whole.found whole.came c.in_err-received-in-Ok.ensures.exact)

pub returns-in_err-received-in-Ok-clause-takes : goal.returns-in_err-received-in-Ok-clause-takes
returns-in_err-received-in-Ok-clause-takes g c below =
    let p = err_from_is_err_and c.from_residual.result c.from_residual.ensures.1 in
    let whole = c.in-Ok.ensures in
    let none = c.in_err-received-in-Ok.ensures in
    rw (p.1, p.2) (unmade_takes c.in_err-received-in-Ok.field-0.0 _ _ _ (g.S.Source.view c.args.self.now.source) (g.S.Source.view c.read_to_message.new.source) whole.grown whole.found whole.own whole.came whole.asks none.exact none.rest)

pub returns-in_err-received-in-Ok-clause-error : goal.returns-in_err-received-in-Ok-clause-error
returns-in_err-received-in-Ok-clause-error g c =
    let p = err_from_is_err_and c.from_residual.result c.from_residual.ensures.1 in
    let whole = c.in-Ok.ensures in
    rw (p.1, p.2) (unmade_cause c.in_err-received-in-Ok.field-0.0 _ _ (g.S.Source.view c.args.self.now.source) (g.S.Source.view c.read_to_message.new.source) whole.found whole.came c.in_err-received-in-Ok.ensures.exact)

pub returns-in_ok-received-in-Ok-clause-told : goal.returns-in_ok-received-in-Ok-clause-told
returns-in_ok-received-in-Ok-clause-told g c =
    let below : c.args.seq - 1 < 2 ^ 64 - 2 = omega arith in
    let whole = c.in-Ok.ensures in
    made_told c.in_ok-received-in-Ok.received c.at_position.result c.args.seq _ _ (g.S.Source.view c.args.self.now.source) (g.S.Source.view c.read_to_message.new.source) c.requires below whole.grown whole.found whole.came c.in_ok-received-in-Ok.ensures.exact c.at_position.ensures

pub returns-in_ok-received-in-Ok-clause-takes : goal.returns-in_ok-received-in-Ok-clause-takes
returns-in_ok-received-in-Ok-clause-takes g c below =
    let whole = c.in-Ok.ensures in
    let made = c.in_ok-received-in-Ok.ensures in
    made_takes c.in_ok-received-in-Ok.received c.at_position.result c.args.seq _ _ _ (g.S.Source.view c.args.self.now.source) (g.S.Source.view c.read_to_message.new.source) whole.grown whole.found whole.own whole.came whole.asks made.front c.at_position.ensures made.rest

pub returns-in_ok-received-in-Ok-clause-message : goal.returns-in_ok-received-in-Ok-clause-message
returns-in_ok-received-in-Ok-clause-message g c = made_own c.in_ok-received-in-Ok.received c.at_position.result c.args.seq _ c.in_ok-received-in-Ok.ensures.front c.at_position.ensures

pub returns-in-Err-clause-told : goal.returns-in-Err-clause-told
returns-in-Err-clause-told g c =
    let below : c.args.seq - 1 < 2 ^ 64 - 2 = omega arith in
    failed_told c.in-Err.error (c.args.seq - 1) _ _ (g.S.Source.view c.args.self.now.source) (g.S.Source.view c.read_to_message.new.source) below c.in-Err.ensures.grown c.in-Err.ensures.found c.in-Err.ensures.came

pub returns-in-Err-clause-error : goal.returns-in-Err-clause-error
returns-in-Err-clause-error g c = failed_cause c.in-Err.error _ _ (g.S.Source.view c.args.self.now.source) (g.S.Source.view c.read_to_message.new.source) c.in-Err.ensures.found c.in-Err.ensures.came

pub returns-in-Err-clause-takes : goal.returns-in-Err-clause-takes
returns-in-Err-clause-takes g c below =
    let whole = c.in-Err.ensures in
    failed_takes c.in-Err.error _ _ _ (g.S.Source.view c.args.self.now.source) (g.S.Source.view c.read_to_message.new.source) whole.grown whole.own whole.came whole.asks c.discard.ensures

pub returns-in_err-received-in-Ok-clause-spends : goal.returns-in_err-received-in-Ok-clause-spends
returns-in_err-received-in-Ok-clause-spends g c none below =
    let p = err_from_is_err_and c.from_residual.result c.from_residual.ensures.1 in
    let whole = c.in-Ok.ensures in
    rw (p.1, p.2) (whole_spends (Err c.in_err-received-in-Ok.field-0.0) _ _ (g.S.Source.view c.args.self.now.source) (g.S.Source.view c.read_to_message.new.source) none whole.grown whole.found whole.own whole.came)

pub returns-in_ok-received-in-Ok-clause-spends : goal.returns-in_ok-received-in-Ok-clause-spends
returns-in_ok-received-in-Ok-clause-spends g c none below =
    let whole = c.in-Ok.ensures in
    whole_spends (Ok c.at_position.result) _ _ (g.S.Source.view c.args.self.now.source) (g.S.Source.view c.read_to_message.new.source) none whole.grown whole.found whole.own whole.came

pub returns-in-Err-clause-spends : goal.returns-in-Err-clause-spends
returns-in-Err-clause-spends g c none below =
    let whole = c.in-Err.ensures in
    failed_spends c.in-Err.error _ _ (g.S.Source.view c.args.self.now.source) (g.S.Source.view c.read_to_message.new.source) none whole.grown whole.found whole.own whole.came
