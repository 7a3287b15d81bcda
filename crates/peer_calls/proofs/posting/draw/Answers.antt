-- A serial is drawn, with the call that waits for the reply, if one is expected; or none is left.
use Rattle.std.proofs.{Common.{if◌then◌else◌, sym, ◌∙◌, subst}, lemmas.Result.err_from_is_err_and}
use Rattle.peer_calls.specs.{History.after, Issuing.{posted, put_of}, Placing.IsCounted}
use Rattle.wire_message.specs.Outgoing.{sent_by}
use Rattle.peer_calls.proofs.{Drawn.{next_so, drawn_not, counted_call, counted_quiet}, posting.draw.Goals.{then-expects_reply+in_ok-register, else-expects_reply}}
use Rattle.peer_calls.proofs.posting.draw.Goals as goal

pub returns-in_err-serial-clause-drawn : goal.returns-in_err-serial-clause-drawn
returns-in_err-serial-clause-drawn c h name served left =
    let q = err_from_is_err_and c.from_residual.result c.from_residual.ensures.1 in
    rw (q.1, q.2) (drawn_not (posted c.args.internal (sent_by name served c.args.outgoing.now)) c.args.calls.now c.args.serials.now c.next_uncounted.new.self h c.in_err-serial.field-0.0 left c.in_err-serial.ensures)

pub returns-clause-drawn : goal.returns-clause-drawn
returns-clause-drawn c h name served left =
    let d = posted c.args.internal (sent_by name served c.args.outgoing.now) in
    let serial = c.in_ok-serial.serial in
    let next = c.in_ok-serial.ensures.0 in (
      next_so c.args.calls.now c.args.serials.now serial h left next,
      subst (λ n. IsCounted c.if-expects_reply.calls n (after (put_of d serial) h)) (sym c.in_ok-serial.ensures.1)
          (elim c.if-expects_reply.branch [
            | then-expects_reply+in_ok-register w ↦
                counted_call c.args.internal (sent_by name served c.args.outgoing.now) serial c.args.serials.now c.args.calls.now c.if-expects_reply.calls h
                (sym c.expects_reply.ensures ∙ w.if-expects_reply.true) next.free (w.calls-is ∙ w.in_ok-register.ensures.ok) left
            | else-expects_reply w ↦
                subst (λ v. IsCounted v serial (after (put_of d serial) h)) (sym w.calls-is)
                (counted_quiet c.args.internal (sent_by name served c.args.outgoing.now) serial c.args.serials.now c.args.calls.now h (sym c.expects_reply.ensures ∙ w.if-expects_reply.false) left)
          ]),
    )
