use Rattle.std.proofs.Common.{◌≡◌, [], ◌∷◌, false, sym, subst, Ok, IfOk}
use Rattle.peer_conn.specs.{Invariant.{named_send, Did}, Names.Answer}
use Rattle.peer_route.specs.{Entries.unsent, Plan.sends}
use Rattle.wire_message.specs.Outgoing.{sent_by}
use Rattle.peer_core.specs.Refinement.{Refines}
use Rattle.peer_calls.specs.Issuing.{posted}
use Rattle.peer_core.specs.Issuing.{issued_each}
use Rattle.peer_conn.proofs.{Quietly.answers_did, Posted.{put_did, unsent_did, message_named, refused_did}}
use Rattle.peer_conn.proofs.sending.put.Goals as goal

pub returns-in-Err : goal.returns-in-Err
returns-in-Err c t v asked core left held given owners makes can =
    answers_did Answer.Refused v t c.args.lane (sends t c.args.lane (named_send t.past.name asked)) c.in-Err.error c.refused.result c.refused.ensures
    (refused_did v t c.args.lane asked c.in-Err.error (record { left = subst (λ c. Refines c t.past) (sym core) left; held = held; given = given }) (rw (c.in-Err.is) at makes))

pub returns-in-Some : goal.returns-in-Some
returns-in-Some c t v asked core left held given owners makes can =
    rw (c.count.ensures) (rw (c.in-Some.is) at (put_did t v c.issue_one.new.route c.args.lane c.args.owners.now c.args.route.now.name asked c.in-Ok.outgoing c.in-Ok-issue_one.issued left.name (rw (c.in-Ok.is) at makes) core held given owners
    (rw (c.in-Ok.is) at can) (c.in-Ok-issue_one.ensures t.past left)))

pub returns-in-None : goal.returns-in-None
returns-in-None c t v asked core left held given owners makes can =
    rw (c.plainly.ensures) (rw (c.in-None.is) at (put_did t v c.issue_one.new.route c.args.lane c.args.owners.now c.args.route.now.name asked c.in-Ok.outgoing c.in-Ok-issue_one.issued left.name (rw (c.in-Ok.is) at makes) core held given owners
    (rw (c.in-Ok.is) at can) (c.in-Ok-issue_one.ensures t.past left)))

pub returns-in-Err-issue_one : goal.returns-in-Err-issue_one
returns-in-Err-issue_one c t v asked core left held given owners makes can =
    let outgoing = sent_by c.args.route.now.name false c.in-Ok.outgoing in
    subst (λ x. IfOk c.unsent.result (Did v t c.args.lane (sends t c.args.lane x))) (message_named c.args.route.now.name t.past.name asked c.in-Ok.outgoing left.name (rw (c.in-Ok.is) at makes))
    (answers_did unsent v t c.args.lane (sends t c.args.lane (Ok outgoing)) c.in-Err-issue_one.error c.unsent.result c.unsent.ensures
    (unsent_did (λ issued serials. issued ∷ [] ≡ issued_each t.past (posted false outgoing ∷ []) serials) c.args.route.now c.issue_one.new.route v t c.args.lane outgoing c.in-Err-issue_one.error core left held given (c.in-Err-issue_one.ensures t.past left)))
