-- Where a call's place was made, there is one place more; else none.
use Rattle.std.proofs.{Common.{if◌then◌else◌, ◌∷◌, [], ◌∙◌, sym, ap}, lemmas.List.append-nil}
use Rattle.peer_calls.proofs.posting.post.Goals.{then-waits+in_ok-push, else-waits}
use Rattle.peer_calls.proofs.posting.post.Goals as goal

pub returns-in_err-push-clause-grown : goal.returns-in_err-push-clause-grown
returns-in_err-push-clause-grown c = ([], c.in_err-push.ensures.items ∙ sym (append-nil c.args.places.now.items))

pub returns-in_err-push-2-clause-more : goal.returns-in_err-push-2-clause-more
returns-in_err-push-2-clause-more c = ([], c.in_err-push-2.ensures.items ∙ sym (append-nil c.args.outbox.now.items))

pub returns-in_err-push-2-clause-grown : goal.returns-in_err-push-2-clause-grown
returns-in_err-push-2-clause-grown c = elim c.if-waits.branch [
  | then-waits+in_ok-push w ↦ (c.len-index.result ∷ [], ap (λ v. v.items) w.places-is ∙ w.in_ok-push.ensures.items)
  | else-waits w ↦ ([], ap (λ v. v.items) w.places-is ∙ sym (append-nil c.args.places.now.items))
]

pub returns-clause-grown : goal.returns-clause-grown
returns-clause-grown c = elim c.if-waits.branch [
  | then-waits+in_ok-push w ↦ (c.len-index.result ∷ [], ap (λ v. v.items) w.places-is ∙ w.in_ok-push.ensures.items)
  | else-waits w ↦ ([], ap (λ v. v.items) w.places-is ∙ sym (append-nil c.args.places.now.items))
]
