-- A refused command makes nothing.
use Rattle.std.proofs.Common.{◌≡◌, sym, ◌∙◌, true, false, refl}
use Rattle.peer_route.specs.Entries.{is_refused}
use Rattle.peer_conn.proofs.state.PeerState.begin_unless_refused.Goals as goal

pub returns-then-is_refused-clause-keeps : goal.returns-then-is_refused-clause-keeps
returns-then-is_refused-clause-keeps c =
    let refused : is_refused c.args.answer.now ≡ true = sym c.is_refused.ensures ∙ c.if-is_refused.true in
    rw refused (λ p keeps. keeps)

pub returns-then-is_refused-clause-made : goal.returns-then-is_refused-clause-made
returns-then-is_refused-clause-made c =
    let refused : is_refused c.args.answer.now ≡ true = sym c.is_refused.ensures ∙ c.if-is_refused.true in
    rw refused refl

pub returns-clause-keeps : goal.returns-clause-keeps
returns-clause-keeps c =
    let fine : is_refused c.args.answer.now ≡ false = sym c.is_refused.ensures ∙ c.if-is_refused.false in
    rw fine c.begin_serving.ensures.keeps

pub returns-clause-made : goal.returns-clause-made
returns-clause-made c =
    let fine : is_refused c.args.answer.now ≡ false = sym c.is_refused.ensures ∙ c.if-is_refused.false in
    rw fine c.begin_serving.ensures.made
