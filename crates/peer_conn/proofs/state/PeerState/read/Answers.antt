use Rattle.std.proofs.Common.{refl, sym, subst, Ok}
use Rattle.peer_conn.specs.{Names.Received, Invariant.StateInvariant, Going.IsFound}
use Rattle.peer_conn.proofs.Begun.{read_got, read_passed}
use Rattle.peer_conn.proofs.state.PeerState.read.Goals as goal

pub returns-in_ok-arrive-in-Ok-Message-clause-reads : goal.returns-in_ok-arrive-in-Ok-Message-clause-reads
returns-in_ok-arrive-in-Ok-Message-clause-reads c t s means =
    let before : StateInvariant _ t = subst (λ v. StateInvariant v t) (sym c.self.view_is) s in
    let found : IsFound c.self.inside.route.read (Ok (Received.Message c.in-Ok-Message.message)) = rw (← c.self.view_is, c.in-Ok-Message.is, c.in-Ok-Message.field-0-is) at c.requires.found in
    rw (c.quiet.ensures, c.in_ok-copy-in-Ok-Message.ensures) (read_got _ _ t c.args.lane c.in-Ok-Message.message before found refl refl refl refl refl (c.in_ok-arrive-in-Ok-Message.ensures.left t.past before.keeps.left) means)

pub returns-in-Ok-Passed-clause-reads : goal.returns-in-Ok-Passed-clause-reads
returns-in-Ok-Passed-clause-reads c t s means =
    let found : IsFound c.args.self.now.core.read (Ok (Received.Passed c.in-Ok-Passed.bytes)) = rw (c.in-Ok-Passed.is, c.in-Ok-Passed.field-0-is) at c.requires.found in
    rw (c.quiet-in-Ok-Passed.ensures) (read_passed c.args.self.now t c.args.lane c.in-Ok-Passed.bytes s found means)
