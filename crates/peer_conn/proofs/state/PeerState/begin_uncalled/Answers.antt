-- There is no call: the object server's stream is made, where there is none.
use Rattle.std.proofs.Common.{◌≡◌, sym, ◌∙◌, ap, refl, subst, None}
use Rattle.peer_conn.specs.{Names.{Words, Answer}, Invariant.{PeerStateView, StateInvariant}, Going.{Going, quiet}}
use Rattle.peer_words.specs.declared.words.ObjectOp.TheVariants as ops
use Rattle.peer_route.specs.Plan.{no_call}
use Rattle.peer_conn.proofs.{Serving.begun_uncalled, state.PeerState.begin_uncalled.Goals.{in-None, in-Some}}
use Rattle.peer_conn.proofs.state.PeerState.begin_uncalled.Goals as goal

pub returns-clause-going : goal.returns-clause-going
returns-clause-going c = λ t s.
    let before : StateInvariant _ t = subst (λ v. StateInvariant v t) (sym c.self.view_is) s in
    let made = c.in_ok-makes.ensures in
    let words : c.in_ok-words.words ≡ Words.Objects ops.Serve = c.in_ok-words.ensures ∙ c.requires.serves in
    let closing : c.closing.result ≡ t.past.closing = c.closing.ensures ∙ before.keeps.left.calls.closing in
    let answer : c.match-closing.answer ≡ no_call t.past.closing = elim c.match-closing.branch as (λ _. c.match-closing.answer ≡ no_call t.past.closing) [
      | in-None w ↦ w.answer-is ∙ ap no_call (sym w.in-None.is ∙ closing)
      | in-Some w ↦ w.answer-is ∙ ap no_call (sym w.in-Some.is ∙ closing)
    ] in
    let keeps = made.keeps t.past s.keeps in
    let now = ap (λ (v : PeerStateView). record v { makes = c.in_ok-makes.makes }) (sym c.self-2.view_is) in
    rw (c.quiet.ensures, words) (subst (λ (v : PeerStateView). Going v t (quiet c.args.command.now.lane (Words.Objects ops.Serve) c.match-closing.answer None)) now
    (begun_uncalled c.args.self.now (record c.begin_serving.new.self { makes = c.in_ok-makes.makes }) t c.args.command.now.lane c.match-closing.answer (c.requires.uncalled t.past s.keeps) answer s made.rest
    (record { left = keeps.left; held = keeps.held; given = keeps.given }) made.made))
