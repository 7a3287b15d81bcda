-- A call is answered: the messages are put, then the call is taken.
use Rattle.std.proofs.Common.{◌≡◌, sym, ◌∙◌, ap, refl, subst, drop, true, [], ◌∷◌, Some, Result, Ok, Err, OnErr}
use Rattle.peer_conn.specs.{Names.{Makes, Words}, Invariant.{PeerStateView, Keeps, StateInvariant, Untaken}, Going.Going}
use Rattle.peer_core.specs.{History.{Past, Did}, Refinement.Refines}
use Rattle.peer_streams.specs.History.{Gave}
use Rattle.peer_core.specs.Issuing.{issued}
use Rattle.peer_route.specs.{Entries.object_postings, Plan.next_call}
use Rattle.peer_words.specs.declared.words.ObjectOp.TheVariants as ops
use Rattle.peer_conn.proofs.{Begun.begun_entry, Called.{PostsBy, posts_by, delivered, called_going, untaken_put}}
use Rattle.peer_conn.proofs.state.PeerState.begin_called.Goals as goal

on_err : {A E P : Type 0} (r : Result A E) → P → OnErr r P
on_err (Ok x) p = tt
on_err (Err e) p = p

pub returns-in_err-put-clause-untaken : goal.returns-in_err-put-clause-untaken
returns-in_err-put-clause-untaken c =
    let old : PeerStateView = record { core = c.self.inside.route; calls = c.self.inside.calls; streams = c.self.inside.streams; server = c.self.inside.server; handles = c.self.inside.handles.items; given = c.self.inside.given.items; makes = c.self.inside.makes } in
    let new : PeerStateView = record old { core = c.issue-issued.new.self } in
    let so : Untaken c.args.self.now new = subst (λ (v : PeerStateView). Untaken v new) c.self.view_is
    (untaken_put old new c.issue-issued.new.self c.args.list.items c.args.answer c.in_ok-answer.answer refl
    (λ p left. posts_by _ _ true old.core c.issue-issued.new.self p c.args.list.items c.args.answer c.in_ok-answer.answer c.issue-issued.result left (c.issue-issued.ensures.issues p left) c.in_ok-answer.ensures)) in
    on_err _ so

pub returns-clause-delivers : goal.returns-clause-delivers
returns-clause-delivers c = λ p k keeps server.
    let old : PeerStateView = record { core = c.self.inside.route; calls = c.self.inside.calls; streams = c.self.inside.streams; server = c.self.inside.server; handles = c.self.inside.handles.items; given = c.self.inside.given.items; makes = c.self.inside.makes } in
    let before : Keeps old p = subst (λ v. Keeps v p) (sym c.self.view_is) keeps in
    let put = c.in_ok-put.ensures ∙ ap (λ n. drop n c.issue-issued.new.self.outbox) c.outbox_len-before.ensures in
    delivered true old.core c.issue-issued.new.self p (Did k Gave ∷ []) c.args.command.now.lane c.in_ok-words.words c.args.list.items c.args.answer c.in_ok-answer.answer c.in_ok-put.put before.left refl
    (posts_by _ _ true old.core c.issue-issued.new.self p c.args.list.items c.args.answer c.in_ok-answer.answer c.issue-issued.result before.left (c.issue-issued.ensures.issues p before.left) c.in_ok-answer.ensures) put

pub returns-clause-going : goal.returns-clause-going
returns-clause-going c = λ t s.
    let old : PeerStateView = record { core = c.self.inside.route; calls = c.self.inside.calls; streams = c.self.inside.streams; server = c.self.inside.server; handles = c.self.inside.handles.items; given = c.self.inside.given.items; makes = c.self.inside.makes } in
    let before : StateInvariant old t = subst (λ v. StateInvariant v t) (sym c.self.view_is) s in
    let mid = c.issue-issued.new.self in
    let ps = c.args.list.items in
    let m = c.args.call.now in
    let said = c.in_ok-answer.answer in
    let ds = object_postings true t.past.name ps in
    let words : c.in_ok-words.words ≡ Words.Objects ops.Serve = c.in_ok-words.ensures ∙ c.requires.serves in
    let next : next_call t.past old.server ≡ Some m = subst (λ (v : PeerStateView). next_call t.past v.server ≡ Some m) (sym c.self.view_is) (c.requires.next t.past s.keeps) in
    let put = c.in_ok-put.ensures ∙ ap (λ n. drop n mid.outbox) c.outbox_len-before.ensures in
    let posts = posts_by _ _ true old.core mid t.past ps c.args.answer said c.issue-issued.result before.keeps.left (c.issue-issued.ensures.issues t.past before.keeps.left) c.in_ok-answer.ensures in
    let is = called_going old (record c.take_call.new.self { makes = Makes.Nothing }) mid t c.args.command.now.lane m ps said c.in_ok-put.put before next c.requires.unawaited c.requires.bare
    (subst (λ a. PostsBy old.core mid ds t.past a said (issued t.past ds)) c.requires.answer posts) put
    (λ p k keeps server n. let kept = c.take_call.ensures.keeps p k m keeps server n in record { left = kept.left; held = kept.held; given = kept.given }) c.take_call.ensures.rest refl in
    let now = ap (λ (v : PeerStateView). record v { makes = Makes.Nothing }) (sym c.self-2.view_is) in
    rw (words) (subst (λ (v : PeerStateView). Going v t (begun_entry c.args.command.now.lane (Words.Objects ops.Serve) said c.in_ok-put.put)) now is)
