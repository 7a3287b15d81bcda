-- What was said of objects is kept: the messages are put, then the object server's stream is made.
use Rattle.std.proofs.Common.{◌≡◌, sym, ◌∙◌, ap, refl, subst, drop, false}
use Rattle.peer_conn.specs.{Invariant.{PeerStateView, Keeps, StateInvariant}, Going.Going}
use Rattle.peer_core.specs.History.{Past}
use Rattle.peer_route.specs.{Entries.{is_refused, unless_refused}, Plan.server_events}
use Rattle.peer_conn.proofs.{Begun.begun_entry, Called.{posts_by, delivered}, Serving.{begun_objects, calls_beside}}
use Rattle.peer_conn.proofs.state.PeerState.begin_objects.Goals as goal

pub returns-clause-delivers : goal.returns-clause-delivers
returns-clause-delivers c = λ p keeps.
    let old : PeerStateView = record { core = c.self.inside.route; calls = c.self.inside.calls; streams = c.self.inside.streams; server = c.self.inside.server; handles = c.self.inside.handles.items; given = c.self.inside.given.items; makes = c.self.inside.makes } in
    let before : Keeps old p = subst (λ v. Keeps v p) (sym c.self.view_is) keeps in
    let mid = c.issue-issued.new.self in
    let ps = c.args.list.items in
    let server = c.args.self.now.server in
    let put = c.in_ok-put.ensures ∙ ap (λ n. drop n mid.outbox) c.outbox_len-before.ensures in
    delivered false old.core mid p (unless_refused c.args.answer (server_events p.name server)) c.args.command.now.lane c.in_ok-words.words ps c.args.answer c.in_ok-answer.answer c.in_ok-put.put before.left
    (calls_beside (is_refused c.args.answer) p.name server p)
    (posts_by _ _ false old.core mid p ps c.args.answer c.in_ok-answer.answer c.issue-issued.result before.left (c.issue-issued.ensures.issues p before.left) c.in_ok-answer.ensures) put

pub returns-clause-going : goal.returns-clause-going
returns-clause-going c = λ t s.
    let old : PeerStateView = record { core = c.self.inside.route; calls = c.self.inside.calls; streams = c.self.inside.streams; server = c.self.inside.server; handles = c.self.inside.handles.items; given = c.self.inside.given.items; makes = c.self.inside.makes } in
    let before : StateInvariant old t = subst (λ v. StateInvariant v t) (sym c.self.view_is) s in
    let mid = c.issue-issued.new.self in
    let ps = c.args.list.items in
    let said = c.in_ok-answer.answer in
    let made = c.in_ok-makes.ensures in
    let words : c.in_ok-words.words ≡ c.args.command.now.words = c.in_ok-words.ensures in
    let put = c.in_ok-put.ensures ∙ ap (λ n. drop n mid.outbox) c.outbox_len-before.ensures in
    let posts = posts_by _ _ false old.core mid t.past ps c.args.answer said c.issue-issued.result before.keeps.left (c.issue-issued.ensures.issues t.past before.keeps.left) c.in_ok-answer.ensures in
    let is = begun_objects old (record c.begin_unless_refused.new.self { makes = c.in_ok-makes.makes }) mid t c.args.command.now.lane c.args.command.now.words ps c.args.answer said c.in_ok-put.put
    c.requires.objects c.requires.answer c.requires.none c.requires.unawaited c.requires.bare before made.rest posts put
    (λ p keeps. let kept = made.keeps p keeps in record { left = kept.left; held = kept.held; given = kept.given }) made.made in
    let now = ap (λ (v : PeerStateView). record v { makes = c.in_ok-makes.makes }) (sym c.self-2.view_is) in
    rw (words) (subst (λ (v : PeerStateView). Going v t (begun_entry c.args.command.now.lane c.args.command.now.words said c.in_ok-put.put)) now is)
