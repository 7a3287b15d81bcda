use Rattle.std.proofs.Common.{◌≡◌, ◌≢◌, ◌+◌, ◌-◌, sym, ◌∙◌, ap, subst, arith, List, ◌∷◌, Some, Err, IfSome, IfErr}
use Rattle.peer_route.specs.{Replay.{Setting, Replay}, Plan.{Reads, plan}, Entries.{IsEntry, replay, more}}
use Rattle.peer_conn.specs.{Invariant.StateInvariant, Going.{IsFound, read_entry}}
use Rattle.peer_run.specs.{Names.{SourceView, Words, Error, Entry}, Runs.{Takes, SourceMoves, IsRest, RunInvariant}}
use Rattle.wire_framing.specs.Receive.{Receives}
use Rattle.peer_run.specs.Runs as runs
use Rattle.peer_run.proofs.ReadStep.{found_so, follows_found, reads_found, found_moves, refused_moves, is_found}
use Rattle.peer_run.proofs.reading.read.Goals as goal

pub returns-in-Some-clause-moves : goal.returns-in-Some-clause-moves
returns-in-Some-clause-moves g c =
    let faults = (g.S.Source.view c.args.half.now.source).faults in
    subst (λ (e : Entry). SourceMoves Words.Read c.args.state.now.core.calls.closing e.answer faults faults) (sym c.in-Some.ensures.entry) (refused_moves c.args.state.now.core.calls.closing faults)

pub returns-clause-follows : goal.returns-clause-follows
returns-clause-follows g c =
    let old = c.args.state.now in
    let new = c.read.new.self in
    let lane = c.args.lane in
    let found = c.receive-found.result in
    let is = c.read.ensures in
    let count = c.received.ensures in
    let then : SourceView = g.S.Source.view c.receive-found.new.half.source in
    let now : SourceView = g.S.Source.view c.args.half.now.source in
    found_so (λ e. (setting : Setting) (es : List Entry) → RunInvariant setting old es → RunInvariant setting new (e ∷ es))
    (λ e. (t : Replay) → StateInvariant old t → plan t lane Words.Read ≡ Reads → IsEntry t e × StateInvariant new (more t e)) (found ≢ Err Error.Memory) (read_entry lane found) c.read.result is.entry is.found is.reads
    (λ n q setting es f.
    let means = c.read_refusal.ensures.reads c.in_default.is (replay setting es) f.stands in
    let next : IsFound old.core.read found = is_found old.core.read found now then (subst (λ n. Takes (n + 1) found now then) count c.receive-found.ensures.takes) (λ at. c.receive-found.ensures.last (ap (λ n. n + 1) count ∙ at)) f.within in
    follows_found setting old new es lane found means next (q (replay setting es) f.stands means) f)

pub returns-clause-reads : goal.returns-clause-reads
returns-clause-reads g c =
    let old = c.args.state.now in
    let new = c.read.new.self in
    let lane = c.args.lane in
    let found = c.receive-found.result in
    let is = c.read.ensures in
    let count = c.received.ensures in
    let seq : c.received.result + 1 - 1 ≡ old.core.read = omega (arith, count) in
    let open_ = (c.read_refusal.ensures.may c.in_default.is).0 in
    let then : SourceView = g.S.Source.view c.receive-found.new.half.source in
    let now : SourceView = g.S.Source.view c.args.half.now.source in
    found_so (λ e. (setting : Setting) (start : SourceView) (es : List Entry) → RunInvariant setting old es → runs.Reads setting start now es → runs.Reads setting start then (e ∷ es)) (λ e. e ≡ read_entry lane found) (found ≢ Err Error.Memory)
    (read_entry lane found) c.read.result is.entry is.found is.entry
    (λ never q setting start es f r.
    let means = c.read_refusal.ensures.reads c.in_default.is (replay setting es) f.stands in
    reads_found setting start now then old es lane found f open_ means never
    (subst (λ n. IfSome now.left (λ bytes. Receives now.stop n bytes found)) seq c.receive-found.ensures.told)
    (subst (λ n. Takes (n + 1) found now then) count c.receive-found.ensures.takes)
    (subst (λ n. IfErr found (λ e. e ≢ Error.Memory → IfSome now.left (λ bytes. IsRest (Some e) n bytes now.stop then))) seq c.receive-found.ensures.rest) r)

pub returns-clause-moves : goal.returns-clause-moves
returns-clause-moves g c =
    let found = c.receive-found.result in
    let is = c.read.ensures in
    let open_ = (c.read_refusal.ensures.may c.in_default.is).0 in
    let then : SourceView = g.S.Source.view c.receive-found.new.half.source in
    let now : SourceView = g.S.Source.view c.args.half.now.source in
    found_so (λ e. SourceMoves Words.Read c.args.state.now.core.calls.closing e.answer now.faults then.faults) (λ e. e ≡ read_entry c.args.lane found) (found ≢ Err Error.Memory) (read_entry c.args.lane found) c.read.result is.entry is.found is.entry
    (λ n q. subst (λ o. SourceMoves Words.Read o (read_entry c.args.lane found).answer now.faults then.faults) (sym open_)
    (found_moves c.args.lane (c.received.result + 1) found now then c.receive-found.ensures.takes))
