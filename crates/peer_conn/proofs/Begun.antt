-- A command is begun; a read takes a message.
use Rattle.std.proofs.{Common.{◌≡◌, ℕ, ◌+◌, inl, inr, refl, sym, ◌∙◌, ap, subst, arith, false, List, [], ◌∷◌, ◌++◌, length, drop, Option, Some, None, Ok}, Math.Seq.drop-append_seam, lemmas.List.append-nil}
use Rattle.std.specs.List.{AllByRecursion}
use Rattle.peer_conn.specs.{Names.{MessageView, Received, Words, Answer, Entry, Acted, Makes}, Invariant.{PeerStateView, Keeps, StateInvariant, Did, OwnsBy, stream_owners, server_of, AreTaken}, Going.{Going, IsActing, IsFound, read_entry}}
use Rattle.peer_core.specs.{History.{Event, Made, Past, Received as Took, after}, Refinement.{Refines}}
use Rattle.peer_calls.specs.{History.{Outbox, Purpose, AddMatch}, Issuing.Posting}
use Rattle.peer_route.specs.{Replay.{Replay, Owners, new_owners, asked_owners, made_owners, stream_owner}, Plan.{Plan, Says, Sends, Reads, plan}, Entries.{IsEntry, IsMeant, deeds, maker, server_after, postings, more, more_by}}
use Rattle.peer_core.proofs.Core.{left_passed}
use Rattle.peer_route.proofs.Given.{given_took}
use Rattle.peer_conn.specs.Handles.{HasHandles}
use Rattle.peer_conn.proofs.Held.{held_took}
use Rattle.peer_conn.proofs.Laid.{Laid, laid, plan_does}

-- ---- what a lane's command made

-- all of them are the lane's
abbrev AreOf : ℕ → Owners → Type 0
AreOf lane owners = AllByRecursion (λ owner. owner ≡ Some lane) owners

purpose_of : (lane : ℕ) (purpose : Purpose) (owners : Owners) → AreOf lane owners → AreOf lane (stream_owner lane false purpose ++ owners)
purpose_of lane (AddMatch rule asked) owners are = (refl, are)
purpose_of lane purpose owners are = are

asked_of : (lane : ℕ) (ds : List Posting) (ms : List MessageView) → AreOf lane (asked_owners lane false ds ms)
asked_of lane [] ms = tt
asked_of lane (d ∷ ds) [] = tt
asked_of lane (d ∷ ds) (m ∷ ms) = purpose_of lane d.purpose (asked_owners lane false ds ms) (asked_of lane ds ms)

made_of : (lane : ℕ) (es : List Event) (owners : Owners) → AreOf lane owners → AreOf lane (made_owners (Some lane) es ++ owners)
made_of lane [] owners are = are
made_of lane (Made making ∷ es) owners are = (refl, made_of lane es owners are)
made_of lane (e ∷ es) owners are = made_of lane es owners are

-- so none of them is the object server's, which is nobody's
not_server : (lane streams : ℕ) (server : Option ℕ) (made : Makes) → AreOf lane (stream_owners lane false made) → server_of streams server made ≡ server
not_server lane streams server Makes.Server are = let no : None ≡ Some lane = are.0 in cc
not_server lane streams server made are = refl

-- what it made by itself is the lane's too
lane_makes : (t : Replay) (v : PeerStateView) (lane : ℕ) (pl : Plan) (a : Acted) → Did v t lane pl a → maker pl lane ≡ Some lane
lane_makes t v lane (Says answer done) a did = refl
lane_makes t v lane (Sends done ds sent) a did = refl
lane_makes t v lane pl a did = absurd did

still_serves : (t : Replay) (v : PeerStateView) (lane : ℕ) (pl : Plan) (a : Acted) (answer : Answer) (streams : ℕ) (server : Option ℕ) → Did v t lane pl a → server_after pl answer streams server ≡ server
still_serves t v lane (Says said done) a answer streams server did = refl
still_serves t v lane (Sends done ds sent) a answer streams server did = refl
still_serves t v lane pl a answer streams server did = absurd did

-- ---- a command is begun

acting_by : (t : Replay) (v : PeerStateView) (lane : ℕ) (pl : Plan) (a : Acted) (e : Entry) → Did v t lane pl a → IsMeant t.past pl e → IsActing t.past pl e
acting_by t v lane (Says answer done) a e did is = is
acting_by t v lane (Sends done ds sent) a e did is = is
acting_by t v lane pl a e did is = absurd did

abbrev pub begun_entry : ℕ → Words → Answer → List MessageView → Entry
begun_entry lane w answer put = record { lane = lane; words = w; answer = answer; read = None; put = put; written = 0; failed = false }

pub begun : (old v : PeerStateView) (t : Replay) (lane : ℕ) (w : Words) (a : Acted) (put : List MessageView) → StateInvariant old t → v.calls ≡ old.calls → v.streams ≡ old.streams → v.server ≡ old.server → put ≡ drop (length old.core.outbox) v.core.outbox
    → Did v t lane (plan t lane w) a → Going (record v { makes = a.makes }) t (begun_entry lane w a.answer put)
begun old v t lane w a put s calls streams server is did = let some = laid t v lane (plan t lane w) a (plan_does t lane w) did in by some.0 some.1 some.2
  where
    by : (q : Past) (ms : List MessageView) → Laid t v lane (plan t lane w) a q ms → Going (record v { makes = a.makes }) t (begun_entry lane w a.answer put)
    by q ms l =
        let pl = plan t lane w in
        let e = begun_entry lane w a.answer put in
        let outbox : v.core.outbox ≡ old.core.outbox ++ ms = l.keeps.left.outbox ∙ ap (λ (o : Outbox). o.put) l.outbox.1 ∙ ap (λ xs. xs ++ ms) (sym s.keeps.left.outbox) in
        let behind : put ≡ ms = is ∙ ap (drop (length old.core.outbox)) outbox ∙ drop-append_seam old.core.outbox ms in
        record {
          acting = acting_by t v lane pl a e did (l.meant e refl behind refl (omega arith) (λ fails. absurd (cc)) (inl (refl, refl)));
          keeps = let kept = subst (Keeps v) (sym (l.leads e behind)) l.keeps in record { left = kept.left; held = kept.held; given = kept.given };
          calls = calls ∙ s.calls;
          streams = streams ∙ s.streams;
          server = server ∙ s.server;
          owns = subst (λ m. OwnsBy m lane a.makes (postings pl) put (deeds pl e)) (sym (lane_makes t v lane pl a did)) (λ failed. (
            l.calls failed ∙ ap (new_owners lane failed (postings pl)) (sym behind),
            l.streams failed e ∙ ap (λ xs. made_owners (Some lane) (deeds pl e) ++ asked_owners lane failed (postings pl) xs) (sym behind),
          ));
          serves = not_server lane (length t.streams) t.server a.makes (subst (AreOf lane) (sym (l.streams false e)) (made_of lane (deeds pl e) (asked_owners lane false (postings pl) ms) (asked_of lane (postings pl) ms)))
              ∙ sym (still_serves t v lane pl a a.answer (length t.streams) t.server did);
          taken = subst (AreTaken t.setting.takes_fds) (sym behind) l.taken;
        }

-- ---- a read

-- a message was taken
pub read_got : (v new : PeerStateView) (t : Replay) (lane : ℕ) (m : MessageView) → StateInvariant v t → IsFound v.core.read (Ok (Received.Message m)) → new.calls ≡ v.calls → new.streams ≡ v.streams → new.server ≡ v.server → new.handles ≡ v.handles → new.given ≡ v.given → Refines new.core (after (Took m) t.past)
    → plan t lane Words.Read ≡ Reads → IsEntry t (read_entry lane (Ok (Received.Message m))) × StateInvariant new (more t (read_entry lane (Ok (Received.Message m))))
read_got v new t lane m s found calls streams server held given left means =
    let e = read_entry lane (Ok (Received.Message m)) in
    let was = s.keeps.left in
    let count : length t.past.read ≡ v.core.read = sym was.read in
    subst (λ pl. IsMeant t.past pl e × StateInvariant new (more_by pl e t)) (sym means) (
      ((refl, found.0, found.1 ∙ ap (λ n. n + 1) (sym count), rw count found.2), record { put = refl; written = refl; failed = refl }),
      record {
        keeps = record { left = left; held = subst (HasHandles (after (Took m) t.past)) (sym held) (held_took m v.core t.past v.handles was s.keeps.held); given = given ∙ s.keeps.given ∙ sym (given_took m v.core t.past was) };
        calls = calls ∙ s.calls ∙ sym (append-nil t.calls);
        streams = streams ∙ s.streams ∙ sym (append-nil t.streams) ∙ sym (append-nil (t.streams ++ []));
        server = server ∙ s.server;
      },
    )

-- a front was ignored
pub read_passed : (v : PeerStateView) (t : Replay) (lane : ℕ) (bytes : List ℕ) → StateInvariant v t → IsFound v.core.read (Ok (Received.Passed bytes)) → plan t lane Words.Read ≡ Reads
    → IsEntry t (read_entry lane (Ok (Received.Passed bytes))) × StateInvariant v (more t (read_entry lane (Ok (Received.Passed bytes))))
read_passed v t lane bytes s found means =
    let e = read_entry lane (Ok (Received.Passed bytes)) in
    let was = s.keeps.left in
    let count : length t.past.read ≡ v.core.read = sym was.read in
    subst (λ pl. IsMeant t.past pl e × StateInvariant v (more_by pl e t)) (sym means) (
      (inr (bytes, refl, found.0, rw count found.1), record { put = refl; written = refl; failed = refl }),
      record {
        keeps = record { left = left_passed v.core bytes t.past was; held = s.keeps.held; given = s.keeps.given };
        calls = s.calls ∙ sym (append-nil t.calls);
        streams = s.streams ∙ sym (append-nil t.streams) ∙ sym (append-nil (t.streams ++ []));
        server = s.server;
      },
    )
