-- A run over what a script gives, in memory, is a history of the script.
use Rattle.std.proofs.{Common.{◌≡◌, ℕ, refl, sym, ◌∙◌, subst, Bool, List, [], length, Option, Some, None, ap, ◌∷◌, ◌++◌, map, reverse}, lemmas.List.reverse-append}
use Rattle.std.specs.List.{AllByRecursion}
use Rattle.peer_run.specs.{Names.{SourceView, SinkView, Script, is_bus, name_of, given, command_of, Entry, Command, MessageView}, Histories.{IsHistory, source_bytes, source_breaks}, Runs.{Holds, Runs}}
use Rattle.wire_framing.specs.{Memory.{told_bytes, told_stop}, declared.memory.Piece.Piece, declared.memory.Piece.TheVariants.{Bytes, Fault}}
use Rattle.peer_script.specs.declared.kind.PeerKind.{PeerKind}
use Rattle.peer_route.specs.{Replay.Setting, Entries.{Legal, replay}, Environment.{IsSentBytes, IsCutAt}}
use Rattle.peer_words.specs.OfRun.{IsOfRun}
use Rattle.peer_turns.specs.Objects.{Handed, on_machine}
use Rattle.peer_route.proofs.{Plans.legal_from, Read.{once, by_the_first, by_the_closing_error}, Yields.{yields, opened_yields, asked_yields, clone_yields}, ClosedStreams.{closed_for_good, denied_for_good}, Drained.{ended, busy_there}}
use Rattle.peer_route.proofs.Sent as sends

-- pieces tell what a script gives
pub told_given : (pieces : List Piece) → told_bytes pieces ≡ source_bytes (given pieces)
told_given [] = refl
told_given (Bytes v ∷ pieces) = ap (λ bs. v.items ++ bs) (told_given pieces)
told_given (Fault ∷ pieces) = refl

pub told_breaks : (pieces : List Piece) → told_stop pieces ≡ source_breaks (given pieces)
told_breaks [] = refl
told_breaks (Bytes v ∷ pieces) = told_breaks pieces
told_breaks (Fault ∷ pieces) = refl

all_append : {X : Type 0} (P : X → Type 0) (xs ys : List X) → AllByRecursion P xs → AllByRecursion P ys → AllByRecursion P (xs ++ ys)
all_append P [] ys a b = b
all_append P (x ∷ xs) ys a b = (a.0, all_append P xs ys a.1 b)

-- the entries are those of a script's commands
of_run : (es : List Entry) (cs : List Command) → map command_of es ≡ cs → AllByRecursion (λ (c : Command). IsOfRun c.words) cs → AllByRecursion (λ (e : Entry). IsOfRun e.words) (reverse es)
of_run [] cs e all = tt
of_run (x ∷ es) [] e all = cc
of_run (x ∷ es) (c ∷ cs) e all =
    let front : command_of x ≡ c = cc in
    let older = of_run es cs (let rest : map command_of es ≡ cs = cc in rest) all.1 in
    subst (AllByRecursion (λ (e : Entry). IsOfRun e.words)) (sym (reverse-append (x ∷ []) es)) (all_append (λ (e : Entry). IsOfRun e.words) (reverse es) (x ∷ []) older (subst (λ (k : Command). IsOfRun k.words) (sym front) all.0, tt))

-- what a sink that was empty holds, and the room that it had
sent_of : (room : Option ℕ) (held : List ℕ) (failed : Bool) (count : ℕ) (ms : List MessageView) → Holds (Some room) [] (Some held) failed count ms → IsSentBytes failed count ms held × IsCutAt (Some room) failed held
sent_of room held failed count ms (sent, is, bytes, cut) = let same : sent ≡ held = cc in (subst (IsSentBytes failed count ms) same bytes, subst (IsCutAt (Some room) failed) same cut)

-- the script of these parts
abbrev script_from : PeerKind → Option ℕ → Option (List ℕ) → Bool → Option ℕ → List Piece → List Command → Script
script_from kind queue machine fds outfault pieces commands = record { kind = kind; queue = queue; machine = machine; fds = fds; outfault = outfault; given = given pieces; commands = commands }

-- a run over what a script gives, in memory, is a history of the script
pub in_memory : (boxes : Handed) (kind : PeerKind) (queue : Option ℕ) (machine : Option (List ℕ)) (fds : Bool) (outfault : Option ℕ) (pieces lent : List Piece) (commands : List Command)
    (start_in : SourceView) (start_out : SinkView) (end_in : SourceView) (end_out : SinkView) (takes : Bool) (entries : List Entry) (held : List ℕ)
    → AllByRecursion (λ (c : Command). IsOfRun c.words) commands → lent ≡ pieces → start_in.left ≡ Some (told_bytes lent) → start_in.stop ≡ Some (told_stop lent)
    → start_out.held ≡ Some [] → start_out.room ≡ Some outfault → end_out.held ≡ Some held → takes ≡ fds
    → Runs (on_machine machine boxes) (record { bus = is_bus kind; name = name_of kind; takes_fds = takes; queue = queue }) start_in start_out end_in end_out commands entries
    → IsHistory boxes (script_from kind queue machine fds outfault pieces commands) entries held
in_memory boxes kind queue machine fds outfault pieces lent commands start_in start_out end_in end_out takes entries held ours same left stop empty room after takes_is run =
    let setting : Setting = record { bus = is_bus kind; name = name_of kind; takes_fds = fds; queue = queue } in
    let h = reverse entries in
    let r : Runs (on_machine machine boxes) setting start_in start_out end_in end_out commands entries = subst (λ b. Runs (on_machine machine boxes) (record { bus = is_bus kind; name = name_of kind; takes_fds = b; queue = queue }) start_in start_out end_in end_out commands entries) takes_is run in
    let o = (replay setting h).past.outbox in
    let w = sent_of outfault held o.failed o.written o.put (rw (empty, room, after) at r.writes) in
    let all : (newer : List Entry) (e : Entry) (older : List Entry) → h ≡ newer ++ e ∷ older → Legal setting (newer ++ e ∷ older) = λ newer e older is. subst (Legal setting) is r.legal in
    let before : (newer : List Entry) (e : Entry) (older : List Entry) → h ≡ newer ++ e ∷ older → Legal setting (e ∷ older) = λ newer e older is. legal_from setting newer (e ∷ older) (all newer e older is) in
    record {
      objects = r.objects;
      replies = r.replies;
      legal = r.legal;
      once = r.once;
      each = r.each;
      whole = record {
        reads = rw (left ∙ ap Some (ap told_bytes same ∙ told_given pieces), stop ∙ ap Some (ap told_stop same ∙ told_breaks pieces)) at r.reads.told;
        first = λ newer e older is number q w at. by_the_first setting older e number q (before newer e older is) w at;
        cut_off = λ newer e older is number error w at. by_the_closing_error setting older e number error (before newer e older is) w at;
        once = λ newer e older is number w f. once setting newer older e number (all newer e older is) w f;
        yields = λ newer e older is number w a. yields setting newer e older number (all newer e older is) w a;
        rules = λ newer e older is number asked text rule w found a. opened_yields setting newer e older number asked text rule (all newer e older is) w found a;
        asked = λ newer e older is number serial asked text rule w found a. asked_yields setting newer e older number serial asked text rule (all newer e older is) w found a;
        clones = λ newer e older is number original w a. clone_yields setting newer e older number original (all newer e older is) w a;
        ends = λ newer e older is number w last. ended setting newer older e number (all newer e older is) w last;
        closes = λ newer e older is number w a. closed_for_good setting newer older e number (all newer e older is) w a;
        denied = λ newer e older is number w a. denied_for_good setting newer older e number (all newer e older is) w a;
        waits = λ newer e older is w many. busy_there setting older e (before newer e older is) w many;
        bytes = w.0;
        room = rw room at r.room;
        cut = w.1;
        shuts = rw room at r.closes;
        put_is = sends.sent setting h r.legal r.once (of_run entries commands r.each ours);
      };
    }
