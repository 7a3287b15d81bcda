-- What an entry is to the objects, whatever is written of it.
use Rattle.std.proofs.{Common.{◌≡◌, ℕ, ◌≤◌, ◌<◌, arith, refl, sym, ◌∙◌, ap, subst, Bool, true, false, if◌then◌else◌, List, [], length, Option, Some, None, Result, Ok, Err, IfOk}}
use Rattle.peer_turns.specs.{Names.{MessageView, Error, Words, ObjectOp, Answer, Entry}, Objects.{AsksIn, AnswersCommand, Turns, is_replied, noted}}
use Rattle.peer_objects.specs.Notifying.{awaiting}
use Rattle.peer_conn.specs.{Invariant.{PeerStateView, StateInvariant}, Going.IsActing}
use Rattle.peer_route.specs.{Replay.Replay, Plan.{Plan, Says, Sends, Reads, Serves, Dispatches, Closes, Writes, Never, call_answer, plan}, Entries.{IsSending, IsLater, write_fault}}
use Rattle.object_interface.specs.Meaning.{Meaning}
use Rattle.peer_service.specs.Service.{ServiceView}
use Rattle.peer_calls.specs.Issuing.{Posting}
use Rattle.peer_route.proofs.{Plans.{IsFair, fair}, Sent.{within, quiet_or}}

unfailed : (b : Bool) (n : ℕ) → (b ≡ true → n < 0) → b ≡ false
unfailed true n cut = let less = cut refl in let no : ⊥ = omega (arith, less) in absurd no
unfailed false n cut = refl

-- what was written of an entry's messages
abbrev WritesOn : Entry → Entry → Type 0
WritesOn first last = last ≡ record first { written = last.written; failed = last.failed; answer = if last.failed then write_fault else first.answer }

-- messages that are sent are, however many are written
sent_on : (r : Result (List ℕ) Error) (ds : List Posting) (said : Answer) (first last : Entry) → WritesOn first last → IsLater first → last.written ≤ length last.put → (last.failed ≡ true → last.written < length last.put)
    → IsSending r ds (λ serials. said) first → IsSending r ds (λ serials. said) last
sent_on (Ok serials) ds said first last is later most cut x =
    let put : last.put ≡ first.put = ap (λ (e : Entry). e.put) is in
    let all = put ∙ x.put in
    record {
      put = all;
      answer = ap (λ (e : Entry). e.answer) is ∙ ap (λ a. if last.failed then write_fault else a) (x.answer ∙ ap (λ b. if b then write_fault else said) later.1);
      written = subst (λ (ms : List MessageView). last.written ≤ length ms) all most;
      cut = λ failed. subst (λ (ms : List MessageView). last.written < length ms) all (cut failed);
    }
sent_on (Err error) ds said first last is later most cut x =
    let none : last.put ≡ [] = ap (λ (e : Entry). e.put) is ∙ x.1.put in
    let nothing : last.written ≤ 0 = subst (λ (ms : List MessageView). last.written ≤ length ms) none most in
    let fine = unfailed last.failed last.written (λ failed. subst (λ (ms : List MessageView). last.written < length ms) none (cut failed)) in
    (ap (λ (e : Entry). e.answer) is ∙ ap (λ b. if b then write_fault else first.answer) fine ∙ x.0, record { put = none; written = omega (arith, nothing); failed = fine })

-- What an entry is to the objects it stays, whatever is written of it.
pub still_turned : (meanings : ℕ → Meaning) (t : Replay) (first last : Entry) (old new : ServiceView) → WritesOn first last → IsLater first → IsActing t.past (plan t last.lane last.words) last
    → Turns meanings t.past (plan t first.lane first.words) first old new → Turns meanings t.past (plan t last.lane last.words) last old new
still_turned meanings t first last old new is later acting turns =
    by (plan t last.lane last.words) acting (subst (λ pl. Turns meanings t.past pl first old new) (sym (ap (λ (x : Entry). plan t x.lane x.words) is)) turns)
  where
    by : (pl : Plan) → IsActing t.past pl last → Turns meanings t.past pl first old new → Turns meanings t.past pl last old new
    by (Serves None done) acting so =
        let bounds = within t.past (Serves None done) last (quiet_or t.past (Serves None done) last acting) in
        record {
          said = so.said;
          list = so.list;
          asks = subst (λ w. AsksIn meanings w so.said so.list old new) (sym (ap (λ (x : Entry). x.words) is)) so.asks;
          delivers = sent_on _ _ so.said first last is later bounds.0 bounds.1 so.delivers;
        }
    by (Serves (Some said) done) acting so = so
    by (Dispatches k m) acting so =
        let bounds = within t.past (Dispatches k m) last (quiet_or t.past (Dispatches k m) last acting) in
        let put : last.put ≡ first.put = ap (λ (e : Entry). e.put) is in
        record {
          list = so.list;
          notifier = so.notifier;
          served = so.served;
          numbers = so.numbers;
          shelf = so.shelf;
          machine = so.machine;
          notified = so.notified ∙ ap (λ (ms : List MessageView). noted (is_replied m ms) so.notifier (awaiting so.notifier old.notified)) (sym put);
          delivers = sent_on _ _ (call_answer m) first last is later bounds.0 bounds.1 so.delivers;
        }
    by (Says answer done) acting so = so
    by (Sends done ds sent) acting so = so
    by Reads acting so = so
    by Closes acting so = so
    by (Writes fails) acting so = so
    by Never acting so = so

-- the command asks something of objects
abbrev pub is_on_objects : Words → Bool
is_on_objects (Words.Objects op) = true
is_on_objects w = false

-- another leaves them as they were
pub turns_still : (meanings : ℕ → Meaning) (t : Replay) (lane : ℕ) (w : Words) (e : Entry) (v : ServiceView) → is_on_objects w ≡ false → Turns meanings t.past (plan t lane w) e v v
turns_still meanings t lane w e v other = by (plan t lane w) (fair t lane w)
  where
    by : (pl : Plan) → IsFair t w pl → Turns meanings t.past pl e v v
    by (Serves None done) f = let q : true ≡ false = sym (ap is_on_objects f.asked.1) ∙ other in cc
    by (Serves (Some said) done) f = refl
    by (Dispatches k m) f = let q : true ≡ false = sym (ap is_on_objects f.asked) ∙ other in cc
    by (Says answer done) f = refl
    by (Sends done ds sent) f = refl
    by Reads f = refl
    by Closes f = refl
    by (Writes fails) f = refl
    by Never f = refl

not_on : (w : Words) → ((op : ObjectOp) → w ≡ Words.Objects op → ⊥) → is_on_objects w ≡ false
not_on (Words.Objects op) other = absurd (other op refl)
not_on w other = refl

-- so does whatever comes of beginning its entry
pub begun_still : {E : Type 0} (r : Result Entry E) (meanings : ℕ → Meaning) (p : PeerStateView) (lane : ℕ) (w : Words) (v : ServiceView) → ((op : ObjectOp) → w ≡ Words.Objects op → ⊥) → IfOk r (λ e. (e.lane ≡ lane) × (e.words ≡ w))
    → IfOk r (λ e. (t : Replay) → StateInvariant p t → Turns meanings t.past (plan t e.lane e.words) e v v)
begun_still (Ok e) meanings p lane w v other command = λ t s. turns_still meanings t e.lane e.words e v (ap is_on_objects command.1 ∙ not_on w other)
begun_still (Err error) meanings p lane w v other command = tt
