-- Messages are issued: what the core is then, and why they may be refused.
use Rattle.std.specs.{List.list_any}
use Rattle.std.proofs.{Common.{arith, ◌≡◌, ℕ, refl, sym, ◌∙◌, ap, subst, Bool, true, false, List, [], ◌∷◌, ◌++◌, length, map, Option, None, Some, Ok, Err, append_assoc}, lemmas.List.append-nil}
use Rattle.peer_core.specs.{Names.{MessageView, Error, Issued}, History.{Put, Past, after, after_all, calls_of}, Issuing.{puts, put_of, put_each, issued, drawn, IssuesAll}, Refinement.{RouteView, Refines}, Placing.{RefinesPosts, PutsAll, IsMore}, BusCall.last_of}
use Rattle.peer_streams.specs.{History.Capacities, Refinement.AreStreams}
use Rattle.peer_calls.specs.{History.{CallsPast}, Issuing.{Posting, posted, outgoings, some_long, messages_of, barred}, Refinement.CallsView, Placing.{posts, IsCounted, IsPlaced, Places, Draws}}
use Rattle.wire_message.specs.Outgoing.{OutgoingMessageView, message_of, sent_by, expects, is_deep}
use Rattle.peer_core.proofs.Core.{sound_past}
use Rattle.peer_calls.specs.Issuing.{issued as calls_issued}
use Rattle.peer_calls.specs.Issuing.{put_each as calls_put_each}
use Rattle.peer_calls.proofs.{CallsMade.{IsSound}, Drawn.{message_serial, purpose_of}, Refusing.{are_deep, deep_posts, issued_spent, issued_long, issued_by_writer}}

-- ---- serials are drawn

pub put_puts : (ds : List Posting) (serials : List ℕ) (h : Past) → put_each ds serials h ≡ after_all (puts ds (messages_of (outgoings ds) serials)) h
put_puts [] serials h = refl
put_puts (d ∷ ds) [] h = refl
put_puts (d ∷ ds) (serial ∷ serials) h = put_puts ds serials (after (put_of d serial) h)

-- they stand at the end of the outbox
pub put_outbox : (ds : List Posting) (serials : List ℕ) (h : Past) → (put_each ds serials h).outbox.put ≡ h.outbox.put ++ messages_of (outgoings ds) serials
put_outbox [] serials h = sym (append-nil h.outbox.put)
put_outbox (d ∷ ds) [] h = sym (append-nil h.outbox.put)
put_outbox (d ∷ ds) (serial ∷ serials) h =
    let m = message_of d.outgoing serial in
    put_outbox ds serials (after (put_of d serial) h) ∙ append_assoc h.outbox.put (m ∷ []) (messages_of (outgoings ds) serials)

-- the last serial that was drawn is the last message's
pub put_last : (d : Posting) (ds : List Posting) (serials : List ℕ) (h : Past) → length serials ≡ length (d ∷ ds) → Some (put_each (d ∷ ds) serials h).outbox.last ≡ last_of serials
put_last d ds [] h e = absurd (omega (arith, e))
put_last d [] (serial ∷ []) h e = ap Some (message_serial d.outgoing serial)
put_last d [] (serial ∷ s ∷ serials) h e = absurd (omega (arith, e))
put_last d (e ∷ ds) (serial ∷ []) h f = absurd (omega (arith, f))
put_last d (e ∷ ds) (serial ∷ s ∷ serials) h f = put_last e ds (s ∷ serials) (after (put_of d serial) h) (omega (arith, f))

-- ---- what putting gives

pub puts_none : {A : Type 0} (items : A → List Issued) (v : RouteView) (h : Past) (ps : List OutgoingMessageView) (internal : Bool) (name : Option (List ℕ)) (served : Bool) (issued : A) → ps ≡ [] → items issued ≡ [] → RefinesPosts v h
    → PutsAll items v (posts internal name served ps) h (Ok issued)
unfolding calls_issued
puts_none items v h [] internal name served answer e f left = ([], refl, f, left)
puts_none items v h (p ∷ ps) internal name served answer e f left = cc

-- the calls' part of putting messages
pub calls_put : (ds : List Posting) (serials : List ℕ) (h : Past) → calls_of (put_each ds serials h) ≡ calls_put_each ds serials (calls_of h)
calls_put [] serials h = refl
calls_put (d ∷ ds) [] h = refl
calls_put (d ∷ ds) (serial ∷ serials) h = calls_put ds serials (after (put_of d serial) h)

-- what a message that makes no stream leaves as it is
record Quiet (g q : Past) : Type 0 where
  bus : q.bus ≡ g.bus
  name : q.name ≡ g.name
  read : q.read ≡ g.read
  streams : q.streams ≡ g.streams
  capacities : q.capacities ≡ g.capacities
  done : q.outbox.done ≡ g.outbox.done
  writer : q.outbox.writer ≡ g.outbox.writer
  sound : IsSound (calls_of g) → IsSound (calls_of q)

quiet_put : (internal waits : Bool) (m : MessageView) (g : Past) → Quiet g (after (Put m (purpose_of internal waits)) g)
quiet_put false waits m g = record { bus = refl; name = refl; read = refl; streams = refl; capacities = refl; done = refl; writer = refl; sound = sound_past (Put m (purpose_of false waits)) g }
quiet_put true true m g = record { bus = refl; name = refl; read = refl; streams = refl; capacities = refl; done = refl; writer = refl; sound = sound_past (Put m (purpose_of true true)) g }
quiet_put true false m g = record { bus = refl; name = refl; read = refl; streams = refl; capacities = refl; done = refl; writer = refl; sound = sound_past (Put m (purpose_of true false)) g }

quiet_none : (g : Past) → Quiet g g
quiet_none g = record { bus = refl; name = refl; read = refl; streams = refl; capacities = refl; done = refl; writer = refl; sound = λ s. s }

quiet_each : (internal : Bool) (name : Option (List ℕ)) (served : Bool) (ps : List OutgoingMessageView) (serials : List ℕ) (g : Past) → Quiet g (put_each (posts internal name served ps) serials g)
quiet_each internal name served [] serials g = quiet_none g
quiet_each internal name served (p ∷ ps) [] g = quiet_none g
quiet_each internal name served (p ∷ ps) (serial ∷ serials) g =
    let one = sent_by name served p in
    let x = quiet_put internal (expects one) (message_of one serial) g in
    let y = quiet_each internal name served ps serials (after (put_of (posted internal one) serial) g) in
    record {
      bus = y.bus ∙ x.bus;
      name = y.name ∙ x.name;
      read = y.read ∙ x.read;
      streams = y.streams ∙ x.streams;
      capacities = y.capacities ∙ x.capacities;
      done = y.done ∙ x.done;
      writer = y.writer ∙ x.writer;
      sound = λ s. y.sound (x.sound s);
    }

module _ {A : Type 0} (items : A → List Issued) (new : RouteView) (h : Past) (internal : Bool) (name : Option (List ℕ)) (served : Bool) (ps : List OutgoingMessageView) (shallow : list_any is_deep ps ≡ false) where
  are_shallow : are_deep (posts internal name served ps) ≡ false
  are_shallow = deep_posts internal name served ps ∙ shallow

  pub puts_not_drawn : {B : Type 0} (read : B → List ℕ) (calls : CallsView) (last : ℕ) (error : Error) → Draws read (drawn h (posts internal name served ps)) (λ ns. calls_put_each (posts internal name served ps) ns (calls_of h)) calls last (Err error) → PutsAll items new (posts internal name served ps) h (Err error)
  puts_not_drawn read calls last Error.SerialsSpent x = (issued_spent (calls_of h) (posts internal name served ps) are_shallow x, tt)
  puts_not_drawn read calls last Error.Memory x = tt
  puts_not_drawn read calls last other x = absurd x

  pub puts_not_placed : {B : Type 0} (those : B → List Issued) (serials : List ℕ) (g : CallsPast) (outbox : List MessageView) (places : List ℕ) (error : Error) → drawn h (posts internal name served ps) ≡ Some serials
      → Places those (posts internal name served ps) serials g outbox places (Err error) → PutsAll items new (posts internal name served ps) h (Err error)
  puts_not_placed those serials g outbox places Error.ExcessData draws x = (issued_long (calls_of h) (posts internal name served ps) serials are_shallow draws x, tt)
  puts_not_placed those serials g outbox places Error.Memory draws x = tt
  puts_not_placed those serials g outbox places other draws x = absurd x

  refused_by : (error : Error) → issued h (posts internal name served ps) ≡ Err error → PutsAll items new (posts internal name served ps) h (Err error)
  refused_by Error.Memory e = tt
  refused_by other e = (e, tt)

  module _ (serials : List ℕ) (some : ps ≡ [] → ⊥) (draws : drawn h (posts internal name served ps) ≡ Some serials) (old : RouteView) (left : RefinesPosts old h) where
    pub puts_barred : (error : Error) → some_long (outgoings (posts internal name served ps)) serials ≡ false → barred old.writer ≡ Some error → PutsAll items new (posts internal name served ps) h (Err error)
    puts_barred error short w = refused_by error (issued_by_writer (calls_of h) internal name served ps serials (Some error) some are_shallow draws short (ap barred (sym left.writer) ∙ w))

    pub puts_placed : (issued : A) → IsCounted new.calls new.last (calls_put_each (posts internal name served ps) serials (calls_of h)) → Places items (posts internal name served ps) serials (calls_of h) new.outbox new.places (Ok issued)
        → barred old.writer ≡ None → new.name ≡ old.name → new.writer ≡ old.writer → PutsAll items new (posts internal name served ps) h (Ok issued)
    puts_placed answer counted x fine n w = let quiet = quiet_each internal name served ps serials h in (
      serials,
      issued_by_writer (calls_of h) internal name served ps serials None some are_shallow draws x.0 (ap barred (sym left.writer) ∙ fine),
      x.1,
      record {
        counted = subst (λ q. IsCounted new.calls new.last q) (sym (calls_put (posts internal name served ps) serials h)) counted;
        placed = subst (λ q. IsPlaced new.outbox new.places q) (sym (calls_put (posts internal name served ps) serials h)) x.2;
        name = n ∙ left.name ∙ sym quiet.name;
        writer = w ∙ left.writer ∙ sym quiet.writer;
      },
    )

-- ---- the core, with its streams

-- the whole core is left once the messages are put, where all but its streams is
pub left_puts : (w new : RouteView) (internal : Bool) (name : Option (List ℕ)) (served : Bool) (ps : List OutgoingMessageView) (serials : List ℕ) (g : Past) → Refines w g
    → new ≡ record w { calls = new.calls; last = new.last; outbox = new.outbox; places = new.places } → RefinesPosts new (put_each (posts internal name served ps) serials g)
    → Refines new (put_each (posts internal name served ps) serials g)
left_puts w new internal name served ps serials g left same posts_ =
    let q = put_each (posts internal name served ps) serials g in
    let x = quiet_each internal name served ps serials g in
    let kept : AreStreams w.streams q.capacities.rules q.read q.streams =
    subst (λ (k : Capacities). AreStreams w.streams k.rules q.read q.streams) (sym x.capacities)
    (subst (λ ms. AreStreams w.streams g.capacities.rules ms q.streams) (sym x.read) (subst (AreStreams w.streams g.capacities.rules g.read) (sym x.streams) left.streams)) in
    record {
      calls = posts_.counted.0;
      bus = ap (λ (v : RouteView). v.bus) same ∙ left.bus ∙ sym x.bus;
      name = posts_.name;
      streams = subst (λ qs. AreStreams qs q.capacities.rules q.read q.streams) (sym (ap (λ (v : RouteView). v.streams) same)) kept;
      main = ap (λ (v : RouteView). v.main) same ∙ left.main ∙ ap (λ (k : Capacities). k.main) (sym x.capacities);
      read = ap (λ (v : RouteView). v.read) same ∙ left.read ∙ ap length (sym x.read);
      last = posts_.counted.1;
      outbox = posts_.placed.0;
      places = posts_.placed.1;
      done = ap (λ (v : RouteView). v.done) same ∙ left.done ∙ sym x.done;
      writer = posts_.writer;
      sound = x.sound left.sound;
    }

pub left_posts : (v : RouteView) (h : Past) → Refines v h → RefinesPosts v h
left_posts v h left = record { counted = (left.calls, left.last); placed = (left.outbox, left.places); name = left.name; writer = left.writer }

-- ---- the messages of a lane's command

pub issued_all : {A : Type 0} (items : A → List Issued) (old new : RouteView) (name : Option (List ℕ)) (served : Bool) (ps : List OutgoingMessageView) (h : Past) (issued : A) → Refines old h → IsMore old new
    → PutsAll items new (posts false name served ps) h (Ok issued) → IssuesAll items old new (map (sent_by name served) ps) h (Ok issued)
issued_all items old new name served ps h answer left more x = (x.0, x.1, x.2, left_puts old new false name served ps x.0 h left more.same x.3)

pub refused_all : {A : Type 0} (items : A → List Issued) (old new : RouteView) (name : Option (List ℕ)) (served : Bool) (ps : List OutgoingMessageView) (h : Past) (error : Error) → new ≡ old
    → PutsAll items new (posts false name served ps) h (Err error) → IssuesAll items old new (map (sent_by name served) ps) h (Err error)
refused_all items old new name served ps h Error.Memory same x = same
refused_all items old new name served ps h other same x = (x.0, same)
