-- The object server's stream is nobody's; and what it gives next.
use Rattle.peer_core.specs.{History.{Event, Past}, Asked.next_message}
use Rattle.peer_streams.specs.{Streams.{next_message as streams_next_message}, Streams.{held, runs}, History.Stream}
use Rattle.std.proofs.Common.{◌≡◌, ◌≢◌, ◌⊎◌, inl, inr, ℕ, refl, sym, ◌∙◌, ap, Bool, true, false, if◌then◌else◌, List, [], ◌∷◌, ◌++◌, length, Option, Some, None, option_and_then}
use Rattle.std.specs.List.{slice_get}
use Rattle.peer_route.specs.{Names.{MessageView, Words, Answer, Entry}, Replay.{Setting, Replay, handle_index, Owners, made_owners, asked_owners}, Plan.{Plan, Serves, server_events, plan}, Entries.{replay, more_by, deeds, postings, maker, server_after, is_refused}}
use Rattle.wire_message.proofs.Edits.{get_append, get_new}
use Rattle.peer_route.proofs.{Plans.{IsFair, fair}, Places.named_owner}

-- ---- what it gives next

first_in : (ms : List MessageView) (m : MessageView) → slice_get ms 0 ≡ Some m → (rest : List MessageView) × (ms ≡ m ∷ rest)
first_in [] m e = cc
first_in (x ∷ xs) m e = let same : x ≡ m = cc in (xs, ap (λ y. y ∷ xs) same)

first_held : (ms : List MessageView) (s : Stream) (is_open : Bool) (m : MessageView) → (if is_open then slice_get (held ms s) 0 else None) ≡ Some m → (rest : List MessageView) × (held ms s ≡ m ∷ rest)
first_held ms s true m e = first_in (held ms s) m e
first_held ms s false m e = cc

first_of : (h : Past) (k : ℕ) (o : Option Stream) (m : MessageView) → slice_get h.streams k ≡ o → option_and_then (λ s. if runs h.read s then slice_get (held h.read s) 0 else None) o ≡ Some m
    → (s : Stream) × (slice_get h.streams k ≡ Some s) × (rest : List MessageView) × (held h.read s ≡ m ∷ rest)
first_of h k None m at e = cc
first_of h k (Some s) m at e = let first = first_held h.read s (runs h.read s) m e in (s, at, first.0, first.1)

-- a stream that gives a message next was made, and holds it first
pub next_held : (h : Past) (k : ℕ) (m : MessageView) → next_message h k ≡ Some m → (s : Stream) × (slice_get h.streams k ≡ Some s) × (rest : List MessageView) × (held h.read s ≡ m ∷ rest)
unfolding streams_next_message
next_held h k m e = first_of h k (slice_get h.streams k) m refl e

-- ---- whose it is

-- the object server's stream is nobody's
abbrev pub IsNobodys : Replay → Type 0
IsNobodys t = (k : ℕ) → t.server ≡ Some k → slice_get t.streams k ≡ Some None

-- the stream was there, or is the one that is made now
server_is : (said : Option Answer) (done : List Event) (a : Answer) (n : ℕ) (server : Option ℕ) (k : ℕ) → server_after (Serves said done) a n server ≡ Some k → (server ≡ Some k) ⊎ ((server ≡ None) × (is_refused a ≡ false) × (k ≡ n))
server_is said done a n (Some j) k e = inl e
server_is said done a n None k e = by None refl (is_refused a) refl e
  where
    by : (server : Option ℕ) → server ≡ None → (b : Bool) → is_refused a ≡ b → (if b then None else Some n) ≡ Some k → (server ≡ Some k) ⊎ ((server ≡ None) × (is_refused a ≡ false) × (k ≡ n))
    by server none true q is = cc
    by server none false q is = inr (none, q, (let same : Some n ≡ Some k = is in cc))

nobodys_by : (t : Replay) (w : Words) (pl : Plan) (e : Entry) → IsFair t w pl → IsNobodys t → IsNobodys (more_by pl e t)
nobodys_by t w (Serves said done) e f so = λ k s. now k (server_is said done e.answer (length t.streams) t.server k s)
  where
    made : Owners
    made = made_owners None (deeds (Serves said done) e)

    asked : Owners
    asked = asked_owners e.lane e.failed [] e.put

    now : (k : ℕ) → (t.server ≡ Some k) ⊎ ((t.server ≡ None) × (is_refused e.answer ≡ false) × (k ≡ length t.streams)) → slice_get (t.streams ++ made ++ asked) k ≡ Some None
    now k (inl there) = get_append k (t.streams ++ made) asked None (get_append k t.streams made None (so k there))
    now k (inr new) =
        get_append k (t.streams ++ made) asked None
        (ap (λ b. slice_get (t.streams ++ made_owners None (if b then [] else done)) k) new.1
        ∙ ap (λ es. slice_get (t.streams ++ made_owners None es) k) (f.makes ∙ ap (server_events t.past.name) new.0)
        ∙ ap (slice_get (t.streams ++ None ∷ [])) new.2 ∙ get_new t.streams None)
nobodys_by t w pl e f so = λ k s. get_append k (t.streams ++ made_owners (maker pl e.lane) (deeds pl e)) (asked_owners e.lane e.failed (postings pl) e.put) None (get_append k t.streams (made_owners (maker pl e.lane) (deeds pl e)) None (so k s))

pub nobodys : (setting : Setting) (es : List Entry) (k : ℕ) → (replay setting es).server ≡ Some k → slice_get (replay setting es).streams k ≡ Some None
nobodys setting [] k s = cc
nobodys setting (e ∷ es) k s = let t = replay setting es in nobodys_by t e.words (plan t e.lane e.words) e (fair t e.lane e.words) (nobodys setting es) k s

pub unnamed : (setting : Setting) (es : List Entry) (k lane number : ℕ) → (replay setting es).server ≡ Some k → handle_index 0 lane number (replay setting es).streams ≢ Some k
unnamed setting es k lane number s named =
    let owners = (replay setting es).streams in
    let q : Some None ≡ Some (Some lane) = sym (nobodys setting es k s) ∙ named_owner owners lane number k named in
    cc
