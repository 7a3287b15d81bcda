-- Messages of whoever keeps the peer's objects, for which no reply is waited for: where none are wanted nothing is put; and the events of
-- putting some.
use Rattle.peer_calls.specs.Issuing.{issued as calls_issued}
use Rattle.std.proofs.Common.{◌≡◌, ◌⊎◌, inl, inr, ℕ, ◌<◌, arith, refl, sym, ◌∙◌, ap, subst, Bool, true, false, if◌then◌else◌, List, [], ◌∷◌, length, Option, Some, None, Result, Ok, Err}
use Rattle.std.specs.List.{AllByRecursion}
use Rattle.peer_core.specs.{History.{Event, Put, Past, after_all}, Issuing.{puts, issued}}
use Rattle.peer_calls.specs.{History.OfLane, Issuing.{Posting, outgoings, messages_of}}
use Rattle.wire_message.specs.Outgoing.{OutgoingMessageView, message_of, sent_by, expects}
use Rattle.peer_route.specs.{Names.{MessageView, Error, Answer, Entry}, Entries.{IsQuiet, IsPut, IsSending, IsSaid, IsServed, Delivers, object_postings, object_events, is_refused, unless_refused, write_fault}}

-- ---- where none are wanted

none_issued : (h : Past) → issued h [] ≡ Ok []
unfolding calls_issued
none_issued h = refl

unfailed : (b : Bool) (n : ℕ) → (b ≡ true → n < 0) → b ≡ false
unfailed true n cut = let less = cut refl in let no : ⊥ = omega (arith, less) in absurd no
unfailed false n cut = refl

none_put : (said : Answer) (e : Entry) → IsPut [] said e → IsQuiet e × (e.answer ≡ said)
none_put said e is =
    let failed = unfailed e.failed e.written is.cut in
    let most = is.written in
    (record { put = is.put; written = omega (arith, most); failed = failed }, is.answer ∙ ap (λ b. if b then write_fault else said) failed)

-- nothing is put then, and what was said is answered
pub unwanted : (served : Bool) (h : Past) (name : Option (List ℕ)) (ps : List OutgoingMessageView) (said : Answer) (e : Entry) → ps ≡ []
    → IsSending (issued h (object_postings served name ps)) (object_postings served name ps) (λ serials. said) e → IsQuiet e × (e.answer ≡ said)
unwanted served h name ps said e none is =
    let bare : IsSending (issued h []) [] (λ serials. said) e = subst (λ xs. IsSending (issued h (object_postings served name xs)) (object_postings served name xs) (λ serials. said) e) none is in
    none_put said e (subst (λ r. IsSending r [] (λ serials. said) e) (none_issued h) bare)

-- and an entry is so that puts nothing
pub none_sent : (served : Bool) (h : Past) (name : Option (List ℕ)) (said : Answer) (e : Entry) → IsQuiet e → e.answer ≡ said → IsSending (issued h (object_postings served name [])) (object_postings served name []) (λ serials. said) e
none_sent served h name said e quiet at =
    let written = quiet.written in
    let fine = quiet.failed in
    subst (λ r. IsSending r [] (λ serials. said) e) (sym (none_issued h)) (record { put = quiet.put; answer = at ∙ ap (λ b. if b then write_fault else said) (sym fine); written = omega (arith, written); cut = λ failed. absurd (cc) })

-- none are wanted where that is known to be said, or refuses the command
said_none : (said : Option Answer) (a : Answer) (ps : List OutgoingMessageView) → IsSaid said a ps → is_refused a ≡ true → ps ≡ []
said_none None a ps may refused = may.1 refused
said_none (Some known) a ps may refused = may.1

-- so that what was said refuses it just where what is answered does, once they were put
pub refused_so : (h : Past) (said : Option Answer) (done : List Event) (e : Entry) (is : IsServed h said done e) (serials : List ℕ)
    → IsPut (messages_of (outgoings (object_postings false h.name is.messages)) serials) is.answer e → is_refused e.answer ≡ is_refused is.answer
refused_so h said done e is serials put = by e.failed (is_refused is.answer) refl put.answer put.cut
  where
    by : (failed refused : Bool) → is_refused is.answer ≡ refused → e.answer ≡ (if failed then write_fault else is.answer)
        → (failed ≡ true → e.written < length (messages_of (outgoings (object_postings false h.name is.messages)) serials)) → is_refused e.answer ≡ is_refused is.answer
    by false refused q a cut = ap is_refused a
    by true false q a cut = ap is_refused a ∙ sym q
    by true true q a cut =
        let none = said_none said is.answer is.messages is.may q in
        let less : e.written < 0 = subst (λ ps. e.written < length (messages_of (outgoings (object_postings false h.name ps)) serials)) none (cut refl) in
        let no : ⊥ = omega (arith, less) in
        absurd no

-- ---- the events of putting some

puts_nothing : (ds : List Posting) → puts ds [] ≡ []
puts_nothing [] = refl
puts_nothing (d ∷ ds) = refl

-- an object's message waits for no reply
objects_put : (served : Bool) (name : Option (List ℕ)) (ps : List OutgoingMessageView) (serials : List ℕ) → AllByRecursion (λ p. expects p ≡ false) ps
    → object_events (messages_of (outgoings (object_postings served name ps)) serials) ≡ puts (object_postings served name ps) (messages_of (outgoings (object_postings served name ps)) serials)
objects_put served name [] serials none = refl
objects_put served name (p ∷ ps) [] none = refl
objects_put served name (p ∷ ps) (serial ∷ serials) none =
    let m = message_of (sent_by name served p) serial in
    ap (λ es. Put m (OfLane false) ∷ es) (objects_put served name ps serials none.1)
    ∙ ap (λ b. Put m (OfLane b) ∷ puts (object_postings served name ps) (messages_of (outgoings (object_postings served name ps)) serials)) (sym none.0)

-- the events of an entry by which they are sent, or none of them is, are those of its messages
pub delivered_events : (served : Bool) (h : Past) (done : List Event) (ps : List OutgoingMessageView) (said : Answer) (e : Entry) → AllByRecursion (λ p. expects p ≡ false) ps → Delivers served h done ps said e
    → object_events e.put ≡ puts (object_postings served h.name ps) e.put
delivered_events served h done ps said e unawaited is = by (issued (after_all done h) ds) is
  where
    ds : List Posting
    ds = object_postings served h.name ps

    by : (r : Result (List ℕ) Error) → IsSending r ds (λ serials. said) e → object_events e.put ≡ puts ds e.put
    by (Err error) none = ap object_events none.1.put ∙ sym (ap (puts ds) none.1.put ∙ puts_nothing ds)
    by (Ok serials) put = ap object_events put.put ∙ objects_put served h.name ps serials unawaited ∙ ap (puts ds) (sym put.put)

-- ---- a command on objects

nothing_long : (ms : List MessageView) → ms ≡ [] → 0 < length ms → ⊥
nothing_long ms none some = let zero : length ms ≡ 0 = ap length none in omega (arith, zero, some)

-- where messages were put the command wasn't refused, neither by what was said nor by what is answered
pub served_calm : (h : Past) (said : Option Answer) (done : List Event) (e : Entry) (is : IsServed h said done e) → 0 < length e.put → (is_refused is.answer ≡ false) × (is_refused e.answer ≡ false)
served_calm h said done e is some = by (is_refused is.answer) refl (issued g ds) is.delivers
  where
    g : Past
    g = after_all (unless_refused is.answer done) h

    ds : List Posting
    ds = object_postings false h.name is.messages

    by : (refused : Bool) → is_refused is.answer ≡ refused → (r : Result (List ℕ) Error) → IsSending r ds (λ serials. is.answer) e → (is_refused is.answer ≡ false) × (is_refused e.answer ≡ false)
    by true q r sends = absurd (nothing_long e.put (unwanted false g h.name is.messages is.answer e (said_none said is.answer is.messages is.may q) is.delivers).0.put some)
    by false q (Err error) none = absurd (nothing_long e.put none.1.put some)
    by false q (Ok serials) put = (q, refused_so h said done e is serials put ∙ q)

-- then they are sent after all that it does
pub served_some : (h : Past) (said : Option Answer) (done : List Event) (e : Entry) (is : IsServed h said done e) → 0 < length e.put → Delivers false h done is.messages is.answer e
served_some h said done e is some =
    subst (λ b. Delivers false h (if b then [] else done) is.messages is.answer e) (served_calm h said done e is some).0 is.delivers

-- and else it is quiet, or they are sent after what it did
pub served_or_quiet : (h : Past) (said : Option Answer) (done : List Event) (e : Entry) (is : IsServed h said done e) → IsQuiet e ⊎ Delivers false h (unless_refused e.answer done) is.messages is.answer e
served_or_quiet h said done e is = by (issued g ds) refl is.delivers
  where
    g : Past
    g = after_all (unless_refused is.answer done) h

    ds : List Posting
    ds = object_postings false h.name is.messages

    by : (r : Result (List ℕ) Error) → issued g ds ≡ r → IsSending r ds (λ serials. is.answer) e → IsQuiet e ⊎ Delivers false h (unless_refused e.answer done) is.messages is.answer e
    by (Err error) at none = inl none.1
    by (Ok serials) at put = inr (subst (λ b. Delivers false h (if b then [] else done) is.messages is.answer e) (sym (refused_so h said done e is serials put)) is.delivers)
