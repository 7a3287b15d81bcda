-- What putting messages gives, and why they may be refused.
use Rattle.std.specs.{List.list_any, Option.option_or}
use Rattle.std.proofs.{Common.{arith, ◌≡◌, ℕ, suc, if◌then◌else◌, refl, sym, ◌∙◌, ap, subst, Bool, true, false, ◌||◌, List, [], ◌∷◌, ◌++◌, length, map, Option, None, Some, Result, Ok, Err, append_assoc, option_map, option_and_then, unwrap_or, ok_or}, lemmas.List.append-nil, lemmas.Bool.false≢true}
use Rattle.peer_calls.specs.{Names.{Error, Writer, IoKind, VariantError}, History.{CallsPast, after}}
use Rattle.peer_calls.specs.{Issuing.{next_serial, drawn, Posting, posted, outgoings, put_of, some_long, messages_of, barred, refusal, issued}, Refinement.CallsView, Placing.{posts, IsCounted, Places, Draws}}
use Rattle.wire_message.specs.Outgoing.{OutgoingMessageView, message_of, sent_by, expects, is_deep}
use Rattle.peer_calls.proofs.{CallsMade.{IsSound, sound_after}, Drawn.{message_serial, purpose_of}}

-- one more than the rest
two_parts : (serials : List ℕ) (next : Option ℕ) (rest : ℕ → Option (List ℕ)) → option_and_then (λ serial. option_map (λ more. serial ∷ more) (rest serial)) next ≡ Some serials
    → (serial : ℕ) × (more : List ℕ) × (next ≡ Some serial) × (rest serial ≡ Some more) × (serials ≡ serial ∷ more)
two_parts serials None rest e = cc
two_parts serials (Some serial) rest e = by (rest serial) refl e
  where
    by : (o : Option (List ℕ)) → rest serial ≡ o → option_map (λ more. serial ∷ more) o ≡ Some serials
        → (s : ℕ) × (more : List ℕ) × (Some serial ≡ Some s) × (rest s ≡ Some more) × (serials ≡ s ∷ more)
    by None f e = cc
    by (Some more) f e = (serial, more, refl, f, cc)

-- each message draws one serial
pub drawn_length : (h : CallsPast) (ds : List Posting) (serials : List ℕ) → drawn h ds ≡ Some serials → length serials ≡ length ds
drawn_length h [] serials e = let f : [] ≡ serials = cc in ap length (sym f)
drawn_length h (d ∷ ds) serials e =
    let p = two_parts serials (next_serial h) (λ serial. drawn (after (put_of d serial) h) ds) e in
    ap length p.4 ∙ ap suc (drawn_length (after (put_of d p.0) h) ds p.1 p.3)

-- which limit refuses messages, with the serials that they draw
abbrev pub limit_refusal : List Posting → Option (List ℕ) → Option Error
limit_refusal ds drew = unwrap_or (option_map (λ serials. if some_long (outgoings ds) serials then Some Error.ExcessData else None) drew) (Some Error.SerialsSpent)

-- what refuses them first, or the writer
abbrev pub or_barred : Writer → Option Error → Option Error
or_barred w met = option_or met (barred w)

abbrev pub issued_by : Option Error → Option (List ℕ) → Result (List ℕ) Error
issued_by refused drew = unwrap_or (option_map Err refused) (ok_or drew Error.SerialsSpent)

-- a value of some message opens too many containers at once
abbrev pub are_deep : List Posting → Bool
are_deep ds = list_any (λ d. is_deep d.outgoing) ds

pub deep_posts : (internal : Bool) (name : Option (List ℕ)) (served : Bool) (ps : List OutgoingMessageView) → are_deep (posts internal name served ps) ≡ list_any is_deep ps
deep_posts internal name served [] = refl
deep_posts internal name served (p ∷ ps) = ap (λ b. is_deep p || b) (deep_posts internal name served ps)

pub issued_deep : (h : CallsPast) (internal : Bool) (name : Option (List ℕ)) (served : Bool) (ps : List OutgoingMessageView) → (ps ≡ [] → ⊥) → list_any is_deep ps ≡ true → issued h (posts internal name served ps) ≡ Err (Error.Variant VariantError.Depth)
unfolding issued
issued_deep h internal name served [] some deep = absurd (some refl)
issued_deep h internal name served (p ∷ ps) some deep = rw (deep_posts internal name served (p ∷ ps), deep) refl

pub issued_spent : (h : CallsPast) (ds : List Posting) → are_deep ds ≡ false → drawn h ds ≡ None → issued h ds ≡ Err Error.SerialsSpent
unfolding issued
issued_spent h [] shallow spent = cc
issued_spent h (d ∷ ds) shallow spent = rw (shallow, spent) refl

pub issued_long : (h : CallsPast) (ds : List Posting) (serials : List ℕ) → are_deep ds ≡ false → drawn h ds ≡ Some serials → some_long (outgoings ds) serials ≡ true → issued h ds ≡ Err Error.ExcessData
unfolding issued
issued_long h [] serials shallow draws long = absurd (false≢true long)
issued_long h (d ∷ ds) serials shallow draws long = rw (shallow, draws, long) refl

pub issued_by_writer : (h : CallsPast) (internal : Bool) (name : Option (List ℕ)) (served : Bool) (ps : List OutgoingMessageView) (serials : List ℕ) (refused : Option Error) → (ps ≡ [] → ⊥) → are_deep (posts internal name served ps) ≡ false
    → drawn h (posts internal name served ps) ≡ Some serials → some_long (outgoings (posts internal name served ps)) serials ≡ false → barred h.outbox.writer ≡ refused → issued h (posts internal name served ps) ≡ issued_by refused (Some serials)
unfolding issued
issued_by_writer h internal name served [] serials refused some shallow draws short e = absurd (some refl)
issued_by_writer h internal name served (p ∷ ps) serials refused some shallow draws short e = rw (shallow, draws, short, e) refl

-- serials that messages get were drawn
pub issued_drawn : (h : CallsPast) (d : Posting) (ds : List Posting) (serials : List ℕ) → issued h (d ∷ ds) ≡ Ok serials → drawn h (d ∷ ds) ≡ Some serials
unfolding issued
issued_drawn h d ds serials e = by (or_barred h.outbox.writer (refusal h (d ∷ ds))) (drawn h (d ∷ ds)) e
  where
    by : (refused : Option Error) (o : Option (List ℕ)) → issued_by refused o ≡ Ok serials → o ≡ Some serials
    by (Some error) o f = cc
    by None None f = cc
    by None (Some ns) f = cc

-- why messages may be refused; as closed only where the writer is
abbrev pub IsRefusal : Writer → Error → Type 0
IsRefusal w (Error.Variant VariantError.Depth) = Unit {0}
IsRefusal w Error.SerialsSpent = Unit {0}
IsRefusal w Error.ExcessData = Unit {0}
IsRefusal w (Error.InputOutput IoKind.WriteFault) = Unit {0}
IsRefusal w (Error.InputOutput IoKind.Closed) = w ≡ Writer.Closed
IsRefusal w error = ⊥

refusal_is : (w : Writer) (known error : Error) → IsRefusal w known → Err known ≡ (let r : Result (List ℕ) Error = Err error in r) → IsRefusal w error
refusal_is w known error x e = let same : known ≡ error = cc in subst (IsRefusal w) same x

refusal_long : (long : Bool) (w : Writer) (serials : List ℕ) (error : Error) → issued_by (or_barred w (if long then Some Error.ExcessData else None)) (Some serials) ≡ Err error → IsRefusal w error
refusal_long true w serials error e = refusal_is w Error.ExcessData error tt e
refusal_long false Writer.Fine serials error e = cc
refusal_long false Writer.Failed serials error e = refusal_is Writer.Failed (Error.InputOutput IoKind.WriteFault) error tt e
refusal_long false Writer.Closed serials error e = refusal_is Writer.Closed (Error.InputOutput IoKind.Closed) error refl e

refusal_by : (deep : Bool) (w : Writer) (ds : List Posting) (o : Option (List ℕ)) (error : Error)
    → issued_by (or_barred w (if deep then Some (Error.Variant VariantError.Depth) else limit_refusal ds o)) o ≡ Err error → IsRefusal w error
refusal_by true w ds o error e = refusal_is w (Error.Variant VariantError.Depth) error tt e
refusal_by false w ds None error e = refusal_is w Error.SerialsSpent error tt e
refusal_by false w ds (Some serials) error e = refusal_long (some_long (outgoings ds) serials) w serials error e

pub refusal_known : (h : CallsPast) (ds : List Posting) (error : Error) → issued h ds ≡ Err error → IsRefusal h.outbox.writer error
unfolding issued
refusal_known h [] error e = cc
refusal_known h (d ∷ ds) error e = refusal_by (are_deep (d ∷ ds)) h.outbox.writer (d ∷ ds) (drawn h (d ∷ ds)) error e
