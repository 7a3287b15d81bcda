-- The bus and the peer's name; a stream for which the bus is asked: what the core is then.
use Rattle.std.proofs.{Common.{rules, arith, ◌≡◌, ℕ, codes, refl, sym, ◌∙◌, ap, subst, Bool, true, false, is_some, List, [], ◌∷◌, length, Option, Some, None, Ok, Err}, lemmas.Bool.false≢true}
use Rattle.wire_message.specs.Plain.{first_of as first_given}
use Rattle.peer_core.specs.{Names.{MessageView, Error, Rule, Issued, IoKind, Opens}, Handles.OpeningView, History.{OnBus, Put, Named, Past, after, calls_of, streams_of}, Asked.{match_call_pending, asks_bus}, Refinement.{RouteView, Refines}, BusCall.{asking_of, match_call, last_of}, Bus.{IsOpening, OpensBy, OpensRule}, Issuing.{put_each, issued, IssuesBy}, Placing.{PutsAll, IsMore}}
use Rattle.peer_calls.specs.{History.{AddMatch, RemoveMatch}, Issuing.Posting, Placing.posts}
use Rattle.peer_streams.specs.Refinement.{StreamView, RefinesStreams}
use Rattle.wire_message.specs.Outgoing.{message_of, OutgoingMessageView}
use Rattle.peer_core.proofs.{Core.streams_len, Issues.{put_last, left_puts}, BusMessages.{match_posted, add_match}}
use Rattle.peer_calls.specs.Issuing.{issued as calls_issued}
use Rattle.peer_calls.proofs.{Drawn.message_serial, Refusing.{drawn_length, issued_drawn, refusal_known}}

-- ---- the bus, and the name

pub left_bus : (v : RouteView) (h : Past) → Refines v h → Refines (record v { bus = true }) (after OnBus h)
left_bus v h left = search rules

named_now : (o : Option (List ℕ)) (name : List ℕ) → o ≡ None → Some name ≡ first_given o name
named_now None name e = refl
named_now (Some earlier) name e = cc

pub left_named : (v : RouteView) (name : List ℕ) (h : Past) → v.name ≡ None → Refines v h → Refines (record v { name = Some name }) (after (Named name) h)
left_named v name h none left =
    let named = named_now h.name name (sym left.name ∙ none) in search rules

-- ---- an AddMatch is put

-- where it makes a stream
left_adds : (v : RouteView) (sv : List StreamView) (m : MessageView) (rule : Rule) (asked : Option ℕ) (h : Past) → Refines v (after (Put m RemoveMatch) h) → RefinesStreams sv (streams_of (after (Put m (AddMatch rule asked)) h))
    → Refines (record v { streams = sv }) (after (Put m (AddMatch rule asked)) h)
left_adds v sv m rule asked h left kept = search rules

-- the same message, put without a stream
abbrev plain : Past → Rule → Posting
plain h rule = record { outgoing = add_match h.name rule; purpose = RemoveMatch }

posted_plain : (h : Past) (name : Option (List ℕ)) (rule : Rule) (ps : List OutgoingMessageView) → name ≡ h.name → ps ≡ match_call (codes "AddMatch") None rule ∷ [] → posts true name false ps ≡ plain h rule ∷ []
posted_plain h name rule ps n e =
    ap (posts true name false) e ∙ ap (λ d. d ∷ []) (match_posted (codes "AddMatch") name rule) ∙ ap (λ o. record { outgoing = add_match o rule; purpose = RemoveMatch } ∷ []) n

-- what refuses one refuses the other
issued_plain : (h : Past) (rule : Rule) (asked : Option ℕ) → issued h (plain h rule ∷ []) ≡ issued h (asking_of h rule asked ∷ [])
unfolding calls_issued
issued_plain h rule asked = refl

-- what is told of the stream
abbrev Tells : Past → OpeningView → List ℕ → Type 0
Tells h o serials = IsOpening h (Opens.Opening o) serials

pub asking_refused : {A : Type 0} (items : A → List Issued) (mid new : RouteView) (name : Option (List ℕ)) (ps : List OutgoingMessageView) (rule : Rule) (asked : Option ℕ) (h : Past) (error : Error) → name ≡ h.name
    → ps ≡ match_call (codes "AddMatch") None rule ∷ [] → PutsAll items mid (posts true name false ps) h (Err error) → IssuesBy (Tells h) (Unit {0}) (Refines new) (asking_of h rule asked ∷ []) h (Err error)
asking_refused items mid new name ps rule asked h Error.Memory n e x = tt
asking_refused items mid new name ps rule asked h other n e x = (sym (issued_plain h rule asked) ∙ ap (issued h) (sym (posted_plain h name rule ps n e)) ∙ x.0, tt)

one_serial : (serials : List ℕ) (last : ℕ) → length serials ≡ 1 → Some last ≡ last_of serials → serials ≡ last ∷ []
one_serial [] last n e = absurd (omega (arith, n))
one_serial (serial ∷ []) last n e = cc
one_serial (serial ∷ s ∷ serials) last n e = absurd (omega (arith, n))

pub asking_put : {A : Type 0} (items : A → List Issued) (answer : A) (old mid : RouteView) (sv : List StreamView) (ps : List OutgoingMessageView) (rule : Rule) (asked : Option ℕ) (h : Past) (o : OpeningView) → Refines old h → IsMore old mid
    → ps ≡ match_call (codes "AddMatch") None rule ∷ [] → PutsAll items mid (posts true old.name false ps) h (Ok answer)
    → o.index ≡ length old.outbox → o.serial ≡ mid.last → o.stream ≡ length mid.streams
    → ((m : MessageView) → RefinesStreams mid.streams (streams_of h) → o.serial ≡ m.serial → o.index ≡ length h.outbox.put → RefinesStreams sv (streams_of (after (Put m (AddMatch rule asked)) h)))
    → IssuesBy (Tells h) (Unit {0}) (Refines (record mid { streams = sv })) (asking_of h rule asked ∷ []) h (Ok o)
asking_put items answer old mid sv ps rule asked h o left more e x index serial number made =
    let ds = posted_plain h old.name rule ps left.name e in
    let draws : issued h (plain h rule ∷ []) ≡ Ok x.0 = ap (issued h) (sym ds) ∙ x.1 in
    let whole = subst (λ d. Refines mid (put_each d x.0 h)) ds (left_puts old mid true old.name false ps x.0 h left more.same x.3) in
    let all = drawn_length (calls_of h) (plain h rule ∷ []) x.0 (issued_drawn (calls_of h) (plain h rule) [] x.0 draws) in
    let one : x.0 ≡ o.serial ∷ [] = one_serial x.0 o.serial all (ap Some (serial ∙ whole.last) ∙ put_last (plain h rule) [] x.0 h all) in
    let streams : mid.streams ≡ old.streams = ap (λ (v : RouteView). v.streams) more.same in
    let place = index ∙ ap length left.outbox in
    let m = message_of (add_match h.name rule) o.serial in
    let kept = made m (subst (λ qs. RefinesStreams qs (streams_of h)) (sym streams) left.streams) (sym (message_serial (add_match h.name rule) o.serial)) place in (
      x.0,
      sym (issued_plain h rule asked) ∙ draws,
      (one, number ∙ ap length streams ∙ streams_len old h left, place),
      subst (λ ns. Refines (record mid { streams = sv }) (put_each (asking_of h rule asked ∷ []) ns h)) (sym one)
          (left_adds mid sv m rule asked h (subst (λ ns. Refines mid (put_each (plain h rule ∷ []) ns h)) one whole) kept),
    )

-- ---- what opening gives

-- nothing closed the peer, and nothing of its own is on its way
abbrev pub IsIdle : Past → Type 0
IsIdle h = (h.closing ≡ None) × (match_call_pending h ≡ false)

pub opens_asking : (old new : RouteView) (rule : Rule) (asked : Option ℕ) (o : OpeningView) (h : Past) → IsIdle h → asks_bus h rule ≡ true
    → IssuesBy (Tells h) (Unit {0}) (Refines new) (asking_of h rule asked ∷ []) h (Ok o) → OpensRule old new rule asked h (Ok (Opens.Opening o))
opens_asking old new rule asked o h idle asks x =
    let R : Bool → Type 0 = λ b. OpensBy b old new rule asked h (Ok (Opens.Opening o)) in
    (idle.0, idle.1, subst R (sym asks) x)

pub opens_not : (old mid new : RouteView) (rule : Rule) (asked : Option ℕ) (error : Error) (h : Past) → IsIdle h → asks_bus h rule ≡ true → new ≡ old → Refines old h
    → IssuesBy (Tells h) (Unit {0}) (Refines mid) (asking_of h rule asked ∷ []) h (Err error) → OpensRule old new rule asked h (Err error)
opens_not old mid new rule asked (Error.InputOutput IoKind.Closed) h idle asks same left x =
    let shut_ : is_some h.closing ≡ true = left.sound.shut (refusal_known (calls_of h) (asking_of h rule asked ∷ []) (Error.InputOutput IoKind.Closed) x.0) in
    absurd (false≢true (sym (ap is_some idle.0) ∙ shut_))
opens_not old mid new rule asked Error.Busy h idle asks same left x = absurd (refusal_known (calls_of h) (asking_of h rule asked ∷ []) Error.Busy x.0)
opens_not old mid new rule asked Error.Memory h idle asks same left x = same
opens_not old mid new rule asked error h idle asks same left x =
    let R : Bool → Type 0 = λ b. OpensBy b old new rule asked h (Err error) in
    (idle.0, idle.1, subst R (sym asks) (x.0, same))
