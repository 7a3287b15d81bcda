-- What answers a call: the messages are no calls and carry no descriptors; and of interfaces that answer in one way it is one.
use Rattle.std.proofs.Common.{◌≡◌, ℕ, refl, sym, ◌∙◌, ap, subst, List, [], ◌∷◌, ◌++◌, map, Bool, true, false, if◌then◌else◌, Option, Some, None, Result, Ok, Err}
use Rattle.std.specs.Prelude.{IfSome}
use Rattle.std.proofs.lemmas.List.{append-nil}
use Rattle.wire_tree.specs.Datum.{Datum}
use Rattle.object_interface.specs.Meaning.{Meaning, IsFunction}
use Rattle.object_interface.specs.declared.answer.DispatchResult2.{DispatchResult2}
use Rattle.object_interface.specs.declared.answer.DispatchResult2.TheVariants.{NotFound, RequiresMut, Done}
use Rattle.object_tree.specs.Objects.{Objects}
use Rattle.wire_message.specs.Outgoing.{OutgoingMessageView, expects, expects_reply}
use Rattle.wire_message.specs.declared.fdo.Error.{Error as fdo}
use Rattle.object_interface.specs.Answering.{answers, notifier_of, refusal, reply, signal_of}
use Rattle.object_interface.specs.Errors.{unknown_method}
use Rattle.object_interface.specs.declared.answer.Signal.{Signal}
use Rattle.object_standard.specs.Method.{method_named}
use Rattle.peer_objects.specs.Dispatching.{Target, Nothing, Standard, Slot, target, member_in, ComesTo, AtOnce, Changing, Called}
use Rattle.peer_objects.specs.Served.{ServedAt}
use Rattle.peer_service.specs.Service.{BoxView, ServiceView, number_at}
use Rattle.peer_core.specs.History.{Past}
use Rattle.peer_conn.proofs.Called.{AreUnawaited, AreBare}
use Rattle.peer_turns.specs.{Names.{MessageView, Entry}, Objects.{AnswersCall, AreFunctions, is_replied, noted}}
use Rattle.peer_objects.specs.Notifying.{Notified, awaiting, is_known}
use Rattle.peer_objects.proofs.Known.{known_now}
use Rattle.peer_turns.proofs.{Reached.after_one, Standards.standard_one}

-- ---- the messages

signal_unawaited : (call : MessageView) (s : Signal) → expects (signal_of call s) ≡ false
unfolding expects_reply
signal_unawaited call s = refl

reply_unawaited : (call : MessageView) (result : Result (List Datum) fdo) → expects (reply call result) ≡ false
unfolding expects_reply
reply_unawaited call (Ok values) = refl
reply_unawaited call (Err error) = refl

reply_bare : (call : MessageView) (result : Result (List Datum) fdo) → (reply call result).fds ≡ []
reply_bare call (Ok values) = refl
reply_bare call (Err error) = refl

-- for none of them a reply is waited for, and none has descriptors
abbrev AreQuiet : List OutgoingMessageView → Type 0
AreQuiet list = AreUnawaited list × AreBare list

quiet_signals : (call : MessageView) (ss : List Signal) (rest : List OutgoingMessageView) → AreQuiet rest → AreQuiet (map (signal_of call) ss ++ rest)
quiet_signals call [] rest more = more
quiet_signals call (s ∷ ss) rest more = let others = quiet_signals call ss rest more in ((signal_unawaited call s, others.0), (refl, others.1))

quiet_reply : (wanted : Bool) (call : MessageView) (result : Result (List Datum) fdo) (rest : List OutgoingMessageView) → AreQuiet rest → AreQuiet ((if wanted then reply call result ∷ [] else []) ++ rest)
quiet_reply true call result rest more = ((reply_unawaited call result, more.0), (reply_bare call result, more.1))
quiet_reply false call result rest more = more

quiet_refusal : (call : MessageView) (error : fdo) → AreQuiet (refusal call error)
quiet_refusal call error = subst AreQuiet (append-nil (refusal call error)) (quiet_reply (expects_reply call.kind call.flags) call (Err error) [] (tt, tt))

quiet_answers : (call : MessageView) (member : List ℕ) (answer : DispatchResult2) → AreQuiet (answers call member answer)
quiet_answers call member NotFound = quiet_refusal call (unknown_method member)
quiet_answers call member RequiresMut = quiet_refusal call (unknown_method member)
quiet_answers call member (Done d) =
    quiet_signals call d.before _ (quiet_reply (expects_reply call.kind call.flags) call d.result _
    (subst AreQuiet (append-nil (map (signal_of call) d.after)) (quiet_signals call d.after [] (tt, tt))))

-- so it is of what is answered
pub served_quiet : (meanings : ℕ → Meaning) (machine : Option (List ℕ)) (objects : Objects) (reached : Target) (m : MessageView) (old new : List (Option BoxView)) (list : List OutgoingMessageView) (notifier : Option ℕ)
    → ServedAt (λ (b : BoxView). meanings b.number) (λ (b : BoxView). b.state) machine objects reached m old new list notifier → AreQuiet list
served_quiet meanings machine objects (Nothing error) m old new list notifier x = subst AreQuiet (sym x.0) (quiet_refusal m error)
served_quiet meanings machine objects (Standard interface) m old new list notifier (answer, how, is, told) = subst AreQuiet (sym is) (quiet_answers m (member_in m) answer)
served_quiet meanings machine objects (Slot slot) m old new list notifier (answer, how, is, told) = subst AreQuiet (sym is) (quiet_answers m (member_in m) answer)

-- ---- numbers

-- the number that an answer had has room
pub all_known : (notifier : Option ℕ) (old new : Notified) → new ≡ awaiting notifier old → IfSome notifier (λ number. is_known new number ≡ true)
all_known None old new is = tt
all_known (Some number) old new is = subst (λ (l : Notified). is_known l number ≡ true) (sym is) (known_now number old)

-- ---- one answer

comes_one : (meaning : Meaning) (s : List ℕ) (m : MessageView) (member : List ℕ) (r q : DispatchResult2) (t u : List ℕ) → IsFunction meaning → ComesTo meaning s m member r t → ComesTo meaning s m member q u → (r ≡ q) × (t ≡ u)
comes_one meaning s m member r q t u one (AtOnce a settled same) (AtOnce b other still) = (one.calls s m member r q a b, same ∙ sym still)
comes_one meaning s m member r q t u one (AtOnce a settled same) (Changing b changes) = absurd (settled (one.calls s m member r RequiresMut a b))
comes_one meaning s m member r q t u one (Changing a changes) (AtOnce b settled still) = absurd (settled (one.calls s m member q RequiresMut b a))
comes_one meaning s m member r q t u one (Changing a changes) (Changing b other) = one.calls_mut s m member r q t u changes other

module _ (meanings : ℕ → Meaning) (functions : AreFunctions meanings) where
  slots_one : (m : MessageView) (slot : ℕ) (member : List ℕ) (old new other : List (Option BoxView)) (r q : DispatchResult2)
      → Called (λ (b : BoxView). meanings b.number) (λ (b : BoxView). b.state) slot m member old new r → Called (λ (b : BoxView). meanings b.number) (λ (b : BoxView). b.state) slot m member old other q
      → ((j : ℕ) → number_at new j ≡ number_at old j) → ((j : ℕ) → number_at other j ≡ number_at old j) → (r ≡ q) × (new ≡ other)
  slots_one m slot member old new other r q x y numbers others =
      let a = x.reached in
      let b = y.reached in
      let kept : Some (Some b.before) ≡ Some (Some a.before) = sym b.kept ∙ a.kept in
      let same : b.before ≡ a.before = cc in
      let comes : ComesTo (meanings a.before.number) a.before.state m member q b.after.state = subst (λ (z : BoxView). ComesTo (meanings z.number) z.state m member q b.after.state) same y.comes in
      let one = comes_one (meanings a.before.number) a.before.state m member r q a.after.state b.after.state (functions a.before.number) x.comes comes in
      (one.0, after_one meanings slot old new other a b one.1 numbers others)

  served_one : (machine : Option (List ℕ)) (objects : Objects) (m : MessageView) (old new other : List (Option BoxView)) (list list₂ : List OutgoingMessageView) (notifier notifier₂ : Option ℕ) (reached : Target)
      → ServedAt (λ (b : BoxView). meanings b.number) (λ (b : BoxView). b.state) machine objects reached m old new list notifier
      → ServedAt (λ (b : BoxView). meanings b.number) (λ (b : BoxView). b.state) machine objects reached m old other list₂ notifier₂
      → ((j : ℕ) → number_at new j ≡ number_at old j) → ((j : ℕ) → number_at other j ≡ number_at old j) → (list ≡ list₂) × (notifier ≡ notifier₂) × (new ≡ other)
  served_one machine objects m old new other list list₂ notifier notifier₂ (Nothing error) x y numbers others = (x.0 ∙ sym y.0, x.1 ∙ sym y.1, x.2 ∙ sym y.2)
  served_one machine objects m old new other list list₂ notifier notifier₂ (Standard interface) (r, answers₁, is, told) (q, answers₂, is₂, told₂) numbers others =
      let one = standard_one meanings functions machine objects (method_named interface (member_in m)) m old new other r q answers₁ answers₂ numbers others in
      (is ∙ ap (answers m (member_in m)) one.0 ∙ sym is₂, told ∙ ap notifier_of one.0 ∙ sym told₂, one.1)
  served_one machine objects m old new other list list₂ notifier notifier₂ (Slot slot) (r, called, is, told) (q, called₂, is₂, told₂) numbers others =
      let one = slots_one m slot (member_in m) old new other r q called called₂ numbers others in
      (is ∙ ap (answers m (member_in m)) one.0 ∙ sym is₂, told ∙ ap notifier_of one.0 ∙ sym told₂, one.1)

  -- what is answered, and the number that the answer had
  call_one : (h : Past) (k : ℕ) (m : MessageView) (e f : Entry) (old new other : ServiceView) (x : AnswersCall meanings h k m e old new) (y : AnswersCall meanings h k m f old other) → (x.list ≡ y.list) × (x.notifier ≡ y.notifier) × (new.slots ≡ other.slots)
  call_one h k m e f old new other x y =
      served_one old.machine old.objects m old.slots new.slots other.slots x.list y.list x.notifier y.notifier (target old.objects m) x.served.served y.served.served x.numbers y.numbers

  pub list_one : (h : Past) (k : ℕ) (m : MessageView) (e f : Entry) (old new other : ServiceView) (x : AnswersCall meanings h k m e old new) (y : AnswersCall meanings h k m f old other) → x.list ≡ y.list
  list_one h k m e f old new other x y = (call_one h k m e f old new other x y).0

  -- and where the same was put, what is left
  pub left_one : (h : Past) (k : ℕ) (m : MessageView) (e f : Entry) (old new other : ServiceView) (x : AnswersCall meanings h k m e old new) (y : AnswersCall meanings h k m f old other) → e.put ≡ f.put → new ≡ other
  left_one h k m e f old new other x y put =
      let one = call_one h k m e f old new other x y in
      let objects : new.objects ≡ other.objects = x.served.tree ∙ sym y.served.tree in
      let shelf : new.shelf ≡ other.shelf = x.shelf ∙ sym y.shelf in
      let machine : new.machine ≡ other.machine = x.machine ∙ sym y.machine in
      let notified : new.notified ≡ other.notified =
      x.notified ∙ ap (λ (n : Option ℕ). noted (is_replied m e.put) n (awaiting n old.notified)) one.1
      ∙ ap (λ (ms : List MessageView). noted (is_replied m ms) y.notifier (awaiting y.notifier old.notified)) put ∙ sym y.notified in
      ap (λ i. record { machine = i; objects = new.objects; slots = new.slots; shelf = new.shelf; notified = new.notified }) machine
      ∙ ap (λ o. record { machine = other.machine; objects = o; slots = new.slots; shelf = new.shelf; notified = new.notified }) objects
      ∙ ap (λ s. record { machine = other.machine; objects = other.objects; slots = s; shelf = new.shelf; notified = new.notified }) one.2
      ∙ ap (λ s. record { machine = other.machine; objects = other.objects; slots = other.slots; shelf = s; notified = new.notified }) shelf
      ∙ ap (λ n. record { machine = other.machine; objects = other.objects; slots = other.slots; shelf = other.shelf; notified = n }) notified
