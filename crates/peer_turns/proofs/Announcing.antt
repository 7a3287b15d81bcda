-- What object managers announce: the messages are no calls and carry no descriptors; nothing is announced where a command is refused; and of
-- interfaces that answer in one way it is one.
use Rattle.std.proofs.Common.{◌≡◌, ℕ, refl, sym, ◌∙◌, ap, subst, List, [], ◌∷◌, map, Bool, true, false, Option, Some, None, option_map, Result, Ok, Err, IfOk}
use Rattle.std.specs.Prelude.{option_to_list}
use Rattle.std.specs.Bool.{MatchBool}
use Rattle.std.proofs.lemmas.Option.{same_Some}
use Rattle.wire_tree.specs.Datum.{Datum}
use Rattle.wire_message.specs.Outgoing.{OutgoingMessageView, expects, expects_reply}
use Rattle.object_interface.specs.Meaning.{Meaning}
use Rattle.object_tree.specs.Objects.{Objects, is_same, manager_of, below}
use Rattle.object_tree.specs.Standard.{manager_name}
use Rattle.object_standard.specs.declared.object_manager.ManagedObject.{ManagedObject}
use Rattle.object_signals.specs.Announcing.{tells_added, tells_removed}
use Rattle.peer_objects.specs.Standard.{ManagesObject}
use Rattle.peer_objects.specs.Announcing.{ManagesAlone, AnnouncesOne, AnnouncesAll, AnnouncesAdded, announces_removed}
use Rattle.peer_core.specs.History.{Past}
use Rattle.peer_service.specs.Service.{BoxView, ServiceView, Answers, on_shelf, placing, after_placing, removing, after_removing, Announces, announces_removing}
use Rattle.peer_conn.specs.Invariant.{PeerStateView, Keeps, StateInvariant}
use Rattle.peer_conn.specs.declared.state.RunError.{RunError}
use Rattle.peer_route.specs.{Replay.Replay, Plan.{server_events, plan}, Entries.{Delivers, is_refused, unless_refused}, StreamLaws.is_serve}
use Rattle.peer_route.proofs.Served.{on_asks}
use Rattle.peer_conn.proofs.Called.{AreUnawaited, AreBare}
use Rattle.peer_turns.specs.{Names.{Error, Words, ObjectOp, Answer, Entry}, Objects.{Asks, AsksIn, MayBeSaid, Refuses, AnswersCommand, Turns, AreFunctions, answer_of_placing, answer_of_removing}}
use Rattle.peer_turns.proofs.Standards.{zip_one, managed_object_one}

-- ---- the messages

unawaited : (manager : List ℕ) (o : ManagedObject) → expects (tells_added manager o) ≡ false
unfolding expects_reply
unawaited manager o = refl

removal_unawaited : (manager path name : List ℕ) → expects (tells_removed manager path name) ≡ false
unfolding expects_reply
removal_unawaited manager path name = refl

-- for none of them a reply is waited for, and none has descriptors
abbrev AreQuiet : List OutgoingMessageView → Type 0
AreQuiet list = AreUnawaited list × AreBare list

quiet_none : (list : List OutgoingMessageView) → list ≡ [] → AreQuiet list
quiet_none list is = subst AreQuiet (sym is) (tt, tt)

quiet_added : (manager : List ℕ) (objects : List ManagedObject) → AreQuiet (map (tells_added manager) objects)
quiet_added manager [] = (tt, tt)
quiet_added manager (o ∷ objects) = let more = quiet_added manager objects in ((unawaited manager o, more.0), (refl, more.1))

quiet_removed : (o : Objects) (path name : List ℕ) → AreQuiet (announces_removed o path name)
quiet_removed o path name = by (manager_of o path)
  where
    by : (manager : Option (List ℕ)) → AreQuiet (option_to_list (option_map (λ manager. tells_removed manager path name) manager))
    by None = (tt, tt)
    by (Some manager) = ((removal_unawaited manager path name, tt), (refl, tt))

module _ (meanings : ℕ → Meaning) where
  quiet_one : (manager : Option (List ℕ)) (path : List ℕ) (b : BoxView) (list : List OutgoingMessageView) → AnnouncesOne (λ (b : BoxView). meanings b.number) (λ (b : BoxView). b.state) manager path b list → AreQuiet list
  quiet_one None path b list is = quiet_none list is
  quiet_one (Some manager) path b list (told, alone, is) = subst AreQuiet (sym is) ((unawaited manager told, tt), (refl, tt))

  quiet_placed : (v : ServiceView) (path : List ℕ) (number : ℕ) (r : Result Bool Error) (list : List OutgoingMessageView) → Announces meanings v path number r list → AreQuiet list
  quiet_placed v path number (Ok true) list (b, on, added) = by (is_same (meanings b.number).title manager_name) added
    where
      by : (t : Bool) → MatchBool t (AnnouncesAll (λ (b : BoxView). meanings b.number) (λ (b : BoxView). b.state) v.objects path v.slots list) (AnnouncesOne (λ (b : BoxView). meanings b.number) (λ (b : BoxView). b.state) (manager_of v.objects path) path b list) → AreQuiet list
      by true (told, all, is) = subst AreQuiet (sym is) (quiet_added path told)
      by false one = quiet_one (manager_of v.objects path) path b list one
  quiet_placed v path number (Ok false) list is = quiet_none list is
  quiet_placed v path number (Err error) list is = quiet_none list is

  quiet_gone : (o : Objects) (path : List ℕ) (i : Option (List ℕ)) (r : Result Bool Error) (list : List OutgoingMessageView) → list ≡ announces_removing o path i r → AreQuiet list
  quiet_gone o path (Some name) (Ok destroyed) list is = subst AreQuiet (sym is) (quiet_removed o path name)
  quiet_gone o path (Some name) (Err error) list is = quiet_none list is
  quiet_gone o path None r list is = quiet_none list is

  -- so it is of what is announced of what was asked
  pub asks_quiet : (op : ObjectOp) (said : Answer) (list : List OutgoingMessageView) (old new : ServiceView) → Asks meanings op said list old new → AreQuiet list
  asks_quiet (ObjectOp.At path number) said list old new x = quiet_placed old path number _ list x.2
  asks_quiet (ObjectOp.Remove path interface) said list old new x = quiet_gone old.objects path interface _ list x.2
  asks_quiet (ObjectOp.Interface path interface) said list old new x = quiet_none list x.2
  asks_quiet ObjectOp.Serve said list old new x = absurd x

-- ---- a command that asks something of the objects

-- it is refused by this error, which isn't want of memory
abbrev IsRefusing : Error → Answer → Type 0
IsRefusing error a = Refuses error (let r : Result Answer RunError = Ok a in r)

-- it is what its words mean
pub asked_turns : (meanings : ℕ → Meaning) (t : Replay) (e : Entry) (op : ObjectOp) (said : Answer) (list : List OutgoingMessageView) (old new : ServiceView) (server : Option ℕ) → is_serve op ≡ false → e.words ≡ Words.Objects op
    → server ≡ t.server → Asks meanings op said list old new → Delivers false t.past (unless_refused said (server_events t.past.name server)) list said e → Turns meanings t.past (plan t e.lane e.words) e old new
asked_turns meanings t e op said list old new server own words same asks delivers =
    subst (λ pl. Turns meanings t.past pl e old new) (sym (ap (plan t e.lane) words ∙ on_asks t.past t.server op own)) (record {
      said = said;
      list = list;
      asks = subst (λ w. AsksIn meanings w said list old new) (sym words) asks;
      delivers = subst (λ s. Delivers false t.past (unless_refused said (server_events t.past.name s)) list said e) same delivers;
    })

-- whatever comes of beginning its entry
pub asked_objects : {E : Type 0} (r : Result Entry E) (meanings : ℕ → Meaning) (v : PeerStateView) (op : ObjectOp) (lane : ℕ) (w : Words) (said : Answer) (list : List OutgoingMessageView) (old new : ServiceView)
    → is_serve op ≡ false → w ≡ Words.Objects op → Asks meanings op said list old new → IfOk r (λ e. (e.lane ≡ lane) × (e.words ≡ w))
    → IfOk r (λ e. (p : Past) → Keeps v p → Delivers false p (unless_refused said (server_events p.name v.server)) list said e) → IfOk r (λ e. (t : Replay) → StateInvariant v t → Turns meanings t.past (plan t e.lane e.words) e old new)
asked_objects (Ok e) meanings v op lane w said list old new own words asks command delivers = λ t s.
    asked_turns meanings t e op said list old new v.server own (command.1 ∙ words) s.server asks (delivers t.past s.keeps)
asked_objects (Err error) meanings v op lane w said list old new own words asks command delivers = tt

-- what is refused
pub place_refused : (meanings : ℕ → Meaning) (path : List ℕ) (number : ℕ) (old new : ServiceView) (error : Error) (a : Answer) → IsRefusing error a
    → Answers (Err error) (placing (λ n. (meanings n).title) old.objects path (on_shelf old number)) → new ≡ after_placing (λ n. (meanings n).title) old path number (Err error) → Asks meanings (ObjectOp.At path number) a [] old new
place_refused meanings path number old new Error.Memory a refused answers left = absurd refused
place_refused meanings path number old new error a refused answers left = (
  refused ∙ ap answer_of_placing answers,
  left ∙ ap (after_placing (λ n. (meanings n).title) old path number) answers,
  subst (λ r. Announces meanings old path number r []) answers refl,
)

none_removing : (objects : Objects) (path : List ℕ) (i : Option (List ℕ)) (error : Error) → [] ≡ announces_removing objects path i (Err error)
none_removing objects path None error = refl
none_removing objects path (Some name) error = refl

pub remove_refused : (meanings : ℕ → Meaning) (path : List ℕ) (interface : Option (List ℕ)) (old new : ServiceView) (error : Error) (a : Answer) → IsRefusing error a
    → Answers (Err error) (removing old.objects path interface) → new ≡ after_removing old path interface (Err error) → Asks meanings (ObjectOp.Remove path interface) a [] old new
remove_refused meanings path interface old new Error.Memory a refused answers left = absurd refused
remove_refused meanings path interface old new error a refused answers left = (
  refused ∙ ap answer_of_removing answers,
  left ∙ ap (after_removing old path interface) answers,
  none_removing old.objects path interface error ∙ ap (announces_removing old.objects path interface) answers,
)

-- ---- nothing is announced where it is refused

module _ (meanings : ℕ → Meaning) where
  placed_none : (v : ServiceView) (path : List ℕ) (number : ℕ) (r : Result Bool Error) (list : List OutgoingMessageView) → Announces meanings v path number r list → is_refused (answer_of_placing r) ≡ true → list ≡ []
  placed_none v path number (Ok true) list h refused = cc
  placed_none v path number (Ok false) list h refused = cc
  placed_none v path number (Err error) list h refused = h

  asks_none : (op : ObjectOp) (said : Answer) (list : List OutgoingMessageView) (old new : ServiceView) → Asks meanings op said list old new → is_refused said ≡ true → list ≡ []
  asks_none (ObjectOp.At path number) said list old new x refused = placed_none old path number _ list x.2 (sym (ap is_refused x.0) ∙ refused)
  asks_none (ObjectOp.Remove path interface) said list old new x refused = by interface (removing old.objects path interface) x.2 (sym (ap is_refused x.0) ∙ refused)
    where
      by : (i : Option (List ℕ)) (r : Result Bool Error) → list ≡ announces_removing old.objects path i r → is_refused (answer_of_removing r) ≡ true → list ≡ []
      by None r is so = is
      by (Some name) (Ok b) is so = cc
      by (Some name) (Err error) is so = is
  asks_none (ObjectOp.Interface path interface) said list old new x refused = x.2
  asks_none ObjectOp.Serve said list old new x refused = absurd x

  pub asks_in_none : (w : Words) (said : Answer) (list : List OutgoingMessageView) (old new : ServiceView) → AsksIn meanings w said list old new → is_refused said ≡ true → list ≡ []
  asks_in_none (Words.Objects op) said list old new x refused = asks_none op said list old new x refused
  asks_in_none w said list old new x refused = absurd x

-- ---- of interfaces that answer in one way it is one

module _ (meanings : ℕ → Meaning) (functions : AreFunctions meanings) where
  abbrev means : BoxView → Meaning
  means b = meanings b.number

  abbrev state : BoxView → List ℕ
  state b = b.state

  alone_one : (path : List ℕ) (b : BoxView) (x y : ManagedObject) → ManagesAlone means state path b x → ManagesAlone means state path b y → x ≡ y
  alone_one path b x y p q =
      p.is ∙ ap (λ ps. record { path = path; interfaces = record { name = (meanings b.number).title; properties = ps } ∷ [] }) ((functions b.number).gets_all b.state p.properties q.properties p.got q.got) ∙ sym q.is

  one_one : (manager : Option (List ℕ)) (path : List ℕ) (b : BoxView) (list other : List OutgoingMessageView) → AnnouncesOne means state manager path b list → AnnouncesOne means state manager path b other → list ≡ other
  one_one None path b list other x y = x ∙ sym y
  one_one (Some manager) path b list other (told, p, is) (heard, q, so) = is ∙ ap (λ o. tells_added manager o ∷ []) (alone_one path b told heard p q) ∙ sym so

  all_one : (objects : Objects) (path : List ℕ) (slots : List (Option BoxView)) (list other : List OutgoingMessageView) → AnnouncesAll means state objects path slots list → AnnouncesAll means state objects path slots other → list ≡ other
  all_one objects path slots list other (told, all, is) (heard, each, so) =
      is ∙ ap (map (tells_added path)) (zip_one (ManagesObject means state slots) (managed_object_one meanings functions slots) (below objects path) told heard all each) ∙ sym so

  added_one : (objects : Objects) (path : List ℕ) (b : BoxView) (slots : List (Option BoxView)) (list other : List OutgoingMessageView) → AnnouncesAdded means state objects path b slots list → AnnouncesAdded means state objects path b slots other → list ≡ other
  added_one objects path b slots list other x y = by (is_same (meanings b.number).title manager_name) x y
    where
      by : (t : Bool) → MatchBool t (AnnouncesAll means state objects path slots list) (AnnouncesOne means state (manager_of objects path) path b list)
          → MatchBool t (AnnouncesAll means state objects path slots other) (AnnouncesOne means state (manager_of objects path) path b other) → list ≡ other
      by true p q = all_one objects path slots list other p q
      by false p q = one_one (manager_of objects path) path b list other p q

  announced_one : (v : ServiceView) (path : List ℕ) (number : ℕ) (r : Result Bool Error) (list other : List OutgoingMessageView) → Announces meanings v path number r list → Announces meanings v path number r other → list ≡ other
  announced_one v path number (Ok true) list other (b, on, x) (c, at, y) =
      let same : c ≡ b = same_Some c b (sym at ∙ on) in
      added_one v.objects path b v.slots list other x (subst (λ (z : BoxView). AnnouncesAdded means state v.objects path z v.slots other) same y)
  announced_one v path number (Ok false) list other x y = x ∙ sym y
  announced_one v path number (Err error) list other x y = x ∙ sym y

  -- what is asked of the same objects has one answer, is announced in one way, and leaves the same
  asks_one : (op : ObjectOp) (a b : Answer) (list others : List OutgoingMessageView) (old new other : ServiceView) → Asks meanings op a list old new → Asks meanings op b others old other → (a ≡ b) × (list ≡ others) × (new ≡ other)
  asks_one (ObjectOp.At path number) a b list others old new other p q = (p.0 ∙ sym q.0, announced_one old path number _ list others p.2 q.2, p.1 ∙ sym q.1)
  asks_one (ObjectOp.Remove path interface) a b list others old new other p q = (p.0 ∙ sym q.0, p.2 ∙ sym q.2, p.1 ∙ sym q.1)
  asks_one (ObjectOp.Interface path interface) a b list others old new other p q = (p.0 ∙ sym q.0, p.2 ∙ sym q.2, p.1 ∙ sym q.1)
  asks_one ObjectOp.Serve a b list others old new other p q = absurd p

  pub asks_in_one : (w : Words) (a b : Answer) (list others : List OutgoingMessageView) (old new other : ServiceView) → AsksIn meanings w a list old new → AsksIn meanings w b others old other → (a ≡ b) × (list ≡ others) × (new ≡ other)
  asks_in_one (Words.Objects op) a b list others old new other p q = asks_one op a b list others old new other p q
  asks_in_one w a b list others old new other p q = absurd p
