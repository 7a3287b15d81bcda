-- What the standard interfaces answer: of interfaces that answer in one way it is one; it opens no more than a message may; and it changes no
-- interface but the one whose property is set.
use Rattle.std.proofs.Common.{◌≡◌, ◌≤◌, ◌≢◌, ℕ, zero, suc, refl, sym, ◌∙◌, ap, subst, List, [], ◌∷◌, filter, not, Bool, true, false, cond, Option, Some, None, Result, Ok, Err, slice_get, slice_set, codes, arith}
use Rattle.std.specs.List.{AllByRecursion, AllZip}
use Rattle.std.proofs.lemmas.Option.{same_Some}
use Rattle.wire_tree.specs.Datum.{Datum, data_of, text, string, variant}
use Rattle.wire_encoding.specs.Encoding.{depth, depths}
use Rattle.wire_message.specs.declared.fdo.Error.{Error as fdo}
use Rattle.object_interface.specs.Meaning.{Meaning, IsFunction}
use Rattle.object_interface.specs.Sending.{AreShallow, IsSendable, IsSendableValue, AreSendable}
use Rattle.object_interface.specs.declared.answer.Signal.{Signal}
use Rattle.object_interface.specs.declared.description.Description.{Description}
use Rattle.object_interface.specs.declared.answer.DispatchResult2.{DispatchResult2}
use Rattle.object_interface.specs.declared.answer.DispatchResult2.TheVariants.{NotFound, RequiresMut, Done}
use Rattle.object_tree.specs.Objects.{Objects, Rows, is_same, from_path, below}
use Rattle.object_tree.specs.Standard.{manager_name}
use Rattle.object_tree.specs.Standard.{is_standard}
use Rattle.object_tree.specs.declared.standard.StandardInterface.{StandardInterface}
use Rattle.object_interface.specs.Arguments.{IsBody, IsNoBody}
use Rattle.object_interface.specs.Errors.{alone, invalid}
use Rattle.object_interface.specs.declared.description.DescribedInterface.{DescribedInterface}
use Rattle.object_text.specs.Nodes.{introspection}
use Rattle.object_text.specs.declared.described.DescribedObject.{DescribedObject}
use Rattle.object_standard.specs.Arguments.{TakesNone}
use Rattle.object_standard.specs.Arguments as answers
use Rattle.object_standard.specs.Method.{method_named}
use Rattle.object_standard.specs.ObjectManager.{managed_value, manager_description}
use Rattle.object_standard.specs.Peer.{peer_answer}
use Rattle.object_standard.specs.Properties.{NamesInterface, NamesNone, of_interface, of_property, of_setting, properties_value, unknown_property, answer_of_get, answer_of_set}
use Rattle.object_standard.specs.Standing.{standing}
use Rattle.object_standard.specs.declared.method.StandardMethod.{StandardMethod}
use Rattle.object_standard.specs.declared.method.StandardMethod.TheVariants as methods
use Rattle.object_standard.specs.declared.peer.PeerMethod.{PeerMethod}
use Rattle.object_standard.specs.declared.peer.PeerMethod.TheVariants as peers
use Rattle.object_standard.specs.declared.object_manager.ManagedInterface.{ManagedInterface}
use Rattle.object_standard.specs.declared.object_manager.ManagedObject.{ManagedObject}
use Rattle.object_standard.proofs.Bodies.{one_naming}
use Rattle.object_standard.proofs.Depths.{properties_depth, managed_depth}
use Rattle.peer_objects.specs.Serving.{IsKeptAt}
use Rattle.peer_objects.specs.Dispatching.{Target, Nothing, Standard, Slot, reached, member_in, Reaches, SetsMut}
use Rattle.peer_objects.specs.Standard.{path_in, GetsAt, GetsAllAt, SetsAt, Gets, GetsAll, Sets, DescribesBy, Describes, TellsObject, Introspects, ManagesInterface, ManagesObject, Manages, StandardAnswers, SetsProperty, SetsIn}
use Rattle.peer_objects.specs.Standard as standards
use Rattle.peer_service.specs.Service.{BoxView, number_at}
use Rattle.peer_turns.specs.{Names.{MessageView}, Objects.{AreFunctions}}
use Rattle.peer_turns.proofs.Reached.{after_one, get_other}

-- ---- lists that are told item by item

pub zip_one : {X Y : Type 0} (R : X → Y → Type 0) → ((x : X) (y z : Y) → R x y → R x z → y ≡ z) → (xs : List X) (ys zs : List Y) → AllZip R xs ys → AllZip R xs zs → ys ≡ zs
zip_one R one [] [] [] a b = refl
zip_one R one [] [] (z ∷ zs) a b = absurd b
zip_one R one [] (y ∷ ys) zs a b = absurd a
zip_one R one (x ∷ xs) [] zs a b = absurd a
zip_one R one (x ∷ xs) (y ∷ ys) [] a b = absurd b
zip_one R one (x ∷ xs) (y ∷ ys) (z ∷ zs) a b = ap (λ w. w ∷ ys) (one x y z a.0 b.0) ∙ ap (λ l. z ∷ l) (zip_one R one xs ys zs a.1 b.1)

zip_each : {X Y : Type 0} (R : X → Y → Type 0) (P : Y → Type 0) → ((x : X) (y : Y) → R x y → P y) → (xs : List X) (ys : List Y) → AllZip R xs ys → AllByRecursion P ys
zip_each R P of [] [] all = tt
zip_each R P of [] (y ∷ ys) all = absurd all
zip_each R P of (x ∷ xs) [] all = absurd all
zip_each R P of (x ∷ xs) (y ∷ ys) all = (of x y all.0, zip_each R P of xs ys all.1)

kept_one : (slots : List (Option BoxView)) (k : ℕ) (a b : BoxView) → IsKeptAt slots k a → IsKeptAt slots k b → b ≡ a
kept_one slots k a b h g = same_Some b a (same_Some (Some b) (Some a) (sym g ∙ h))

-- the first text of arguments, and the value in the variant behind it
abbrev text_of : List Datum → List ℕ
text_of (text t bytes ∷ ds) = bytes
text_of other = []

abbrev value_behind : List Datum → Datum
value_behind (d ∷ variant v ∷ ds) = v
value_behind other = text string []

-- ---- one answer

module _ (meanings : ℕ → Meaning) (functions : AreFunctions meanings) where
  abbrev means : BoxView → Meaning
  means b = meanings b.number

  abbrev state : BoxView → List ℕ
  state b = b.state

  none_one : (m : MessageView) (P : DispatchResult2 → Type 0) → ((a b : DispatchResult2) → P a → P b → a ≡ b) → (r q : DispatchResult2) → TakesNone m P r → TakesNone m P q → r ≡ q
  none_one m P one r q (answers.Taken body a) (answers.Taken same b) = one r q a b
  none_one m P one r q (answers.Taken body a) (answers.Refused none is) = absurd (none [] body)
  none_one m P one r q (answers.Refused none is) (answers.Taken body a) = absurd (none [] body)
  none_one m P one r q (answers.Refused none is) (answers.Refused other so) = is ∙ sym so

  -- ---- properties

  got_one : (t : Target) (property : List ℕ) (slots : List (Option BoxView)) (r q : DispatchResult2) → GetsAt means state t property slots r → GetsAt means state t property slots q → r ≡ q
  got_one (Nothing error) property slots r q x y = x ∙ sym y
  got_one (Standard interface) property slots r q x y = x ∙ sym y
  got_one (Slot slot) property slots r q (b, got, here, gets, law, is) (c, other, there, tells, lawful, so) =
      let same = kept_one slots slot b c here there in
      let told = subst (λ (z : BoxView). (meanings z.number).gets z.state property other) same tells in
      is ∙ ap (answer_of_get property) ((functions b.number).gets b.state property got other gets told) ∙ sym so

  gets_one : (objects : Objects) (m : MessageView) (slots : List (Option BoxView)) (r q : DispatchResult2) → Gets means state objects m slots r → Gets means state objects m slots q → r ≡ q
  gets_one objects m slots r q (standards.Taken i p named at) (standards.Taken j o called there) =
      let names = one_naming m of_property i j _ _ named called in
      let property : p ≡ o = ap text_of names.1 in
      let moved = subst (λ z. GetsAt means state (reached objects (path_in m) z) o slots q) (sym names.0) there in
      got_one (reached objects (path_in m) i) p slots r q at (subst (λ z. GetsAt means state (reached objects (path_in m) i) z slots q) (sym property) moved)
  gets_one objects m slots r q (standards.Taken i p named at) (standards.Refused none is) = absurd (none i _ named)
  gets_one objects m slots r q (standards.Refused none is) (standards.Taken i p named at) = absurd (none i _ named)
  gets_one objects m slots r q (standards.Refused none is) (standards.Refused other so) = is ∙ sym so

  got_all_one : (t : Target) (slots : List (Option BoxView)) (r q : DispatchResult2) → GetsAllAt means state t slots r → GetsAllAt means state t slots q → r ≡ q
  got_all_one (Nothing error) slots r q x y = x ∙ sym y
  got_all_one (Standard interface) slots r q x y = x ∙ sym y
  got_all_one (Slot slot) slots r q (b, got, here, gets, law, is) (c, other, there, tells, lawful, so) =
      let same = kept_one slots slot b c here there in
      let told = subst (λ (z : BoxView). (meanings z.number).gets_all z.state other) same tells in
      is ∙ ap (λ ps. alone (Ok (properties_value ps ∷ []))) ((functions b.number).gets_all b.state got other gets told) ∙ sym so

  gets_all_one : (objects : Objects) (m : MessageView) (slots : List (Option BoxView)) (r q : DispatchResult2) → GetsAll means state objects m slots r → GetsAll means state objects m slots q → r ≡ q
  gets_all_one objects m slots r q (standards.Taken i named at) (standards.Taken j called there) =
      let names = one_naming m of_interface i j _ _ named called in
      got_all_one (reached objects (path_in m) i) slots r q at (subst (λ z. GetsAllAt means state (reached objects (path_in m) z) slots q) (sym names.0) there)
  gets_all_one objects m slots r q (standards.Taken i named at) (standards.Refused none is) = absurd (none i _ named)
  gets_all_one objects m slots r q (standards.Refused none is) (standards.Taken i named at) = absurd (none i _ named)
  gets_all_one objects m slots r q (standards.Refused none is) (standards.Refused other so) = is ∙ sym so

  set_one : (t : Target) (property : List ℕ) (value : Datum) (old new other : List (Option BoxView)) (r q : DispatchResult2)
      → SetsAt means state t property value old new r → SetsAt means state t property value old other q
      → ((j : ℕ) → number_at new j ≡ number_at old j) → ((j : ℕ) → number_at other j ≡ number_at old j) → (r ≡ q) × (new ≡ other)
  set_one (Nothing error) property value old new other r q x y numbers others = (x.0 ∙ sym y.0, x.1 ∙ sym y.1)
  set_one (Standard interface) property value old new other r q x y numbers others = (x.0 ∙ sym y.0, x.1 ∙ sym y.1)
  set_one (Slot slot) property value old new other r q (said, x, is) (heard, y, so) numbers others =
      let a = x.reached in
      let b = y.reached in
      let same = kept_one old slot a.before b.before a.kept b.kept in
      let told : (meanings a.before.number).sets a.before.state property value heard b.after.state = subst (λ (z : BoxView). (meanings z.number).sets z.state property value heard b.after.state) same y.told in
      let one = (functions a.before.number).sets a.before.state property value said heard a.after.state b.after.state x.told told in
      (is ∙ ap (answer_of_set property) one.0 ∙ sym so, after_one meanings slot old new other a b one.1 numbers others)

  sets_one : (objects : Objects) (m : MessageView) (old new other : List (Option BoxView)) (r q : DispatchResult2) → Sets means state objects m old new r → Sets means state objects m old other q
      → ((j : ℕ) → number_at new j ≡ number_at old j) → ((j : ℕ) → number_at other j ≡ number_at old j) → (r ≡ q) × (new ≡ other)
  sets_one objects m old new other r q (standards.Taken i p v named at) (standards.Taken j o w called there) numbers others =
      let names = one_naming m of_setting i j _ _ named called in
      let property : p ≡ o = ap text_of names.1 in
      let value : v ≡ w = ap value_behind names.1 in
      let one = subst (λ z. SetsAt means state (reached objects (path_in m) z) o w old other q) (sym names.0) there in
      let two = subst (λ z. SetsAt means state (reached objects (path_in m) i) z w old other q) (sym property) one in
      set_one (reached objects (path_in m) i) p v old new other r q at (subst (λ z. SetsAt means state (reached objects (path_in m) i) p z old other q) (sym value) two) numbers others
  sets_one objects m old new other r q (standards.Taken i p v named at) (standards.Refused none is same) numbers others = absurd (none i _ named)
  sets_one objects m old new other r q (standards.Refused none is same) (standards.Taken i p v named at) numbers others = absurd (none i _ named)
  sets_one objects m old new other r q (standards.Refused none is same) (standards.Refused neither so still) numbers others = (is ∙ sym so, same ∙ sym still)

  -- ---- what is told

  described_by : (slots : List (Option BoxView)) (slot : ℕ) (standard : Bool) (d e : Description) → DescribesBy means state standard slots slot d → DescribesBy means state standard slots slot e → d ≡ e
  described_by slots slot true d e x y = x ∙ sym y
  described_by slots slot false d e (b, here, told) (c, there, tells) =
      let same = kept_one slots slot b c here there in
      (functions b.number).describes b.state d e told (subst (λ (z : BoxView). (meanings z.number).describes z.state e) same tells)

  interface_one : (slots : List (Option BoxView)) (row : List ℕ × ℕ) (x y : DescribedInterface) → (x.name ≡ row.0) × Describes means state slots row x.description → (y.name ≡ row.0) × Describes means state slots row y.description → x ≡ y
  interface_one slots row x y a b =
      ap (λ n. record { name = n; description = x.description }) (a.0 ∙ sym b.0)
      ∙ ap (λ d. record { name = y.name; description = d }) (described_by slots row.1 (is_same row.0 manager_name) x.description y.description a.1 b.1)

  object_one : (slots : List (Option BoxView)) (o : List ℕ × Rows) (x y : DescribedObject) → TellsObject means state slots o x → TellsObject means state slots o y → x ≡ y
  object_one slots o x y a b =
      ap (λ p. record { path = p; interfaces = x.interfaces }) (a.0 ∙ sym b.0)
      ∙ ap (λ l. record { path = y.path; interfaces = l }) (zip_one (λ row (i : DescribedInterface). (i.name ≡ row.0) × Describes means state slots row i.description) (interface_one slots) o.1 x.interfaces y.interfaces a.1 b.1)

  introspects_one : (objects : Objects) (path : List ℕ) (slots : List (Option BoxView)) (r q : DispatchResult2) → Introspects means state objects path slots r → Introspects means state objects path slots q → r ≡ q
  introspects_one objects path slots r q (told, all, is) (other, each, so) =
      is ∙ ap (λ l. alone (Ok (text string (introspection standing l) ∷ []))) (zip_one (TellsObject means state slots) (object_one slots) (from_path objects path) told other all each) ∙ sym so

  managed_interface_one : (slots : List (Option BoxView)) (row : List ℕ × ℕ) (x y : ManagedInterface) → ManagesInterface means state slots row x → ManagesInterface means state slots row y → x ≡ y
  managed_interface_one slots row x y (a, law, b, here, told) (a', law', c, there, tells) =
      let same = kept_one slots row.1 b c here there in
      let one = (functions b.number).gets_all b.state x.properties y.properties told (subst (λ (z : BoxView). (meanings z.number).gets_all z.state y.properties) same tells) in
      ap (λ n. record { name = n; properties = x.properties }) (a ∙ sym a') ∙ ap (λ ps. record { name = y.name; properties = ps }) one

  pub managed_object_one : (slots : List (Option BoxView)) (o : List ℕ × Rows) (x y : ManagedObject) → ManagesObject means state slots o x → ManagesObject means state slots o y → x ≡ y
  managed_object_one slots o x y a b =
      ap (λ p. record { path = p; interfaces = x.interfaces }) (a.0 ∙ sym b.0)
      ∙ ap (λ l. record { path = y.path; interfaces = l }) (zip_one (ManagesInterface means state slots) (managed_interface_one slots) (filter (λ (row : List ℕ × ℕ). not (is_standard row.0)) o.1) x.interfaces y.interfaces a.1 b.1)

  manages_one : (objects : Objects) (path : List ℕ) (slots : List (Option BoxView)) (r q : DispatchResult2) → Manages means state objects path slots r → Manages means state objects path slots q → r ≡ q
  manages_one objects path slots r q (told, all, is) (other, each, so) =
      is ∙ ap (λ l. alone (Ok (managed_value l ∷ []))) (zip_one (ManagesObject means state slots) (managed_object_one slots) (below objects path) told other all each) ∙ sym so

  -- ---- all of them

  is_one : (answer a b : DispatchResult2) → a ≡ answer → b ≡ answer → a ≡ b
  is_one answer a b x y = x ∙ sym y

  pub standard_one : (machine : Option (List ℕ)) (objects : Objects) (method : Option StandardMethod) (m : MessageView) (old new other : List (Option BoxView)) (r q : DispatchResult2)
      → StandardAnswers means state machine objects method m old new r → StandardAnswers means state machine objects method m old other q
      → ((j : ℕ) → number_at new j ≡ number_at old j) → ((j : ℕ) → number_at other j ≡ number_at old j) → (r ≡ q) × (new ≡ other)
  standard_one machine objects None m old new other r q x y numbers others = (x.0 ∙ sym y.0, x.1 ∙ sym y.1)
  standard_one machine objects (Some (methods.Peer method)) m old new other r q x y numbers others = (none_one m _ (is_one (peer_answer machine method)) r q x.0 y.0, x.1 ∙ sym y.1)
  standard_one machine objects (Some methods.Introspect) m old new other r q x y numbers others = (none_one m _ (introspects_one objects (path_in m) old) r q x.0 y.0, x.1 ∙ sym y.1)
  standard_one machine objects (Some methods.Get) m old new other r q x y numbers others = (gets_one objects m old r q x.0 y.0, x.1 ∙ sym y.1)
  standard_one machine objects (Some methods.Set) m old new other r q x y numbers others = sets_one objects m old new other r q x y numbers others
  standard_one machine objects (Some methods.GetAll) m old new other r q x y numbers others = (gets_all_one objects m old r q x.0 y.0, x.1 ∙ sym y.1)
  standard_one machine objects (Some methods.GetManagedObjects) m old new other r q x y numbers others = (none_one m _ (manages_one objects (path_in m) old) r q x.0 y.0, x.1 ∙ sym y.1)

-- ---- how much is opened

-- the values of a message open no more than it may
abbrev pub AreWithin : List Datum → Type 0
AreWithin values = depths (data_of values) ≤ 64

-- those of a reply
abbrev pub IsWithinReply : Result (List Datum) fdo → Type 0
IsWithinReply (Ok values) = AreWithin values
IsWithinReply (Err error) = Unit {0}

-- those of an answer and its signals
abbrev pub Fits : DispatchResult2 → Type 0
Fits (Done d) = IsWithinReply d.result × AllByRecursion (λ (s : Signal). AreWithin s.body) d.before × AllByRecursion (λ (s : Signal). AreWithin s.body) d.after
Fits answer = Unit {0}

shallow_within : (values : List Datum) → AreShallow values → AreWithin values
shallow_within values h = omega (arith, h)

reply_within : (r : Result (List Datum) fdo) (before after : List Signal) → IsSendable (Done (record { result = r; before = before; after = after; notifier = None })) → IsWithinReply r
reply_within (Ok values) before after h = shallow_within values h.0
reply_within (Err error) before after h = tt

signals_within : (ss : List Signal) → AllByRecursion (λ (s : Signal). AreShallow s.body) ss → AllByRecursion (λ (s : Signal). AreWithin s.body) ss
signals_within [] all = tt
signals_within (s ∷ ss) all = (shallow_within s.body all.0, signals_within ss all.1)

-- what can be sent fits
pub sendable_fits : (answer : DispatchResult2) → IsSendable answer → Fits answer
sendable_fits NotFound law = tt
sendable_fits RequiresMut law = tt
sendable_fits (Done d) law = (reply_within d.result d.before d.after (law.0, law.1, law.2), signals_within d.before law.1, signals_within d.after law.2)

fits_same : (a b : DispatchResult2) → a ≡ b → Fits b → Fits a
fits_same a b is h = subst Fits (sym is) h

-- a reply of one value
one_within : (d : Datum) → depth d ≤ 64 → AreWithin (d ∷ [])
one_within d h = omega (arith, h)

peer_fits : (machine : Option (List ℕ)) (method : PeerMethod) → Fits (peer_answer machine method)
peer_fits machine peers.Ping = (omega arith, tt, tt)
peer_fits None peers.GetMachineId = (tt, tt, tt)
peer_fits (Some id) peers.GetMachineId = (one_within (text string id) (omega arith), tt, tt)

none_fits : (m : MessageView) (P : DispatchResult2 → Type 0) → ((a : DispatchResult2) → P a → Fits a) → (r : DispatchResult2) → TakesNone m P r → Fits r
none_fits m P fits r (answers.Taken body a) = fits r a
none_fits m P fits r (answers.Refused none is) = fits_same r invalid is (tt, tt, tt)

get_fits : (property : List ℕ) (got : Option (Result Datum fdo)) → IsSendableValue got → Fits (answer_of_get property got)
get_fits property None law = (tt, tt, tt)
get_fits property (Some (Ok value)) law = (one_within (variant value) (omega (arith, law)), tt, tt)
get_fits property (Some (Err error)) law = (tt, tt, tt)

set_fits : (property : List ℕ) (said : DispatchResult2) → IsSendable said → Fits (answer_of_set property said)
set_fits property NotFound law = (tt, tt, tt)
set_fits property RequiresMut law = (tt, tt, tt)
set_fits property (Done d) law = sendable_fits (Done d) law

properties_fit : (ps : List (List ℕ × Datum)) → AreSendable ps → Fits (alone (Ok (properties_value ps ∷ [])))
properties_fit ps law = let deep = properties_depth ps law in (one_within (properties_value ps) (omega (arith, deep)), tt, tt)

module _ (meanings : ℕ → Meaning) where
  abbrev mean : BoxView → Meaning
  mean b = meanings b.number

  abbrev at : BoxView → List ℕ
  at b = b.state

  got_fits : (t : Target) (property : List ℕ) (slots : List (Option BoxView)) (r : DispatchResult2) → GetsAt mean at t property slots r → Fits r
  got_fits (Nothing error) property slots r x = fits_same r (alone (Err error)) x (tt, tt, tt)
  got_fits (Standard interface) property slots r x = fits_same r (unknown_property property) x (tt, tt, tt)
  got_fits (Slot slot) property slots r (b, got, here, gets, law, is) = fits_same r (answer_of_get property got) is (get_fits property got law)

  gets_fit : (objects : Objects) (m : MessageView) (slots : List (Option BoxView)) (r : DispatchResult2) → Gets mean at objects m slots r → Fits r
  gets_fit objects m slots r (standards.Taken i p named told) = got_fits (reached objects (path_in m) i) p slots r told
  gets_fit objects m slots r (standards.Refused none is) = fits_same r invalid is (tt, tt, tt)

  got_all_fits : (t : Target) (slots : List (Option BoxView)) (r : DispatchResult2) → GetsAllAt mean at t slots r → Fits r
  got_all_fits (Nothing error) slots r x = fits_same r (alone (Err error)) x (tt, tt, tt)
  got_all_fits (Standard interface) slots r x = fits_same r (alone (Ok (properties_value [] ∷ []))) x (properties_fit [] tt)
  got_all_fits (Slot slot) slots r (b, got, here, gets, law, is) = fits_same r (alone (Ok (properties_value got ∷ []))) is (properties_fit got law)

  gets_all_fit : (objects : Objects) (m : MessageView) (slots : List (Option BoxView)) (r : DispatchResult2) → GetsAll mean at objects m slots r → Fits r
  gets_all_fit objects m slots r (standards.Taken i named told) = got_all_fits (reached objects (path_in m) i) slots r told
  gets_all_fit objects m slots r (standards.Refused none is) = fits_same r invalid is (tt, tt, tt)

  was_set_fits : (t : Target) (property : List ℕ) (value : Datum) (old new : List (Option BoxView)) (r : DispatchResult2) → SetsAt mean at t property value old new r → Fits r
  was_set_fits (Nothing error) property value old new r x = fits_same r (alone (Err error)) x.0 (tt, tt, tt)
  was_set_fits (Standard interface) property value old new r x = fits_same r (unknown_property property) x.0 (tt, tt, tt)
  was_set_fits (Slot slot) property value old new r (said, x, is) = fits_same r (answer_of_set property said) is (set_fits property said x.law)

  sets_fit : (objects : Objects) (m : MessageView) (old new : List (Option BoxView)) (r : DispatchResult2) → Sets mean at objects m old new r → Fits r
  sets_fit objects m old new r (standards.Taken i p v named told) = was_set_fits (reached objects (path_in m) i) p v old new r told
  sets_fit objects m old new r (standards.Refused none is same) = fits_same r invalid is (tt, tt, tt)

  manages_fit : (objects : Objects) (path : List ℕ) (slots : List (Option BoxView)) (r : DispatchResult2) → Manages mean at objects path slots r → Fits r
  manages_fit objects path slots r (told, all, is) =
      let each = zip_each (ManagesObject mean at slots) (λ (o : ManagedObject). AllByRecursion (λ (i : ManagedInterface). AreSendable i.properties) o.interfaces)
      (λ o x h. zip_each (ManagesInterface mean at slots) (λ (i : ManagedInterface). AreSendable i.properties) (λ row i g. g.1) (filter (λ (row : List ℕ × ℕ). not (is_standard row.0)) o.1) x.interfaces h.1) (below objects path) told all in
      let deep = managed_depth told each in
      fits_same r (alone (Ok (managed_value told ∷ []))) is (one_within (managed_value told) (omega (arith, deep)), tt, tt)

  -- what a standard interface answers fits
  pub standard_fits : (machine : Option (List ℕ)) (objects : Objects) (method : Option StandardMethod) (m : MessageView) (old new : List (Option BoxView)) (r : DispatchResult2) → StandardAnswers mean at machine objects method m old new r → Fits r
  standard_fits machine objects None m old new r x = fits_same r NotFound x.0 tt
  standard_fits machine objects (Some (methods.Peer method)) m old new r x = none_fits m _ (λ a h. fits_same a (peer_answer machine method) h (peer_fits machine method)) r x.0
  standard_fits machine objects (Some methods.Introspect) m old new r x =
      none_fits m _ (λ a h. fits_same a (alone (Ok (text string (introspection standing h.0) ∷ []))) h.2 (one_within (text string (introspection standing h.0)) (omega arith), tt, tt)) r x.0
  standard_fits machine objects (Some methods.Get) m old new r x = gets_fit objects m old r x.0
  standard_fits machine objects (Some methods.Set) m old new r x = sets_fit objects m old new r x
  standard_fits machine objects (Some methods.GetAll) m old new r x = gets_all_fit objects m old r x.0
  standard_fits machine objects (Some methods.GetManagedObjects) m old new r x = none_fits m _ (manages_fit objects (path_in m) old) r x.0

  -- ---- what is changed

  same_slot : (old new : List (Option BoxView)) (j : ℕ) → new ≡ old → slice_get new j ≡ slice_get old j
  same_slot old new j same = ap (λ xs. slice_get xs j) same

  set_others : (t : Target) (property : List ℕ) (value : Datum) (old new : List (Option BoxView)) (r : DispatchResult2) (j : ℕ) → SetsAt mean at t property value old new r → t ≢ Slot j → slice_get new j ≡ slice_get old j
  set_others (Nothing error) property value old new r j x other = same_slot old new j x.1
  set_others (Standard interface) property value old new r j x other = same_slot old new j x.1
  set_others (Slot slot) property value old new r j (said, x, is) other =
      same_slot (slice_set old slot (Some x.reached.after)) new j x.reached.others ∙ get_other old slot j (Some x.reached.after) (λ same. other (ap Slot same))

  sets_others : (objects : Objects) (m : MessageView) (old new : List (Option BoxView)) (r : DispatchResult2) (j : ℕ) → Sets mean at objects m old new r → (SetsProperty objects m j → ⊥) → slice_get new j ≡ slice_get old j
  sets_others objects m old new r j (standards.Taken i p v named told) other =
      set_others (reached objects (path_in m) i) p v old new r j told (λ same. other (i, p, v, named, same))
  sets_others objects m old new r j (standards.Refused none is same) other = same_slot old new j same

  by_method : (machine : Option (List ℕ)) (objects : Objects) (method : Option StandardMethod) (m : MessageView) (old new : List (Option BoxView)) (r : DispatchResult2) (j : ℕ)
      → StandardAnswers mean at machine objects method m old new r → ((method ≡ Some methods.Set) → SetsProperty objects m j → ⊥) → slice_get new j ≡ slice_get old j
  by_method machine objects None m old new r j x other = same_slot old new j x.1
  by_method machine objects (Some (methods.Peer method)) m old new r j x other = same_slot old new j x.1
  by_method machine objects (Some methods.Introspect) m old new r j x other = same_slot old new j x.1
  by_method machine objects (Some methods.Get) m old new r j x other = same_slot old new j x.1
  by_method machine objects (Some methods.Set) m old new r j x other = sets_others objects m old new r j x (other refl)
  by_method machine objects (Some methods.GetAll) m old new r j x other = same_slot old new j x.1
  by_method machine objects (Some methods.GetManagedObjects) m old new r j x other = same_slot old new j x.1

  pub standard_others : (machine : Option (List ℕ)) (objects : Objects) (interface : StandardInterface) (m : MessageView) (old new : List (Option BoxView)) (r : DispatchResult2) (j : ℕ)
      → StandardAnswers mean at machine objects (method_named interface (member_in m)) m old new r → (SetsIn objects interface m j → ⊥) → slice_get new j ≡ slice_get old j
  standard_others machine objects interface m old new r j x other = by_method machine objects (method_named interface (member_in m)) m old new r j x (λ set sets. other (set, sets))
