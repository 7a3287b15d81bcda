-- An error by which the server itself answers a call can be sent: no text of it holds a 0 byte.
use Rattle.std.proofs.Common.{◌≡◌, refl, sym, ◌∙◌, ap, subst, ℕ, List, [], ◌∷◌, ◌++◌, true, ◌&&◌, codes, Option, Some, None, Result, Ok, Err, IfOk, IfErr, arith}
use Rattle.std.specs.List.{AllPass, list_all}
use Rattle.std.proofs.lemmas.List.Folds.{list_all-append}
use Rattle.std.proofs.lemmas.List.Sums.{list_all-from_AllPass}
use Rattle.std.proofs.lemmas.Bool.Decides.{nat_tests}
use Rattle.std.specs.Prelude.{nat_lt}
use Rattle.wire_number.specs.declared.endian.Endian.{Endian}
use Rattle.wire_signature.specs.SingleType.{SingleType, basic, variant as any}
use Rattle.wire_signature.specs.declared.basic.BasicType.TheVariants as basics
use Rattle.wire_tree.specs.Datum.{Datum, text, string, variant, HasNoZero}
use Rattle.wire_encoding.specs.Each.{EncodeEach}
use Rattle.wire_message.specs.Front.{MessageView}
use Rattle.wire_message.specs.declared.fdo.Error.{Error}
use Rattle.object_interface.specs.Meaning.{Meaning}
use Rattle.object_interface.specs.Sending.{HasSendableError, IsSendable, IsSendableError, IsSendableResult, IsSendableValue}
use Rattle.object_interface.specs.Errors.{alone, invalid}
use Rattle.object_interface.specs.declared.answer.DispatchResult2.{DispatchResult2}
use Rattle.object_interface.specs.declared.answer.DispatchResult2.TheVariants.{NotFound, RequiresMut, Done}
use Rattle.object_tree.specs.Objects.{Objects}
use Rattle.object_standard.specs.Arguments.{TakesNone}
use Rattle.object_standard.specs.Arguments as arguments
use Rattle.object_standard.specs.Peer.{peer_answer}
use Rattle.object_standard.specs.Properties.{NamesInterface, of_interface, of_property, of_setting, unknown_property, answer_of_get, answer_of_set}
use Rattle.object_standard.specs.declared.peer.PeerMethod.{PeerMethod}
use Rattle.object_standard.specs.declared.peer.PeerMethod.TheVariants as methods
use Rattle.peer_objects.specs.Serving.{Slots}
use Rattle.peer_objects.specs.Dispatching.{Target}
use Rattle.peer_objects.specs.Reaching.{target_of, IsSayable}
use Rattle.peer_objects.specs.declared.target.Target.{Target as Found}
use Rattle.peer_objects.specs.declared.target.Target.TheVariants as found
use Rattle.peer_objects.specs.Standard.{GetsAt, GetsAllAt, SetsAt, Introspects, Manages}

-- ---- a property's name among arguments

-- a text of strings
clean : (bytes : List ℕ) → HasNoZero bytes → list_all (nat_lt 0) bytes ≡ true
clean bytes all = list_all-from_AllPass (nat_lt 0) bytes (λ k d less. let more = all k d less in grind (arith, nat_tests, more))

-- the second of arguments
second : (order : Endian) (place : ℕ) (types : List SingleType) (i p : List ℕ) (rest : List Datum) (bytes : List ℕ)
    → EncodeEach order place (basic basics.String ∷ basic basics.String ∷ types) (text string i ∷ text string p ∷ rest) bytes → HasNoZero p
second order place types i p rest bytes s = s.4.3.valid.well_typed.1

-- that there is no property of a name that is no longer than itself
property_clean : (p : List ℕ) → HasNoZero p → HasSendableError (unknown_property p)
property_clean p all = list_all-append (nat_lt 0) p (codes "'") ∙ ap (λ b. b && list_all (nat_lt 0) (codes "'")) (clean p all)

of_property_clean : (m : MessageView) (i p property : List ℕ) → NamesInterface m of_property i (text string p ∷ []) → property ≡ p → HasSendableError (unknown_property property)
of_property_clean m i p property named same =
    subst (λ x. HasSendableError (unknown_property x)) (sym same) (property_clean p (second m.order 0 [] i p [] named.body.front.front named.body.front.encoded))

of_setting_clean : (m : MessageView) (i p property : List ℕ) (v : Datum) → NamesInterface m of_setting i (text string p ∷ variant v ∷ []) → property ≡ p → HasSendableError (unknown_property property)
of_setting_clean m i p property v named same =
    subst (λ x. HasSendableError (unknown_property x)) (sym same) (property_clean p (second m.order 0 (any ∷ []) i p (variant v ∷ []) named.body.front.front named.body.front.encoded))

-- ---- answers

same : (a b : DispatchResult2) → a ≡ b → HasSendableError b → HasSendableError a
same a b is said = subst HasSendableError (sym is) said

-- an answer that can be sent has such an error
result_sayable : (r : Result (List Datum) Error) → IsSendableResult r → IfErr r IsSendableError
result_sayable (Ok values) law = tt
result_sayable (Err error) law = law

pub sendable_sayable : (a : DispatchResult2) → IsSendable a → HasSendableError a
sendable_sayable NotFound law = tt
sendable_sayable RequiresMut law = tt
sendable_sayable (Done d) law = result_sayable d.result law.0

-- Peer's methods
peer_sayable : (machine : Option (List ℕ)) (method : PeerMethod) → HasSendableError (peer_answer machine method)
peer_sayable machine methods.Ping = tt
peer_sayable None methods.GetMachineId = refl
peer_sayable (Some id) methods.GetMachineId = tt

none_sayable : (m : MessageView) (P : DispatchResult2 → Type 0) → ((a : DispatchResult2) → P a → HasSendableError a) → (a : DispatchResult2) → TakesNone m P a → HasSendableError a
none_sayable m P of a (arguments.Taken body is) = of a is
none_sayable m P of a (arguments.Refused none is) = same a invalid is refl

pub peer_law : {E : Type 0} (r : Result DispatchResult2 E) (machine : Option (List ℕ)) (method : PeerMethod) (m : MessageView) → IfOk r (λ a. TakesNone m (λ a. a ≡ peer_answer machine method) a) → IfOk r HasSendableError
peer_law (Ok a) machine method m h = none_sayable m _ (λ a is. same a (peer_answer machine method) is (peer_sayable machine method)) a h
peer_law (Err e) machine method m h = tt

module _ {B : Type 0} (meaning : B → Meaning) (state : B → List ℕ) where
  pub introspects_law : {E : Type 0} (r : Result DispatchResult2 E) (o : Objects) (m : MessageView) (path : List ℕ) (slots : Slots B) → IfOk r (λ a. TakesNone m (Introspects meaning state o path slots) a) → IfOk r HasSendableError
  introspects_law (Ok a) o m path slots h = none_sayable m _ (λ a told. same a _ told.2 tt) a h
  introspects_law (Err e) o m path slots h = tt

  pub manages_law : {E : Type 0} (r : Result DispatchResult2 E) (o : Objects) (m : MessageView) (path : List ℕ) (slots : Slots B) → IfOk r (λ a. TakesNone m (Manages meaning state o path slots) a) → IfOk r HasSendableError
  manages_law (Ok a) o m path slots h = none_sayable m _ (λ a told. same a _ told.2 tt) a h
  manages_law (Err e) o m path slots h = tt

  -- Get, GetAll and Set, of what is reached
  got_from : (property : List ℕ) (got : Option (Result Datum Error)) → IsSendableValue got → HasSendableError (unknown_property property) → HasSendableError (answer_of_get property got)
  got_from property None law clean = clean
  got_from property (Some (Ok value)) law clean = tt
  got_from property (Some (Err error)) law clean = law

  got_at : (t : Found) (property : List ℕ) (slots : Slots B) (a : DispatchResult2) → IsSayable t → HasSendableError (unknown_property property) → GetsAt meaning state (target_of t) property slots a → HasSendableError a
  got_at (found.Nothing error) property slots a sayable clean is = same a (alone (Err error)) is sayable
  got_at (found.Standard interface) property slots a sayable clean is = same a (unknown_property property) is clean
  got_at (found.Slot slot) property slots a sayable clean (b, got, kept, gets, law, is) = same a (answer_of_get property got) is (got_from property got law clean)

  pub got_law : {E : Type 0} (r : Result DispatchResult2 E) (t : Found) (m : MessageView) (slots : Slots B) (i p property : List ℕ) → IsSayable t → NamesInterface m of_property i (text string p ∷ []) → property ≡ p
      → IfOk r (λ a. GetsAt meaning state (target_of t) property slots a) → IfOk r HasSendableError
  got_law (Ok a) t m slots i p property sayable named told gets = got_at t property slots a sayable (of_property_clean m i p property named told) gets
  got_law (Err e) t m slots i p property sayable named told gets = tt

  got_all_at : (t : Found) (slots : Slots B) (a : DispatchResult2) → IsSayable t → GetsAllAt meaning state (target_of t) slots a → HasSendableError a
  got_all_at (found.Nothing error) slots a sayable is = same a (alone (Err error)) is sayable
  got_all_at (found.Standard interface) slots a sayable is = same a _ is tt
  got_all_at (found.Slot slot) slots a sayable (b, got, kept, gets, law, is) = same a _ is tt

  pub got_all_law : {E : Type 0} (r : Result DispatchResult2 E) (t : Found) (slots : Slots B) → IsSayable t → IfOk r (λ a. GetsAllAt meaning state (target_of t) slots a) → IfOk r HasSendableError
  got_all_law (Ok a) t slots sayable gets = got_all_at t slots a sayable gets
  got_all_law (Err e) t slots sayable gets = tt

  set_from : (property : List ℕ) (said : DispatchResult2) → IsSendable said → HasSendableError (unknown_property property) → HasSendableError (answer_of_set property said)
  set_from property NotFound law clean = clean
  set_from property RequiresMut law clean = clean
  set_from property (Done d) law clean = result_sayable d.result law.0

  set_at : (t : Found) (property : List ℕ) (value : Datum) (old new : Slots B) (a : DispatchResult2) → IsSayable t → HasSendableError (unknown_property property) → SetsAt meaning state (target_of t) property value old new a → HasSendableError a
  set_at (found.Nothing error) property value old new a sayable clean h = same a (alone (Err error)) h.0 sayable
  set_at (found.Standard interface) property value old new a sayable clean h = same a (unknown_property property) h.0 clean
  set_at (found.Slot slot) property value old new a sayable clean (said, sets, is) = same a (answer_of_set property said) is (set_from property said sets.law clean)

  pub set_law : {E : Type 0} (r : Result DispatchResult2 E) (t : Found) (m : MessageView) (old new : Slots B) (i p : List ℕ) (v : Datum) (property : List ℕ) (value : Datum) → IsSayable t
      → NamesInterface m of_setting i (text string p ∷ variant v ∷ []) → property ≡ p → IfOk r (λ a. SetsAt meaning state (target_of t) property value old new a) → IfOk r HasSendableError
  set_law (Ok a) t m old new i p v property value sayable named told sets = set_at t property value old new a sayable (of_setting_clean m i p property v named told) sets
  set_law (Err e) t m old new i p v property value sayable named told sets = tt
