-- What is answered to the arguments that name an interface.
use Rattle.std.proofs.Common.{◌≡◌, sym, ◌∙◌, ap, subst, ℕ, List, [], ◌∷◌, Option, Some, Result, Ok, Err, IfOk}
use Rattle.wire_tree.specs.Datum.{Datum, text, string, variant}
use Rattle.wire_message.specs.Front.{MessageView}
use Rattle.object_interface.specs.Meaning.{Meaning}
use Rattle.object_interface.specs.declared.answer.DispatchResult2.{DispatchResult2}
use Rattle.object_tree.specs.Objects.{Objects}
use Rattle.object_standard.specs.Properties.{NamesInterface, of_interface, of_property, of_setting}
use Rattle.object_standard.specs.declared.method.StandardMethod.{StandardMethod}
use Rattle.object_standard.specs.declared.method.StandardMethod.TheVariants as methods
use Rattle.peer_objects.specs.Serving.{Slots}
use Rattle.peer_objects.specs.Dispatching.{Target, reached}
use Rattle.peer_objects.specs.Standard.{path_in, GetsAt, GetsAllAt, SetsAt, Gets, GetsAll, Sets, StandardAnswers}
use Rattle.peer_objects.specs.Standard as standards

module _ {B : Type 0} (meaning : B → Meaning) (state : B → List ℕ) where
  pub got : {E : Type 0} (r : Result DispatchResult2 E) (o : Objects) (m : MessageView) (slots : Slots B) (i p path interface property : List ℕ) (t : Target)
      → NamesInterface m of_property i (text string p ∷ []) → path ≡ path_in m → interface ≡ i → property ≡ p → t ≡ reached o path interface
      → IfOk r (λ a. GetsAt meaning state t property slots a) → IfOk r (λ a. Gets meaning state o m slots a)
  got (Ok a) o m slots i p path interface property t named at name told is gets =
      let here : t ≡ reached o (path_in m) i = is ∙ ap (λ x. reached o x interface) at ∙ ap (reached o (path_in m)) name in
      standards.Taken i p named (subst (λ x. GetsAt meaning state x p slots a) here (subst (λ x. GetsAt meaning state t x slots a) told gets))
  got (Err e) o m slots i p path interface property t named at name told is gets = tt

  pub got_all : {E : Type 0} (r : Result DispatchResult2 E) (o : Objects) (m : MessageView) (slots : Slots B) (i path interface : List ℕ) (t : Target)
      → NamesInterface m of_interface i [] → path ≡ path_in m → interface ≡ i → t ≡ reached o path interface
      → IfOk r (λ a. GetsAllAt meaning state t slots a) → IfOk r (λ a. GetsAll meaning state o m slots a)
  got_all (Ok a) o m slots i path interface t named at name is gets =
      let here : t ≡ reached o (path_in m) i = is ∙ ap (λ x. reached o x interface) at ∙ ap (reached o (path_in m)) name in
      standards.Taken i named (subst (λ x. GetsAllAt meaning state x slots a) here gets)
  got_all (Err e) o m slots i path interface t named at name is gets = tt

  pub set : {E : Type 0} (r : Result DispatchResult2 E) (o : Objects) (m : MessageView) (old new : Slots B) (i p : List ℕ) (v : Datum) (path interface property : List ℕ) (value : Datum) (t : Target)
      → NamesInterface m of_setting i (text string p ∷ variant v ∷ []) → path ≡ path_in m → interface ≡ i → property ≡ p → value ≡ v → t ≡ reached o path interface
      → IfOk r (λ a. SetsAt meaning state t property value old new a) → IfOk r (λ a. Sets meaning state o m old new a)
  set (Ok a) o m old new i p v path interface property value t named at name told same is sets =
      let here : t ≡ reached o (path_in m) i = is ∙ ap (λ x. reached o x interface) at ∙ ap (reached o (path_in m)) name in
      let one = subst (λ x. SetsAt meaning state t x value old new a) told sets in
      let two = subst (λ x. SetsAt meaning state t p x old new a) same one in
      standards.Taken i p v named (subst (λ x. SetsAt meaning state x p v old new a) here two)
  set (Err e) o m old new i p v path interface property value t named at name told same is sets = tt

  -- of the method that was found, and that changes nothing
  pub by_get : {E : Type 0} (r : Result DispatchResult2 E) (machine : Option (List ℕ)) (o : Objects) (method : Option StandardMethod) (m : MessageView) (old new : Slots B) → method ≡ Some methods.Get → new ≡ old
      → IfOk r (λ a. Gets meaning state o m old a) → IfOk r (λ a. StandardAnswers meaning state machine o method m old new a)
  by_get (Ok a) machine o method m old new is same h = subst (λ x. StandardAnswers meaning state machine o x m old new a) (sym is) (h, same)
  by_get (Err e) machine o method m old new is same h = tt

  pub by_get_all : {E : Type 0} (r : Result DispatchResult2 E) (machine : Option (List ℕ)) (o : Objects) (method : Option StandardMethod) (m : MessageView) (old new : Slots B) → method ≡ Some methods.GetAll → new ≡ old
      → IfOk r (λ a. GetsAll meaning state o m old a) → IfOk r (λ a. StandardAnswers meaning state machine o method m old new a)
  by_get_all (Ok a) machine o method m old new is same h = subst (λ x. StandardAnswers meaning state machine o x m old new a) (sym is) (h, same)
  by_get_all (Err e) machine o method m old new is same h = tt
