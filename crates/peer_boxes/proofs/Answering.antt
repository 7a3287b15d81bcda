-- The answers of the program's interfaces are what these mean.
use Rattle.std.proofs.Common.{◌≡◌, refl, ap, ◌∙◌, [], ◌∷◌, ℕ, true, List, Result, Ok, Err, codes, IfOk}
use Rattle.wire_signature.specs.SingleType.{basic}
use Rattle.wire_signature.specs.declared.basic.BasicType.TheVariants as basics
use Rattle.wire_tree.specs.Datum.{Datum}
use Rattle.wire_argument.specs.Kinds.{text_in}
use Rattle.wire_body.specs.Chained.{first_of}
use Rattle.wire_message.specs.Front.{MessageView}
use Rattle.object_interface.specs.Arguments.{IsBody, IsNoBody}
use Rattle.object_interface.specs.Errors.{invalid}
use Rattle.object_interface.specs.declared.answer.DispatchResult2.{DispatchResult2}
use Rattle.object_tree.specs.Texts.{is_same}
use Rattle.peer_boxes.specs.Boxes.{GreeterAnswers, Greets, Refuses, greeting, next_count, says}

-- the greeter greets, and counts
pub greets : {E : Type 0} (r : Result DispatchResult2 E) (m : MessageView) (member name : List ℕ) (count later : ℕ)
    → is_same member (codes "SayHello") ≡ true
    → (values : List Datum) × IsBody m (basic basics.String ∷ []) values × (name ≡ text_in (first_of values))
    → IfOk r (λ _. later ≡ next_count count) → IfOk r (λ a. a ≡ says (greeting name later))
    → IfOk r (λ a. GreeterAnswers (count ∷ []) m member a (later ∷ []))
greets (Ok a) m member name count later is b counted said =
    Greets b.0 count is b.1 refl (ap (λ n. n ∷ []) counted) (said ∙ ap (λ t. says (greeting t later)) b.2 ∙ ap (λ n. says (greeting (text_in (first_of b.0)) n)) counted)
greets (Err e) m member name count later is b counted said = tt

-- it refuses
pub refuses : {E : Type 0} (r : Result DispatchResult2 E) (m : MessageView) (member state : List ℕ)
    → is_same member (codes "SayHello") ≡ true → IsNoBody m (basic basics.String ∷ [])
    → IfOk r (λ a. a ≡ invalid) → IfOk r (λ a. GreeterAnswers state m member a state)
refuses (Ok a) m member state is none h = Refuses is none refl h
refuses (Err e) m member state is none h = tt
