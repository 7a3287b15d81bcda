-- Rules are equal exactly where they are one.
use Rattle.std.proofs.Common.{◌≡◌, refl, ◌∙◌, ap, Bool, true, nat_eq, [], ◌∷◌, Some, None}
use Rattle.std.specs.Cmp.Lexicographic.{pointwise}
use Rattle.std.specs.Option.{option_eq}
use Rattle.std.proofs.lemmas.Bool.Decides.{Decides-eqb}
use Rattle.wire_message.specs.declared.kind.MessageType.TheVariants.{MethodCall, MethodReturn, Error, Signal}
use Rattle.wire_message.specs.contracts.kind.MessageTypePartialEq.TheImpl.{ghosts as of_kinds}
use Rattle.wire_names.specs.declared.bus.OwnedBusName.TheVariants.{Unique, WellKnown}
use Rattle.rule_match.specs.declared.arguments.Argument.{Argument}
use Rattle.rule_match.specs.SameArgument.{same_argument}
use Rattle.rule_match.proofs.Both.{first_true, second_true, both_true}
use Rattle.rule_match.proofs.Texts.{same_is, is_same}
use Rattle.rule_match.specs.declared.place.PathSpec.TheVariants.{Path, PathNamespace}
use Rattle.rule_match.specs.contracts.place.PathSpecPartialEq.TheImpl.{ghosts as of_places}
use Rattle.rule_match.specs.Rule.{Rule}
use Rattle.rule_match.specs.Sender.{same_sender}
use Rattle.rule_match.specs.contracts.rule.MatchRulePartialEq.TheImpl.{ghosts as of_rules}

-- a test that is passed exactly by what is one
abbrev IsExact : {A : Type 0} → (A → A → Bool) → Type 0
IsExact {A} eq = (x y : A) → (eq x y ≡ true → x ≡ y) × (x ≡ y → eq x y ≡ true)

option_exact : {A : Type 0} (eq : A → A → Bool) → IsExact eq → IsExact (option_eq eq)
option_exact eq h None None = (λ _. refl, λ _. refl)
option_exact eq h None (Some y) = (λ e. absurd (cc), λ e. absurd (cc))
option_exact eq h (Some x) None = (λ e. absurd (cc), λ e. absurd (cc))
option_exact eq h (Some x) (Some y) = (λ e. ap Some ((h x y).0 e), λ e. (h x y).1 (cc))

list_exact : {A : Type 0} (eq : A → A → Bool) → IsExact eq → IsExact (pointwise eq)
list_exact eq h [] [] = (λ _. refl, λ _. refl)
list_exact eq h [] (y ∷ ys) = (λ e. absurd (cc), λ e. absurd (cc))
list_exact eq h (x ∷ xs) [] = (λ e. absurd (cc), λ e. absurd (cc))
list_exact eq h (x ∷ xs) (y ∷ ys) = (
  λ e. ap (λ z. z ∷ xs) ((h x y).0 (first_true _ _ e)) ∙ ap (λ zs. y ∷ zs) ((list_exact eq h xs ys).0 (second_true (eq x y) _ e)),
  λ e.
      both_true _ _ ((h x y).1 (cc)) ((list_exact eq h xs ys).1 (cc)),
)

text_exact : IsExact (pointwise nat_eq)
text_exact x y = (same_is x y, is_same x y)

argument_exact : IsExact same_argument
argument_exact x y = (
  λ e.
      let index : x.index ≡ y.index = (Decides-eqb x.index y.index).0 (first_true _ _ e) in
      let text : x.text ≡ y.text = same_is x.text y.text (second_true (nat_eq x.index y.index) _ e) in
      λ j. record { index = index j; text = text j },
  λ e.
      both_true _ _ ((Decides-eqb x.index y.index).1 (ap (λ (a : Argument). a.index) e)) (is_same x.text y.text (ap (λ (a : Argument). a.text) e)),
)

kind_exact : IsExact of_kinds.eq
kind_exact MethodCall MethodCall = (λ _. refl, λ _. refl)
kind_exact MethodReturn MethodReturn = (λ _. refl, λ _. refl)
kind_exact Error Error = (λ _. refl, λ _. refl)
kind_exact Signal Signal = (λ _. refl, λ _. refl)
kind_exact MethodCall MethodReturn = (λ e. absurd (cc), λ e. absurd (cc))
kind_exact MethodCall Error = (λ e. absurd (cc), λ e. absurd (cc))
kind_exact MethodCall Signal = (λ e. absurd (cc), λ e. absurd (cc))
kind_exact MethodReturn MethodCall = (λ e. absurd (cc), λ e. absurd (cc))
kind_exact MethodReturn Error = (λ e. absurd (cc), λ e. absurd (cc))
kind_exact MethodReturn Signal = (λ e. absurd (cc), λ e. absurd (cc))
kind_exact Error MethodCall = (λ e. absurd (cc), λ e. absurd (cc))
kind_exact Error MethodReturn = (λ e. absurd (cc), λ e. absurd (cc))
kind_exact Error Signal = (λ e. absurd (cc), λ e. absurd (cc))
kind_exact Signal MethodCall = (λ e. absurd (cc), λ e. absurd (cc))
kind_exact Signal MethodReturn = (λ e. absurd (cc), λ e. absurd (cc))
kind_exact Signal Error = (λ e. absurd (cc), λ e. absurd (cc))

sender_exact : IsExact same_sender
sender_exact (Unique x) (Unique y) = (λ e. ap Unique ((text_exact x y).0 e), λ e. (text_exact x y).1 (cc))
sender_exact (Unique x) (WellKnown y) = (λ e. absurd (cc), λ e. absurd (cc))
sender_exact (WellKnown x) (Unique y) = (λ e. absurd (cc), λ e. absurd (cc))
sender_exact (WellKnown x) (WellKnown y) = (λ e. ap WellKnown ((text_exact x y).0 e), λ e. (text_exact x y).1 (cc))

place_exact : IsExact of_places.eq
place_exact (Path x) (Path y) = (λ e. ap Path ((text_exact x y).0 e), λ e. (text_exact x y).1 (cc))
place_exact (Path x) (PathNamespace y) = (λ e. absurd (cc), λ e. absurd (cc))
place_exact (PathNamespace x) (Path y) = (λ e. absurd (cc), λ e. absurd (cc))
place_exact (PathNamespace x) (PathNamespace y) = (λ e. ap PathNamespace ((text_exact x y).0 e), λ e. (text_exact x y).1 (cc))

module _ (r s : Rule) where
  pub equal_is_one : of_rules.eq r s ≡ true → r ≡ s
  equal_is_one h =
      let h1 = second_true (option_eq of_kinds.eq r.kind s.kind) _ h in
      let h2 = second_true (option_eq same_sender r.sender s.sender) _ h1 in
      let h3 = second_true (option_eq (pointwise nat_eq) r.interface s.interface) _ h2 in
      let h4 = second_true (option_eq (pointwise nat_eq) r.member s.member) _ h3 in
      let h5 = second_true (option_eq of_places.eq r.path s.path) _ h4 in
      let h6 = second_true (option_eq (pointwise nat_eq) r.destination s.destination) _ h5 in
      let h7 = second_true (pointwise same_argument r.args s.args) _ h6 in
      let kind = (option_exact of_kinds.eq kind_exact r.kind s.kind).0 (first_true _ _ h) in
      let sender = (option_exact same_sender sender_exact r.sender s.sender).0 (first_true _ _ h1) in
      let interface = (option_exact (pointwise nat_eq) text_exact r.interface s.interface).0 (first_true _ _ h2) in
      let member = (option_exact (pointwise nat_eq) text_exact r.member s.member).0 (first_true _ _ h3) in
      let path = (option_exact of_places.eq place_exact r.path s.path).0 (first_true _ _ h4) in
      let destination = (option_exact (pointwise nat_eq) text_exact r.destination s.destination).0 (first_true _ _ h5) in
      let args = (list_exact same_argument argument_exact r.args s.args).0 (first_true _ _ h6) in
      let arg_paths = (list_exact same_argument argument_exact r.arg_paths s.arg_paths).0 (first_true _ _ h7) in
      let arg0ns = (option_exact (pointwise nat_eq) text_exact r.arg0ns s.arg0ns).0 (second_true (pointwise same_argument r.arg_paths s.arg_paths) _ h7) in
      λ j.
      record {
        kind = kind j;
        sender = sender j;
        interface = interface j;
        member = member j;
        path = path j;
        destination = destination j;
        args = args j;
        arg_paths = arg_paths j;
        arg0ns = arg0ns j;
      }

  pub one_is_equal : r ≡ s → of_rules.eq r s ≡ true
  one_is_equal e =
      both_true _ _ ((option_exact of_kinds.eq kind_exact r.kind s.kind).1 (ap (λ (x : Rule). x.kind) e))
      (both_true _ _ ((option_exact same_sender sender_exact r.sender s.sender).1 (ap (λ (x : Rule). x.sender) e))
      (both_true _ _ ((option_exact (pointwise nat_eq) text_exact r.interface s.interface).1 (ap (λ (x : Rule). x.interface) e))
      (both_true _ _ ((option_exact (pointwise nat_eq) text_exact r.member s.member).1 (ap (λ (x : Rule). x.member) e))
      (both_true _ _ ((option_exact of_places.eq place_exact r.path s.path).1 (ap (λ (x : Rule). x.path) e))
      (both_true _ _ ((option_exact (pointwise nat_eq) text_exact r.destination s.destination).1 (ap (λ (x : Rule). x.destination) e))
      (both_true _ _ ((list_exact same_argument argument_exact r.args s.args).1 (ap (λ (x : Rule). x.args) e))
      (both_true _ _ ((list_exact same_argument argument_exact r.arg_paths s.arg_paths).1 (ap (λ (x : Rule). x.arg_paths) e))
      ((option_exact (pointwise nat_eq) text_exact r.arg0ns s.arg0ns).1 (ap (λ (x : Rule). x.arg0ns) e)))))))))
