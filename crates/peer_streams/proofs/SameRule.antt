-- Rules that are one.
use Rattle.std.proofs.Common.{◌≡◌, ◌↔◌, refl, sym, ◌∙◌, ap, Bool, true, Option, Some, None}
use Rattle.std.specs.Option.{option_eq}
use Rattle.peer_streams.specs.{Names.{OwnedBusName, Unique, WellKnown, MessageType, PathSpec, Path, PathNamespace, Rule}, Rules.{same_kind, same_name, same_place, is_same}}
use Rattle.rule_match.specs.Sender.{same_sender}
use Rattle.rule_match.proofs.Equal.{equal_is_one, one_is_equal}
use Rattle.wire_message.specs.contracts.kind.MessageTypePartialEq.TheImpl.{ghosts as of_kinds}
use Rattle.rule_match.specs.contracts.place.PathSpecPartialEq.TheImpl.{ghosts as of_places}
use Rattle.rule_match.specs.contracts.rule.MatchRulePartialEq.TheImpl.{ghosts as of_rules}

-- ---- the code's test is that of the parts

kind_same : (a b : MessageType) → of_kinds.eq a b ≡ same_kind a b
kind_same MessageType.MethodCall MessageType.MethodCall = refl
kind_same MessageType.MethodCall other = refl
kind_same MessageType.MethodReturn MessageType.MethodReturn = refl
kind_same MessageType.MethodReturn other = refl
kind_same MessageType.Error MessageType.Error = refl
kind_same MessageType.Error other = refl
kind_same MessageType.Signal MessageType.Signal = refl
kind_same MessageType.Signal other = refl

sender_same : (a b : OwnedBusName) → same_sender a b ≡ same_name a b
sender_same (Unique x) (Unique y) = refl
sender_same (Unique x) (WellKnown y) = refl
sender_same (WellKnown x) (Unique y) = refl
sender_same (WellKnown x) (WellKnown y) = refl

place_same : (a b : PathSpec) → of_places.eq a b ≡ same_place a b
place_same (Path x) (Path y) = refl
place_same (Path x) (PathNamespace y) = refl
place_same (PathNamespace x) (Path y) = refl
place_same (PathNamespace x) (PathNamespace y) = refl

option_along : {A : Type 0} (f g : A → A → Bool) → ((x y : A) → f x y ≡ g x y) → (o p : Option A) → option_eq f o p ≡ option_eq g o p
option_along f g e None None = refl
option_along f g e None (Some y) = refl
option_along f g e (Some x) None = refl
option_along f g e (Some x) (Some y) = e x y

pub code_same : (r s : Rule) → of_rules.eq r s ≡ is_same r s
unfolding is_same
code_same r s =
    rw (
      option_along of_kinds.eq same_kind kind_same r.kind s.kind,
      option_along same_sender same_name sender_same r.sender s.sender,
      option_along of_places.eq same_place place_same r.path s.path,
    ) refl

pub same_self : (r : Rule) → is_same r r ≡ true
same_self r = sym (code_same r r) ∙ one_is_equal r r refl

pub same_one : (r s : Rule) → is_same r s ≡ true → r ≡ s
same_one r s e = equal_is_one r s (code_same r s ∙ e)

-- Two rules are one exactly where each part is the same.
pub one_where_same : (r s : Rule) → is_same r s ≡ true ↔ (r ≡ s)
one_where_same r s = (same_one r s, λ e. ap (is_same r) (sym e) ∙ same_self r)
