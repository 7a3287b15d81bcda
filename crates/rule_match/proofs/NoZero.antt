-- A rule's text holds no 0 byte.
use Rattle.std.proofs.Common.{◌≡◌, ℕ, ◌<◌, refl, ◌∙◌, Bool, true, ◌&&◌, not, List, [], ◌∷◌, ◌++◌, map, codes, nat_lt, Option, Some, None, IfSome, arith}
use Rattle.std.specs.Prelude.{◌==◌}
use Rattle.std.specs.Fmt.{digits}
use Rattle.std.specs.List.{All, list_all, join_with_byte}
use Rattle.std.proofs.lemmas.Bool.{ltb-true}
use Rattle.std.proofs.lemmas.Bool.Decides.{nat_tests}
use Rattle.std.proofs.lemmas.List.Folds.{list_all-append}
use Rattle.std.proofs.lemmas.List.Sums.{AllPass-from_list_all}
use Rattle.wire_message.specs.declared.kind.MessageType.{MessageType}
use Rattle.wire_message.specs.declared.kind.MessageType.TheVariants as types
use Rattle.wire_names.specs.Names.{IsUniqueName, IsInterfaceName, IsMemberName, IsObjectPath}
use Rattle.wire_names.specs.declared.bus.OwnedBusName.{OwnedBusName}
use Rattle.wire_names.specs.declared.bus.OwnedBusName.TheVariants.{Unique, WellKnown}
use Rattle.rule_match.specs.declared.arguments.Argument.{Argument}
use Rattle.rule_match.specs.Arguments.{is_plain, is_argument}
use Rattle.rule_match.proofs.Both.{first_true, second_true, both_true}
use Rattle.rule_match.specs.declared.part.Part.{Part}
use Rattle.rule_match.specs.declared.part.Part.TheVariants as parts
use Rattle.rule_match.specs.declared.place.PathSpec.{PathSpec}
use Rattle.rule_match.specs.declared.place.PathSpec.TheVariants.{Path, PathNamespace}
use Rattle.rule_match.specs.Namespace.{IsNamespace}
use Rattle.rule_match.specs.Rule.{Rule, IsRule, HasNames, IsSender, place_text}
use Rattle.rule_match.specs.Text.{component_text, part_text, one, place_part, parts_of, rule_text}
use Rattle.rule_match.proofs.Clear.{unique_plain, well_known_plain, interface_plain, member_plain, path_plain, namespace_plain}
use Rattle.rule_match.proofs.Reread.{all_below, below_all, arg_key, arg_path_key}

-- ---- components

plain_both : (xs ys : List ℕ) → is_plain xs ≡ true → is_plain ys ≡ true → is_plain (xs ++ ys) ≡ true
plain_both xs ys h k = list_all-append (λ b. not (b == 0)) xs ys ∙ both_true (is_plain xs) (is_plain ys) h k

plain_component : (key value : List ℕ) → is_plain key ≡ true → is_plain value ≡ true → is_plain (component_text key value) ≡ true
plain_component key value h k = plain_both key (61 ∷ 39 ∷ value ++ 39 ∷ []) h (plain_both value (39 ∷ []) k refl)

plain_joined : (cs : List (List ℕ)) → list_all is_plain cs ≡ true → is_plain (join_with_byte 44 cs) ≡ true
plain_joined [] h = refl
plain_joined (c ∷ []) h = first_true (is_plain c) true h
plain_joined (c ∷ d ∷ cs) h =
    plain_both c (44 ∷ join_with_byte 44 (d ∷ cs)) (first_true (is_plain c) (list_all is_plain (d ∷ cs)) h)
    (plain_joined (d ∷ cs) (second_true (is_plain c) (list_all is_plain (d ∷ cs)) h))

-- ---- parts

abbrev keys_test : ℕ → Bool
keys_test i = is_plain (arg_key i) && is_plain (arg_path_key i)

all_keys : all_below keys_test 64 ≡ true
unfolding all_below digits
all_keys = refl

kind_plain : (kind : MessageType) → is_plain (part_text (parts.Kind kind)) ≡ true
kind_plain types.MethodCall = refl
kind_plain types.MethodReturn = refl
kind_plain types.Error = refl
kind_plain types.Signal = refl

sender_plain : (name : OwnedBusName) → IsSender name → is_plain (part_text (parts.Sender name)) ≡ true
sender_plain (Unique name) h = plain_component (codes "sender") name refl (unique_plain name h)
sender_plain (WellKnown name) h = plain_component (codes "sender") name refl (well_known_plain name h)

place_plain : (place : PathSpec) → IsObjectPath (place_text place) → is_plain (part_text (place_part place)) ≡ true
place_plain (Path path) h = plain_component (codes "path") path refl (path_plain path h)
place_plain (PathNamespace path) h = plain_component (codes "path_namespace") path refl (path_plain path h)

argument_plain : (a : Argument) → is_argument a ≡ true → is_plain (part_text (parts.Arg a)) ≡ true
argument_plain a h =
    let tested : keys_test a.index ≡ true = below_all keys_test 64 a.index all_keys (ltb-true a.index 64 (first_true (nat_lt a.index 64) (is_plain a.text) h)) in
    plain_component (arg_key a.index) a.text (first_true (is_plain (arg_key a.index)) (is_plain (arg_path_key a.index)) tested) (second_true (nat_lt a.index 64) (is_plain a.text) h)

path_argument_plain : (a : Argument) → is_argument a ≡ true → is_plain (part_text (parts.ArgPath a)) ≡ true
path_argument_plain a h =
    let tested : keys_test a.index ≡ true = below_all keys_test 64 a.index all_keys (ltb-true a.index 64 (first_true (nat_lt a.index 64) (is_plain a.text) h)) in
    plain_component (arg_path_key a.index) a.text (second_true (is_plain (arg_key a.index)) (is_plain (arg_path_key a.index)) tested) (second_true (nat_lt a.index 64) (is_plain a.text) h)

-- ---- the whole

abbrev are_plain : List Part → Bool
are_plain ps = list_all is_plain (map part_text ps)

plain_parts : (ps qs : List Part) → are_plain ps ≡ true → are_plain qs ≡ true → are_plain (ps ++ qs) ≡ true
plain_parts [] qs h k = k
plain_parts (p ∷ ps) qs h k =
    both_true (is_plain (part_text p)) (are_plain (ps ++ qs)) (first_true (is_plain (part_text p)) (are_plain ps) h)
    (plain_parts ps qs (second_true (is_plain (part_text p)) (are_plain ps) h) k)

plain_kind : (o : Option MessageType) → are_plain (one parts.Kind o) ≡ true
plain_kind None = refl
plain_kind (Some kind) = both_true (is_plain (part_text (parts.Kind kind))) true (kind_plain kind) refl

plain_one : {A : Type 0} (part : A → Part) (P : A → Type 0) (o : Option A) → ((x : A) → P x → is_plain (part_text (part x)) ≡ true) → IfSome o P → are_plain (one part o) ≡ true
plain_one part P None f h = refl
plain_one part P (Some x) f h = both_true (is_plain (part_text (part x))) true (f x h) refl

plain_each : (part : Argument → Part) (more : List Argument) → ((a : Argument) → is_argument a ≡ true → is_plain (part_text (part a)) ≡ true) → list_all is_argument more ≡ true
    → are_plain (map part more) ≡ true
plain_each part [] f h = refl
plain_each part (a ∷ more) f h =
    both_true (is_plain (part_text (part a))) (are_plain (map part more)) (f a (first_true (is_argument a) (list_all is_argument more) h))
    (plain_each part more f (second_true (is_argument a) (list_all is_argument more) h))

plain_rule : (r : Rule) → IsRule r → HasNames r → is_plain (rule_text r) ≡ true
unfolding rule_text parts_of
plain_rule r valid names =
    plain_joined (map part_text (parts_of r))
    (plain_parts (one parts.Kind r.kind) _ (plain_kind r.kind)
    (plain_parts (one parts.Sender r.sender) _ (plain_one parts.Sender IsSender r.sender sender_plain names.sender)
    (plain_parts (one parts.Interface r.interface) _ (plain_one parts.Interface IsInterfaceName r.interface (λ x h. plain_component (codes "interface") x refl (interface_plain x h)) names.interface)
    (plain_parts (one parts.Member r.member) _ (plain_one parts.Member IsMemberName r.member (λ x h. plain_component (codes "member") x refl (member_plain x h)) names.member)
    (plain_parts (one parts.Destination r.destination) _ (plain_one parts.Destination IsUniqueName r.destination (λ x h. plain_component (codes "destination") x refl (unique_plain x h)) names.destination)
    (plain_parts (one place_part r.path) _ (plain_one place_part (λ place. IsObjectPath (place_text place)) r.path place_plain names.path)
    (plain_parts (map parts.Arg r.args) _ (plain_each parts.Arg r.args argument_plain valid.args)
    (plain_parts (map parts.ArgPath r.arg_paths) _ (plain_each parts.ArgPath r.arg_paths path_argument_plain valid.arg_paths)
    (plain_one parts.Arg0Namespace IsNamespace r.arg0ns (λ x h. plain_component (codes "arg0namespace") x refl (namespace_plain x h)) valid.arg0ns)))))))))

positive : (b : ℕ) → not (b == 0) ≡ true → 0 < b
positive b h = grind (arith, nat_tests)

pub no_zero : (r : Rule) → IsRule r → HasNames r → All (λ b. 0 < b) (rule_text r)
no_zero r valid names = λ k d i. positive _ (AllPass-from_list_all (λ b. not (b == 0)) (rule_text r) (plain_rule r valid names) k d i)
