-- The text of a rule is read as that rule.
use Rattle.std.proofs.Common.{◌≡◌, ◌≢◌, refl, ap, ◌∙◌, ℕ, List, [], ◌∷◌, ◌++◌, Bool, true, false, ◌&&◌, not, nat_lt, map, codes, Option, Some, None, IfSome, IsTrue, Ok}
use Rattle.std.specs.Prelude.{◌==◌}
use Rattle.std.specs.List.{list_all, slice_split, join_with_byte}
use Rattle.wire_names.specs.Names.{is_unique_name, IsUniqueName, IsWellKnownName, IsInterfaceName, IsMemberName, IsObjectPath}
use Rattle.wire_names.specs.declared.bus.OwnedBusName.{OwnedBusName}
use Rattle.wire_names.specs.declared.bus.OwnedBusName.TheVariants.{Unique, WellKnown}
use Rattle.wire_message.specs.declared.kind.MessageType.{MessageType}
use Rattle.wire_message.specs.declared.kind.MessageType.TheVariants as types
use Rattle.rule_match.specs.declared.arguments.Argument.{Argument}
use Rattle.rule_match.specs.declared.part.Part.{Part}
use Rattle.rule_match.specs.declared.part.Part.TheVariants as parts
use Rattle.rule_match.specs.declared.place.PathSpec.{PathSpec}
use Rattle.rule_match.specs.declared.place.PathSpec.TheVariants.{Path, PathNamespace}
use Rattle.rule_match.specs.Arguments.{is_argument, is_plain}
use Rattle.rule_match.specs.Rule.{Rule, IsRule, HasNames, IsSender, place_text}
use Rattle.rule_match.specs.Again.{has_no_comma, IsReadable}
use Rattle.rule_match.specs.Text.{component_text, part_text, one, place_part, parts_of, said, made, rule_in, rule_text}
use Rattle.rule_match.proofs.Both.{first_true, second_true, both_true, not_true}
use Rattle.rule_match.proofs.Clear.{unique_clear, well_known_clear, interface_clear, member_clear, path_clear, namespace_clear}
use Rattle.rule_match.proofs.Reread.{IsTold, reread, arg_key, arg_path_key, arg_clear, arg_path_clear}
use Rattle.rule_match.proofs.Same.{same_rule}

-- ---- components of joined texts

split_front : (x rest : List ℕ) → has_no_comma x ≡ true → slice_split (λ b. b == 44) (x ++ 44 ∷ rest) ≡ x ∷ slice_split (λ b. b == 44) rest
split_front [] rest h = refl
split_front (b ∷ x) rest h =
    let other : (b == 44) ≡ false = not_true (b == 44) (first_true (not (b == 44)) (has_no_comma x) h) in
    rw (other, split_front x rest (second_true (not (b == 44)) (has_no_comma x) h))

split_alone : (x : List ℕ) → has_no_comma x ≡ true → slice_split (λ b. b == 44) x ≡ x ∷ []
split_alone [] h = refl
split_alone (b ∷ x) h =
    let other : (b == 44) ≡ false = not_true (b == 44) (first_true (not (b == 44)) (has_no_comma x) h) in
    rw (other, split_alone x (second_true (not (b == 44)) (has_no_comma x) h))

split_join : (xs : List (List ℕ)) → xs ≢ [] → list_all has_no_comma xs ≡ true → slice_split (λ b. b == 44) (join_with_byte 44 xs) ≡ xs
split_join [] some h = absurd (some refl)
split_join (x ∷ []) some h = split_alone x (first_true (has_no_comma x) true h)
split_join (x ∷ y ∷ ys) some h =
    split_front x (join_with_byte 44 (y ∷ ys)) (first_true (has_no_comma x) (list_all has_no_comma (y ∷ ys)) h)
    ∙ ap (λ zs. x ∷ zs) (split_join (y ∷ ys) (λ e. cc) (second_true (has_no_comma x) (list_all has_no_comma (y ∷ ys)) h))

-- ---- every part

abbrev AllTold : List Part → Type 0
AllTold [] = Unit {0}
AllTold (p ∷ ps) = IsTold p × AllTold ps

told_join : (ps qs : List Part) → AllTold ps → AllTold qs → AllTold (ps ++ qs)
told_join [] qs h k = k
told_join (p ∷ ps) qs h k = (h.0, told_join ps qs h.1 k)

said_again : (ps : List Part) → AllTold ps → said (map part_text ps) ≡ Ok ps
said_again [] h = refl
said_again (p ∷ ps) h = rw (reread p h.0, said_again ps h.1)

clear_join : (xs ys : List ℕ) → has_no_comma xs ≡ true → has_no_comma ys ≡ true → has_no_comma (xs ++ ys) ≡ true
clear_join [] ys h k = k
clear_join (x ∷ xs) ys h k = both_true (not (x == 44)) (has_no_comma (xs ++ ys)) (first_true (not (x == 44)) (has_no_comma xs) h) (clear_join xs ys (second_true (not (x == 44)) (has_no_comma xs) h) k)

clear_component : (key value : List ℕ) → has_no_comma key ≡ true → has_no_comma value ≡ true → has_no_comma (component_text key value) ≡ true
clear_component key value h k = clear_join key (61 ∷ 39 ∷ value ++ 39 ∷ []) h (clear_join value (39 ∷ []) k refl)

part_clear : (p : Part) → IsTold p → has_no_comma (part_text p) ≡ true
part_clear (parts.Kind types.MethodCall) h = refl
part_clear (parts.Kind types.MethodReturn) h = refl
part_clear (parts.Kind types.Error) h = refl
part_clear (parts.Kind types.Signal) h = refl
part_clear (parts.Sender (Unique name)) h = clear_component (codes "sender") name refl (unique_clear name h)
part_clear (parts.Sender (WellKnown name)) h = clear_component (codes "sender") name refl (well_known_clear name h.0)
part_clear (parts.Interface name) h = clear_component (codes "interface") name refl (interface_clear name h)
part_clear (parts.Member name) h = clear_component (codes "member") name refl (member_clear name h)
part_clear (parts.Path path) h = clear_component (codes "path") path refl (path_clear path h)
part_clear (parts.PathNamespace path) h = clear_component (codes "path_namespace") path refl (path_clear path h)
part_clear (parts.Destination name) h = clear_component (codes "destination") name refl (unique_clear name h)
part_clear (parts.Arg a) h = clear_component (arg_key a.index) a.text (arg_clear a h.0) h.1
part_clear (parts.ArgPath a) h = clear_component (arg_path_key a.index) a.text (arg_path_clear a h.0) h.1
part_clear (parts.Arg0Namespace name) h = clear_component (codes "arg0namespace") name refl (namespace_clear name h)

all_clear : (ps : List Part) → AllTold ps → list_all has_no_comma (map part_text ps) ≡ true
all_clear [] h = refl
all_clear (p ∷ ps) h = both_true (has_no_comma (part_text p)) (list_all has_no_comma (map part_text ps)) (part_clear p h.0) (all_clear ps h.1)

some_text : (ps : List Part) → ps ≢ [] → map part_text ps ≢ []
some_text [] some e = some refl
some_text (p ∷ ps) some e = cc

-- ---- of a rule

told_one : {A : Type 0} (part : A → Part) (P : A → Type 0) (o : Option A) → ((x : A) → P x → IsTold (part x)) → IfSome o P → AllTold (one part o)
told_one part P None f h = tt
told_one part P (Some x) f h = (f x h, tt)

told_kind : (o : Option MessageType) → AllTold (one parts.Kind o)
told_kind None = tt
told_kind (Some x) = (tt, tt)

-- each argument, by `argN` or by `argNpath`
told_args : (part : Argument → Part) → ((a : Argument) → IsTrue (is_argument a) → IsTrue (has_no_comma a.text) → IsTold (part a)) → (more : List Argument) → list_all is_argument more ≡ true
    → list_all (λ (a : Argument). has_no_comma a.text) more ≡ true → AllTold (map part more)
told_args part f [] h k = tt
told_args part f (a ∷ more) h k = (
  f a (first_true (is_argument a) (list_all is_argument more) h) (first_true (has_no_comma a.text) (list_all (λ (a : Argument). has_no_comma a.text) more) k),
  told_args part f more (second_true (is_argument a) (list_all is_argument more) h) (second_true (has_no_comma a.text) (list_all (λ (a : Argument). has_no_comma a.text) more) k),
)

told_place : (place : PathSpec) → IsObjectPath (place_text place) → IsTold (place_part place)
told_place (Path path) h = h
told_place (PathNamespace path) h = h

indices : (p : Argument → Bool) (more : List Argument) → list_all (λ a. nat_lt a.index 64 && p a) more ≡ true → list_all (λ a. nat_lt a.index 64) more ≡ true
indices p [] h = refl
indices p (a ∷ more) h =
    both_true (nat_lt a.index 64) (list_all (λ b. nat_lt b.index 64) more)
    (first_true (nat_lt a.index 64) (p a) (first_true (nat_lt a.index 64 && p a) (list_all (λ b. nat_lt b.index 64 && p b) more) h))
    (indices p more (second_true (nat_lt a.index 64 && p a) (list_all (λ b. nat_lt b.index 64 && p b) more) h))

module _ (only_the_bus : (text : List ℕ) → IsUniqueName text → IsWellKnownName text → text ≡ codes "org.freedesktop.DBus") where
  told_sender : (o : Option OwnedBusName) → IfSome o IsSender → IfSome o (λ name. name ≢ WellKnown (codes "org.freedesktop.DBus")) → AllTold (one parts.Sender o)
  told_sender None h k = tt
  told_sender (Some (Unique name)) h k = (h, tt)
  told_sender (Some (WellKnown name)) h k =
      ((h, not_both (is_unique_name name) refl), tt)
    where
      not_both : (v : Bool) → is_unique_name name ≡ v → is_unique_name name ≡ false
      not_both true e = absurd (k (ap WellKnown (only_the_bus name e h)))
      not_both false e = e

  all_told : (r : Rule) → IsRule r → HasNames r → IsReadable r → AllTold (parts_of r)
  unfolding parts_of
  all_told r valid names readable =
      told_join (one parts.Kind r.kind) _ (told_kind r.kind)
      (told_join (one parts.Sender r.sender) _ (told_sender r.sender names.sender readable.sender)
      (told_join (one parts.Interface r.interface) _ (told_one parts.Interface IsInterfaceName r.interface (λ x h. h) names.interface)
      (told_join (one parts.Member r.member) _ (told_one parts.Member IsMemberName r.member (λ x h. h) names.member)
      (told_join (one parts.Destination r.destination) _ (told_one parts.Destination IsUniqueName r.destination (λ x h. h) names.destination)
      (told_join (one place_part r.path) _ (told_one place_part (λ place. IsObjectPath (place_text place)) r.path told_place names.path)
      (told_join (map parts.Arg r.args) _ (told_args parts.Arg (λ a h k. (h, k)) r.args valid.args readable.args)
      (told_join (map parts.ArgPath r.arg_paths) _ (told_args parts.ArgPath (λ a h k. (h, k)) r.arg_paths valid.arg_paths readable.arg_paths)
      (told_one parts.Arg0Namespace _ r.arg0ns (λ x h. h) valid.arg0ns))))))))

  pub again : (r : Rule) → IsRule r → HasNames r → IsReadable r → rule_in (rule_text r) ≡ Ok r
  unfolding rule_in rule_text
  again r valid names readable =
      let told = all_told r valid names readable in
      ap (λ xs. made (said xs)) (split_join (map part_text (parts_of r)) (some_text (parts_of r) readable.part) (all_clear (parts_of r) told))
      ∙ ap made (said_again (parts_of r) told)
      ∙ ap Ok (same_rule r valid.args_ascend (indices (λ a. is_plain a.text) r.args valid.args) valid.arg_paths_ascend (indices (λ a. is_plain a.text) r.arg_paths valid.arg_paths))
