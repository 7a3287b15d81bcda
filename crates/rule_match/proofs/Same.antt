-- The parts of a rule make that rule.
use Rattle.std.proofs.Common.{◌≡◌, refl, sym, ap, ◌∙◌, ℕ, List, [], ◌∷◌, ◌++◌, append_assoc, append-nil, Bool, true, false, nat_lt, map, Option, Some, None, arith}
use Rattle.std.specs.List.{filter, list_all}
use Rattle.std.proofs.lemmas.Bool.{ltb-true}
use Rattle.std.proofs.lemmas.Bool.Decides.{nat_tests}
use Rattle.rule_match.specs.declared.arguments.Argument.{Argument}
use Rattle.rule_match.specs.declared.part.Part.{Part}
use Rattle.rule_match.specs.declared.part.Part.TheVariants as parts
use Rattle.rule_match.specs.declared.place.PathSpec.{PathSpec}
use Rattle.rule_match.specs.declared.place.PathSpec.TheVariants.{Path, PathNamespace}
use Rattle.rule_match.specs.Arguments.{is_ascending, in_order, put}
use Rattle.rule_match.specs.Rule.{Rule}
use Rattle.rule_match.specs.Text.{or_else, last_of, text_at, kind_in, sender_in, interface_in, member_in, place_in, destination_in, arg_in, arg_path_in, arg0ns_in, one, place_part, parts_of, rule_of}
use Rattle.rule_match.proofs.Both.{first_true, second_true, both_true}
use Rattle.rule_match.proofs.Made.{or_nothing, or_assoc, last_more, newer, same_below, in_order_put}

last_append : {A : Type 0} (value : Part → Option A) (xs ys : List Part) → last_of value (xs ++ ys) ≡ or_else (last_of value ys) (last_of value xs)
last_append value [] ys = sym (or_nothing (last_of value ys))
last_append value (p ∷ xs) ys = rw (last_append value xs ys) (or_assoc (last_of value ys) (last_of value xs) (value p))

silent_one : {A B : Type 0} (value : Part → Option A) (part : B → Part) (o : Option B) → ((x : B) → value (part x) ≡ None) → last_of value (one part o) ≡ None
silent_one value part None h = refl
silent_one value part (Some x) h = h x

silent_list : {A B : Type 0} (value : Part → Option A) (part : B → Part) (xs : List B) → ((x : B) → value (part x) ≡ None) → last_of value (map part xs) ≡ None
silent_list value part [] h = refl
silent_list value part (x ∷ xs) h = rw (silent_list value part xs h) (h x)

here_one : {A : Type 0} (value : Part → Option A) (part : A → Part) (o : Option A) → ((x : A) → value (part x) ≡ Some x) → last_of value (one part o) ≡ o
here_one value part None h = refl
here_one value part (Some x) h = h x

silent_join : {A : Type 0} (value : Part → Option A) (xs ys : List Part) → last_of value xs ≡ None → last_of value ys ≡ None → last_of value (xs ++ ys) ≡ None
silent_join value xs ys h k = last_append value xs ys ∙ rw (h, k)

behind : {A : Type 0} (value : Part → Option A) (xs ys : List Part) → last_of value xs ≡ None → last_of value (xs ++ ys) ≡ last_of value ys
behind value xs ys h = last_append value xs ys ∙ rw h (or_nothing (last_of value ys))

front : {A : Type 0} (value : Part → Option A) (xs ys : List Part) → last_of value ys ≡ None → last_of value (xs ++ ys) ≡ last_of value xs
front value xs ys h = last_append value xs ys ∙ rw h

place_silent : {A : Type 0} (value : Part → Option A) → ((x : List ℕ) → value (parts.Path x) ≡ None) → ((x : List ℕ) → value (parts.PathNamespace x) ≡ None) → (place : PathSpec) → value (place_part place) ≡ None
place_silent value h k (Path x) = h x
place_silent value h k (PathNamespace x) = k x

place_here : (place : PathSpec) → place_in (place_part place) ≡ Some place
place_here (Path x) = refl
place_here (PathNamespace x) = refl

module _ (r : Rule) where
  kind_again : last_of kind_in (parts_of r) ≡ r.kind
  unfolding parts_of
  kind_again =
      front kind_in (one parts.Kind r.kind) ((one parts.Sender r.sender) ++ ((one parts.Interface r.interface) ++ ((one parts.Member r.member) ++ ((one parts.Destination r.destination) ++ ((one place_part r.path) ++ ((map parts.Arg r.args) ++ ((map parts.ArgPath r.arg_paths) ++ (one parts.Arg0Namespace r.arg0ns)))))))) (silent_join kind_in (one parts.Sender r.sender) ((one parts.Interface r.interface) ++ ((one parts.Member r.member) ++ ((one parts.Destination r.destination) ++ ((one place_part r.path) ++ ((map parts.Arg r.args) ++ ((map parts.ArgPath r.arg_paths) ++ (one parts.Arg0Namespace r.arg0ns))))))) (silent_one kind_in parts.Sender r.sender (λ x. refl)) (silent_join kind_in (one parts.Interface r.interface) ((one parts.Member r.member) ++ ((one parts.Destination r.destination) ++ ((one place_part r.path) ++ ((map parts.Arg r.args) ++ ((map parts.ArgPath r.arg_paths) ++ (one parts.Arg0Namespace r.arg0ns)))))) (silent_one kind_in parts.Interface r.interface (λ x. refl)) (silent_join kind_in (one parts.Member r.member) ((one parts.Destination r.destination) ++ ((one place_part r.path) ++ ((map parts.Arg r.args) ++ ((map parts.ArgPath r.arg_paths) ++ (one parts.Arg0Namespace r.arg0ns))))) (silent_one kind_in parts.Member r.member (λ x. refl)) (silent_join kind_in (one parts.Destination r.destination) ((one place_part r.path) ++ ((map parts.Arg r.args) ++ ((map parts.ArgPath r.arg_paths) ++ (one parts.Arg0Namespace r.arg0ns)))) (silent_one kind_in parts.Destination r.destination (λ x. refl)) (silent_join kind_in (one place_part r.path) ((map parts.Arg r.args) ++ ((map parts.ArgPath r.arg_paths) ++ (one parts.Arg0Namespace r.arg0ns))) (silent_one kind_in place_part r.path (place_silent kind_in (λ x. refl) (λ x. refl))) (silent_join kind_in (map parts.Arg r.args) ((map parts.ArgPath r.arg_paths) ++ (one parts.Arg0Namespace r.arg0ns)) (silent_list kind_in parts.Arg r.args (λ x. refl)) (silent_join kind_in (map parts.ArgPath r.arg_paths) (one parts.Arg0Namespace r.arg0ns) (silent_list kind_in parts.ArgPath r.arg_paths (λ x. refl)) (silent_one kind_in parts.Arg0Namespace r.arg0ns (λ x. refl)))))))))
      ∙ here_one kind_in parts.Kind r.kind (λ x. refl)

  sender_again : last_of sender_in (parts_of r) ≡ r.sender
  unfolding parts_of
  sender_again =
      behind sender_in (one parts.Kind r.kind) ((one parts.Sender r.sender) ++ ((one parts.Interface r.interface) ++ ((one parts.Member r.member) ++ ((one parts.Destination r.destination) ++ ((one place_part r.path) ++ ((map parts.Arg r.args) ++ ((map parts.ArgPath r.arg_paths) ++ (one parts.Arg0Namespace r.arg0ns)))))))) (silent_one sender_in parts.Kind r.kind (λ x. refl))
      ∙ front sender_in (one parts.Sender r.sender) ((one parts.Interface r.interface) ++ ((one parts.Member r.member) ++ ((one parts.Destination r.destination) ++ ((one place_part r.path) ++ ((map parts.Arg r.args) ++ ((map parts.ArgPath r.arg_paths) ++ (one parts.Arg0Namespace r.arg0ns))))))) (silent_join sender_in (one parts.Interface r.interface) ((one parts.Member r.member) ++ ((one parts.Destination r.destination) ++ ((one place_part r.path) ++ ((map parts.Arg r.args) ++ ((map parts.ArgPath r.arg_paths) ++ (one parts.Arg0Namespace r.arg0ns)))))) (silent_one sender_in parts.Interface r.interface (λ x. refl)) (silent_join sender_in (one parts.Member r.member) ((one parts.Destination r.destination) ++ ((one place_part r.path) ++ ((map parts.Arg r.args) ++ ((map parts.ArgPath r.arg_paths) ++ (one parts.Arg0Namespace r.arg0ns))))) (silent_one sender_in parts.Member r.member (λ x. refl)) (silent_join sender_in (one parts.Destination r.destination) ((one place_part r.path) ++ ((map parts.Arg r.args) ++ ((map parts.ArgPath r.arg_paths) ++ (one parts.Arg0Namespace r.arg0ns)))) (silent_one sender_in parts.Destination r.destination (λ x. refl)) (silent_join sender_in (one place_part r.path) ((map parts.Arg r.args) ++ ((map parts.ArgPath r.arg_paths) ++ (one parts.Arg0Namespace r.arg0ns))) (silent_one sender_in place_part r.path (place_silent sender_in (λ x. refl) (λ x. refl))) (silent_join sender_in (map parts.Arg r.args) ((map parts.ArgPath r.arg_paths) ++ (one parts.Arg0Namespace r.arg0ns)) (silent_list sender_in parts.Arg r.args (λ x. refl)) (silent_join sender_in (map parts.ArgPath r.arg_paths) (one parts.Arg0Namespace r.arg0ns) (silent_list sender_in parts.ArgPath r.arg_paths (λ x. refl)) (silent_one sender_in parts.Arg0Namespace r.arg0ns (λ x. refl))))))))
      ∙ here_one sender_in parts.Sender r.sender (λ x. refl)

  interface_again : last_of interface_in (parts_of r) ≡ r.interface
  unfolding parts_of
  interface_again =
      behind interface_in (one parts.Kind r.kind) ((one parts.Sender r.sender) ++ ((one parts.Interface r.interface) ++ ((one parts.Member r.member) ++ ((one parts.Destination r.destination) ++ ((one place_part r.path) ++ ((map parts.Arg r.args) ++ ((map parts.ArgPath r.arg_paths) ++ (one parts.Arg0Namespace r.arg0ns)))))))) (silent_one interface_in parts.Kind r.kind (λ x. refl))
      ∙ behind interface_in (one parts.Sender r.sender) ((one parts.Interface r.interface) ++ ((one parts.Member r.member) ++ ((one parts.Destination r.destination) ++ ((one place_part r.path) ++ ((map parts.Arg r.args) ++ ((map parts.ArgPath r.arg_paths) ++ (one parts.Arg0Namespace r.arg0ns))))))) (silent_one interface_in parts.Sender r.sender (λ x. refl))
      ∙ front interface_in (one parts.Interface r.interface) ((one parts.Member r.member) ++ ((one parts.Destination r.destination) ++ ((one place_part r.path) ++ ((map parts.Arg r.args) ++ ((map parts.ArgPath r.arg_paths) ++ (one parts.Arg0Namespace r.arg0ns)))))) (silent_join interface_in (one parts.Member r.member) ((one parts.Destination r.destination) ++ ((one place_part r.path) ++ ((map parts.Arg r.args) ++ ((map parts.ArgPath r.arg_paths) ++ (one parts.Arg0Namespace r.arg0ns))))) (silent_one interface_in parts.Member r.member (λ x. refl)) (silent_join interface_in (one parts.Destination r.destination) ((one place_part r.path) ++ ((map parts.Arg r.args) ++ ((map parts.ArgPath r.arg_paths) ++ (one parts.Arg0Namespace r.arg0ns)))) (silent_one interface_in parts.Destination r.destination (λ x. refl)) (silent_join interface_in (one place_part r.path) ((map parts.Arg r.args) ++ ((map parts.ArgPath r.arg_paths) ++ (one parts.Arg0Namespace r.arg0ns))) (silent_one interface_in place_part r.path (place_silent interface_in (λ x. refl) (λ x. refl))) (silent_join interface_in (map parts.Arg r.args) ((map parts.ArgPath r.arg_paths) ++ (one parts.Arg0Namespace r.arg0ns)) (silent_list interface_in parts.Arg r.args (λ x. refl)) (silent_join interface_in (map parts.ArgPath r.arg_paths) (one parts.Arg0Namespace r.arg0ns) (silent_list interface_in parts.ArgPath r.arg_paths (λ x. refl)) (silent_one interface_in parts.Arg0Namespace r.arg0ns (λ x. refl)))))))
      ∙ here_one interface_in parts.Interface r.interface (λ x. refl)

  member_again : last_of member_in (parts_of r) ≡ r.member
  unfolding parts_of
  member_again =
      behind member_in (one parts.Kind r.kind) ((one parts.Sender r.sender) ++ ((one parts.Interface r.interface) ++ ((one parts.Member r.member) ++ ((one parts.Destination r.destination) ++ ((one place_part r.path) ++ ((map parts.Arg r.args) ++ ((map parts.ArgPath r.arg_paths) ++ (one parts.Arg0Namespace r.arg0ns)))))))) (silent_one member_in parts.Kind r.kind (λ x. refl))
      ∙ behind member_in (one parts.Sender r.sender) ((one parts.Interface r.interface) ++ ((one parts.Member r.member) ++ ((one parts.Destination r.destination) ++ ((one place_part r.path) ++ ((map parts.Arg r.args) ++ ((map parts.ArgPath r.arg_paths) ++ (one parts.Arg0Namespace r.arg0ns))))))) (silent_one member_in parts.Sender r.sender (λ x. refl))
      ∙ behind member_in (one parts.Interface r.interface) ((one parts.Member r.member) ++ ((one parts.Destination r.destination) ++ ((one place_part r.path) ++ ((map parts.Arg r.args) ++ ((map parts.ArgPath r.arg_paths) ++ (one parts.Arg0Namespace r.arg0ns)))))) (silent_one member_in parts.Interface r.interface (λ x. refl))
      ∙ front member_in (one parts.Member r.member) ((one parts.Destination r.destination) ++ ((one place_part r.path) ++ ((map parts.Arg r.args) ++ ((map parts.ArgPath r.arg_paths) ++ (one parts.Arg0Namespace r.arg0ns))))) (silent_join member_in (one parts.Destination r.destination) ((one place_part r.path) ++ ((map parts.Arg r.args) ++ ((map parts.ArgPath r.arg_paths) ++ (one parts.Arg0Namespace r.arg0ns)))) (silent_one member_in parts.Destination r.destination (λ x. refl)) (silent_join member_in (one place_part r.path) ((map parts.Arg r.args) ++ ((map parts.ArgPath r.arg_paths) ++ (one parts.Arg0Namespace r.arg0ns))) (silent_one member_in place_part r.path (place_silent member_in (λ x. refl) (λ x. refl))) (silent_join member_in (map parts.Arg r.args) ((map parts.ArgPath r.arg_paths) ++ (one parts.Arg0Namespace r.arg0ns)) (silent_list member_in parts.Arg r.args (λ x. refl)) (silent_join member_in (map parts.ArgPath r.arg_paths) (one parts.Arg0Namespace r.arg0ns) (silent_list member_in parts.ArgPath r.arg_paths (λ x. refl)) (silent_one member_in parts.Arg0Namespace r.arg0ns (λ x. refl))))))
      ∙ here_one member_in parts.Member r.member (λ x. refl)

  destination_again : last_of destination_in (parts_of r) ≡ r.destination
  unfolding parts_of
  destination_again =
      behind destination_in (one parts.Kind r.kind) ((one parts.Sender r.sender) ++ ((one parts.Interface r.interface) ++ ((one parts.Member r.member) ++ ((one parts.Destination r.destination) ++ ((one place_part r.path) ++ ((map parts.Arg r.args) ++ ((map parts.ArgPath r.arg_paths) ++ (one parts.Arg0Namespace r.arg0ns)))))))) (silent_one destination_in parts.Kind r.kind (λ x. refl))
      ∙ behind destination_in (one parts.Sender r.sender) ((one parts.Interface r.interface) ++ ((one parts.Member r.member) ++ ((one parts.Destination r.destination) ++ ((one place_part r.path) ++ ((map parts.Arg r.args) ++ ((map parts.ArgPath r.arg_paths) ++ (one parts.Arg0Namespace r.arg0ns))))))) (silent_one destination_in parts.Sender r.sender (λ x. refl))
      ∙ behind destination_in (one parts.Interface r.interface) ((one parts.Member r.member) ++ ((one parts.Destination r.destination) ++ ((one place_part r.path) ++ ((map parts.Arg r.args) ++ ((map parts.ArgPath r.arg_paths) ++ (one parts.Arg0Namespace r.arg0ns)))))) (silent_one destination_in parts.Interface r.interface (λ x. refl))
      ∙ behind destination_in (one parts.Member r.member) ((one parts.Destination r.destination) ++ ((one place_part r.path) ++ ((map parts.Arg r.args) ++ ((map parts.ArgPath r.arg_paths) ++ (one parts.Arg0Namespace r.arg0ns))))) (silent_one destination_in parts.Member r.member (λ x. refl))
      ∙ front destination_in (one parts.Destination r.destination) ((one place_part r.path) ++ ((map parts.Arg r.args) ++ ((map parts.ArgPath r.arg_paths) ++ (one parts.Arg0Namespace r.arg0ns)))) (silent_join destination_in (one place_part r.path) ((map parts.Arg r.args) ++ ((map parts.ArgPath r.arg_paths) ++ (one parts.Arg0Namespace r.arg0ns))) (silent_one destination_in place_part r.path (place_silent destination_in (λ x. refl) (λ x. refl))) (silent_join destination_in (map parts.Arg r.args) ((map parts.ArgPath r.arg_paths) ++ (one parts.Arg0Namespace r.arg0ns)) (silent_list destination_in parts.Arg r.args (λ x. refl)) (silent_join destination_in (map parts.ArgPath r.arg_paths) (one parts.Arg0Namespace r.arg0ns) (silent_list destination_in parts.ArgPath r.arg_paths (λ x. refl)) (silent_one destination_in parts.Arg0Namespace r.arg0ns (λ x. refl)))))
      ∙ here_one destination_in parts.Destination r.destination (λ x. refl)

  path_again : last_of place_in (parts_of r) ≡ r.path
  unfolding parts_of
  path_again =
      behind place_in (one parts.Kind r.kind) ((one parts.Sender r.sender) ++ ((one parts.Interface r.interface) ++ ((one parts.Member r.member) ++ ((one parts.Destination r.destination) ++ ((one place_part r.path) ++ ((map parts.Arg r.args) ++ ((map parts.ArgPath r.arg_paths) ++ (one parts.Arg0Namespace r.arg0ns)))))))) (silent_one place_in parts.Kind r.kind (λ x. refl))
      ∙ behind place_in (one parts.Sender r.sender) ((one parts.Interface r.interface) ++ ((one parts.Member r.member) ++ ((one parts.Destination r.destination) ++ ((one place_part r.path) ++ ((map parts.Arg r.args) ++ ((map parts.ArgPath r.arg_paths) ++ (one parts.Arg0Namespace r.arg0ns))))))) (silent_one place_in parts.Sender r.sender (λ x. refl))
      ∙ behind place_in (one parts.Interface r.interface) ((one parts.Member r.member) ++ ((one parts.Destination r.destination) ++ ((one place_part r.path) ++ ((map parts.Arg r.args) ++ ((map parts.ArgPath r.arg_paths) ++ (one parts.Arg0Namespace r.arg0ns)))))) (silent_one place_in parts.Interface r.interface (λ x. refl))
      ∙ behind place_in (one parts.Member r.member) ((one parts.Destination r.destination) ++ ((one place_part r.path) ++ ((map parts.Arg r.args) ++ ((map parts.ArgPath r.arg_paths) ++ (one parts.Arg0Namespace r.arg0ns))))) (silent_one place_in parts.Member r.member (λ x. refl))
      ∙ behind place_in (one parts.Destination r.destination) ((one place_part r.path) ++ ((map parts.Arg r.args) ++ ((map parts.ArgPath r.arg_paths) ++ (one parts.Arg0Namespace r.arg0ns)))) (silent_one place_in parts.Destination r.destination (λ x. refl))
      ∙ front place_in (one place_part r.path) ((map parts.Arg r.args) ++ ((map parts.ArgPath r.arg_paths) ++ (one parts.Arg0Namespace r.arg0ns))) (silent_join place_in (map parts.Arg r.args) ((map parts.ArgPath r.arg_paths) ++ (one parts.Arg0Namespace r.arg0ns)) (silent_list place_in parts.Arg r.args (λ x. refl)) (silent_join place_in (map parts.ArgPath r.arg_paths) (one parts.Arg0Namespace r.arg0ns) (silent_list place_in parts.ArgPath r.arg_paths (λ x. refl)) (silent_one place_in parts.Arg0Namespace r.arg0ns (λ x. refl))))
      ∙ here_one place_in place_part r.path place_here

  args_found : (i : ℕ) → last_of (arg_in i) (parts_of r) ≡ last_of (arg_in i) (map parts.Arg r.args)
  unfolding parts_of
  args_found i =
      behind (arg_in i) (one parts.Kind r.kind) ((one parts.Sender r.sender) ++ ((one parts.Interface r.interface) ++ ((one parts.Member r.member) ++ ((one parts.Destination r.destination) ++ ((one place_part r.path) ++ ((map parts.Arg r.args) ++ ((map parts.ArgPath r.arg_paths) ++ (one parts.Arg0Namespace r.arg0ns)))))))) (silent_one (arg_in i) parts.Kind r.kind (λ x. refl))
      ∙ behind (arg_in i) (one parts.Sender r.sender) ((one parts.Interface r.interface) ++ ((one parts.Member r.member) ++ ((one parts.Destination r.destination) ++ ((one place_part r.path) ++ ((map parts.Arg r.args) ++ ((map parts.ArgPath r.arg_paths) ++ (one parts.Arg0Namespace r.arg0ns))))))) (silent_one (arg_in i) parts.Sender r.sender (λ x. refl))
      ∙ behind (arg_in i) (one parts.Interface r.interface) ((one parts.Member r.member) ++ ((one parts.Destination r.destination) ++ ((one place_part r.path) ++ ((map parts.Arg r.args) ++ ((map parts.ArgPath r.arg_paths) ++ (one parts.Arg0Namespace r.arg0ns)))))) (silent_one (arg_in i) parts.Interface r.interface (λ x. refl))
      ∙ behind (arg_in i) (one parts.Member r.member) ((one parts.Destination r.destination) ++ ((one place_part r.path) ++ ((map parts.Arg r.args) ++ ((map parts.ArgPath r.arg_paths) ++ (one parts.Arg0Namespace r.arg0ns))))) (silent_one (arg_in i) parts.Member r.member (λ x. refl))
      ∙ behind (arg_in i) (one parts.Destination r.destination) ((one place_part r.path) ++ ((map parts.Arg r.args) ++ ((map parts.ArgPath r.arg_paths) ++ (one parts.Arg0Namespace r.arg0ns)))) (silent_one (arg_in i) parts.Destination r.destination (λ x. refl))
      ∙ behind (arg_in i) (one place_part r.path) ((map parts.Arg r.args) ++ ((map parts.ArgPath r.arg_paths) ++ (one parts.Arg0Namespace r.arg0ns))) (silent_one (arg_in i) place_part r.path (place_silent (arg_in i) (λ x. refl) (λ x. refl)))
      ∙ front (arg_in i) (map parts.Arg r.args) ((map parts.ArgPath r.arg_paths) ++ (one parts.Arg0Namespace r.arg0ns)) (silent_join (arg_in i) (map parts.ArgPath r.arg_paths) (one parts.Arg0Namespace r.arg0ns) (silent_list (arg_in i) parts.ArgPath r.arg_paths (λ x. refl)) (silent_one (arg_in i) parts.Arg0Namespace r.arg0ns (λ x. refl)))

  arg_paths_found : (i : ℕ) → last_of (arg_path_in i) (parts_of r) ≡ last_of (arg_path_in i) (map parts.ArgPath r.arg_paths)
  unfolding parts_of
  arg_paths_found i =
      behind (arg_path_in i) (one parts.Kind r.kind) ((one parts.Sender r.sender) ++ ((one parts.Interface r.interface) ++ ((one parts.Member r.member) ++ ((one parts.Destination r.destination) ++ ((one place_part r.path) ++ ((map parts.Arg r.args) ++ ((map parts.ArgPath r.arg_paths) ++ (one parts.Arg0Namespace r.arg0ns)))))))) (silent_one (arg_path_in i) parts.Kind r.kind (λ x. refl))
      ∙ behind (arg_path_in i) (one parts.Sender r.sender) ((one parts.Interface r.interface) ++ ((one parts.Member r.member) ++ ((one parts.Destination r.destination) ++ ((one place_part r.path) ++ ((map parts.Arg r.args) ++ ((map parts.ArgPath r.arg_paths) ++ (one parts.Arg0Namespace r.arg0ns))))))) (silent_one (arg_path_in i) parts.Sender r.sender (λ x. refl))
      ∙ behind (arg_path_in i) (one parts.Interface r.interface) ((one parts.Member r.member) ++ ((one parts.Destination r.destination) ++ ((one place_part r.path) ++ ((map parts.Arg r.args) ++ ((map parts.ArgPath r.arg_paths) ++ (one parts.Arg0Namespace r.arg0ns)))))) (silent_one (arg_path_in i) parts.Interface r.interface (λ x. refl))
      ∙ behind (arg_path_in i) (one parts.Member r.member) ((one parts.Destination r.destination) ++ ((one place_part r.path) ++ ((map parts.Arg r.args) ++ ((map parts.ArgPath r.arg_paths) ++ (one parts.Arg0Namespace r.arg0ns))))) (silent_one (arg_path_in i) parts.Member r.member (λ x. refl))
      ∙ behind (arg_path_in i) (one parts.Destination r.destination) ((one place_part r.path) ++ ((map parts.Arg r.args) ++ ((map parts.ArgPath r.arg_paths) ++ (one parts.Arg0Namespace r.arg0ns)))) (silent_one (arg_path_in i) parts.Destination r.destination (λ x. refl))
      ∙ behind (arg_path_in i) (one place_part r.path) ((map parts.Arg r.args) ++ ((map parts.ArgPath r.arg_paths) ++ (one parts.Arg0Namespace r.arg0ns))) (silent_one (arg_path_in i) place_part r.path (place_silent (arg_path_in i) (λ x. refl) (λ x. refl)))
      ∙ behind (arg_path_in i) (map parts.Arg r.args) ((map parts.ArgPath r.arg_paths) ++ (one parts.Arg0Namespace r.arg0ns)) (silent_list (arg_path_in i) parts.Arg r.args (λ x. refl))
      ∙ front (arg_path_in i) (map parts.ArgPath r.arg_paths) (one parts.Arg0Namespace r.arg0ns) (silent_one (arg_path_in i) parts.Arg0Namespace r.arg0ns (λ x. refl))

  arg0ns_again : last_of arg0ns_in (parts_of r) ≡ r.arg0ns
  unfolding parts_of
  arg0ns_again =
      behind arg0ns_in (one parts.Kind r.kind) ((one parts.Sender r.sender) ++ ((one parts.Interface r.interface) ++ ((one parts.Member r.member) ++ ((one parts.Destination r.destination) ++ ((one place_part r.path) ++ ((map parts.Arg r.args) ++ ((map parts.ArgPath r.arg_paths) ++ (one parts.Arg0Namespace r.arg0ns)))))))) (silent_one arg0ns_in parts.Kind r.kind (λ x. refl))
      ∙ behind arg0ns_in (one parts.Sender r.sender) ((one parts.Interface r.interface) ++ ((one parts.Member r.member) ++ ((one parts.Destination r.destination) ++ ((one place_part r.path) ++ ((map parts.Arg r.args) ++ ((map parts.ArgPath r.arg_paths) ++ (one parts.Arg0Namespace r.arg0ns))))))) (silent_one arg0ns_in parts.Sender r.sender (λ x. refl))
      ∙ behind arg0ns_in (one parts.Interface r.interface) ((one parts.Member r.member) ++ ((one parts.Destination r.destination) ++ ((one place_part r.path) ++ ((map parts.Arg r.args) ++ ((map parts.ArgPath r.arg_paths) ++ (one parts.Arg0Namespace r.arg0ns)))))) (silent_one arg0ns_in parts.Interface r.interface (λ x. refl))
      ∙ behind arg0ns_in (one parts.Member r.member) ((one parts.Destination r.destination) ++ ((one place_part r.path) ++ ((map parts.Arg r.args) ++ ((map parts.ArgPath r.arg_paths) ++ (one parts.Arg0Namespace r.arg0ns))))) (silent_one arg0ns_in parts.Member r.member (λ x. refl))
      ∙ behind arg0ns_in (one parts.Destination r.destination) ((one place_part r.path) ++ ((map parts.Arg r.args) ++ ((map parts.ArgPath r.arg_paths) ++ (one parts.Arg0Namespace r.arg0ns)))) (silent_one arg0ns_in parts.Destination r.destination (λ x. refl))
      ∙ behind arg0ns_in (one place_part r.path) ((map parts.Arg r.args) ++ ((map parts.ArgPath r.arg_paths) ++ (one parts.Arg0Namespace r.arg0ns))) (silent_one arg0ns_in place_part r.path (place_silent arg0ns_in (λ x. refl) (λ x. refl)))
      ∙ behind arg0ns_in (map parts.Arg r.args) ((map parts.ArgPath r.arg_paths) ++ (one parts.Arg0Namespace r.arg0ns)) (silent_list arg0ns_in parts.Arg r.args (λ x. refl))
      ∙ behind arg0ns_in (map parts.ArgPath r.arg_paths) (one parts.Arg0Namespace r.arg0ns) (silent_list arg0ns_in parts.ArgPath r.arg_paths (λ x. refl))
      ∙ here_one arg0ns_in parts.Arg0Namespace r.arg0ns (λ x. refl)

-- ---- arguments

below_mid : (p : Argument → Bool) (xs : List Argument) (a : Argument) (ys : List Argument) → list_all p (xs ++ a ∷ ys) ≡ true → p a ≡ true
below_mid p [] a ys h = first_true (p a) (list_all p ys) h
below_mid p (x ∷ xs) a ys h = below_mid p xs a ys (second_true (p x) (list_all p (xs ++ a ∷ ys)) h)

all_before : (xs : List Argument) (a : Argument) (ys : List Argument) → is_ascending (xs ++ a ∷ ys) ≡ true → list_all (λ b. nat_lt b.index a.index) xs ≡ true
all_before [] a ys h = refl
all_before (x ∷ xs) a ys h =
    both_true (nat_lt x.index a.index) (list_all (λ b. nat_lt b.index a.index) xs)
    (below_mid (λ b. nat_lt x.index b.index) xs a ys (first_true (list_all (λ b. nat_lt x.index b.index) (xs ++ a ∷ ys)) (is_ascending (xs ++ a ∷ ys)) h))
    (all_before xs a ys (second_true (list_all (λ b. nat_lt x.index b.index) (xs ++ a ∷ ys)) (is_ascending (xs ++ a ∷ ys)) h))

kept : (n : ℕ) (xs : List Argument) → list_all (λ b. nat_lt b.index n) xs ≡ true → filter (λ b. nat_lt b.index n) xs ≡ xs
kept n [] h = refl
kept n (x ∷ xs) h =
    let yes : nat_lt x.index n ≡ true = first_true (nat_lt x.index n) (list_all (λ b. nat_lt b.index n) xs) h in
    rw yes (ap (λ ys. x ∷ ys) (kept n xs (second_true (nat_lt x.index n) (list_all (λ b. nat_lt b.index n) xs) h)))

none_kept : (n : ℕ) (xs : List Argument) → list_all (λ b. nat_lt b.index n) xs ≡ true → filter (λ b. nat_lt n b.index) xs ≡ []
none_kept n [] h = refl
none_kept n (x ∷ xs) h =
    let yes : nat_lt x.index n ≡ true = first_true (nat_lt x.index n) (list_all (λ b. nat_lt b.index n) xs) h in
    let no : nat_lt n x.index ≡ false = grind (arith, nat_tests) in
    rw no (none_kept n xs (second_true (nat_lt x.index n) (list_all (λ b. nat_lt b.index n) xs) h))

put_behind_all : (a : Argument) (xs : List Argument) → list_all (λ b. nat_lt b.index a.index) xs ≡ true → put a xs ≡ xs ++ a ∷ []
unfolding put
put_behind_all a xs h = rw (kept a.index xs h, none_kept a.index xs h)

map_end : (part : Argument → Part) (xs : List Argument) (a : Argument) → map part (xs ++ a ∷ []) ≡ map part xs ++ part a ∷ []
map_end part [] a = refl
map_end part (x ∷ xs) a = ap (λ ys. part x ∷ ys) (map_end part xs a)

module _ (part : Argument → Part) (text : ℕ → Part → Option (List ℕ)) (told : (i : ℕ) (a : Argument) → text i (part a) ≡ text_at i a) where
  abbrev texts : List Argument → ℕ → Option (List ℕ)
  texts xs i = last_of (text i) (map part xs)

  one_more : (xs : List Argument) (a : Argument) → nat_lt a.index 64 ≡ true → list_all (λ b. nat_lt b.index a.index) xs ≡ true
      → in_order (texts xs) 64 ≡ xs → in_order (texts (xs ++ a ∷ [])) 64 ≡ xs ++ a ∷ []
  one_more xs a small before h =
      same_below (texts (xs ++ a ∷ [])) (newer a (texts xs)) 64
      (λ i less. ap (last_of (text i)) (map_end part xs a) ∙ last_more (text i) (map part xs) (part a) ∙ ap (λ o. or_else o (texts xs i)) (told i a))
      ∙ in_order_put (texts xs) a 64 (ltb-true a.index 64 small) ∙ ap (put a) h ∙ put_behind_all a xs before

  in_turn : (xs ys : List Argument) → is_ascending (xs ++ ys) ≡ true → list_all (λ b. nat_lt b.index 64) (xs ++ ys) ≡ true → in_order (texts xs) 64 ≡ xs → in_order (texts (xs ++ ys)) 64 ≡ xs ++ ys
  in_turn xs [] h k e = rw (append-nil xs) e
  in_turn xs (a ∷ ys) h k e =
      let same : (xs ++ a ∷ []) ++ ys ≡ xs ++ a ∷ ys = append_assoc xs (a ∷ []) ys in
      rw (← same)
      (in_turn (xs ++ a ∷ []) ys (rw same h) (rw same k)
      (one_more xs a (below_mid (λ b. nat_lt b.index 64) xs a ys k) (all_before xs a ys h) e))

  none_there : in_order (texts []) 64 ≡ []
  unfolding in_order
  none_there = refl

  pub arguments_again : (xs : List Argument) → is_ascending xs ≡ true → list_all (λ b. nat_lt b.index 64) xs ≡ true → in_order (texts xs) 64 ≡ xs
  arguments_again xs h k = in_turn [] xs h k none_there

pub same_rule : (r : Rule) → is_ascending r.args ≡ true → list_all (λ b. nat_lt b.index 64) r.args ≡ true → is_ascending r.arg_paths ≡ true → list_all (λ b. nat_lt b.index 64) r.arg_paths ≡ true → rule_of (parts_of r) ≡ r
unfolding rule_of
same_rule r h k i j =
    rw (
      kind_again r,
      sender_again r,
      interface_again r,
      member_again r,
      path_again r,
      destination_again r,
      arg0ns_again r,
      same_below (λ n. last_of (arg_in n) (parts_of r)) (λ n. last_of (arg_in n) (map parts.Arg r.args)) 64 (λ n less. args_found r n),
      arguments_again parts.Arg arg_in (λ n a. refl) r.args h k,
      same_below (λ n. last_of (arg_path_in n) (parts_of r)) (λ n. last_of (arg_path_in n) (map parts.ArgPath r.arg_paths)) 64 (λ n less. arg_paths_found r n),
      arguments_again parts.ArgPath arg_path_in (λ n a. refl) r.arg_paths i j,
    )
