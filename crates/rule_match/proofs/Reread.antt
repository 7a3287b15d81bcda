-- A component's text is read as the part that it was printed for.
use Rattle.std.proofs.Common.{◌≡◌, refl, ap, ◌∙◌, ℕ, zero, suc, ◌+◌, ◌<◌, List, [], ◌∷◌, ◌++◌, Bool, true, false, ◌&&◌, not, nat_lt, length, length-append, take, drop, codes, Option, Some, None, Ok, IsTrue, add-one, arith}
use Rattle.std.specs.Prelude.{◌==◌}
use Rattle.std.specs.Fmt.{decimal, digits}
use Rattle.std.specs.List.{list_all, position_or_len}
use Rattle.std.proofs.lemmas.Bool.{eqb-true, ltb-true}
use Rattle.std.proofs.lemmas.Bool.Decides.{nat_tests}
use Rattle.wire_message.specs.declared.kind.MessageType.TheVariants as types
use Rattle.wire_names.specs.Names.{is_bus_name, is_unique_name, IsUniqueName, IsWellKnownName, IsInterfaceName, IsMemberName, IsObjectPath}
use Rattle.wire_names.specs.declared.bus.OwnedBusName.{OwnedBusName}
use Rattle.wire_names.specs.declared.bus.OwnedBusName.TheVariants.{Unique, WellKnown}
use Rattle.rule_match.specs.declared.key.Key.{Key}
use Rattle.rule_match.specs.declared.key.Key.TheVariants as keys
use Rattle.rule_match.specs.declared.part.Part.{Part}
use Rattle.rule_match.specs.declared.part.Part.TheVariants as parts
use Rattle.rule_match.specs.declared.arguments.Argument.{Argument}
use Rattle.rule_match.specs.Arguments.{is_argument, is_plain}
use Rattle.rule_match.specs.Namespace.{IsNamespace}
use Rattle.rule_match.specs.Key.{key_of}
use Rattle.rule_match.specs.Part.{part_of}
use Rattle.rule_match.specs.Again.{has_no_comma}
use Rattle.rule_match.specs.Text.{component, component_text, argument_text, part_text, keyed}
use Rattle.rule_match.proofs.Both.{first_true, second_true}
use Rattle.rule_match.proofs.Quotes.{before_quote_of}

-- ---- up to the first `=`

abbrev pub no_equals : List ℕ → Bool
no_equals key = list_all (λ b. not (b == 61)) key

key_length : (key rest : List ℕ) → no_equals key ≡ true → position_or_len (λ b. b == 61) (key ++ 61 ∷ rest) ≡ length key
key_length [] rest h = refl
key_length (b ∷ key) rest h =
    let other : not (b == 61) ≡ true = first_true (not (b == 61)) (no_equals key) h in
    rw other (ap (λ n. 1 + n) (key_length key rest (second_true (not (b == 61)) (no_equals key) h)) ∙ grind arith)

key_taken : (key rest : List ℕ) → take (length key) (key ++ rest) ≡ key
key_taken [] rest = refl
key_taken (b ∷ key) rest = ap (λ bs. b ∷ bs) (key_taken key rest)

key_dropped : (key rest : List ℕ) → drop (length key + 1) (key ++ 61 ∷ rest) ≡ rest
key_dropped [] rest = refl
key_dropped (b ∷ key) rest = rw add-one (rw add-one at (key_dropped key rest))

key_inside : (key rest : List ℕ) → nat_lt (length key) (length (key ++ 61 ∷ rest)) ≡ true
key_inside key rest =
    let long = length-append key (61 ∷ rest) in
    let less : length key < length (key ++ 61 ∷ rest) = omega (arith, long) in
    grind (arith, nat_tests)

component_of : (key value : List ℕ) → no_equals key ≡ true → component (component_text key value) ≡ keyed (key_of key) (Some value)
unfolding component
component_of key value h =
    rw (key_length key (39 ∷ value ++ 39 ∷ []) h, key_inside key (39 ∷ value ++ 39 ∷ []), key_taken key (61 ∷ 39 ∷ value ++ 39 ∷ []), key_dropped key (39 ∷ value ++ 39 ∷ []), before_quote_of value)

-- ---- the keys of arguments

abbrev is_arg : ℕ → Option Key → Bool
is_arg i (Some (keys.Argument j)) = j == i
is_arg i _ = false

abbrev is_arg_path : ℕ → Option Key → Bool
is_arg_path i (Some (keys.ArgumentPath j)) = j == i
is_arg_path i _ = false

abbrev pub arg_key : ℕ → List ℕ
arg_key i = codes "arg" ++ (decimal i ++ [])

abbrev pub arg_path_key : ℕ → List ℕ
arg_path_key i = codes "arg" ++ (decimal i ++ codes "path")

abbrev arg_test : ℕ → Bool
arg_test i = no_equals (arg_key i) && (has_no_comma (arg_key i) && is_arg i (key_of (arg_key i)))

abbrev arg_path_test : ℕ → Bool
arg_path_test i = no_equals (arg_path_key i) && (has_no_comma (arg_path_key i) && is_arg_path i (key_of (arg_path_key i)))

unfoldable pub all_below : (ℕ → Bool) → ℕ → Bool
all_below test zero = true
all_below test (suc n) = test n && all_below test n

pub below_all : (test : ℕ → Bool) (n i : ℕ) → all_below test n ≡ true → i < n → test i ≡ true
unfolding all_below
below_all test zero i h less = absurd (omega arith)
below_all test (suc n) i h less =
    elim (i == n) as (λ v. (i == n) ≡ v → test i ≡ true) [
      | true ↦ λ e. rw (eqb-true i n e) (first_true (test n) (all_below test n) h)
      | false ↦ λ e. below_all test n i (second_true (test n) (all_below test n) h) (grind (arith, nat_tests))
    ] refl

all_args : all_below arg_test 64 ≡ true
unfolding all_below key_of digits
all_args = refl

all_arg_paths : all_below arg_path_test 64 ≡ true
unfolding all_below key_of digits
all_arg_paths = refl

arg_found : (i : ℕ) (o : Option Key) → is_arg i o ≡ true → o ≡ Some (keys.Argument i)
arg_found i None h = cc
arg_found i (Some keys.Type) h = cc
arg_found i (Some keys.Sender) h = cc
arg_found i (Some keys.Interface) h = cc
arg_found i (Some keys.Member) h = cc
arg_found i (Some keys.Path) h = cc
arg_found i (Some keys.PathNamespace) h = cc
arg_found i (Some keys.Destination) h = cc
arg_found i (Some keys.Arg0Namespace) h = cc
arg_found i (Some (keys.Argument j)) h = ap (λ n. Some (keys.Argument n)) (eqb-true j i h)
arg_found i (Some (keys.ArgumentPath j)) h = cc

arg_path_found : (i : ℕ) (o : Option Key) → is_arg_path i o ≡ true → o ≡ Some (keys.ArgumentPath i)
arg_path_found i None h = cc
arg_path_found i (Some keys.Type) h = cc
arg_path_found i (Some keys.Sender) h = cc
arg_path_found i (Some keys.Interface) h = cc
arg_path_found i (Some keys.Member) h = cc
arg_path_found i (Some keys.Path) h = cc
arg_path_found i (Some keys.PathNamespace) h = cc
arg_path_found i (Some keys.Destination) h = cc
arg_path_found i (Some keys.Arg0Namespace) h = cc
arg_path_found i (Some (keys.Argument j)) h = cc
arg_path_found i (Some (keys.ArgumentPath j)) h = ap (λ n. Some (keys.ArgumentPath n)) (eqb-true j i h)

-- ---- a part

abbrev pub IsName : OwnedBusName → Type 0
IsName (Unique name) = IsUniqueName name
IsName (WellKnown name) = IsWellKnownName name × (is_unique_name name ≡ false)

-- what a part must be for its text to be read as it
abbrev pub IsTold : Part → Type 0
IsTold (parts.Kind kind) = Unit {0}
IsTold (parts.Sender name) = IsName name
IsTold (parts.Interface name) = IsInterfaceName name
IsTold (parts.Member name) = IsMemberName name
IsTold (parts.Path path) = IsObjectPath path
IsTold (parts.PathNamespace path) = IsObjectPath path
IsTold (parts.Destination name) = IsUniqueName name
IsTold (parts.Arg a) = IsTrue (is_argument a) × IsTrue (has_no_comma a.text)
IsTold (parts.ArgPath a) = IsTrue (is_argument a) × IsTrue (has_no_comma a.text)
IsTold (parts.Arg0Namespace name) = IsNamespace name

reread_arg : (a : Argument) → IsTrue (is_argument a) → component (argument_text [] a) ≡ Ok (parts.Arg a)
unfolding part_of
reread_arg a h =
    let less : a.index < 64 = ltb-true a.index 64 (first_true (nat_lt a.index 64) (is_plain a.text) h) in
    let plain : is_plain a.text ≡ true = second_true (nat_lt a.index 64) (is_plain a.text) h in
    let tested : arg_test a.index ≡ true = below_all arg_test 64 a.index all_args less in
    let rest = second_true (no_equals (arg_key a.index)) _ tested in
    let key : key_of (arg_key a.index) ≡ Some (keys.Argument a.index) = arg_found a.index (key_of (arg_key a.index)) (second_true (has_no_comma (arg_key a.index)) _ rest) in
    component_of (arg_key a.index) a.text (first_true (no_equals (arg_key a.index)) _ tested) ∙ rw (key, plain)

reread_arg_path : (a : Argument) → IsTrue (is_argument a) → component (argument_text (codes "path") a) ≡ Ok (parts.ArgPath a)
unfolding part_of
reread_arg_path a h =
    let less : a.index < 64 = ltb-true a.index 64 (first_true (nat_lt a.index 64) (is_plain a.text) h) in
    let plain : is_plain a.text ≡ true = second_true (nat_lt a.index 64) (is_plain a.text) h in
    let tested : arg_path_test a.index ≡ true = below_all arg_path_test 64 a.index all_arg_paths less in
    let rest = second_true (no_equals (arg_path_key a.index)) _ tested in
    let key : key_of (arg_path_key a.index) ≡ Some (keys.ArgumentPath a.index) = arg_path_found a.index (key_of (arg_path_key a.index)) (second_true (has_no_comma (arg_path_key a.index)) _ rest) in
    component_of (arg_path_key a.index) a.text (first_true (no_equals (arg_path_key a.index)) _ tested) ∙ rw (key, plain)

pub reread : (p : Part) → IsTold p → component (part_text p) ≡ Ok p
unfolding key_of part_of is_bus_name
reread (parts.Kind types.MethodCall) h = component_of (codes "type") (codes "method_call") refl
reread (parts.Kind types.MethodReturn) h = component_of (codes "type") (codes "method_return") refl
reread (parts.Kind types.Error) h = component_of (codes "type") (codes "error") refl
reread (parts.Kind types.Signal) h = component_of (codes "type") (codes "signal") refl
reread (parts.Sender (Unique name)) h = component_of (codes "sender") name refl ∙ rw h
reread (parts.Sender (WellKnown name)) h = component_of (codes "sender") name refl ∙ rw (h.1, h.0)
reread (parts.Interface name) h = component_of (codes "interface") name refl ∙ rw h
reread (parts.Member name) h = component_of (codes "member") name refl ∙ rw h
reread (parts.Path path) h = component_of (codes "path") path refl ∙ rw h
reread (parts.PathNamespace path) h = component_of (codes "path_namespace") path refl ∙ rw h
reread (parts.Destination name) h = component_of (codes "destination") name refl ∙ rw h
reread (parts.Arg0Namespace name) h = component_of (codes "arg0namespace") name refl ∙ rw h
reread (parts.Arg a) h = reread_arg a h.0
reread (parts.ArgPath a) h = reread_arg_path a h.0

-- ---- no commas in the keys of arguments

pub arg_clear : (a : Argument) → IsTrue (is_argument a) → has_no_comma (arg_key a.index) ≡ true
arg_clear a h =
    let less : a.index < 64 = ltb-true a.index 64 (first_true (nat_lt a.index 64) (is_plain a.text) h) in
    first_true (has_no_comma (arg_key a.index)) _ (second_true (no_equals (arg_key a.index)) _ (below_all arg_test 64 a.index all_args less))

pub arg_path_clear : (a : Argument) → IsTrue (is_argument a) → has_no_comma (arg_path_key a.index) ≡ true
arg_path_clear a h =
    let less : a.index < 64 = ltb-true a.index 64 (first_true (nat_lt a.index 64) (is_plain a.text) h) in
    first_true (has_no_comma (arg_path_key a.index)) _ (second_true (no_equals (arg_path_key a.index)) _ (below_all arg_path_test 64 a.index all_arg_paths less))
