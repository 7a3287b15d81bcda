-- The test of a message is the relation between it and the rule.
use Rattle.std.proofs.Common.{ℕ, ◌≡◌, ◌<◌, refl, sym, ap, ◌∙◌, Bool, true, false, not, ◌&&◌, ◌||◌, ◌⊎◌, inl, inr, ◌↔◌, List, [], ◌∷◌, drop, Option, Some, None, unwrap_or, slice_get, IfSome, IsTrue, codes}
use Rattle.std.specs.List.{list_all, All, AllByRecursion}
use Rattle.std.proofs.lemmas.Bool.{eqb-true, false≢true}
use Rattle.std.proofs.lemmas.List.Elements.{All-take, All-drop}
use Rattle.wire_number.specs.declared.endian.Endian.{Endian}
use Rattle.wire_names.specs.Names.{is_unique_name}
use Rattle.wire_names.specs.declared.bus.OwnedBusName.{OwnedBusName}
use Rattle.wire_names.specs.declared.bus.OwnedBusName.TheVariants.{Unique, WellKnown}
use Rattle.wire_tree.specs.Datum.{Datum, string, object_path, text}
use Rattle.wire_number.proofs.Steps.{AreBytes}
use Rattle.wire_message.specs.Front.{MessageView, body_bytes, body_len, header_len, kind_code}
use Rattle.wire_message.specs.declared.kind.MessageType.{MessageType}
use Rattle.wire_message.specs.declared.kind.MessageType.TheVariants as types
use Rattle.rule_match.specs.declared.arguments.Argument.{Argument}
use Rattle.rule_match.specs.Below.{IsAtOrBelow}
use Rattle.rule_match.specs.Wanted.{HasString, HasText, HasPath, HasNameIn}
use Rattle.rule_match.specs.ArgumentTests.{same, is_at_or_below, is_string, is_path, is_name_in, has_at}
use Rattle.rule_match.proofs.Both.{first_true, second_true, both_true, either_true, or_first, or_second}
use Rattle.rule_match.proofs.Texts.{same_is, is_same, below_from_test, test_from_below, test_from_match}
use Rattle.rule_match.proofs.ArgumentValues.{string_is, path_is, name_is, at_found, at_again}
use Rattle.rule_match.specs.declared.place.PathSpec.{PathSpec}
use Rattle.rule_match.specs.declared.place.PathSpec.TheVariants.{Path, PathNamespace}
use Rattle.rule_match.specs.Rule.{Rule}
use Rattle.rule_match.specs.Matching.{Matches, HeaderMatches, IsSender, IsPlace, IsDestination, signature_text, wanted_of}
use Rattle.rule_match.specs.Accepting.{is_none_or, is_kind, is_text, accepts_sender, accepts_place, accepts_destination, accepts_header, arguments_in, arguments_of, accepts_arguments, accepts}
use Rattle.rule_match.proofs.BodyArguments.{argument_found, argument_again}
use Rattle.rule_match.proofs.Walks.{are_bytes}

-- ---- parts

module _ {A : Type 0} (test : A → Bool) (P : A → Type 0) where
  part_found : ((x : A) → test x ≡ true → P x) → (o : Option A) → is_none_or test o ≡ true → IfSome o P
  part_found f None h = tt
  part_found f (Some x) h = f x h

  part_again : ((x : A) → P x → test x ≡ true) → (o : Option A) → IfSome o P → is_none_or test o ≡ true
  part_again f None h = refl
  part_again f (Some x) h = f x h

module _ (test : Argument → Bool) (P : Argument → Type 0) where
  each_found : ((a : Argument) → test a ≡ true → P a) → (args : List Argument) → list_all test args ≡ true → AllByRecursion P args
  each_found f [] h = tt
  each_found f (a ∷ args) h = (f a (first_true _ _ h), each_found f args (second_true (test a) _ h))

  each_again : ((a : Argument) → P a → test a ≡ true) → (args : List Argument) → AllByRecursion P args → list_all test args ≡ true
  each_again f [] h = refl
  each_again f (a ∷ args) h = both_true _ _ (f a h.0) (each_again f args h.1)

-- ---- the header

by_code : (a b : MessageType) → kind_code a ≡ kind_code b → a ≡ b
by_code types.MethodCall types.MethodCall e = refl
by_code types.MethodCall types.MethodReturn e = absurd (cc)
by_code types.MethodCall types.Error e = absurd (cc)
by_code types.MethodCall types.Signal e = absurd (cc)
by_code types.MethodReturn types.MethodCall e = absurd (cc)
by_code types.MethodReturn types.MethodReturn e = refl
by_code types.MethodReturn types.Error e = absurd (cc)
by_code types.MethodReturn types.Signal e = absurd (cc)
by_code types.Error types.MethodCall e = absurd (cc)
by_code types.Error types.MethodReturn e = absurd (cc)
by_code types.Error types.Error e = refl
by_code types.Error types.Signal e = absurd (cc)
by_code types.Signal types.MethodCall e = absurd (cc)
by_code types.Signal types.MethodReturn e = absurd (cc)
by_code types.Signal types.Error e = absurd (cc)
by_code types.Signal types.Signal e = refl

kind_found : (kind wanted : MessageType) → is_kind kind wanted ≡ true → kind ≡ wanted
kind_found kind wanted h = by_code kind wanted (eqb-true (kind_code kind) (kind_code wanted) h)

own_kind : (kind : MessageType) → is_kind kind kind ≡ true
own_kind types.MethodCall = refl
own_kind types.MethodReturn = refl
own_kind types.Error = refl
own_kind types.Signal = refl

kind_again : (kind wanted : MessageType) → kind ≡ wanted → is_kind kind wanted ≡ true
kind_again kind wanted e = ap (is_kind kind) (sym e) ∙ own_kind kind

text_found : (o : Option (List ℕ)) (wanted : List ℕ) → is_text o wanted ≡ true → o ≡ Some wanted
text_found None wanted h = absurd (cc)
text_found (Some found) wanted h = ap Some (same_is found wanted h)

text_again : (o : Option (List ℕ)) (wanted : List ℕ) → o ≡ Some wanted → is_text o wanted ≡ true
text_again o wanted e = ap (λ o. is_text o wanted) e ∙ is_same wanted wanted refl

sender_found : (o : Option (List ℕ)) (wanted : OwnedBusName) → accepts_sender o wanted ≡ true → IsSender o wanted
sender_found o (Unique name) h = text_found o name h
sender_found o (WellKnown name) h = tt

sender_again : (o : Option (List ℕ)) (wanted : OwnedBusName) → IsSender o wanted → accepts_sender o wanted ≡ true
sender_again o (Unique name) h = text_again o name h
sender_again o (WellKnown name) h = refl

within_found : (wanted path : List ℕ) → (same wanted (codes "/") || is_at_or_below 47 wanted path) ≡ true → (wanted ≡ codes "/") ⊎ IsAtOrBelow 47 wanted path
within_found wanted path h =
    elim (either_true (same wanted (codes "/")) (is_at_or_below 47 wanted path) h) [
      | inl k ↦ inl (same_is wanted (codes "/") k)
      | inr k ↦ inr (below_from_test 47 wanted path k)
    ]

within_again : (wanted path : List ℕ) → (wanted ≡ codes "/") ⊎ IsAtOrBelow 47 wanted path → (same wanted (codes "/") || is_at_or_below 47 wanted path) ≡ true
within_again wanted path (inl e) = or_first (same wanted (codes "/")) (is_at_or_below 47 wanted path) (is_same wanted (codes "/") e)
within_again wanted path (inr k) = or_second (same wanted (codes "/")) (is_at_or_below 47 wanted path) (test_from_below 47 wanted path k)

place_found : (o : Option (List ℕ)) (wanted : PathSpec) → accepts_place o wanted ≡ true → IsPlace o wanted
place_found o (Path wanted) h = text_found o wanted h
place_found None (PathNamespace wanted) h = absurd (cc)
place_found (Some path) (PathNamespace wanted) h = within_found wanted path h

place_again : (o : Option (List ℕ)) (wanted : PathSpec) → IsPlace o wanted → accepts_place o wanted ≡ true
place_again o (Path wanted) h = text_again o wanted h
place_again None (PathNamespace wanted) h = absurd h
place_again (Some path) (PathNamespace wanted) h = within_again wanted path h

unless_found : (unique : Bool) (name wanted : List ℕ) → (not unique || same name wanted) ≡ true → unique ≡ true → name ≡ wanted
unless_found true name wanted h u = same_is name wanted h
unless_found false name wanted h u = absurd (cc)

unless_again : (unique : Bool) (name wanted : List ℕ) → (unique ≡ true → name ≡ wanted) → (not unique || same name wanted) ≡ true
unless_again true name wanted h = is_same name wanted (h refl)
unless_again false name wanted h = refl

destination_found : (o : Option (List ℕ)) (wanted : List ℕ) → accepts_destination o wanted ≡ true → IsDestination o wanted
destination_found None wanted h = tt
destination_found (Some name) wanted h = unless_found (is_unique_name name) name wanted h

destination_again : (o : Option (List ℕ)) (wanted : List ℕ) → IsDestination o wanted → accepts_destination o wanted ≡ true
destination_again None wanted h = refl
destination_again (Some name) wanted h = unless_again (is_unique_name name) name wanted h

-- ---- the arguments

module _ (order : Endian) (named body : List ℕ) where
  abbrev values : List Datum
  values = unwrap_or (arguments_in order named body) []

  string_found : AreBytes body → (a : Argument) → has_at (is_string a.text) a.index values ≡ true → HasString order named body a
  string_found low a h =
      let x = at_found (is_string a.text) a.index values h in
      argument_found order named body low a.index (text string a.text) (x.1 ∙ ap Some (string_is a.text x.0 x.2))

  string_again : (a : Argument) → HasString order named body a → has_at (is_string a.text) a.index values ≡ true
  string_again a h =
      at_again (is_string a.text) a.index values (text string a.text) (argument_again order named body a.index (text string a.text) h)
      (is_same a.text a.text refl)

  path_found : AreBytes body → (a : Argument) → has_at (is_path a.text) a.index values ≡ true → HasPath order named body a
  path_found low a h =
      let x = at_found (is_path a.text) a.index values h in
      let y = path_is a.text x.0 x.2 in
      record { found = y.0; there = there_found x.0 y.0 x.1 y.1; matches = y.2 }
    where
      there_found : (d : Datum) (found : List ℕ) → slice_get values a.index ≡ Some d → (d ≡ text string found) ⊎ (d ≡ text object_path found)
          → HasText order named body a.index found
      there_found d found at (inl e) = inl (argument_found order named body low a.index (text string found) (at ∙ ap Some e))
      there_found d found at (inr e) = inr (argument_found order named body low a.index (text object_path found) (at ∙ ap Some e))

  path_again : (a : Argument) → HasPath order named body a → has_at (is_path a.text) a.index values ≡ true
  path_again a h = there_again h.there where
    there_again : HasText order named body a.index h.found → has_at (is_path a.text) a.index values ≡ true
    there_again (inl k) =
        at_again (is_path a.text) a.index values (text string h.found) (argument_again order named body a.index (text string h.found) k)
        (test_from_match a.text h.found h.matches)
    there_again (inr k) =
        at_again (is_path a.text) a.index values (text object_path h.found) (argument_again order named body a.index (text object_path h.found) k)
        (test_from_match a.text h.found h.matches)

  name_found : AreBytes body → (namespace : List ℕ) → has_at (is_name_in namespace) 0 values ≡ true → HasNameIn order named body namespace
  name_found low namespace h =
      let x = at_found (is_name_in namespace) 0 values h in
      let y = name_is namespace x.0 x.2 in
      record { name = y.0; first = argument_found order named body low 0 (text string y.0) (x.1 ∙ ap Some y.1); valid = y.2; below = y.3 }

  name_again : (namespace : List ℕ) → HasNameIn order named body namespace → has_at (is_name_in namespace) 0 values ≡ true
  name_again namespace k =
      at_again (is_name_in namespace) 0 values (text string k.name) (argument_again order named body 0 (text string k.name) k.first)
      (both_true _ _ k.valid (test_from_below 46 namespace k.name k.below))

-- ---- the whole

low_body : (bytes : List ℕ) → All (λ b. b < 256) bytes → AreBytes (body_bytes bytes)
low_body bytes low =
    are_bytes (body_bytes bytes)
    (All-take (λ b. b < 256) (body_len bytes) (drop (header_len bytes) bytes) (All-drop (λ b. b < 256) (header_len bytes) bytes low))

module _ (r : Rule) (m : MessageView) where
  abbrev body : List ℕ
  body = body_bytes m.bytes

  abbrev named : List ℕ
  named = signature_text m

  header_found : accepts_header r m ≡ true → HeaderMatches r m
  unfolding accepts_header
  header_found h =
      let h2 = second_true (is_none_or (is_kind m.kind) r.kind) _ h in
      let h3 = second_true (is_none_or (accepts_sender m.sender) r.sender) _ h2 in
      let h4 = second_true (is_none_or (is_text m.interface) r.interface) _ h3 in
      let h5 = second_true (is_none_or (is_text m.member) r.member) _ h4 in
      let h6 = second_true (is_none_or (accepts_place m.path) r.path) _ h5 in
      record {
        kind = part_found (is_kind m.kind) (λ kind. m.kind ≡ kind) (kind_found m.kind) r.kind (first_true _ _ h);
        sender = part_found (accepts_sender m.sender) (IsSender m.sender) (sender_found m.sender) r.sender (first_true _ _ h2);
        interface = part_found (is_text m.interface) (λ name. m.interface ≡ Some name) (text_found m.interface) r.interface (first_true _ _ h3);
        member = part_found (is_text m.member) (λ name. m.member ≡ Some name) (text_found m.member) r.member (first_true _ _ h4);
        path = part_found (accepts_place m.path) (IsPlace m.path) (place_found m.path) r.path (first_true _ _ h5);
        destination = part_found (accepts_destination m.destination) (IsDestination m.destination) (destination_found m.destination) r.destination h6;
      }

  header_again : HeaderMatches r m → accepts_header r m ≡ true
  unfolding accepts_header
  header_again k =
      let kind = part_again (is_kind m.kind) (λ kind. m.kind ≡ kind) (kind_again m.kind) r.kind k.kind in
      let sender = part_again (accepts_sender m.sender) (IsSender m.sender) (sender_again m.sender) r.sender k.sender in
      let interface = part_again (is_text m.interface) (λ name. m.interface ≡ Some name) (text_again m.interface) r.interface k.interface in
      let member = part_again (is_text m.member) (λ name. m.member ≡ Some name) (text_again m.member) r.member k.member in
      let path = part_again (accepts_place m.path) (IsPlace m.path) (place_again m.path) r.path k.path in
      let destination = part_again (accepts_destination m.destination) (IsDestination m.destination) (destination_again m.destination) r.destination k.destination in
      both_true _ _ kind (both_true _ _ sender (both_true _ _ interface (both_true _ _ member (both_true _ _ path destination))))

  accepted : AreBytes body → accepts r m ≡ true → Matches r m
  unfolding accepts accepts_arguments
  accepted low h =
      let head = header_found (first_true (accepts_header r m) _ h) in
      let a1 = second_true (accepts_header r m) _ h in
      let a2 = second_true (list_all (λ (a : Argument). has_at (is_string a.text) a.index (values m.order named body)) r.args) _ a1 in
      let a3 = second_true (list_all (λ (a : Argument). has_at (is_path a.text) a.index (values m.order named body)) r.arg_paths) _ a2 in
      record {
        kind = head.kind;
        sender = head.sender;
        interface = head.interface;
        member = head.member;
        path = head.path;
        destination = head.destination;
        args = each_found (λ (a : Argument). has_at (is_string a.text) a.index (values m.order named body)) (HasString m.order named body)
            (string_found m.order named body low) r.args (first_true _ _ a1);
        arg_paths = each_found (λ (a : Argument). has_at (is_path a.text) a.index (values m.order named body)) (HasPath m.order named body)
            (path_found m.order named body low) r.arg_paths (first_true _ _ a2);
        arg0ns = part_found (λ namespace. has_at (is_name_in namespace) 0 (values m.order named body)) (HasNameIn m.order named body)
            (name_found m.order named body low) r.arg0ns a3;
      }

  accepted_again : Matches r m → accepts r m ≡ true
  unfolding accepts accepts_arguments
  accepted_again k =
      let head = header_again (record { kind = k.kind; sender = k.sender; interface = k.interface; member = k.member; path = k.path; destination = k.destination }) in
      let args = each_again (λ (a : Argument). has_at (is_string a.text) a.index (values m.order named body)) (HasString m.order named body)
      (string_again m.order named body) r.args k.args in
      let arg_paths = each_again (λ (a : Argument). has_at (is_path a.text) a.index (values m.order named body)) (HasPath m.order named body)
      (path_again m.order named body) r.arg_paths k.arg_paths in
      let arg0ns = part_again (λ namespace. has_at (is_name_in namespace) 0 (values m.order named body)) (HasNameIn m.order named body)
      (name_again m.order named body) r.arg0ns k.arg0ns in
      both_true _ _ head (both_true _ _ args (both_true _ _ arg_paths arg0ns))

pub accepting : (r : Rule) (m : MessageView) → All (λ b. b < 256) m.bytes → IsTrue (accepts r m) ↔ Matches r m
accepting r m low = (λ h. accepted r m (low_body m.bytes low) h, λ k. accepted_again r m k)

pub told : (b : Bool) (r : Rule) (m : MessageView) → All (λ b. b < 256) m.bytes → b ≡ accepts r m → IsTrue b ↔ Matches r m
told b r m low e = let k = accepting r m low in (λ h. k.0 (sym e ∙ h), λ h. e ∙ k.1 h)

-- a rule whose header part refuses the message
pub refused_by_header : (b : Bool) (r : Rule) (m : MessageView) → IsTrue b ↔ HeaderMatches r m → b ≡ false → false ≡ accepts r m
unfolding accepts
refused_by_header b r m d e = of_test (accepts_header r m) refl where
  of_test : (h : Bool) → accepts_header r m ≡ h → false ≡ (h && accepts_arguments (wanted_of r) (unwrap_or (arguments_of m) []))
  of_test true h = absurd (false≢true (sym e ∙ d.1 (header_found r m h)))
  of_test false h = refl

-- one whose header part accepts it
pub left_to_arguments : (b : Bool) (r : Rule) (m : MessageView) → IsTrue b ↔ HeaderMatches r m → b ≡ true
    → accepts_arguments (wanted_of r) (unwrap_or (arguments_of m) []) ≡ accepts r m
unfolding accepts
left_to_arguments b r m d e = ap (λ h. h && accepts_arguments (wanted_of r) (unwrap_or (arguments_of m) [])) (sym (header_again r m (d.0 e)))
