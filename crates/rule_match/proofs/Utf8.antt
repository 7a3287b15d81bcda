-- The bytes of a component's value, where they are UTF-8.
use Rattle.std.proofs.Common.{◌≡◌, refl, sym, ap, ◌∙◌, ℕ, ◌+◌, ◌-◌, ◌<◌, ◌≤◌, List, [], ◌∷◌, ◌++◌, append_assoc, length, take, drop, get_or, Bool, true, false, cond, nat_lt, nat_le, Option, Some, None, IfSome, Ok, Err, ◌⊎◌, inl, inr, IsTrue, IsAscii, IsUtf8, subst, arith}
use Rattle.std.specs.Prelude.{◌==◌}
use Rattle.std.specs.List.{onto_first, list_all, AllByRecursion, join_with_byte, position_or_len, before_first, after_first}
use Rattle.std.specs.Option.{MatchOption}
use Rattle.std.specs.Str.{is_utf8}
use Rattle.std.proofs.lemmas.Bool.{eqb-true, ltb-true}
use Rattle.std.proofs.lemmas.Bool.Decides.{nat_tests}
use Rattle.std.proofs.lemmas.List.{get_or_at, take_at, drop_at, length-append}
use Rattle.std.proofs.lemmas.List.Splits.{join_with_byte-slice_split}
use Rattle.std.proofs.lemmas.List.Sums.{split_at_first, passes_at_first}
use Rattle.std.proofs.lemmas.Slice.{between_to_end}
use Rattle.std.proofs.lemmas.Str.{IsUtf8-take, IsUtf8-drop, IsUtf8-from_ascii, IsUtf8-from_is_utf8, is_utf8-from_IsUtf8, IsCharBoundary-before_ascii, IsCharBoundary-after_ascii}
use Rattle.std.proofs.lemmas.Str.Ascii.{IsAscii-nil, IsAscii-cons}
use Rattle.wire_message.specs.declared.kind.MessageType.{MessageType}
use Rattle.wire_message.specs.declared.error.Error.{Error}
use Rattle.wire_message.specs.declared.error.Error.TheVariants.{InvalidMatchRule, Memory, Names}
use Rattle.wire_names.specs.declared.error.NamesError.TheVariants as faults
use Rattle.wire_names.specs.Names.{elements, is_element, is_element_byte, is_unique_element, is_well_known_element, is_bus_name, is_unique_name, is_interface_name, is_member_name, is_object_path}
use Rattle.wire_names.specs.BusName.{bus_name_of, owned_of}
use Rattle.rule_match.specs.declared.arguments.Argument.{Argument}
use Rattle.rule_match.specs.Arguments.{is_plain}
use Rattle.rule_match.proofs.Positions.{place_short}
use Rattle.rule_match.proofs.Both.{first_true, second_true, both_true}
use Rattle.rule_match.specs.declared.key.Key.{Key}
use Rattle.rule_match.specs.declared.key.Key.TheVariants as keys
use Rattle.rule_match.specs.declared.part.Part.{Part}
use Rattle.rule_match.specs.declared.part.Part.TheVariants as parts
use Rattle.rule_match.specs.Namespace.{has_namespace_elements, is_namespace}
use Rattle.rule_match.specs.Key.{key_of}
use Rattle.rule_match.specs.Part.{kind_of, kind_part, argument, part_of}
use Rattle.rule_match.specs.Text.{before_quote, between_quotes, keyed, component, components, first_then, said, made, rule_in}
use Rattle.rule_match.specs.Bytes.{utf8_wanted, said_in_bytes, rule_in_bytes}
use Rattle.rule_match.specs.Building.{Gives}
use Rattle.rule_match.proofs.Quotes.{before_quote_is}

-- ---- a namespace is ASCII

abbrev is_low : ℕ → Bool
is_low b = nat_lt b 128

low_byte : (b : ℕ) → is_element_byte true b ≡ true → is_low b ≡ true
low_byte b h = grind (arith, nat_tests)

low_bytes : (bs : List ℕ) → list_all (is_element_byte true) bs ≡ true → list_all is_low bs ≡ true
low_bytes [] h = refl
low_bytes (b ∷ bs) h = both_true _ _ (low_byte b (first_true _ _ h)) (low_bytes bs (second_true (is_element_byte true b) _ h))

low_element : (digit : Bool) (element : List ℕ) → is_element true digit element ≡ true → list_all is_low element ≡ true
unfolding is_element
low_element digit element h = low_bytes element (second_true (nat_le 1 (length element)) _ (first_true _ _ h))

low_elements : (digit : Bool) (found : List (List ℕ)) → list_all (is_element true digit) found ≡ true → list_all (list_all is_low) found ≡ true
low_elements digit [] h = refl
low_elements digit (x ∷ found) h =
    both_true _ _ (low_element digit x (first_true _ _ h)) (low_elements digit found (second_true (is_element true digit x) _ h))

low_first : (x : ℕ) (found : List (List ℕ)) → list_all (list_all is_low) (onto_first x found) ≡ true → (is_low x ≡ true) × (list_all (list_all is_low) found ≡ true)
low_first x [] h = (first_true (is_low x) true (first_true _ _ h), refl)
low_first x (y ∷ found) h =
    let front = first_true _ _ h in
    (first_true (is_low x) _ front, both_true _ _ (second_true (is_low x) _ front) (second_true (list_all is_low (x ∷ y)) _ h))

low_dot : (x : ℕ) → (x == 46) ≡ true → is_low x ≡ true
low_dot x h = grind (arith, nat_tests)

low_joined : (xs : List ℕ) → list_all (list_all is_low) (elements 46 xs) ≡ true → list_all is_low xs ≡ true
low_joined [] h = refl
low_joined (x ∷ xs) h =
    elim (x == 46) as (λ v. (x == 46) ≡ v → list_all (list_all is_low) (cond v ([] ∷ elements 46 xs) (onto_first x (elements 46 xs))) ≡ true → list_all is_low (x ∷ xs) ≡ true) [
      | true ↦ λ e k. both_true _ _ (low_dot x e) (low_joined xs k)
      | false ↦ λ e k. let two = low_first x (elements 46 xs) k in both_true _ _ two.0 (low_joined xs two.1)
    ] refl h

low_colon : (x : ℕ) → (x == 58) ≡ true → is_low x ≡ true
low_colon x h = grind (arith, nat_tests)

low_namespace : (text : List ℕ) → has_namespace_elements text ≡ true → list_all is_low text ≡ true
low_namespace [] h = refl
low_namespace (b ∷ rest) h =
    elim (b == 58) as (λ v. (b == 58) ≡ v → cond v (list_all is_unique_element (elements 46 rest)) (list_all is_well_known_element (elements 46 (b ∷ rest))) ≡ true → list_all is_low (b ∷ rest) ≡ true) [
      | true ↦ λ e k. both_true _ _ (low_colon b e) (low_joined rest (low_elements true (elements 46 rest) k))
      | false ↦ λ e k. low_joined (b ∷ rest) (low_elements false (elements 46 (b ∷ rest)) k)
    ] refl h

ascii_from_low : (bs : List ℕ) → list_all is_low bs ≡ true → IsAscii bs
ascii_from_low [] h = IsAscii-nil
ascii_from_low (b ∷ bs) h = IsAscii-cons b bs (ltb-true b 128 (first_true _ _ h)) (ascii_from_low bs (second_true (is_low b) _ h))

namespace_is_utf8 : (text : List ℕ) → is_namespace text ≡ true → IsUtf8 text
unfolding is_namespace
namespace_is_utf8 text h = IsUtf8-from_ascii text (ascii_from_low text (low_namespace text (second_true (nat_le (length text) 255) _ h)))

-- ---- cut at an ASCII byte

cut : (xs : List ℕ) (y : ℕ) (ys : List ℕ) → y < 128 → IsUtf8 (xs ++ y ∷ ys) → IsUtf8 xs × IsUtf8 ys
cut xs y ys low h =
    let n = length xs in
    let less : n < length (xs ++ y ∷ ys) = rw (length-append xs (y ∷ ys)) (omega arith) in
    let ascii : get_or (xs ++ y ∷ ys) n 0 < 128 = rw (get_or_at xs y ys 0 n refl) low in
    let split : (xs ++ y ∷ []) ++ ys ≡ xs ++ y ∷ ys = append_assoc xs (y ∷ []) ys in
    let behind : drop (n + 1) (xs ++ y ∷ ys) ≡ ys = ap (drop (n + 1)) (sym split) ∙ drop_at (xs ++ y ∷ []) ys (n + 1) (length-append xs (y ∷ [])) in (
      subst IsUtf8 (take_at xs (y ∷ ys) n refl) (IsUtf8-take (xs ++ y ∷ ys) n h (IsCharBoundary-before_ascii (xs ++ y ∷ ys) n less ascii)),
      subst IsUtf8 behind (IsUtf8-drop (xs ++ y ∷ ys) (n + 1) h (IsCharBoundary-after_ascii (xs ++ y ∷ ys) n h less ascii)),
    )

all_utf8 : (cs : List (List ℕ)) → IsUtf8 (join_with_byte 44 cs) → AllByRecursion IsUtf8 cs
all_utf8 [] h = tt
all_utf8 (c ∷ []) h = (h, tt)
all_utf8 (c ∷ d ∷ cs) h = let two = cut c 44 (join_with_byte 44 (d ∷ cs)) (omega arith) h in (two.0, all_utf8 (d ∷ cs) two.1)

front_utf8 : (bs : List ℕ) (o : Option (List ℕ)) → before_quote bs ≡ o → IsUtf8 bs → IfSome o IsUtf8
front_utf8 bs None e h = tt
front_utf8 bs (Some xs) e h = (cut xs 39 [] (omega arith) (subst IsUtf8 (before_quote_is bs xs e) h)).0

low_quote : (b : ℕ) → (b == 39) ≡ true → b < 128
low_quote b e = let same : b ≡ 39 = eqb-true b 39 e in omega (arith, same)

quoted_utf8 : (bs : List ℕ) → IsUtf8 bs → IfSome (between_quotes bs) IsUtf8
quoted_utf8 [] h = tt
quoted_utf8 (b ∷ rest) h =
    elim (b == 39) as (λ v. (b == 39) ≡ v → IfSome (cond v (before_quote rest) None) IsUtf8) [
      | true ↦ λ e. front_utf8 rest (before_quote rest) refl (cut [] b rest (low_quote b e) h).1
      | false ↦ λ e. tt
    ] refl

low_equals : (b : ℕ) → (b == 61) ≡ true → b < 128
low_equals b e = let same : b ≡ 61 = eqb-true b 61 e in omega (arith, same)

after_utf8 : (c : List ℕ) → position_or_len (λ b. b == 61) c < length c → IsUtf8 c → IsUtf8 (after_first (λ b. b == 61) c)
after_utf8 c less h =
    let n = position_or_len (λ b. b == 61) c in
    (cut (before_first (λ b. b == 61) c) (get_or c n 0) (after_first (λ b. b == 61) c) (low_equals (get_or c n 0) (passes_at_first (λ b. b == 61) c 0 less))
    (subst IsUtf8 (split_at_first (λ b. b == 61) c 0 less) h)).1

-- ---- the first `=`

abbrev Found : ℕ → ℕ → Option ℕ → Type 0
Found n m o = MatchOption o (n ≡ m) (λ i. (i ≡ n) × (n < m))

found : (n m : ℕ) (o : Option ℕ) → n ≤ m → o ≡ cond (nat_lt n m) (Some n) None → Found n m o
found n m o short h =
    elim (nat_lt n m) as (λ v. nat_lt n m ≡ v → o ≡ cond v (Some n) None → Found n m o) [
      | true ↦ λ e k. subst (Found n m) (sym k) (refl, ltb-true n m e)
      | false ↦ λ e k. subst (Found n m) (sym k) (grind (arith, nat_tests))
    ] refl h

module _ (xs : List ℕ) (o : Option ℕ) (told : o ≡ cond (nat_lt (position_or_len (λ b. b == 61) xs) (length xs)) (Some (position_or_len (λ b. b == 61) xs)) None) where
  abbrev place : ℕ
  place = position_or_len (λ b. b == 61) xs

  pub split_there : (i : ℕ) → o ≡ Some i → (place < length xs) × (take i xs ≡ before_first (λ b. b == 61) xs) × (take (length xs - (i + 1)) (drop (i + 1) xs) ≡ after_first (λ b. b == 61) xs)
  split_there i e =
      let k : (i ≡ place) × (place < length xs) = subst (Found place (length xs)) e (found place (length xs) o (place_short (λ b. b == 61) xs) told) in
      (k.1, ap (λ j. take j xs) k.0, between_to_end xs (i + 1) (length xs) (omega arith) ∙ ap (λ j. drop (j + 1) xs) k.0)

  pub nothing_there : o ≡ None → place ≡ length xs
  nothing_there e = subst (Found place (length xs)) e (found place (length xs) o (place_short (λ b. b == 61) xs) told)

-- ---- what the bytes of a text say

kind_kept : (o : Option MessageType) → utf8_wanted (kind_part o) ≡ kind_part o
kind_kept (Some kind) = refl
kind_kept None = refl

choice_kept : (v : Bool) (p : Part) (e : Error) → utf8_wanted (Ok p) ≡ Ok p → utf8_wanted (cond v (Ok p) (Err e)) ≡ cond v (Ok p) (Err e)
choice_kept true p e h = h
choice_kept false p e h = refl

not_utf8 : (value : List ℕ) → (IsUtf8 value → ⊥) → is_utf8 value ≡ false
not_utf8 value h =
    elim (is_utf8 value) as (λ v. is_utf8 value ≡ v → v ≡ false) [ true ↦ λ e. absurd (h (IsUtf8-from_is_utf8 value e)) | false ↦ λ e. refl ] refl

choice_refused : (v : Bool) (p : Part) → (v ≡ false) ⊎ (utf8_wanted (Ok p) ≡ Err InvalidMatchRule) → utf8_wanted (cond v (Ok p) (Err InvalidMatchRule)) ≡ Err InvalidMatchRule
choice_refused v p (inl e) = ap (λ v. utf8_wanted (cond v (Ok p) (Err InvalidMatchRule))) e
choice_refused true p (inr h) = h
choice_refused false p (inr h) = refl

-- the part of an argument, by `argN` or by `argNpath`: its text is UTF-8 without a 0 byte
module _ (part : Argument → Part) (wanted : (a : Argument) → utf8_wanted (Ok (part a)) ≡ cond (is_utf8 a.text) (Ok (part a)) (Err InvalidMatchRule)) (index : ℕ) (value : List ℕ) where
  abbrev the_part : Part
  the_part = part (argument index value)

  text_kept : IsUtf8 value → utf8_wanted (Ok the_part) ≡ Ok the_part
  text_kept h = wanted (argument index value) ∙ ap (λ v. cond v (Ok the_part) (Err InvalidMatchRule)) (is_utf8-from_IsUtf8 value h)

  text_refused : (IsUtf8 value → ⊥) → utf8_wanted (Ok the_part) ≡ Err InvalidMatchRule
  text_refused h = wanted (argument index value) ∙ ap (λ v. cond v (Ok the_part) (Err InvalidMatchRule)) (not_utf8 value h)

  pub argument_read : (a : Argument) → (a ≡ argument index value) × IsTrue (is_plain value) × IsUtf8 value
      → Gives (Ok (part a)) (utf8_wanted (cond (is_plain value) (Ok the_part) (Err InvalidMatchRule)))
  argument_read a h =
      inr (ap (λ (b : Argument). Ok (part b)) h.0 ∙ sym (ap (λ v. utf8_wanted (cond v (Ok the_part) (Err InvalidMatchRule))) h.1 ∙ text_kept h.2))

  no_text : (is_plain value ≡ false) ⊎ (IsUtf8 value → ⊥) → utf8_wanted (cond (is_plain value) (Ok the_part) (Err InvalidMatchRule)) ≡ Err InvalidMatchRule
  no_text (inl e) = choice_refused (is_plain value) the_part (inl e)
  no_text (inr h) = choice_refused (is_plain value) the_part (inr (text_refused h))

  pub argument_refused : (e : Error) → (e ≡ Memory) ⊎ ((e ≡ InvalidMatchRule) × ((is_plain value ≡ false) ⊎ (IsUtf8 value → ⊥)))
      → Gives (Err e) (utf8_wanted (cond (is_plain value) (Ok the_part) (Err InvalidMatchRule)))
  argument_refused e (inl m) = inl (ap Err m)
  argument_refused e (inr k) = inr (ap Err k.0 ∙ sym (no_text k.1))

pub part_kept : (key : Key) (value : List ℕ) → IsUtf8 value → utf8_wanted (part_of key value) ≡ part_of key value
unfolding part_of
part_kept keys.Type value h = kind_kept (kind_of value)
part_kept keys.Sender value h = choice_kept (is_bus_name value) (parts.Sender (owned_of (bus_name_of value))) (Names faults.Bus) refl
part_kept keys.Interface value h = choice_kept (is_interface_name value) (parts.Interface value) (Names faults.Interface) refl
part_kept keys.Member value h = choice_kept (is_member_name value) (parts.Member value) (Names faults.Member) refl
part_kept keys.Path value h = choice_kept (is_object_path value) (parts.Path value) (Names faults.Path) refl
part_kept keys.PathNamespace value h = choice_kept (is_object_path value) (parts.PathNamespace value) (Names faults.Path) refl
part_kept keys.Destination value h = choice_kept (is_unique_name value) (parts.Destination value) (Names faults.Unique) refl
part_kept keys.Arg0Namespace value h = choice_kept (is_namespace value) (parts.Arg0Namespace value) InvalidMatchRule refl
part_kept (keys.Argument index) value h = choice_kept (is_plain value) (parts.Arg (argument index value)) InvalidMatchRule (text_kept parts.Arg (λ a. refl) index value h)
part_kept (keys.ArgumentPath index) value h = choice_kept (is_plain value) (parts.ArgPath (argument index value)) InvalidMatchRule (text_kept parts.ArgPath (λ a. refl) index value h)

no_namespace : (value : List ℕ) (v : Bool) → is_namespace value ≡ v → (IsUtf8 value → ⊥) → utf8_wanted (cond v (Ok (parts.Arg0Namespace value)) (Err InvalidMatchRule)) ≡ Err InvalidMatchRule
no_namespace value true e h = absurd (h (namespace_is_utf8 value e))
no_namespace value false e h = refl

pub namespace_refused : (value : List ℕ) → (IsUtf8 value → ⊥) → utf8_wanted (part_of keys.Arg0Namespace value) ≡ Err InvalidMatchRule
unfolding part_of
namespace_refused value h = no_namespace value (is_namespace value) refl h

keyed_kept : (o : Option Key) (value : Option (List ℕ)) → IfSome value IsUtf8 → utf8_wanted (keyed o value) ≡ keyed o value
keyed_kept (Some key) (Some value) h = part_kept key value h
keyed_kept (Some key) None h = refl
keyed_kept None (Some value) h = refl
keyed_kept None None h = refl

component_kept : (c : List ℕ) → IsUtf8 c → utf8_wanted (component c) ≡ component c
unfolding component
component_kept c h =
    elim (nat_lt (position_or_len (λ b. b == 61) c) (length c)) as (λ v.
    nat_lt (position_or_len (λ b. b == 61) c) (length c) ≡ v
    → utf8_wanted (cond v (keyed (key_of (before_first (λ b. b == 61) c)) (between_quotes (after_first (λ b. b == 61) c))) (Err InvalidMatchRule))
    ≡ cond v (keyed (key_of (before_first (λ b. b == 61) c)) (between_quotes (after_first (λ b. b == 61) c))) (Err InvalidMatchRule)) [
      | true ↦ λ e.
          keyed_kept (key_of (before_first (λ b. b == 61) c)) (between_quotes (after_first (λ b. b == 61) c))
          (quoted_utf8 (after_first (λ b. b == 61) c) (after_utf8 c (ltb-true _ _ e) h))
      | false ↦ λ e. refl
    ] refl

said_kept : (cs : List (List ℕ)) → AllByRecursion IsUtf8 cs → said_in_bytes cs ≡ said cs
said_kept [] h = refl
said_kept (c ∷ cs) h = ap (λ r. first_then r (said_in_bytes cs)) (component_kept c h.0) ∙ ap (first_then (component c)) (said_kept cs h.1)

pub agree : (text : List ℕ) → IsUtf8 text → rule_in_bytes text ≡ rule_in text
unfolding rule_in_bytes rule_in
agree text h = ap made (said_kept (components text) (all_utf8 (components text) (subst IsUtf8 (sym (join_with_byte-slice_split 44 text)) h)))
