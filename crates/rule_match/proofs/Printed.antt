-- Components printed one behind the other are the text of the rule.
use Rattle.std.proofs.Common.{◌≡◌, refl, sym, ap, ◌∙◌, ℕ, zero, suc, ◌+◌, ◌<◌, ◌≤◌, List, [], ◌∷◌, ◌++◌, append_assoc, append-nil, Bool, true, false, ◌&&◌, map, length, take, get_or, codes, Option, Some, None, option_map, Result, Ok, arith}
use Rattle.std.specs.Prelude.{is_none, is_some, not, ◌==◌}
use Rattle.std.specs.List.{join_with_byte}
use Rattle.std.specs.Fmt.{WritesOnOk, HasWritten}
use Rattle.std.specs.declared.fmt.Formatter.{Formatter}
use Rattle.std.specs.declared.fmt.Error.{Error}
use Rattle.std.proofs.lemmas.List.{take_more, take_all}
use Rattle.std.proofs.lemmas.Bool.Decides.{nat_tests}
use Rattle.std.proofs.Output.{has_written_append, has_written_of_eq}
use Rattle.rule_match.specs.declared.part.Part.{Part}
use Rattle.rule_match.specs.declared.part.Part.TheVariants as parts
use Rattle.rule_match.specs.Rule.{Rule}
use Rattle.wire_names.specs.BusName.{text_of_owned}
use Rattle.rule_match.specs.Part.{kind_word}
use Rattle.rule_match.specs.Text.{one, argument_text, component_text, part_text, parts_of, rule_text, place_part}
use Rattle.rule_match.specs.Printing.{separator, joined, named, still_first}

later : (xs : List (List ℕ)) → still_first false xs ≡ false
later [] = refl
later (x ∷ xs) = refl

pub joined_append : (first : Bool) (xs ys : List (List ℕ)) → joined first (xs ++ ys) ≡ joined first xs ++ joined (still_first first xs) ys
joined_append first [] ys = refl
joined_append first (x ∷ xs) ys =
    ap (λ t. (separator first ++ x) ++ t) (joined_append false xs ys ∙ ap (λ b. joined false xs ++ joined b ys) (later xs))
    ∙ sym (append_assoc (separator first ++ x) (joined false xs) (joined false ys))

pub joined_is_join : (xs : List (List ℕ)) → joined true xs ≡ join_with_byte 44 xs
joined_is_join [] = refl
joined_is_join (x ∷ []) = append-nil x
joined_is_join (x ∷ y ∷ xs) = ap (λ t. x ++ 44 ∷ t) (joined_is_join (y ∷ xs))

map_joined : {A B : Type 0} (f : A → B) (xs ys : List A) → map f (xs ++ ys) ≡ map f xs ++ map f ys
map_joined f [] ys = refl
map_joined f (x ∷ xs) ys = ap (λ zs. f x ∷ zs) (map_joined f xs ys)

still_taken : {A : Type 0} (text : A → List ℕ) (xs : List A) (first : Bool) (i : ℕ) → i < length xs → still_first first (map text (take i xs)) ≡ (first && i == 0)
still_taken text [] first i less = absurd (omega arith)
still_taken text (x ∷ xs) true zero less = refl
still_taken text (x ∷ xs) false zero less = refl
still_taken text (x ∷ xs) true (suc i) less = let no : (suc i == 0) ≡ false = grind (arith, nat_tests) in sym no
still_taken text (x ∷ xs) false (suc i) less = refl

joined_more : {A : Type 0} (text : A → List ℕ) (xs : List A) (d : A) (first : Bool) (i : ℕ) → i < length xs
    → joined first (map text (take (i + 1) xs)) ≡ joined first (map text (take i xs)) ++ (separator (first && i == 0) ++ text (get_or xs i d))
joined_more text xs d first i less =
    ap (λ ys. joined first (map text ys)) (take_more xs i d less)
    ∙ ap (joined first) (map_joined text (take i xs) (get_or xs i d ∷ []))
    ∙ joined_append first (map text (take i xs)) (text (get_or xs i d) ∷ [])
    ∙ ap (λ b. joined first (map text (take i xs)) ++ ((separator b ++ text (get_or xs i d)) ++ [])) (still_taken text xs first i less)
    ∙ ap (λ t. joined first (map text (take i xs)) ++ t) (append-nil (separator (first && i == 0) ++ text (get_or xs i d)))

module _ {W : Type 0} (took : W → List ℕ → W → Type 0) where
  pub then_written : (f g h : Formatter W) (r : Result (Unit {0}) Error) (first next : Bool) (xs ys : List (List ℕ))
      → WritesOnOk took f (Ok tt) (joined first xs) g → next ≡ still_first first xs → WritesOnOk took g r (joined next ys) h
      → WritesOnOk took f r (joined first (xs ++ ys)) h
  then_written f g h r first next xs ys w e v = λ plain ok.
      let front = w plain refl in
      let back = (rw e at v) front.plain ok in
      has_written_of_eq took _ _ _ _ (sym (joined_append first xs ys)) (has_written_append took _ _ _ _ _ front back)

  pub more_written : {A : Type 0} (text : A → List ℕ) (xs : List A) (f g h : Formatter W) (first now : Bool) (i : ℕ) (x : A) → i < length xs
      → now ≡ (first && i == 0) → x ≡ get_or xs i x
      → HasWritten took f (joined first (map text (take i xs))) g → HasWritten took g (separator now ++ text x) h
      → HasWritten took f (joined first (map text (take (i + 1) xs))) h
  more_written text xs f g h first now i x less flag at v w =
      let front = joined first (map text (take i xs)) in
      has_written_of_eq took _ _ _ _
      (ap (λ b. front ++ (separator b ++ text x)) flag ∙ ap (λ y. front ++ (separator (first && i == 0) ++ text y)) at ∙ sym (joined_more text xs x first i less))
      (has_written_append took _ _ _ _ _ v w)

  pub all_written : {A : Type 0} (text : A → List ℕ) (xs : List A) (f g : Formatter W) (first : Bool) (i : ℕ) → length xs ≤ i
      → HasWritten took f (joined first (map text (take i xs))) g → HasWritten took f (joined first (map text xs)) g
  all_written text xs f g first i end v = has_written_of_eq took _ _ _ _ (ap (λ ys. joined first (map text ys)) (take_all i xs end)) v

-- ---- the whole

still_named : (key : List ℕ) (first : Bool) (o : Option (List ℕ)) → still_first first (named key o) ≡ (first && is_none o)
still_named key true None = refl
still_named key false None = refl
still_named key true (Some x) = refl
still_named key false (Some x) = refl

pub next_named : (key : List ℕ) (first next none : Bool) (o : Option (List ℕ)) → next ≡ (first && none) → none ≡ is_none o → next ≡ still_first first (named key o)
next_named key first next none o e k = e ∙ ap (λ b. first && b) k ∙ sym (still_named key first o)

pub none_mapped : {A B : Type 0} (f : A → B) (o : Option A) → is_none o ≡ is_none (option_map f o)
none_mapped f None = refl
none_mapped f (Some x) = refl

one_mapped : {A : Type 0} (part : A → Part) (key : List ℕ) (f : A → List ℕ) → ((x : A) → part_text (part x) ≡ component_text key (f x)) → (o : Option A) → named key (option_map f o) ≡ map part_text (one part o)
one_mapped part key f h None = refl
one_mapped part key f h (Some x) = ap (λ t. t ∷ []) (sym (h x))

one_named : (part : List ℕ → Part) (key : List ℕ) → ((x : List ℕ) → part_text (part x) ≡ component_text key x) → (o : Option (List ℕ)) → named key o ≡ map part_text (one part o)
one_named part key h None = refl
one_named part key h (Some x) = ap (λ t. t ∷ []) (sym (h x))

still_one : {A : Type 0} (part : A → Part) (first : Bool) (o : Option A) → still_first first (map part_text (one part o)) ≡ (first && is_none o)
still_one part true None = refl
still_one part false None = refl
still_one part true (Some x) = refl
still_one part false (Some x) = refl

pub none_told : {A : Type 0} (o : Option A) (none : Bool) → is_some o ≡ not none → none ≡ is_none o
none_told None true e = refl
none_told None false e = cc
none_told (Some x) true e = cc
none_told (Some x) false e = refl

pub next_one : {A : Type 0} (part : A → Part) (first next none : Bool) (o : Option A) → next ≡ (first && none) → none ≡ is_none o → next ≡ still_first first (map part_text (one part o))
next_one part first next none o e k = e ∙ ap (λ b. first && b) k ∙ sym (still_one part first o)

still_list : {A : Type 0} (text : A → List ℕ) (first : Bool) (xs : List A) → still_first first (map text xs) ≡ (first && length xs == 0)
still_list text true [] = refl
still_list text false [] = refl
still_list text true (x ∷ xs) = let no : (length (x ∷ xs) == 0) ≡ false = grind (arith, nat_tests) in sym no
still_list text false (x ∷ xs) = refl

pub next_list : {A : Type 0} (text : A → List ℕ) (first next none : Bool) (xs : List A) → next ≡ (first && none) → none ≡ (length xs == 0) → next ≡ still_first first (map text xs)
next_list text first next none xs e k = e ∙ ap (λ b. first && b) k ∙ sym (still_list text first xs)

map_twice : {A B C : Type 0} (f : B → C) (g : A → B) (xs : List A) → map f (map g xs) ≡ map (λ x. f (g x)) xs
map_twice f g [] = refl
map_twice f g (x ∷ xs) = ap (λ ys. f (g x) ∷ ys) (map_twice f g xs)

abbrev pub texts_of : Rule → List (List ℕ)
texts_of r =
    named (codes "type") (option_map kind_word r.kind) ++ (named (codes "sender") (option_map text_of_owned r.sender) ++ (named (codes "interface") r.interface
    ++ (named (codes "member") r.member ++ (named (codes "destination") r.destination ++ (map part_text (one place_part r.path)
    ++ (map (argument_text []) r.args ++ (map (argument_text (codes "path")) r.arg_paths ++ named (codes "arg0namespace") r.arg0ns)))))))

pub texts_are : (r : Rule) → map part_text (parts_of r) ≡ texts_of r
unfolding parts_of
texts_are r =
    rw (
      one_mapped parts.Kind (codes "type") kind_word (λ x. refl) r.kind,
      one_mapped parts.Sender (codes "sender") text_of_owned (λ x. refl) r.sender,
      one_named parts.Interface (codes "interface") (λ x. refl) r.interface,
      one_named parts.Member (codes "member") (λ x. refl) r.member,
      one_named parts.Destination (codes "destination") (λ x. refl) r.destination,
      one_named parts.Arg0Namespace (codes "arg0namespace") (λ x. refl) r.arg0ns,
    ) (simp (map_joined, map_twice))

pub text_is : (r : Rule) → joined true (texts_of r) ≡ rule_text r
unfolding rule_text
text_is r = joined_is_join (texts_of r) ∙ ap (join_with_byte 44) (sym (texts_are r))
