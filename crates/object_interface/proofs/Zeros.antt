-- Texts without a 0 byte: names and paths hold none, and so the errors that name them can be sent.
use Rattle.std.proofs.Common.{◌≡◌, refl, sym, ◌∙◌, subst, ℕ, ◌<◌, List, [], ◌∷◌, ◌++◌, Bool, true, false, ◌&&◌, ◌||◌, cond, nat_le, nat_lt, length, codes, arith, Result, Ok, Err, IfOk}
use Rattle.std.specs.Prelude.{◌==◌}
use Rattle.std.specs.List.{All, list_all, slice_split, onto_first}
use Rattle.std.proofs.lemmas.Bool.{ltb-true}
use Rattle.std.proofs.lemmas.Bool.Decides.{nat_tests}
use Rattle.std.proofs.lemmas.List.Folds.{list_all-append}
use Rattle.std.proofs.lemmas.List.Sums.{AllPass-from_list_all}
use Rattle.wire_names.specs.Names.{elements, is_element, is_element_byte, is_dotted, is_short, is_path_element, is_interface_element, is_interface_name, is_member_name, is_object_path, IsInterfaceName, IsMemberName, IsObjectPath}
use Rattle.wire_message.specs.declared.fdo_kind.Kind.{Kind}
use Rattle.wire_message.specs.declared.fdo.Error.{Error}
use Rattle.object_interface.specs.Errors.{unknown}
use Rattle.object_interface.specs.Sending.{has_no_zero, IsSendableError}

first : (a b : Bool) → (a && b) ≡ true → a ≡ true
first true b h = refl
first false b h = h

second : (a b : Bool) → (a && b) ≡ true → b ≡ true
second true b h = h
second false b h = absurd (cc)

both : (a b : Bool) → a ≡ true → b ≡ true → (a && b) ≡ true
both true b h k = k
both false b h k = h

byte : (b : ℕ) → is_element_byte false b ≡ true → nat_lt 0 b ≡ true
byte b h = grind (arith, nat_tests)

bytes : (bs : List ℕ) → list_all (is_element_byte false) bs ≡ true → list_all (nat_lt 0) bs ≡ true
bytes [] h = refl
bytes (b ∷ bs) h =
    both (nat_lt 0 b) (list_all (nat_lt 0) bs) (byte b (first (is_element_byte false b) (list_all (is_element_byte false) bs) h)) (bytes bs (second (is_element_byte false b) (list_all (is_element_byte false) bs) h))

element : (digit : Bool) (part : List ℕ) → is_element false digit part ≡ true → list_all (nat_lt 0) part ≡ true
unfolding is_element
element digit part h =
    bytes part (second (nat_le 1 (length part)) (list_all (is_element_byte false) part) (first (nat_le 1 (length part) && list_all (is_element_byte false) part) _ h))

each : (digit : Bool) (parts : List (List ℕ)) → list_all (is_element false digit) parts ≡ true → list_all (list_all (nat_lt 0)) parts ≡ true
each digit [] h = refl
each digit (part ∷ parts) h =
    both (list_all (nat_lt 0) part) (list_all (list_all (nat_lt 0)) parts) (element digit part (first (is_element false digit part) (list_all (is_element false digit) parts) h))
    (each digit parts (second (is_element false digit part) (list_all (is_element false digit) parts) h))

front : (x : ℕ) (parts : List (List ℕ)) → list_all (list_all (nat_lt 0)) (onto_first x parts) ≡ true → (nat_lt 0 x ≡ true) × (list_all (list_all (nat_lt 0)) parts ≡ true)
front x [] h = (first (nat_lt 0 x) true (first (nat_lt 0 x && true) true h), refl)
front x (part ∷ parts) h =
    let one = first (nat_lt 0 x && list_all (nat_lt 0) part) (list_all (list_all (nat_lt 0)) parts) h in (
      first (nat_lt 0 x) (list_all (nat_lt 0) part) one,
      both (list_all (nat_lt 0) part) (list_all (list_all (nat_lt 0)) parts) (second (nat_lt 0 x) (list_all (nat_lt 0) part) one) (second (nat_lt 0 x && list_all (nat_lt 0) part) (list_all (list_all (nat_lt 0)) parts) h),
    )

joined : (p : ℕ → Bool) (xs : List ℕ) → ((x : ℕ) → p x ≡ true → nat_lt 0 x ≡ true) → list_all (list_all (nat_lt 0)) (slice_split p xs) ≡ true → list_all (nat_lt 0) xs ≡ true
joined p [] sep h = refl
joined p (x ∷ xs) sep h =
    elim (p x) as (λ v. p x ≡ v → list_all (list_all (nat_lt 0)) (cond v ([] ∷ slice_split p xs) (onto_first x (slice_split p xs))) ≡ true → (nat_lt 0 x && list_all (nat_lt 0) xs) ≡ true) [
      | true ↦ λ at k. both (nat_lt 0 x) (list_all (nat_lt 0) xs) (sep x at) (joined p xs sep k)
      | false ↦ λ at k. let two = front x (slice_split p xs) k in both (nat_lt 0 x) (list_all (nat_lt 0) xs) two.0 (joined p xs sep two.1)
    ] refl h

dot : (x : ℕ) → (x == 46) ≡ true → nat_lt 0 x ≡ true
dot x h = grind (arith, nat_tests)

slash : (x : ℕ) → (x == 47) ≡ true → nat_lt 0 x ≡ true
slash x h = grind (arith, nat_tests)

-- an interface's name, a member's, and a path
pub interface_no_zero : (text : List ℕ) → IsInterfaceName text → has_no_zero text ≡ true
unfolding is_interface_name is_dotted
interface_no_zero text h =
    joined (λ x. x == 46) text dot (each false (elements 46 text) (second (nat_le 2 (length (elements 46 text))) (list_all is_interface_element (elements 46 text)) (second (is_short text) (is_dotted is_interface_element text) h)))

pub member_no_zero : (text : List ℕ) → IsMemberName text → has_no_zero text ≡ true
unfolding is_member_name
member_no_zero text h = element false text (second (is_short text) (is_interface_element text) h)

rest_no_zero : (rest : List ℕ) → (nat_le (length rest) 0 || list_all is_path_element (elements 47 rest)) ≡ true → has_no_zero rest ≡ true
rest_no_zero [] h = refl
rest_no_zero (b ∷ bs) h =
    let some : nat_le (length (b ∷ bs)) 0 ≡ false = grind (arith, nat_tests) in
    joined (λ x. x == 47) (b ∷ bs) slash (each true (elements 47 (b ∷ bs)) (rw some at h))

pub path_no_zero : (text : List ℕ) → IsObjectPath text → has_no_zero text ≡ true
unfolding is_object_path
path_no_zero [] h = refl
path_no_zero (b ∷ rest) h =
    both (nat_lt 0 b) (has_no_zero rest) (slash b (first (b == 47) _ h)) (rest_no_zero rest (second (b == 47) (nat_le (length rest) 0 || list_all is_path_element (elements 47 rest)) h))

-- a text without a 0 byte, in the words of strings
pub above_zero : (text : List ℕ) → has_no_zero text ≡ true → All (λ b. 0 < b) text
above_zero text h = λ k d i. ltb-true 0 _ (AllPass-from_list_all (nat_lt 0) text h k d i)

-- two texts, one behind the other
pub no_zero_both : (xs ys : List ℕ) → has_no_zero xs ≡ true → has_no_zero ys ≡ true → has_no_zero (xs ++ ys) ≡ true
no_zero_both xs ys h k = list_all-append (nat_lt 0) xs ys ∙ both (has_no_zero xs) (has_no_zero ys) h k

-- the error of what isn't there can be sent
pub unknown_sendable : (kind : Kind) (what name : List ℕ) → has_no_zero what ≡ true → has_no_zero name ≡ true → IsSendableError (unknown kind what name)
unknown_sendable kind what name h k =
    no_zero_both (codes "Unknown ") (what ++ (codes " '" ++ (name ++ codes "'"))) refl
    (no_zero_both what (codes " '" ++ (name ++ codes "'")) h (no_zero_both (codes " '") (name ++ codes "'") refl (no_zero_both name (codes "'") k refl)))

pub sendable_as : {E : Type 0} (r : Result Error E) (error : Error) → IsSendableError error → IfOk r (λ e. e ≡ error) → IfOk r IsSendableError
sendable_as (Ok e) error h is = subst IsSendableError (sym is) h
sendable_as (Err e) error h is = tt
