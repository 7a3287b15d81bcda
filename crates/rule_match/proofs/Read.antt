-- Reading a rule component by component.
use Rattle.std.proofs.Common.{◌≡◌, refl, sym, ap, ◌∙◌, ℕ, zero, suc, ◌+◌, ◌<◌, ◌≤◌, List, [], ◌∷◌, ◌++◌, append-nil, length, map, drop, get_or, add-one, Result, Ok, Err, inl, inr, arith}
use Rattle.std.specs.Borrow.{Bor}
use Rattle.wire_message.specs.declared.error.Error.{Error}
use Rattle.wire_message.specs.declared.error.Error.TheVariants.{Memory}
use Rattle.rule_match.specs.declared.part.Part.{Part}
use Rattle.rule_match.specs.Arguments.{in_order}
use Rattle.rule_match.specs.Rule.{no_parts}
use Rattle.rule_match.specs.Building.{Gives}
use Rattle.rule_match.specs.Text.{rule_of, made, component, first_then}
use Rattle.rule_match.specs.Bytes.{utf8_wanted, said_in_bytes}
use Rattle.rule_match.proofs.Made.{made_with, made_first}

pub none_made : no_parts ≡ rule_of []
unfolding rule_of in_order
none_made = refl

abbrev pub texts : List (Bor (List ℕ)) → List (List ℕ)
texts parts = map (λ part. part.now) parts

next : (parts : List (Bor (List ℕ))) (i : ℕ) (d : Bor (List ℕ)) → i < length parts → drop i (texts parts) ≡ (get_or parts i d).now ∷ drop (suc i) (texts parts)
next [] i d h = absurd (omega arith)
next (p ∷ parts) zero d h = refl
next (p ∷ parts) (suc i) d h = next parts i d (omega arith)

pub part_read : (parts : List (Bor (List ℕ))) (i : ℕ) (d : Bor (List ℕ)) (ps : List Part) (p : Part) → i < length parts → utf8_wanted (component (get_or parts i d).now) ≡ Ok p
    → made (said_in_bytes (texts parts)) ≡ made_with ps (said_in_bytes (drop i (texts parts))) → made (said_in_bytes (texts parts)) ≡ made_with (ps ++ p ∷ []) (said_in_bytes (drop (i + 1) (texts parts)))
part_read parts i d ps p less e h =
    h ∙ ap (λ xs. made_with ps (said_in_bytes xs)) (next parts i d less) ∙ ap (λ r. made_with ps (first_then r (said_in_bytes (drop (suc i) (texts parts))))) e
    ∙ rw add-one (made_first ps p (said_in_bytes (drop (suc i) (texts parts))))

pub fault_read : (parts : List (Bor (List ℕ))) (i : ℕ) (d : Bor (List ℕ)) (ps : List Part) (e : Error) → i < length parts → utf8_wanted (component (get_or parts i d).now) ≡ Err e
    → made (said_in_bytes (texts parts)) ≡ made_with ps (said_in_bytes (drop i (texts parts))) → made (said_in_bytes (texts parts)) ≡ Err e
fault_read parts i d ps e less c h =
    h ∙ ap (λ xs. made_with ps (said_in_bytes xs)) (next parts i d less) ∙ ap (λ r. made_with ps (first_then r (said_in_bytes (drop (suc i) (texts parts))))) c

none_left : (xs : List (List ℕ)) (i : ℕ) → length xs ≤ i → drop i xs ≡ []
none_left [] zero h = refl
none_left [] (suc i) h = refl
none_left (x ∷ xs) zero h = absurd (omega arith)
none_left (x ∷ xs) (suc i) h = none_left xs i (omega arith)

texts_length : (parts : List (Bor (List ℕ))) → length (texts parts) ≡ length parts
texts_length [] = refl
texts_length (p ∷ parts) = ap suc (texts_length parts)

pub all_read : (parts : List (Bor (List ℕ))) (i : ℕ) (ps : List Part) → length parts ≤ i
    → made (said_in_bytes (texts parts)) ≡ made_with ps (said_in_bytes (drop i (texts parts))) → made (said_in_bytes (texts parts)) ≡ Ok (rule_of ps)
all_read parts i ps end h =
    h ∙ ap (λ xs. made_with ps (said_in_bytes xs)) (none_left (texts parts) i (omega (arith, texts_length parts))) ∙ ap (λ xs. Ok (rule_of xs)) (append-nil ps)

pub told_ok : {A : Type 0} (x : A) (told : Result A Error) → Gives (Ok x) told → told ≡ Ok x
told_ok x told (inl h) = cc
told_ok x told (inr h) = sym h

pub fault_given : {A B : Type 0} (e : Error) (told : Result A Error) (all : Result B Error) → (told ≡ Err e → all ≡ Err e) → Gives (Err e) told → Gives (Err e) all
fault_given e told all h (inl k) = inl (let same : e ≡ Memory = cc in ap Err same)
fault_given e told all h (inr k) = inr (sym (h (sym k)))
