-- Interfaces put among others, by walking over both.
use Rattle.std.proofs.Common.{◌≡◌, refl, sym, ◌∙◌, ap, ℕ, zero, suc, ◌+◌, ◌-◌, ◌<◌, ◌≤◌, List, [], ◌∷◌, ◌++◌, length, take, drop, get_or, length-drop, Bool, true, false, cond, map, arith, append_assoc, Less, Equal, Greater}
use Rattle.std.proofs.Math.Numerals.{one-add}
use Rattle.std.proofs.Math.ListN.{drop_of_length-le}
use Rattle.std.proofs.lemmas.List.{take_rest, drop-drop, at_drop_more}
use Rattle.std.proofs.lemmas.Grind.{flat_map-append}
use Rattle.std.specs.Prelude.{⊤, fold, flat_map}
use Rattle.std.specs.List.{prefix_len, AllByRecursion}
use Rattle.std.specs.List.Sorted.{IsStrictlySortedBy}
use Rattle.std.specs.Ordering.{is_lt, ordering_reverse}
use Rattle.std.specs.declared.cmp.Ordering.{Ordering}
use Rattle.std.proofs.lemmas.Bool.{cond-true, cond-false, both_ways, false_from_ne_true}
use Rattle.std.proofs.lemmas.Cmp.{nat_list_cmp_total}
use Rattle.object_tree.specs.Objects.{text_cmp}
use Rattle.object_interface.specs.declared.description.DescribedInterface.{DescribedInterface}
use Rattle.object_text.specs.Nodes as nodes
use Rattle.object_text.specs.Nodes.{put_among, told}

-- the first interface's name is before the second's
abbrev pub is_before : DescribedInterface → DescribedInterface → Bool
is_before i j = is_lt (text_cmp i.name j.name)

-- each interface's name is before those behind it
abbrev pub AreAscending : List DescribedInterface → Type 0
AreAscending [] = ⊤
AreAscending (i ∷ is) = AllByRecursion (λ j. is_before i j ≡ true) is × AreAscending is

-- interfaces put among others, one after another
abbrev pub merged : List DescribedInterface → List DescribedInterface → List DescribedInterface
merged own others = fold put_among own others

less_is : (o : Ordering) → is_lt o ≡ true → o ≡ Less
less_is Less h = refl
less_is Equal h = grind arith
less_is Greater h = grind arith

-- the order of names
before_trans : (i j k : DescribedInterface) → is_before i j ≡ true → is_before j k ≡ true → is_before i k ≡ true
before_trans i j k h l = ap is_lt (nat_list_cmp_total.trans i.name j.name k.name (less_is (text_cmp i.name j.name) h) (less_is (text_cmp j.name k.name) l))

not_after : (i j : DescribedInterface) → is_before i j ≡ true → is_before j i ≡ false
not_after i j h = ap is_lt (nat_list_cmp_total.antisymm j.name i.name) ∙ by (text_cmp i.name j.name) h
  where
    by : (o : Ordering) → is_lt o ≡ true → is_lt (ordering_reverse o) ≡ false
    by Less h = refl
    by Equal h = grind arith
    by Greater h = grind arith

-- what none of the others is before stays in front of them
in_front : (y : DescribedInterface) (zs others : List DescribedInterface) → AllByRecursion (λ s. is_before s y ≡ false) others → merged (y ∷ zs) others ≡ y ∷ merged zs others
in_front y zs [] h = refl
in_front y zs (s ∷ ss) h = ap (λ l. merged l ss) (cond-false (is_before s y) (s ∷ y ∷ zs) (y ∷ put_among zs s) h.0) ∙ in_front y (put_among zs s) ss h.1

none_before : (i : DescribedInterface) (others : List DescribedInterface) → AllByRecursion (λ j. is_before i j ≡ true) others → AllByRecursion (λ j. is_before j i ≡ false) others
none_before i [] h = tt
none_before i (j ∷ js) h = (not_after i j h.0, none_before i js h.1)

none_later : (i y : DescribedInterface) (others : List DescribedInterface) → is_before i y ≡ false → AllByRecursion (λ j. is_before i j ≡ true) others → AllByRecursion (λ j. is_before j y ≡ false) others
none_later i y [] f h = tt
none_later i y (j ∷ js) f h = (false_from_ne_true (is_before j y) (λ t. both_ways (is_before i y) f (before_trans i j y h.0 t)), none_later i y js f h.1)

-- the next of an object's own stands behind those whose names are before its name
pub next_own : (y : DescribedInterface) (ys others : List DescribedInterface) → AreAscending others
    → merged (y ∷ ys) others ≡ take (prefix_len (λ i. is_before i y) others) others ++ y ∷ merged ys (drop (prefix_len (λ i. is_before i y) others) others)
next_own y ys [] asc = refl
next_own y ys (s ∷ ss) asc = by (is_before s y) refl (next_own y ys ss asc.1)
  where
    by : (b : Bool) → is_before s y ≡ b
        → merged (y ∷ ys) ss ≡ take (prefix_len (λ i. is_before i y) ss) ss ++ y ∷ merged ys (drop (prefix_len (λ i. is_before i y) ss) ss)
        → merged (y ∷ ys) (s ∷ ss) ≡ take (cond b (1 + prefix_len (λ i. is_before i y) ss) 0) (s ∷ ss) ++ y ∷ merged ys (drop (cond b (1 + prefix_len (λ i. is_before i y) ss) 0) (s ∷ ss))
    by true h later =
        ap (λ l. merged l ss) (cond-true (is_before s y) (s ∷ y ∷ ys) (y ∷ put_among ys s) h)
        ∙ in_front s (y ∷ ys) ss (none_before s ss asc.0)
        ∙ ap (λ l. s ∷ l) later
        ∙ one_more (prefix_len (λ i. is_before i y) ss)
      where
        one_more : (n : ℕ) → s ∷ (take n ss ++ y ∷ merged ys (drop n ss)) ≡ take (1 + n) (s ∷ ss) ++ y ∷ merged ys (drop (1 + n) (s ∷ ss))
        one_more n = rw one-add refl
    by false h later = in_front y ys (s ∷ ss) (h, none_later s y ss h asc.0)

-- behind all of an object's own stand the others
pub no_own : (others : List DescribedInterface) → AreAscending others → merged [] others ≡ others
no_own [] asc = refl
no_own (s ∷ ss) asc = in_front s [] ss (none_before s ss asc.0) ∙ ap (λ l. s ∷ l) (no_own ss asc.1)

pub ascending_drop : (n : ℕ) (others : List DescribedInterface) → AreAscending others → AreAscending (drop n others)
ascending_drop zero others asc = asc
ascending_drop (suc n) [] asc = tt
ascending_drop (suc n) (s ∷ ss) asc = ascending_drop n ss asc.1

-- interfaces that ascend by their names are so
all_before : (i : DescribedInterface) (is : List DescribedInterface) → AllByRecursion (λ name. text_cmp i.name name ≡ Less) (map (λ (j : DescribedInterface). j.name) is)
    → AllByRecursion (λ j. is_before i j ≡ true) is
all_before i [] h = tt
all_before i (j ∷ js) h = (ap is_lt h.0, all_before i js h.1)

pub ascending : (is : List DescribedInterface) → nodes.AreAscending is → AreAscending is
unfolding IsStrictlySortedBy
ascending [] h = tt
ascending (i ∷ is) h = (all_before i is h.0, ascending is h.1)

pub told_is : (standing own : List DescribedInterface) → told standing own ≡ merged own standing
unfolding told
told_is standing own = refl

-- one of an object's own is put, behind those that stand before it
pub turn : (f : DescribedInterface → List ℕ) (a b d whole : List ℕ) (own others : List DescribedInterface) (i n count : ℕ) (o : DescribedInterface)
    → i < length own → o ≡ get_or own i o → AreAscending others → n ≤ length others
    → count ≡ prefix_len (λ j. is_before j o) (take (length others - n) (drop n others)) → count ≤ length (take (length others - n) (drop n others))
    → a ++ flat_map f (merged (drop i own) (drop n others)) ≡ whole
    → b ≡ a ++ flat_map f (take ((n + count) - n) (drop n others)) → d ≡ b ++ f o
    → (d ++ flat_map f (merged (drop (i + 1) own) (drop (n + count) others)) ≡ whole) × (n + count ≤ length others)
turn f a b d whole own others i n count o lt is asc within counted few inv put one =
    let rest = take_rest others n in
    let here : count ≡ prefix_len (λ j. is_before j o) (drop n others) = counted ∙ ap (λ l. prefix_len (λ j. is_before j o) l) rest in
    let m : (n + count) - n ≡ count = omega arith in
    let next = ap (λ x. x ∷ drop (i + 1) own) (sym is) in
    let split = ap (λ l. merged l (drop n others)) next ∙ next_own o (drop (i + 1) own) (drop n others) (ascending_drop n others asc)
    ∙ ap (λ k. take k (drop n others) ++ o ∷ merged (drop (i + 1) own) (drop k (drop n others))) (sym here)
    ∙ ap (λ l. take count (drop n others) ++ o ∷ merged (drop (i + 1) own) l) (drop-drop count n others) in
    let long : length (take (length others - n) (drop n others)) ≡ length others - n = ap length rest ∙ length-drop n others in (
      ap (λ l. l ++ flat_map f (merged (drop (i + 1) own) (drop (n + count) others))) (one ∙ ap (λ l. l ++ f o) (put ∙ ap (λ k. a ++ flat_map f (take k (drop n others))) m))
          ∙ by_parts a (flat_map f (take count (drop n others))) (f o) (flat_map f (merged (drop (i + 1) own) (drop (n + count) others)))
          ∙ ap (λ l. a ++ l) (sym (ap (flat_map f) split ∙ flat_map-append f (take count (drop n others)) (o ∷ merged (drop (i + 1) own) (drop (n + count) others))))
          ∙ ap (λ l. a ++ flat_map f (merged l (drop n others))) (sym (at_drop_more (λ l. l) own i o lt))
          ∙ inv,
      omega (arith, few, long),
    )
  where
    by_parts : (a b c d : List ℕ) → ((a ++ b) ++ c) ++ d ≡ a ++ (b ++ (c ++ d))
    by_parts a b c d = simp append_assoc refl

-- behind the last of an object's own, the others are put
pub end : (f : DescribedInterface → List ℕ) (a b whole : List ℕ) (own others : List DescribedInterface) (i n : ℕ)
    → length own ≤ i → AreAscending others
    → a ++ flat_map f (merged (drop i own) (drop n others)) ≡ whole
    → b ≡ a ++ flat_map f (take (length others - n) (drop n others))
    → b ≡ whole
end f a b whole own others i n ge asc inv put =
    put ∙ ap (λ l. a ++ flat_map f l) (take_rest others n ∙ sym (no_own (drop n others) (ascending_drop n others asc)))
    ∙ ap (λ l. a ++ flat_map f (merged l (drop n others))) (sym (drop_of_length-le own ge)) ∙ inv
