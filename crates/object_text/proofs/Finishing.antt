-- What is still to be put while nodes are open: the nodes inside the innermost, its last line, and so on outwards.
use Rattle.std.proofs.Common.{◌≡◌, refl, sym, ◌∙◌, ap, subst, ℕ, zero, suc, ◌+◌, ◌*◌, ◌-◌, ◌<◌, ◌≤◌, List, [], ◌∷◌, ◌++◌, length, take, drop, true, false, cond, arith, append_assoc, codes, take-take, length-take, not-suc-le-zero, map, reverse, get_or, Option, Some, None, is_some, slice_get}
use Rattle.std.specs.Prelude.{option_to_list}
use Rattle.std.proofs.Math.Seq.{take-length}
use Rattle.std.proofs.lemmas.List.{take_more, at_drop_more}
use Rattle.std.proofs.lemmas.Option.{get_or_from_slice_get, slice_get-get_or}
use Rattle.std.proofs.lemmas.List.{map-append, reverse-append, length-reverse, length-map}
use Rattle.std.specs.Prelude.{flat_map}
use Rattle.std.proofs.lemmas.List.Sums.{take_while-cons}
use Rattle.object_tree.specs.Objects.{is_below, front_of}
use Rattle.object_tree.proofs.Below.{is_below-Decides, front_begins}
use Rattle.object_interface.specs.declared.description.DescribedInterface.{DescribedInterface}
use Rattle.object_text.specs.declared.described.DescribedObject.{DescribedObject}
use Rattle.object_text.specs.Text.{line, opening, closing, interface_text}
use Rattle.object_text.specs.Nodes.{told, node_text, nodes_text, last_element, inside, behind}
use Rattle.object_text.proofs.Fronts.{take_take, drop_take, drop_drop, drop_while-cons, take_while_length, drop_while_length}

-- how far a node is indented that stands inside these
abbrev pub depth : List (List ℕ) → ℕ
depth [] = 2
depth (p ∷ ps) = depth ps + 2

pub depth_is : (ps : List (List ℕ)) → depth ps ≡ 2 + 2 * length ps
depth_is [] = refl
depth_is (p ∷ ps) = let later = depth_is ps in omega arith

module _ (standing : List DescribedInterface) where
  -- what is left to put of these objects, inside and behind the open nodes, innermost first
  abbrev pub finish : List (List ℕ) → List DescribedObject → List ℕ
  finish [] objects = nodes_text standing (length objects) 2 objects
  finish (p ∷ ps) objects =
      nodes_text standing (length objects) (depth ps + 2) (inside p objects)
      ++ (line (depth ps) (closing (codes "node")) ++ finish ps (behind p objects))

  -- what is below an object below a path is below the path
  below_trans : (p o x : List ℕ) → is_below p o ≡ true → is_below o x ≡ true → is_below p x ≡ true
  below_trans p o x h k =
      let a = (is_below-Decides p o).0 h in
      let f = front_begins p o a in
      let g = front_begins o x ((is_below-Decides o x).0 k) in
      let long = ap length a.1 in
      let within : length (front_of p) ≤ length o = omega (arith, length-take (length (front_of p)) o, long) in
      (is_below-Decides p x).1 (
        (λ e. let same = ap length e in omega (arith, f.1, g.1, same)),
        sym (take-take (length (front_of p)) (length o) x within) ∙ ap (take (length (front_of p))) g.0 ∙ a.1,
      )

  -- more room changes nothing
  pub room : (m n indent : ℕ) (objects : List DescribedObject) → length objects ≤ m → length objects ≤ n → nodes_text standing m indent objects ≡ nodes_text standing n indent objects
  room zero zero indent objects h k = refl
  room zero (suc n) indent [] h k = refl
  room zero (suc n) indent (o ∷ os) h k = absurd (not-suc-le-zero h)
  room (suc m) zero indent [] h k = refl
  room (suc m) zero indent (o ∷ os) h k = absurd (not-suc-le-zero k)
  room (suc m) (suc n) indent [] h k = refl
  room (suc m) (suc n) indent (o ∷ os) h k =
      let a = room m n (indent + 2) (inside o.path os) (omega (arith, take_while_length (λ x. is_below o.path x.path) os)) (omega (arith, take_while_length (λ x. is_below o.path x.path) os)) in
      let b = room m n indent (behind o.path os) (omega (arith, drop_while_length (λ x. is_below o.path x.path) os)) (omega (arith, drop_while_length (λ x. is_below o.path x.path) os)) in
      ap (λ t. node_text standing indent (opening (codes "node") (last_element o.path)) o.interfaces t ++ nodes_text standing m indent (behind o.path os)) a
      ∙ ap (λ t. node_text standing indent (opening (codes "node") (last_element o.path)) o.interfaces (nodes_text standing n (indent + 2) (inside o.path os)) ++ t) b

  -- the first lines of a node: the one that opens it, and its interfaces
  abbrev pub begins : ℕ → DescribedObject → List ℕ
  begins indent o = line indent (opening (codes "node") (last_element o.path)) ++ flat_map (interface_text (indent + 2)) (told standing o.interfaces)

  pub first_node : (r indent : ℕ) (o : DescribedObject) (os : List DescribedObject)
      → nodes_text standing (suc r) indent (o ∷ os)
      ≡ begins indent o ++ (nodes_text standing r (indent + 2) (inside o.path os) ++ (line indent (closing (codes "node")) ++ nodes_text standing r indent (behind o.path os)))
  unfolding node_text
  first_node r indent o os = simp append_assoc refl

  no_objects : (r indent : ℕ) → nodes_text standing r indent [] ≡ []
  no_objects zero indent = refl
  no_objects (suc r) indent = refl

  -- the innermost node is closed where no object is left
  pub close_last : (p : List ℕ) (ps : List (List ℕ)) → finish (p ∷ ps) [] ≡ line (depth ps) (closing (codes "node")) ++ finish ps []
  close_last p ps = refl

  -- and where the next isn't below it
  pub close : (p : List ℕ) (ps : List (List ℕ)) (o : DescribedObject) (os : List DescribedObject) → is_below p o.path ≡ false
      → finish (p ∷ ps) (o ∷ os) ≡ line (depth ps) (closing (codes "node")) ++ finish ps (o ∷ os)
  close p ps o os h =
      ap (λ l. nodes_text standing (length (o ∷ os)) (depth ps + 2) l ++ (line (depth ps) (closing (codes "node")) ++ finish ps (behind p (o ∷ os)))) (take_while-cons (λ x. is_below p x.path) o os ∙ ap (λ c. cond c (o ∷ inside p os) []) h)
      ∙ ap (λ l. line (depth ps) (closing (codes "node")) ++ finish ps l) (drop_while-cons (λ x. is_below p x.path) o os ∙ ap (λ c. cond c (behind p os) (o ∷ os)) h)

  -- a node is opened inside none
  pub open_first : (o : DescribedObject) (os : List DescribedObject) → finish [] (o ∷ os) ≡ begins 2 o ++ finish (o.path ∷ []) os
  open_first o os =
      first_node (length os) 2 o os
      ∙ ap (λ t. begins 2 o ++ (nodes_text standing (length os) 4 (inside o.path os) ++ (line 2 (closing (codes "node")) ++ t)))
      (room (length os) (length (behind o.path os)) 2 (behind o.path os) (drop_while_length (λ x. is_below o.path x.path) os) (omega arith))

  -- and inside the innermost, where it is below that
  pub open_inside : (p : List ℕ) (ps : List (List ℕ)) (o : DescribedObject) (os : List DescribedObject) → is_below p o.path ≡ true
      → finish (p ∷ ps) (o ∷ os) ≡ begins (depth (p ∷ ps)) o ++ finish (o.path ∷ p ∷ ps) os
  open_inside p ps o os h =
      let indent = depth ps + 2 in
      let stronger : (x : DescribedObject) → is_below o.path x.path ≡ true → is_below p x.path ≡ true = λ x k. below_trans p o.path x.path h k in
      let here : inside p (o ∷ os) ≡ o ∷ inside p os = take_while-cons (λ x. is_below p x.path) o os ∙ ap (λ c. cond c (o ∷ inside p os) []) h in
      let there : behind p (o ∷ os) ≡ behind p os = drop_while-cons (λ x. is_below p x.path) o os ∙ ap (λ c. cond c (behind p os) (o ∷ os)) h in
      let one = take_take (λ x. is_below o.path x.path) (λ x. is_below p x.path) stronger os in
      let two = drop_take (λ x. is_below o.path x.path) (λ x. is_below p x.path) stronger os in
      let three = drop_drop (λ x. is_below o.path x.path) (λ x. is_below p x.path) stronger os in
      let last = line (depth ps) (closing (codes "node")) in
      ap (λ l. nodes_text standing (suc (length os)) indent l ++ (last ++ finish ps (behind p (o ∷ os)))) here
      ∙ ap (λ l. nodes_text standing (suc (length os)) indent (o ∷ inside p os) ++ (last ++ finish ps l)) (there ∙ sym three)
      ∙ ap (λ t. t ++ (last ++ finish ps (behind p (behind o.path os)))) (first_node (length os) indent o (inside p os))
      ∙ ap (λ l. (begins indent o ++ (nodes_text standing (length os) (indent + 2) l ++ (line indent (closing (codes "node")) ++ nodes_text standing (length os) indent (behind o.path (inside p os))))) ++ (last ++ finish ps (behind p (behind o.path os)))) one
      ∙ ap (λ l. (begins indent o ++ (nodes_text standing (length os) (indent + 2) (inside o.path os) ++ (line indent (closing (codes "node")) ++ nodes_text standing (length os) indent l))) ++ (last ++ finish ps (behind p (behind o.path os)))) two
      ∙ ap (λ t. (begins indent o ++ (nodes_text standing (length os) (indent + 2) (inside o.path os) ++ (line indent (closing (codes "node")) ++ t))) ++ (last ++ finish ps (behind p (behind o.path os))))
      (room (length os) (length (behind o.path os)) indent (inside p (behind o.path os))
      (omega (arith, take_while_length (λ x. is_below p x.path) (behind o.path os), drop_while_length (λ x. is_below o.path x.path) os)) (take_while_length (λ x. is_below p x.path) (behind o.path os)))
      ∙ by_parts (begins indent o) (nodes_text standing (length os) (indent + 2) (inside o.path os)) (line indent (closing (codes "node"))) (nodes_text standing (length (behind o.path os)) indent (inside p (behind o.path os))) (last ++ finish ps (behind p (behind o.path os)))
    where
      by_parts : (a b c d e : List ℕ) → (a ++ (b ++ (c ++ d))) ++ e ≡ a ++ (b ++ (c ++ (d ++ e)))
      by_parts a b c d e = simp append_assoc refl

  -- the open nodes, innermost first, with one more and with one less
  pub one_more : {B : Type 0} (f : B → List ℕ) (xs : List B) (x : B) → reverse (map f (xs ++ x ∷ [])) ≡ f x ∷ reverse (map f xs)
  one_more f xs x = ap reverse (map-append f xs (x ∷ [])) ∙ reverse-append (map f xs) (f x ∷ [])

  pub depth_of : {B : Type 0} (f : B → List ℕ) (xs : List B) → depth (reverse (map f xs)) ≡ 2 + 2 * length xs
  depth_of f xs = depth_is (reverse (map f xs)) ∙ ap (λ n. 2 + 2 * n) (length-reverse (map f xs) ∙ length-map xs f)

  -- the innermost node is closed
  pub closes : {B : Type 0} (f : B → List ℕ) (xs ys : List B) (x : B) (objects : List DescribedObject) (a b whole : List ℕ)
      → xs ≡ ys ++ x ∷ []
      → finish (f x ∷ reverse (map f ys)) objects ≡ line (depth (reverse (map f ys))) (closing (codes "node")) ++ finish (reverse (map f ys)) objects
      → a ++ finish (reverse (map f xs)) objects ≡ whole
      → b ≡ a ++ line (2 + 2 * length ys) (closing (codes "node"))
      → b ++ finish (reverse (map f ys)) objects ≡ whole
  closes f xs ys x objects a b whole is can inv put =
      ap (λ l. l ++ finish (reverse (map f ys)) objects) (put ∙ ap (λ n. a ++ line n (closing (codes "node"))) (sym (depth_of f ys)))
      ∙ append_assoc a (line (depth (reverse (map f ys))) (closing (codes "node"))) (finish (reverse (map f ys)) objects)
      ∙ ap (λ l. a ++ l) (sym can)
      ∙ ap (λ l. a ++ finish l objects) (sym (ap (λ l. reverse (map f l)) is ∙ one_more f ys x))
      ∙ inv

  -- a node is opened inside the innermost
  pub opens : {B : Type 0} (f : B → List ℕ) (xs : List B) (x : B) (o : DescribedObject) (os : List DescribedObject) (a b d whole : List ℕ)
      → f x ≡ o.path → (left : List ℕ)
      → left ≡ begins (depth (reverse (map f xs))) o ++ finish (o.path ∷ reverse (map f xs)) os
      → a ++ left ≡ whole
      → b ≡ a ++ line (2 + 2 * length xs) (opening (codes "node") (last_element o.path))
      → d ≡ b ++ flat_map (interface_text ((2 + 2 * length xs) + 2)) (told standing o.interfaces)
      → d ++ finish (reverse (map f (xs ++ x ∷ []))) os ≡ whole
  opens f xs x o os a b d whole is left can inv put more =
      ap (λ l. d ++ finish l os) (one_more f xs x ∙ ap (λ p. p ∷ reverse (map f xs)) is)
      ∙ ap (λ l. l ++ finish (o.path ∷ reverse (map f xs)) os) (more ∙ ap (λ l. l ++ flat_map (interface_text ((2 + 2 * length xs) + 2)) (told standing o.interfaces)) put)
      ∙ by_parts a (line (2 + 2 * length xs) (opening (codes "node") (last_element o.path))) (flat_map (interface_text ((2 + 2 * length xs) + 2)) (told standing o.interfaces)) (finish (o.path ∷ reverse (map f xs)) os)
      ∙ ap (λ n. a ++ (begins n o ++ finish (o.path ∷ reverse (map f xs)) os)) (sym (depth_of f xs))
      ∙ ap (λ l. a ++ l) (sym can)
      ∙ inv
    where
      by_parts : (a b c d : List ℕ) → ((a ++ b) ++ c) ++ d ≡ a ++ ((b ++ c) ++ d)
      by_parts a b c d = simp append_assoc refl

  -- the last of the open nodes
  last_of : {B : Type 0} (xs : List B) (x : B) → Some x ≡ slice_get xs (length xs - 1) → xs ≡ take (length xs - 1) xs ++ x ∷ []
  last_of [] x h = absurd (none_is_some h)
    where
      none_is_some : {B : Type 0} {x : B} → Some x ≡ None → ⊥
      none_is_some e = grind arith
  last_of (y ∷ ys) x h =
      let n : length (y ∷ ys) - 1 + 1 ≡ length (y ∷ ys) = omega arith in
      sym (take-length (y ∷ ys)) ∙ ap (λ k. take k (y ∷ ys)) (sym n) ∙ take_more (y ∷ ys) (length (y ∷ ys) - 1) x (omega arith)
      ∙ ap (λ z. take (length (y ∷ ys) - 1) (y ∷ ys) ++ z ∷ []) (get_or_from_slice_get (y ∷ ys) (length (y ∷ ys) - 1) x x (sym h))

  none_last : {B : Type 0} (xs : List B) → None ≡ slice_get xs (length xs - 1) → xs ≡ []
  none_last [] h = refl
  none_last (y ∷ ys) h = absurd (some_is_none (h ∙ slice_get-get_or (y ∷ ys) (length (y ∷ ys) - 1) y (omega arith)))
    where
      some_is_none : {B : Type 0} {x : B} → None ≡ Some x → ⊥
      some_is_none e = grind arith

  -- what is left where the next object isn't below the innermost open node
  pub closes_beside : {B : Type 0} (f : B → List ℕ) (xs ys : List B) (x : B) (objects : List DescribedObject) (i : ℕ) (o : DescribedObject) (path a b whole : List ℕ)
      → Some x ≡ slice_get xs (length xs - 1) → ys ≡ take (length xs - 1) xs
      → i < length objects → o ≡ get_or objects i o → path ≡ o.path → is_below (f x) path ≡ false
      → a ++ finish (reverse (map f xs)) (drop i objects) ≡ whole
      → b ≡ a ++ line (2 + 2 * length ys) (closing (codes "node"))
      → b ++ finish (reverse (map f ys)) (drop i objects) ≡ whole
  closes_beside f xs ys x objects i o path a b whole last rest lt is named beside inv put =
      let here : drop i objects ≡ o ∷ drop (i + 1) objects = at_drop_more (λ l. l) objects i o lt ∙ ap (λ z. z ∷ drop (i + 1) objects) (sym is) in
      let can = close (f x) (reverse (map f ys)) o (drop (i + 1) objects) (ap (is_below (f x)) (sym named) ∙ beside) in
      closes f xs ys x (drop i objects) a b whole (last_of xs x last ∙ ap (λ l. l ++ x ∷ []) (sym rest))
      (subst (λ (l : List DescribedObject). finish (f x ∷ reverse (map f ys)) l ≡ line (depth (reverse (map f ys))) (closing (codes "node")) ++ finish (reverse (map f ys)) l) (sym here) can) inv put

  -- what is left where there is no object any more
  pub closes_last : {B : Type 0} (f : B → List ℕ) (xs ys : List B) (r : Option B) (a b whole : List ℕ)
      → xs ≡ ys ++ option_to_list r → is_some r ≡ true
      → a ++ finish (reverse (map f xs)) [] ≡ whole
      → b ≡ a ++ line (2 + 2 * length ys) (closing (codes "node"))
      → b ++ finish (reverse (map f ys)) [] ≡ whole
  closes_last f xs ys None a b whole is one inv put = grind arith
  closes_last f xs ys (Some x) a b whole is one inv put = closes f xs ys x [] a b whole is (close_last (f x) (reverse (map f ys))) inv put

  -- what is left where the next object's node stands in no other, and where it stands in the innermost open one
  pub opens_none : {B : Type 0} (f : B → List ℕ) (xs : List B) (objects : List DescribedObject) (i : ℕ) (o : DescribedObject)
      → None ≡ slice_get xs (length xs - 1) → i < length objects → o ≡ get_or objects i o
      → finish (reverse (map f xs)) (drop i objects) ≡ begins (depth (reverse (map f xs))) o ++ finish (o.path ∷ reverse (map f xs)) (drop (i + 1) objects)
  opens_none f xs objects i o last lt is =
      let here : drop i objects ≡ o ∷ drop (i + 1) objects = at_drop_more (λ l. l) objects i o lt ∙ ap (λ z. z ∷ drop (i + 1) objects) (sym is) in
      subst (λ (s : List (List ℕ)). finish s (drop i objects) ≡ begins (depth s) o ++ finish (o.path ∷ s) (drop (i + 1) objects)) (sym (ap (λ l. reverse (map f l)) (none_last xs last)))
      (ap (finish []) here ∙ open_first o (drop (i + 1) objects))

  pub opens_below : {B : Type 0} (f : B → List ℕ) (xs : List B) (x : B) (objects : List DescribedObject) (i : ℕ) (o : DescribedObject) (path : List ℕ)
      → Some x ≡ slice_get xs (length xs - 1) → i < length objects → o ≡ get_or objects i o → path ≡ o.path → is_below (f x) path ≡ true
      → finish (reverse (map f xs)) (drop i objects) ≡ begins (depth (reverse (map f xs))) o ++ finish (o.path ∷ reverse (map f xs)) (drop (i + 1) objects)
  opens_below f xs x objects i o path last lt is named below =
      let here : drop i objects ≡ o ∷ drop (i + 1) objects = at_drop_more (λ l. l) objects i o lt ∙ ap (λ z. z ∷ drop (i + 1) objects) (sym is) in
      subst (λ (s : List (List ℕ)). finish s (drop i objects) ≡ begins (depth s) o ++ finish (o.path ∷ s) (drop (i + 1) objects)) (sym (ap (λ l. reverse (map f l)) (last_of xs x last) ∙ one_more f (take (length xs - 1) xs) x))
      (ap (finish (f x ∷ reverse (map f (take (length xs - 1) xs)))) here
      ∙ open_inside (f x) (reverse (map f (take (length xs - 1) xs))) o (drop (i + 1) objects) (ap (is_below (f x)) (sym named) ∙ below))

  -- the next object's node was opened
  pub opened : {B : Type 0} (f : B → List ℕ) (xs : List B) (x : B) (objects : List DescribedObject) (i : ℕ) (o : DescribedObject) (a b d whole : List ℕ)
      → f x ≡ o.path
      → finish (reverse (map f xs)) (drop i objects) ≡ begins (depth (reverse (map f xs))) o ++ finish (o.path ∷ reverse (map f xs)) (drop (i + 1) objects)
      → a ++ finish (reverse (map f xs)) (drop i objects) ≡ whole
      → b ≡ a ++ line (2 + 2 * length xs) (opening (codes "node") (last_element o.path))
      → d ≡ b ++ flat_map (interface_text ((2 + 2 * length xs) + 2)) (told standing o.interfaces)
      → d ++ finish (reverse (map f (xs ++ x ∷ []))) (drop (i + 1) objects) ≡ whole
  opened f xs x objects i o a b d whole is can inv put more =
      opens f xs x o (drop (i + 1) objects) a b d whole is (finish (reverse (map f xs)) (drop i objects)) can inv put more
