-- Items printed one behind the other.
use Rattle.std.proofs.Common.{◌≡◌, refl, sym, ap, ◌∙◌, ℕ, zero, suc, ◌+◌, ◌<◌, ◌≤◌, Bool, true, false, IsTrue, ◌↔◌, List, [], ◌∷◌, ◌++◌, append_assoc, append-nil, codes, map, length, take, get_or, arith, add-one, Ok}
use Rattle.std.specs.Prelude.{◌==◌}
use Rattle.std.specs.Fmt.{HasWritten, IsPlainFormatter, WritesOnOk}
use Rattle.std.specs.declared.fmt.Formatter.{Formatter}
use Rattle.std.proofs.lemmas.List.{take_all}
use Rattle.std.proofs.lemmas.Bool.Decides.{nat_tests}
use Rattle.std.proofs.Output.{has_written_append, has_written_of_eq}
use Rattle.wire_tree.specs.Datum.{Datum, data_of, entries_of}
use Rattle.wire_tree.specs.DatumView.{datum_of, pair_of}
use Rattle.wire_tree.specs.Listed.{lead_at, told_at}
use Rattle.wire_tree.specs.Printing.{datum_text, texts, entries_text, is_empty, struct_end}
use Rattle.wire_tree.specs.declared.tree.Tree.{Tree}

-- all items by the text of one
abbrev pub listed : {A : Type 0} → (Bool → A → List ℕ) → List ℕ → Bool → Bool → List A → List ℕ
listed one lead first later [] = []
listed one lead first later (x ∷ xs) = lead ++ (one first x ++ listed one (codes ", ") later later xs)

lead_later : (i : ℕ) → lead_at (codes ", ") i ≡ codes ", "
lead_later zero = refl
lead_later (suc i) = refl

told_later : (later : Bool) (i : ℕ) → told_at later later i ≡ later
told_later later zero = refl
told_later later (suc i) = refl

-- one item more
listed_more : {A : Type 0} (one : Bool → A → List ℕ) (xs : List A) (lead : List ℕ) (first later : Bool) (i : ℕ) (x : A) → i < length xs → x ≡ get_or xs i x
    → listed one lead first later (take (suc i) xs) ≡ listed one lead first later (take i xs) ++ (lead_at lead i ++ one (told_at first later i) x)
listed_more one [] lead first later i x less at = absurd (omega arith)
listed_more one (y ∷ ys) lead first later zero x less at =
    ap (λ t. lead ++ t) (append-nil (one first y)) ∙ ap (λ z. lead ++ one first z) (sym at)
listed_more one (y ∷ ys) lead first later (suc i) x less at =
    let front = one first y in
    let before = listed one (codes ", ") later later (take i ys) in
    ap (λ t. lead ++ (front ++ t)) (listed_more one ys (codes ", ") later later i x (omega arith) at
    ∙ ap (λ c. before ++ (c ++ one (told_at later later i) x)) (lead_later i)
    ∙ ap (λ b. before ++ (codes ", " ++ one b x)) (told_later later i))
    ∙ ap (λ t. lead ++ t) (sym (append_assoc front before (codes ", " ++ one later x)))
    ∙ sym (append_assoc lead (front ++ before) (codes ", " ++ one later x))

module _ {W : Type 0} (took : W → List ℕ → W → Type 0) where
  -- what a call that answered Ok wrote
  pub written : (f g : Formatter W) (bs : List ℕ) → WritesOnOk took f (Ok tt) bs g → IsPlainFormatter f → HasWritten took f bs g
  written f g bs w plain = w plain refl

  -- what leads to an item and the item, written behind the items before it
  pub item_written : {A : Type 0} (one : Bool → A → List ℕ) (xs : List A) (f g k h : Formatter W) (first later : Bool) (i : ℕ) (x : A) (lead : List ℕ) (told : Bool)
      → i < length xs → x ≡ get_or xs i x → lead ≡ lead_at [] i → told ≡ told_at first later i
      → HasWritten took f (listed one [] first later (take i xs)) g → HasWritten took g lead k → HasWritten took k (one told x) h
      → HasWritten took f (listed one [] first later (take (i + 1) xs)) h
  item_written one xs f g k h first later i x lead told less at e d v w u =
      let led = has_written_of_eq took _ _ _ _ e w in
      let item = has_written_of_eq took _ _ _ _ (ap (λ b. one b x) d) u in
      rw add-one
      (has_written_of_eq took _ _ _ _ (sym (listed_more one xs [] first later i x less at)) (has_written_append took _ _ _ _ _ v (has_written_append took _ _ _ _ _ led item)))

  pub all_written : {A : Type 0} (one : Bool → A → List ℕ) (xs : List A) (f g : Formatter W) (first later : Bool) (i : ℕ) → length xs ≤ i
      → HasWritten took f (listed one [] first later (take i xs)) g → HasWritten took f (listed one [] first later xs) g
  all_written one xs f g first later i end v = has_written_of_eq took _ _ _ _ (ap (λ ys. listed one [] first later ys) (take_all i xs end)) v

pub any_default : {A : Type 0} (xs : List A) (i : ℕ) (d e : A) → i < length xs → get_or xs i d ≡ get_or xs i e
any_default [] i d e less = absurd (omega arith)
any_default (x ∷ xs) zero d e less = refl
any_default (x ∷ xs) (suc i) d e less = any_default xs i d e (omega arith)

-- ---- values and entries, item by item

pub texts_listed : {A : Type 0} (seen : A → Datum) (xs : List A) (lead : List ℕ) (first later : Bool)
    → listed (λ told x. datum_text told (seen x)) lead first later xs ≡ texts lead first later (data_of (map seen xs))
texts_listed seen [] lead first later = refl
texts_listed seen (x ∷ xs) lead first later = ap (λ t. lead ++ (datum_text first (seen x) ++ t)) (texts_listed seen xs (codes ", ") later later)

-- a key and its value
abbrev pub pair_text : Bool → Tree × Tree → List ℕ
pair_text told p = datum_text told (datum_of p.0) ++ (codes ": " ++ datum_text told (datum_of p.1))

pub entries_listed : (ps : List (Tree × Tree)) (lead : List ℕ) (told : Bool) → listed pair_text lead told false ps ≡ entries_text lead told (entries_of (map pair_of ps))
entries_listed [] lead told = refl
entries_listed (p ∷ ps) lead told = ap (λ t. lead ++ (pair_text told p ++ t)) (entries_listed ps (codes ", ") false)

-- ---- where there is nothing, or one thing

pub empty_seen : {A : Type 0} (seen : A → Datum) (xs : List A) (ds : List Datum) (b : Bool) → map seen xs ≡ ds → b ≡ (length xs == 0) → b ≡ is_empty (data_of ds)
empty_seen seen [] ds b e h = h ∙ ap (λ x. is_empty (data_of x)) e
empty_seen seen (x ∷ xs) ds b e h =
    let no : (length (x ∷ xs) == 0) ≡ false = grind (arith, nat_tests) in h ∙ no ∙ ap (λ y. is_empty (data_of y)) e

pub empty_told : {A : Type 0} (seen : A → Datum) (xs : List A) (b : Bool) → IsTrue b ↔ (xs ≡ []) → b ≡ is_empty (data_of (map seen xs))
empty_told seen [] b h = h.1 refl
empty_told seen (x ∷ xs) true h = let e : x ∷ xs ≡ [] = h.0 refl in absurd (cc)
empty_told seen (x ∷ xs) false h = refl

pub entries_empty : (ps : List (Tree × Tree)) (b : Bool) → b ≡ (length ps == 0) → b ≡ is_empty (entries_of (map pair_of ps))
entries_empty [] b h = h
entries_empty (p ∷ ps) b h = let no : (length (p ∷ ps) == 0) ≡ false = grind (arith, nat_tests) in h ∙ no

pub end_of_one : (ts : List Tree) → length ts ≡ 1 → codes ",)" ≡ struct_end (data_of (map datum_of ts))
end_of_one [] e = absurd (omega (arith, e))
end_of_one (t ∷ []) e = refl
end_of_one (t ∷ u ∷ ts) e = absurd (omega (arith, e))

pub end_of_others : (ts : List Tree) → (length ts ≡ 1 → ⊥) → codes ")" ≡ struct_end (data_of (map datum_of ts))
end_of_others [] other = refl
end_of_others (t ∷ []) other = absurd (other refl)
end_of_others (t ∷ u ∷ ts) other = refl
