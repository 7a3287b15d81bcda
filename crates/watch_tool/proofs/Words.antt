-- The indices of the rules that match, one after another.
use Rattle.std.proofs.Common.{ℕ, zero, suc, ◌≡◌, ◌+◌, ◌<◌, refl, sym, ◌∙◌, ap, arith, Bool, true, false, List, [], ◌∷◌, ◌++◌, append-nil, append_assoc, length, map}
use Rattle.std.specs.Prelude.{◌||◌, decimal, get_or, if◌then◌else◌}
use Rattle.std.specs.List.{filter, join_with_byte, range_with_len}
use Rattle.std.proofs.lemmas.List.Elements.{filter-append}
use Rattle.std.proofs.lemmas.List.{get_or_default}
use Rattle.wire_message.specs.Front.{MessageView}
use Rattle.rule_match.specs.Accepting.{accepts}
use Rattle.rule_match.specs.Rule.{Rule, no_parts}
use Rattle.watch_tool.specs.Report.{is_any, index_word}

-- whether a rule matches, by its index
abbrev pub fits : List Rule → MessageView → ℕ → Bool
fits rules m k = accepts (get_or rules k no_parts) m

-- the indices before this one of the rules that match
abbrev pub before : List Rule → MessageView → ℕ → List ℕ
before rules m i = filter (fits rules m) (range_with_len 0 i)

range_more : (a n : ℕ) → range_with_len a (suc n) ≡ range_with_len a n ++ (a + n) ∷ []
range_more a zero = ap (λ k. k ∷ []) (omega arith)
range_more a (suc n) = ap (λ ks. a ∷ ks) (range_more (a + 1) n ∙ ap (λ k. range_with_len (a + 1) n ++ k ∷ []) (omega arith))

-- one index, or none
abbrev one : Bool → ℕ → List ℕ
one matches i = if matches then i ∷ [] else []

before_more : (rules : List Rule) (m : MessageView) (i : ℕ) → before rules m (i + 1) ≡ before rules m i ++ one (fits rules m i) i
before_more rules m i =
    let next : i + 1 ≡ suc i = omega arith in
    let at : 0 + i ≡ i = omega arith in
    ap (λ n. filter (fits rules m) (range_with_len 0 n)) next
    ∙ ap (filter (fits rules m)) (range_more 0 i)
    ∙ filter-append (fits rules m) (range_with_len 0 i) ((0 + i) ∷ [])
    ∙ ap (λ k. before rules m i ++ filter (fits rules m) (k ∷ [])) at

join_more : (xs : List ℕ) (matches : Bool) (i : ℕ) → join_with_byte 44 (map decimal (xs ++ one matches i)) ≡ join_with_byte 44 (map decimal xs) ++ index_word (is_any xs) i matches
join_more xs false i = ap (λ ys. join_with_byte 44 (map decimal ys)) (append-nil xs) ∙ sym (append-nil (join_with_byte 44 (map decimal xs)))
join_more [] true i = refl
join_more (x ∷ []) true i = refl
join_more (x ∷ y ∷ xs) true i =
    ap (λ t. decimal x ++ 44 ∷ t) (join_more (y ∷ xs) true i) ∙ sym (append_assoc (decimal x) (44 ∷ join_with_byte 44 (map decimal (y ∷ xs))) (44 ∷ decimal i))

any_more : (xs : List ℕ) (matches : Bool) (i : ℕ) → is_any (xs ++ one matches i) ≡ (is_any xs || matches)
any_more [] false i = refl
any_more [] true i = refl
any_more (x ∷ xs) matches i = refl

pub joined_more : (rules : List Rule) (m : MessageView) (i : ℕ) (matches : Bool) → fits rules m i ≡ matches
    → join_with_byte 44 (map decimal (before rules m (i + 1))) ≡ join_with_byte 44 (map decimal (before rules m i)) ++ index_word (is_any (before rules m i)) i matches
joined_more rules m i matches e =
    ap (λ ys. join_with_byte 44 (map decimal ys)) (before_more rules m i ∙ ap (λ b. before rules m i ++ one b i) e) ∙ join_more (before rules m i) matches i

pub is_any_more : (rules : List Rule) (m : MessageView) (i : ℕ) (matches : Bool) → fits rules m i ≡ matches
    → is_any (before rules m (i + 1)) ≡ (is_any (before rules m i) || matches)
is_any_more rules m i matches e = ap is_any (before_more rules m i ∙ ap (λ b. before rules m i ++ one b i) e) ∙ any_more (before rules m i) matches i

-- the rule at an index, whose candidate is the message
pub fits_is : (rules : List Rule) (m candidate : MessageView) (i : ℕ) (rule : Rule) → i < length rules → rule ≡ get_or rules i rule → candidate ≡ m → fits rules m i ≡ accepts rule candidate
fits_is rules m candidate i rule within is same =
    ap (λ r. accepts r m) (get_or_default rules i no_parts rule within ∙ sym is) ∙ ap (accepts rule) (sym same)

pub text_more : (rules : List Rule) (m : MessageView) (i : ℕ) (matches any : Bool) (start old new : List ℕ) → fits rules m i ≡ matches → any ≡ is_any (before rules m i)
    → old ≡ start ++ join_with_byte 44 (map decimal (before rules m i)) → new ≡ old ++ index_word any i matches → new ≡ start ++ join_with_byte 44 (map decimal (before rules m (i + 1)))
text_more rules m i matches any start old new fits some was is =
    is ∙ ap (λ l. l ++ index_word any i matches) was
    ∙ append_assoc start (join_with_byte 44 (map decimal (before rules m i))) (index_word any i matches)
    ∙ ap (λ b. start ++ (join_with_byte 44 (map decimal (before rules m i)) ++ index_word b i matches)) some
    ∙ ap (λ t. start ++ t) (sym (joined_more rules m i matches fits))
