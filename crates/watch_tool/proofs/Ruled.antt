-- The rules of texts, one after another.
use Rattle.std.proofs.Common.{ℕ, ◌≡◌, ◌+◌, ◌<◌, refl, sym, ◌∙◌, ap, arith, List, [], ◌∷◌, ◌++◌, append_assoc, length, map, take, drop, take-append-drop, Result, Ok, Err}
use Rattle.std.specs.Prelude.{get_or}
use Rattle.std.proofs.lemmas.List.{take_more, map-append, length-map, length-take-le}
use Rattle.wire_message.specs.declared.error.Error.{Error}
use Rattle.rule_match.specs.Rule.{Rule}
use Rattle.rule_match.specs.Text.{rule_in}
use Rattle.watch_tool.specs.Rules.{rule_then, rules_in, TellsRules, TellsRule}
use Rattle.watch_tool.specs.declared.rules.RulesError.{RulesError}
use Rattle.watch_tool.specs.declared.rules.RulesError.TheVariants as errors

-- ---- one text more

then_is : (found : Result Rule Error) (others : Result (List Rule) ℕ) (rules : List Rule) → rule_then found others ≡ Ok rules
    → (rule : Rule) × (rest : List Rule) × (found ≡ Ok rule) × (others ≡ Ok rest) × (rules ≡ rule ∷ rest)
then_is (Ok rule) (Ok rest) rules p = (rule, rest, refl, refl, cc)
then_is (Ok rule) (Err index) rules p = absurd (cc)
then_is (Err error) others rules p = absurd (cc)

rules_more : (texts : List (List ℕ)) (text : List ℕ) (rules : List Rule) (rule : Rule) → rules_in texts ≡ Ok rules → rule_in text ≡ Ok rule
    → rules_in (texts ++ text ∷ []) ≡ Ok (rules ++ rule ∷ [])
rules_more [] text rules rule p q = ap (λ found. rule_then found (Ok [])) q ∙ (let none : rules ≡ [] = cc in ap (λ l. Ok (l ++ rule ∷ [])) (sym none))
rules_more (t ∷ texts) text rules rule p q =
    let h = then_is (rule_in t) (rules_in texts) rules p in
    ap (λ found. rule_then found (rules_in (texts ++ text ∷ []))) h.2
    ∙ ap (rule_then (Ok h.0)) (rules_more texts text h.1 rule h.3 q)
    ∙ ap (λ l. Ok (l ++ rule ∷ [])) (sym h.4)

first_none : (texts : List (List ℕ)) (text : List ℕ) (more : List (List ℕ)) (rules : List Rule) (error : Error) → rules_in texts ≡ Ok rules → rule_in text ≡ Err error
    → rules_in (texts ++ text ∷ more) ≡ Err (length texts)
first_none [] text more rules error p q = ap (λ found. rule_then found (rules_in more)) q
first_none (t ∷ texts) text more rules error p q =
    let h = then_is (rule_in t) (rules_in texts) rules p in
    ap (λ found. rule_then found (rules_in (texts ++ text ∷ more))) h.2
    ∙ ap (rule_then (Ok h.0)) (first_none texts text more h.1 error h.3 q)
    ∙ ap Err (omega arith)

-- ---- by an index

module _ {T : Type 0} (bytes : T → List ℕ) (texts : List T) where
  -- the texts before this index
  abbrev pub before : ℕ → List (List ℕ)
  before i = map bytes (take i texts)

  before_more : (i : ℕ) (text : T) → i < length texts → text ≡ get_or texts i text → before (i + 1) ≡ before i ++ bytes text ∷ []
  before_more i text within is =
      ap (map bytes) (take_more texts i text within ∙ ap (λ t. take i texts ++ t ∷ []) (sym is)) ∙ map-append bytes (take i texts) (text ∷ [])

  pub rules_before_more : (i : ℕ) (text : T) (rules rules' : List Rule) → i < length texts → text ≡ get_or texts i text → rules_in (before i) ≡ Ok rules
      → TellsRule {A = Unit {0}} (Ok tt) (bytes text) i rules rules' → rules_in (before (i + 1)) ≡ Ok rules'
  rules_before_more i text rules rules' within is p t =
      ap rules_in (before_more i text within is) ∙ rules_more (before i) (bytes text) rules t.0 p t.1 ∙ ap Ok (sym t.2)

  length_before : (i : ℕ) → i < length texts → length (before i) ≡ i
  length_before i within = length-map (take i texts) bytes ∙ length-take-le i texts (omega (arith, within))

  whole : (i : ℕ) (text : T) → i < length texts → text ≡ get_or texts i text → map bytes texts ≡ before i ++ bytes text ∷ map bytes (drop (i + 1) texts)
  whole i text within is =
      ap (map bytes) (sym (take-append-drop (i + 1) texts))
      ∙ map-append bytes (take (i + 1) texts) (drop (i + 1) texts)
      ∙ ap (λ l. l ++ map bytes (drop (i + 1) texts)) (before_more i text within is)
      ∙ append_assoc (before i) (bytes text ∷ []) (map bytes (drop (i + 1) texts))

  pub refused_at : {A : Type 0} (seen : A → List Rule) (e : RulesError) (i : ℕ) (text : T) (rules rules' : List Rule) → i < length texts → text ≡ get_or texts i text
      → rules_in (before i) ≡ Ok rules → TellsRule {A = Unit {0}} (Err e) (bytes text) i rules rules' → TellsRules seen (Err e) (rules_in (map bytes texts))
  refused_at seen errors.Memory i text rules rules' within is p t = tt
  refused_at seen (errors.Rule at) i text rules rules' within is p t =
      ap rules_in (whole i text within is)
      ∙ first_none (before i) (bytes text) (map bytes (drop (i + 1) texts)) rules t.1 p t.2
      ∙ ap Err (length_before i within ∙ sym t.0)
