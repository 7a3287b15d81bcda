-- The program's interfaces answer in one way.
use Rattle.std.proofs.Common.{◌≡◌, sym, ap, ◌∙◌, ℕ, List, [], ◌∷◌, codes, Option, Some, None, Result, Ok}
use Rattle.std.proofs.lemmas.Bool.{true≢false}
use Rattle.wire_signature.specs.SingleType.{basic}
use Rattle.wire_signature.specs.declared.basic.BasicType.TheVariants as basics
use Rattle.wire_tree.specs.Datum.{Datum, num, uint32}
use Rattle.wire_argument.specs.Kinds.{text_in}
use Rattle.wire_body.specs.Chained.{first_of}
use Rattle.wire_message.specs.Front.{MessageView}
use Rattle.wire_message.specs.declared.fdo.Error.{Error}
use Rattle.object_interface.specs.Meaning.{IsFunction}
use Rattle.object_interface.specs.declared.answer.DispatchResult2.{DispatchResult2}
use Rattle.object_standard.proofs.Bodies.{one_reading}
use Rattle.peer_boxes.specs.Boxes.{GreeterAnswers, TestGets, TestSets, LevelGets, LevelSets, LevelAnswers, greeter, greeting, next_count, says, test_object, level, level_set, empty}

-- ---- answers

-- what is told twice is one
abbrev both : {X : Type 0} {a r q : X} → r ≡ a → q ≡ a → r ≡ q
both h k = h ∙ sym k

abbrev first_count : List ℕ → ℕ
first_count [] = 0
first_count (n ∷ s) = n

greeter_answers : (s : List ℕ) (m : MessageView) (n : List ℕ) (r q : DispatchResult2) (t u : List ℕ) → GreeterAnswers s m n r t → GreeterAnswers s m n q u → (r ≡ q) × (t ≡ u)
greeter_answers s m n r q t u (GreeterAnswers.Greets vs c is b at left said) (GreeterAnswers.Greets ws d is2 b2 at2 left2 said2) =
    let values = one_reading m (basic basics.String ∷ []) vs ws b b2 in
    let count = ap first_count (sym at ∙ at2) in (
      said ∙ ap (λ v. says (greeting (text_in (first_of v)) (next_count c))) values ∙ ap (λ k. says (greeting (text_in (first_of ws)) (next_count k))) count ∙ sym said2,
      left ∙ ap (λ k. next_count k ∷ []) count ∙ sym left2,
    )
greeter_answers s m n r q t u (GreeterAnswers.Greets vs c is b at left said) (GreeterAnswers.Refuses is2 none left2 said2) = absurd (none vs b)
greeter_answers s m n r q t u (GreeterAnswers.Greets vs c is b at left said) (GreeterAnswers.HasNone is2 left2 said2) = absurd (true≢false (sym is ∙ is2))
greeter_answers s m n r q t u (GreeterAnswers.Refuses is none left said) (GreeterAnswers.Greets vs c is2 b at left2 said2) = absurd (none vs b)
greeter_answers s m n r q t u (GreeterAnswers.Refuses is none left said) (GreeterAnswers.Refuses is2 none2 left2 said2) = (both said said2, both left left2)
greeter_answers s m n r q t u (GreeterAnswers.Refuses is none left said) (GreeterAnswers.HasNone is2 left2 said2) = absurd (true≢false (sym is ∙ is2))
greeter_answers s m n r q t u (GreeterAnswers.HasNone is left said) (GreeterAnswers.Greets vs c is2 b at left2 said2) = absurd (true≢false (sym is2 ∙ is))
greeter_answers s m n r q t u (GreeterAnswers.HasNone is left said) (GreeterAnswers.Refuses is2 none left2 said2) = absurd (true≢false (sym is2 ∙ is))
greeter_answers s m n r q t u (GreeterAnswers.HasNone is left said) (GreeterAnswers.HasNone is2 left2 said2) = (both said said2, both left left2)

level_answers : (s : List ℕ) (m : MessageView) (n : List ℕ) (r q : DispatchResult2) (t u : List ℕ) → LevelAnswers s m n r t → LevelAnswers s m n q u → (r ≡ q) × (t ≡ u)
level_answers s m n r q t u (LevelAnswers.Fails is b left said) (LevelAnswers.Fails is2 b2 left2 said2) = (both said said2, both left left2)
level_answers s m n r q t u (LevelAnswers.Fails is b left said) (LevelAnswers.Refuses is2 none left2 said2) = absurd (none [] b)
level_answers s m n r q t u (LevelAnswers.Fails is b left said) (LevelAnswers.HasNone is2 left2 said2) = absurd (true≢false (sym is ∙ is2))
level_answers s m n r q t u (LevelAnswers.Refuses is none left said) (LevelAnswers.Fails is2 b left2 said2) = absurd (none [] b)
level_answers s m n r q t u (LevelAnswers.Refuses is none left said) (LevelAnswers.Refuses is2 none2 left2 said2) = (both said said2, both left left2)
level_answers s m n r q t u (LevelAnswers.Refuses is none left said) (LevelAnswers.HasNone is2 left2 said2) = absurd (true≢false (sym is ∙ is2))
level_answers s m n r q t u (LevelAnswers.HasNone is left said) (LevelAnswers.Fails is2 b left2 said2) = absurd (true≢false (sym is2 ∙ is))
level_answers s m n r q t u (LevelAnswers.HasNone is left said) (LevelAnswers.Refuses is2 none left2 said2) = absurd (true≢false (sym is2 ∙ is))
level_answers s m n r q t u (LevelAnswers.HasNone is left said) (LevelAnswers.HasNone is2 left2 said2) = (both said said2, both left left2)

-- ---- properties

test_gets : (p : List ℕ) (r q : Option (Result Datum Error)) → TestGets p r → TestGets p q → r ≡ q
test_gets p r q (TestGets.Test is said) (TestGets.Test is2 said2) = both said said2
test_gets p r q (TestGets.Test is said) (TestGets.HasNone is2 said2) = absurd (true≢false (sym is ∙ is2))
test_gets p r q (TestGets.HasNone is said) (TestGets.Test is2 said2) = absurd (true≢false (sym is2 ∙ is))
test_gets p r q (TestGets.HasNone is said) (TestGets.HasNone is2 said2) = both said said2

test_sets : (s p : List ℕ) (r q : DispatchResult2) (t u : List ℕ) → TestSets s p r t → TestSets s p q u → (r ≡ q) × (t ≡ u)
test_sets s p r q t u (TestSets.ReadOnly is left said) (TestSets.ReadOnly is2 left2 said2) = (both said said2, both left left2)
test_sets s p r q t u (TestSets.ReadOnly is left said) (TestSets.HasNone is2 left2 said2) = absurd (true≢false (sym is ∙ is2))
test_sets s p r q t u (TestSets.HasNone is left said) (TestSets.ReadOnly is2 left2 said2) = absurd (true≢false (sym is2 ∙ is))
test_sets s p r q t u (TestSets.HasNone is left said) (TestSets.HasNone is2 left2 said2) = (both said said2, both left left2)

-- the number in a state of one number
one_number : (s : List ℕ) (n k : ℕ) → s ≡ n ∷ [] → s ≡ k ∷ [] → n ≡ k
one_number s n k h j = ap first_count (sym h ∙ j)

level_gets : (s p : List ℕ) (r q : Option (Result Datum Error)) → LevelGets s p r → LevelGets s p q → r ≡ q
level_gets s p r q (LevelGets.Level n is at said) (LevelGets.Level k is2 at2 said2) = said ∙ ap (λ v. Some (Ok (num uint32 v))) (one_number s n k at at2) ∙ sym said2
level_gets s p r q (LevelGets.Level n is at said) (LevelGets.HasNone is2 said2) = absurd (true≢false (sym is ∙ is2))
level_gets s p r q (LevelGets.HasNone is said) (LevelGets.Level k is2 at said2) = absurd (true≢false (sym is2 ∙ is))
level_gets s p r q (LevelGets.HasNone is said) (LevelGets.HasNone is2 said2) = both said said2

level_gets_all : (s : List ℕ) (ps qs : List (List ℕ × Datum)) → level.gets_all s ps → level.gets_all s qs → ps ≡ qs
level_gets_all s ps qs (n, at, is) (k, at2, is2) = is ∙ ap (λ v. (codes "Value", num uint32 v) ∷ []) (one_number s n k at at2) ∙ sym is2

-- the level in a value
abbrev or_zero : Option ℕ → ℕ
or_zero (Some n) = n
or_zero None = 0

level_sets : (s p : List ℕ) (v : Datum) (r q : DispatchResult2) (t u : List ℕ) → LevelSets s p v r t → LevelSets s p v q u → (r ≡ q) × (t ≡ u)
level_sets s p v r q t u (LevelSets.Sets n is given left said) (LevelSets.Sets k is2 given2 left2 said2) =
    let same = ap or_zero (sym given ∙ given2) in
    (said ∙ ap level_set same ∙ sym said2, left ∙ ap (λ x. x ∷ []) same ∙ sym left2)
level_sets s p v r q t u (LevelSets.Sets n is given left said) (LevelSets.Refuses is2 none left2 said2) = absurd (cc (sym given ∙ none))
level_sets s p v r q t u (LevelSets.Sets n is given left said) (LevelSets.HasNone is2 left2 said2) = absurd (true≢false (sym is ∙ is2))
level_sets s p v r q t u (LevelSets.Refuses is none left said) (LevelSets.Sets k is2 given left2 said2) = absurd (cc (sym given ∙ none))
level_sets s p v r q t u (LevelSets.Refuses is none left said) (LevelSets.Refuses is2 none2 left2 said2) = (both said said2, both left left2)
level_sets s p v r q t u (LevelSets.Refuses is none left said) (LevelSets.HasNone is2 left2 said2) = absurd (true≢false (sym is ∙ is2))
level_sets s p v r q t u (LevelSets.HasNone is left said) (LevelSets.Sets k is2 given left2 said2) = absurd (true≢false (sym is2 ∙ is))
level_sets s p v r q t u (LevelSets.HasNone is left said) (LevelSets.Refuses is2 none left2 said2) = absurd (true≢false (sym is2 ∙ is))
level_sets s p v r q t u (LevelSets.HasNone is left said) (LevelSets.HasNone is2 left2 said2) = (both said said2, both left left2)

-- ---- each interface

pub greeter_function : IsFunction greeter
greeter_function =
    record {
      gets = λ s p r q h k. both h k;
      gets_all = λ s ps qs h k. both h k;
      sets = λ s p v r q t u h k. (both h.1 k.1, both h.0 k.0);
      calls = λ s m n r q h k. both h k;
      calls_mut = greeter_answers;
      describes = λ s d e h k. both h k;
    }

pub test_function : IsFunction test_object
test_function =
    record {
      gets = λ s p r q h k. test_gets p r q h k;
      gets_all = λ s ps qs h k. both h k;
      sets = λ s p v r q t u h k. test_sets s p r q t u h k;
      calls = λ s m n r q h k. both h k;
      calls_mut = λ s m n r q t u h k. (both h.1 k.1, both h.0 k.0);
      describes = λ s d e h k. both h k;
    }

pub level_function : IsFunction level
level_function =
    record {
      gets = level_gets;
      gets_all = level_gets_all;
      sets = level_sets;
      calls = λ s m n r q h k. (level_answers s m n r q s s h k).0;
      calls_mut = level_answers;
      describes = λ s d e h k. both h k;
    }

pub named_function : (name : List ℕ) → IsFunction (empty name)
named_function name =
    record {
      gets = λ s p r q h k. both h k;
      gets_all = λ s ps qs h k. both h k;
      sets = λ s p v r q t u h k. (both h.1 k.1, both h.0 k.0);
      calls = λ s m n r q h k. both h k;
      calls_mut = λ s m n r q t u h k. (both h.1 k.1, both h.0 k.0);
      describes = λ s d e h k. both h k;
    }
