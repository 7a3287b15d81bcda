-- A rule stays in its grammar when an argument is put.
use Rattle.std.proofs.Common.{◌≡◌, refl, ◌<◌, List, [], ◌∷◌, ◌++◌, Bool, true, false, cond, nat_lt, IsTrue, arith}
use Rattle.std.specs.List.{filter, list_all}
use Rattle.std.proofs.lemmas.Bool.Decides.{nat_tests}
use Rattle.rule_match.specs.declared.arguments.Argument.{Argument}
use Rattle.rule_match.specs.Arguments.{is_ascending, is_argument, put}
use Rattle.rule_match.specs.Rule.{Rule, IsRule}
use Rattle.rule_match.proofs.Both.{first_true, second_true, both_true}
use Rattle.rule_match.proofs.Placing.{put_behind, put_instead, put_first, put_alone, above_more}

all_filtered : (p q : Argument → Bool) (xs : List Argument) → list_all p xs ≡ true → list_all p (filter q xs) ≡ true
all_filtered p q [] h = refl
all_filtered p q (x ∷ xs) h =
    elim (q x) as (λ v. list_all p (cond v (x ∷ filter q xs) (filter q xs)) ≡ true) [
      | true ↦ both_true (p x) (list_all p (filter q xs)) (first_true (p x) (list_all p xs) h) (all_filtered p q xs (second_true (p x) (list_all p xs) h))
      | false ↦ all_filtered p q xs (second_true (p x) (list_all p xs) h)
    ]

all_joined : (p : Argument → Bool) (xs ys : List Argument) → list_all p xs ≡ true → list_all p ys ≡ true → list_all p (xs ++ ys) ≡ true
all_joined p [] ys h k = k
all_joined p (x ∷ xs) ys h k = both_true (p x) (list_all p (xs ++ ys)) (first_true (p x) (list_all p xs) h) (all_joined p xs ys (second_true (p x) (list_all p xs) h) k)

put_all : (p : Argument → Bool) (a : Argument) (xs : List Argument) → p a ≡ true → list_all p xs ≡ true → list_all p (put a xs) ≡ true
unfolding put
put_all p a xs h k =
    all_joined p (filter (λ b. nat_lt b.index a.index) xs) (a ∷ filter (λ b. nat_lt a.index b.index) xs) (all_filtered p (λ b. nat_lt b.index a.index) xs k)
    (both_true (p a) (list_all p (filter (λ b. nat_lt a.index b.index) xs)) h (all_filtered p (λ b. nat_lt a.index b.index) xs k))

ascending_put : (a : Argument) (xs : List Argument) → is_ascending xs ≡ true → is_ascending (put a xs) ≡ true
ascending_put a [] h = rw (← put_alone a)
ascending_put a (b ∷ rest) h =
    let above : list_all (λ x. nat_lt b.index x.index) rest ≡ true = first_true (list_all (λ x. nat_lt b.index x.index) rest) (is_ascending rest) h in
    let below : is_ascending rest ≡ true = second_true (list_all (λ x. nat_lt b.index x.index) rest) (is_ascending rest) h in
    elim (nat_lt b.index a.index) as (λ v. nat_lt b.index a.index ≡ v → is_ascending (put a (b ∷ rest)) ≡ true) [
      | true ↦ λ e. rw (put_behind a b rest e) (both_true (list_all (λ x. nat_lt b.index x.index) (put a rest)) (is_ascending (put a rest)) (put_all (λ x. nat_lt b.index x.index) a rest e above) (ascending_put a rest below))
      | false ↦ λ e. elim (nat_lt a.index b.index) as (λ w. nat_lt a.index b.index ≡ w → is_ascending (put a (b ∷ rest)) ≡ true) [
        | true ↦ λ k.
            let less : a.index < b.index = grind (arith, nat_tests) in
            rw (put_first a b rest h less) (both_true (list_all (λ x. nat_lt a.index x.index) (b ∷ rest)) (is_ascending (b ∷ rest)) (both_true (nat_lt a.index b.index) (list_all (λ x. nat_lt a.index x.index) rest) k (above_more a.index b.index rest less above)) h)
        | false ↦ λ k.
            let same : b.index ≡ a.index = grind (arith, nat_tests) in
            rw (put_instead a b rest h same) (both_true (list_all (λ x. nat_lt a.index x.index) rest) (is_ascending rest) (rw same at above) below)
      ] refl
    ] refl

pub with_argument : (r : Rule) (a : Argument) → IsRule r → IsTrue (is_argument a) → IsRule (record r { args = put a r.args })
with_argument r a valid h = record {
  args = put_all is_argument a r.args h valid.args;
  args_ascend = ascending_put a r.args valid.args_ascend;
  arg_paths = valid.arg_paths;
  arg_paths_ascend = valid.arg_paths_ascend;
  arg0ns = valid.arg0ns;
}

pub with_path_argument : (r : Rule) (a : Argument) → IsRule r → IsTrue (is_argument a) → IsRule (record r { arg_paths = put a r.arg_paths })
with_path_argument r a valid h = record {
  args = valid.args;
  args_ascend = valid.args_ascend;
  arg_paths = put_all is_argument a r.arg_paths h valid.arg_paths;
  arg_paths_ascend = ascending_put a r.arg_paths valid.arg_paths_ascend;
  arg0ns = valid.arg0ns;
}
