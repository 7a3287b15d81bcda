-- Rules that may be there, compared.
use Rattle.std.proofs.{Common.{◌≡◌, refl, sym, ◌∙◌, ap, Bool, true, false, Option, Some, None}, lemmas.Bool.false≢true}
use Rattle.std.specs.Option.{option_eq}
use Rattle.peer_streams.specs.{Names.{Rule}, Rules.{is_same}}
use Rattle.peer_streams.proofs.SameRule.{same_self, same_one}

-- the test is the same both ways
pub same_back : (r s : Rule) → is_same r s ≡ is_same s r
same_back r s = by (is_same r s) (is_same s r) refl refl
  where
    by : (x y : Bool) → is_same r s ≡ x → is_same s r ≡ y → is_same r s ≡ is_same s r
    by true true e f = e ∙ sym f
    by false false e f = e ∙ sym f
    by true false e f = absurd (false≢true (sym f ∙ ap (is_same s) (same_one r s e) ∙ same_self s))
    by false true e f = absurd (false≢true (sym e ∙ ap (is_same r) (same_one s r f) ∙ same_self r))

pub one_back : (o p : Option Rule) → option_eq is_same o p ≡ option_eq is_same p o
one_back None None = refl
one_back None (Some s) = refl
one_back (Some r) None = refl
one_back (Some r) (Some s) = same_back r s

pub one_self : (o : Option Rule) → option_eq is_same o o ≡ true
one_self None = refl
one_self (Some r) = same_self r

pub one_rule : (o p : Option Rule) → option_eq is_same o p ≡ true → o ≡ p
one_rule None None e = refl
one_rule None (Some s) e = absurd (false≢true e)
one_rule (Some r) None e = absurd (false≢true e)
one_rule (Some r) (Some s) e = ap (λ x. Some x) (same_one r s e)
