-- What holds of an option's value.
use Rattle.std.proofs.Common.{◌≡◌, refl, Option, Some, None, IfSome}

pub if_it_is : {A : Type 0} (o : Option A) (P : A → Type 0) → ((a : A) → o ≡ Some a → P a) → IfSome o P
if_it_is None P f = tt
if_it_is (Some a) P f = f a refl
