-- Lists of which one element is changed, or behind which one more is put.
use Rattle.std.proofs.Common.{◌≡◌, ◌≢◌, ℕ, ◌+◌, ◌≤◌, ◌<◌, zero, suc, refl, sym, ◌∙◌, ap, arith, List, [], ◌∷◌, ◌++◌, length, take, drop, map, Some, None, subst}
use Rattle.std.specs.List.{slice_get, slice_set, AllByRecursion}
use Rattle.wire_message.specs.Plain.{edit}

-- ---- one element is changed

pub edit_other : {A : Type 0} (f : A → A) (j k : ℕ) (xs : List A) → j ≢ k → slice_get (edit j f xs) k ≡ slice_get xs k
edit_other f j k [] ne = refl
edit_other f zero zero (x ∷ xs) ne = absurd (ne refl)
edit_other f zero (suc k) (x ∷ xs) ne = refl
edit_other f (suc j) zero (x ∷ xs) ne = refl
edit_other f (suc j) (suc k) (x ∷ xs) ne = edit_other f j k xs (λ q. ne (ap suc q))

pub edit_here : {A : Type 0} (f : A → A) (k : ℕ) (xs : List A) (x : A) → slice_get xs k ≡ Some x → slice_get (edit k f xs) k ≡ Some (f x)
edit_here f k [] x at = cc
edit_here f zero (y ∷ ys) x at = let same : y ≡ x = cc in ap (λ z. Some (f z)) same
edit_here f (suc k) (y ∷ ys) x at = edit_here f k ys x at

pub edit-length : {A : Type 0} (k : ℕ) (f : A → A) (xs : List A) → length (edit k f xs) ≡ length xs
edit-length k f [] = refl
edit-length zero f (x ∷ xs) = refl
edit-length (suc k) f (x ∷ xs) = ap (λ n. suc n) (edit-length k f xs)

-- a change that changes nothing
pub edit-same : {A : Type 0} (g : A → A) (xs : List A) (k : ℕ) (x : A) → slice_get xs k ≡ Some x → g x ≡ x → edit k g xs ≡ xs
edit-same g [] k x at e = refl
edit-same g (y ∷ ys) zero x at e = let same : y ≡ x = cc in ap (λ z. z ∷ ys) (ap g same ∙ e ∙ sym same)
edit-same g (y ∷ ys) (suc k) x at e = ap (λ zs. y ∷ zs) (edit-same g ys k x at e)

pub edit-none : {A : Type 0} (g : A → A) → ((x : A) → g x ≡ x) → (xs : List A) (k : ℕ) → edit k g xs ≡ xs
edit-none g e [] k = refl
edit-none g e (y ∷ ys) zero = ap (λ z. z ∷ ys) (e y)
edit-none g e (y ∷ ys) (suc k) = ap (λ zs. y ∷ zs) (edit-none g e ys k)

pub edit-past : {A : Type 0} (g : A → A) (xs : List A) (k : ℕ) → slice_get xs k ≡ None → edit k g xs ≡ xs
edit-past g [] k at = refl
edit-past g (y ∷ ys) zero at = cc
edit-past g (y ∷ ys) (suc k) at = ap (λ zs. y ∷ zs) (edit-past g ys k at)

-- a change of what is kept of each
pub map_edit : {A B : Type 0} (p : A → B) (f : A → A) (g : B → B) (xs : List A) (k : ℕ) (x : A) → slice_get xs k ≡ Some x → p (f x) ≡ g (p x) → map p (edit k f xs) ≡ edit k g (map p xs)
map_edit p f g [] k x at e = refl
map_edit p f g (y ∷ ys) zero x at e = let same : y ≡ x = cc in rw same (ap (λ z. z ∷ map p ys) e)
map_edit p f g (y ∷ ys) (suc k) x at e = ap (λ zs. p y ∷ zs) (map_edit p f g ys k x at e)

pub map_edit_all : {A B : Type 0} (p : A → B) (f : A → A) (g : B → B) (xs : List A) (k : ℕ) → ((x : A) → p (f x) ≡ g (p x)) → map p (edit k f xs) ≡ edit k g (map p xs)
map_edit_all p f g [] k e = refl
map_edit_all p f g (y ∷ ys) zero e = ap (λ z. z ∷ map p ys) (e y)
map_edit_all p f g (y ∷ ys) (suc k) e = ap (λ zs. p y ∷ zs) (map_edit_all p f g ys k e)

pub set_edit : {A : Type 0} (xs : List A) (k : ℕ) (x : A) → slice_set xs k x ≡ edit k (λ _. x) xs
set_edit [] k x = refl
set_edit (y ∷ ys) zero x = refl
set_edit (y ∷ ys) (suc k) x = ap (λ zs. y ∷ zs) (set_edit ys k x)

-- ---- one more

pub get_append : {A : Type 0} (k : ℕ) (xs ys : List A) (x : A) → slice_get xs k ≡ Some x → slice_get (xs ++ ys) k ≡ Some x
get_append k [] ys x at = cc
get_append zero (y ∷ xs) ys x at = at
get_append (suc k) (y ∷ xs) ys x at = get_append k xs ys x at

pub get_new : {A : Type 0} (xs : List A) (x : A) → slice_get (xs ++ x ∷ []) (length xs) ≡ Some x
get_new [] x = refl
get_new (y ∷ ys) x = get_new ys x

-- what was there before stays in its place
pub get_before : {A : Type 0} (k : ℕ) (xs ys : List A) → k < length xs → slice_get (xs ++ ys) k ≡ slice_get xs k
get_before k [] ys le = absurd (omega arith)
get_before zero (x ∷ xs) ys le = refl
get_before (suc k) (x ∷ xs) ys le = get_before k xs ys (omega arith)

-- ---- the first of those that are left

pub take_one : {A : Type 0} (n : ℕ) (xs : List A) (x : A) (rest : List A) → drop n xs ≡ x ∷ rest → take (n + 1) xs ≡ take n xs ++ x ∷ []
take_one zero [] x rest e = cc
take_one zero (y ∷ ys) x rest e = let same : y ≡ x = cc in ap (λ z. z ∷ []) same
take_one (suc n) [] x rest e = cc
take_one (suc n) (y ∷ ys) x rest e = let one : suc n + 1 ≡ suc (n + 1) = omega arith in rw one (ap (λ zs. y ∷ zs) (take_one n ys x rest e))

pub get_first : {A : Type 0} (n : ℕ) (xs : List A) (y : A) (ys : List A) → drop n xs ≡ y ∷ ys → slice_get xs n ≡ Some y
get_first zero [] y ys e = cc
get_first zero (x ∷ xs) y ys e = cc
get_first (suc n) [] y ys e = cc
get_first (suc n) (x ∷ xs) y ys e = get_first n xs y ys e

pub drop_next : {A : Type 0} (n : ℕ) (xs : List A) (y : A) (ys : List A) → drop n xs ≡ y ∷ ys → (drop (n + 1) xs ≡ ys) × (n + 1 ≤ length xs)
drop_next zero [] y ys e = cc
drop_next zero (x ∷ xs) y ys e = (cc, omega arith)
drop_next (suc n) [] y ys e = cc
drop_next (suc n) (x ∷ xs) y ys e =
    let rest = drop_next n xs y ys e in
    let more : suc n + 1 ≡ suc (n + 1) = omega arith in
    (rw more rest.0, omega (arith, rest.1))

-- ---- what holds of each element

pub all_weaker : {A : Type 0} (P Q : A → Type 0) → ((x : A) → P x → Q x) → (xs : List A) → AllByRecursion P xs → AllByRecursion Q xs
all_weaker P Q so [] all = tt
all_weaker P Q so (x ∷ xs) all = (so x all.0, all_weaker P Q so xs all.1)

pub all_push : {A : Type 0} (P : A → Type 0) (xs : List A) (x : A) → P x → AllByRecursion P xs → AllByRecursion P (xs ++ x ∷ [])
all_push P [] x one all = (one, tt)
all_push P (y ∷ ys) x one all = (all.0, all_push P ys x one all.1)

pub all_at : {A : Type 0} (P : A → Type 0) (xs : List A) (k : ℕ) (x : A) → slice_get xs k ≡ Some x → AllByRecursion P xs → P x
all_at P [] k x at all = cc
all_at P (y ∷ ys) zero x at all = let same : y ≡ x = cc in subst P same all.0
all_at P (y ∷ ys) (suc k) x at all = all_at P ys k x at all.1

pub all_more : {A : Type 0} (P : A → Type 0) (xs : List A) (x : A) → AllByRecursion P xs → P x → AllByRecursion P (xs ++ x ∷ [])
all_more P [] x all one = (one, tt)
all_more P (y ∷ ys) x all one = (all.0, all_more P ys x all.1 one)

pub all_map : {A B : Type 0} (P : A → Type 0) (Q : B → Type 0) (f : A → B) → ((x : A) → P x → Q (f x)) → (xs : List A) → AllByRecursion P xs → AllByRecursion Q (map f xs)
all_map P Q f so [] all = tt
all_map P Q f so (x ∷ xs) all = (so x all.0, all_map P Q f so xs all.1)

pub all_edit : {A : Type 0} (P : A → Type 0) (f : A → A) (xs : List A) (k : ℕ) → ((x : A) → slice_get xs k ≡ Some x → P x → P (f x)) → AllByRecursion P xs → AllByRecursion P (edit k f xs)
all_edit P f [] k so all = tt
all_edit P f (x ∷ xs) zero so all = (so x refl all.0, all.1)
all_edit P f (x ∷ xs) (suc k) so all = (all.0, all_edit P f xs k so all.1)
