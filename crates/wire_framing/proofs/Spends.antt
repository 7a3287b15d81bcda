-- What a read that began with nothing kept leaves in the source.
use Rattle.std.proofs.Common.{ℕ, ◌≡◌, ◌≤◌, ◌⊎◌, min, inl, inr, Bool, List, [], ◌++◌, length, drop, le_refl, drop_of_length-le, Option, Some, None, Result, Ok, Err, sym, ap, ◌∙◌, subst, arith, append-nil}
use Rattle.std.specs.Io.KnownBytes.{Consumes}
use Rattle.wire_framing.specs.Views.{SourceView}
use Rattle.wire_framing.specs.Source.{IsEnd}
use Rattle.wire_framing.specs.Receive.{Spends, spent}
use Rattle.wire_framing.specs.Kept.{Comes, IsCut, IsThere, ReadsToMessage}
use Rattle.wire_framing.proofs.Whole.{Behind, spent_all, spent_refused, spent_right, refused_behind, own_behind}
use Rattle.wire_message.specs.Front.{total}
use Rattle.wire_message.specs.Outcome.{head_fault}
use Rattle.wire_message.specs.declared.received.Received.{Received}
use Rattle.wire_message.specs.declared.error.Error.{Error}
use Rattle.wire_message.specs.declared.error.Error.TheVariants as errors
use Rattle.wire_message.specs.declared.error.IoKind.TheVariants as kinds

spends_of : {A : Type 0} (r : Result A Error) (old new : SourceView) → Behind old.left new.left → Spends r old new
spends_of (Ok x) old new h = h
spends_of (Err errors.Memory) old new h = tt
spends_of (Err (errors.InputOutput kinds.Fault)) old new h = tt
spends_of (Err e) old new h = h

-- ---- no front came whole

cut_spent : (bytes : List ℕ) → IsCut bytes → drop (spent bytes) bytes ≡ []
cut_spent bytes (inl short) = ap (λ n. drop n bytes) (spent_all bytes short) ∙ drop_of_length-le bytes (le_refl (length bytes))
cut_spent bytes (inr r) =
    let less = r.1 in
    let least : min (total bytes) (length bytes) ≡ length bytes = omega (arith, less) in
    ap (λ n. drop n bytes) (spent_right bytes r.0.head r.0.right ∙ least) ∙ drop_of_length-le bytes (le_refl (length bytes))

ended_behind : (got : List ℕ) (left left' : Option (List ℕ)) (stop : Option Bool) → IsCut got → Consumes left left' got → IsEnd left' stop → Behind left left'
ended_behind got None left' stop cut q end = tt
ended_behind got (Some xs) None stop cut q end = absurd q
ended_behind got (Some xs) (Some ys) stop cut q end =
    let all : xs ≡ got = q ∙ ap (λ l. got ++ l) end.0 ∙ append-nil got in
    ap Some (end.0 ∙ sym (cut_spent got cut) ∙ sym (ap (λ l. drop (spent l) l) all))

-- a head that was refused is there, and nothing more
head_only : (got : List ℕ) (e : Error) → (got ≡ []) ⊎ (length got ≤ spent got) → 16 ≤ length got → head_fault got ≡ Some e → length got ≡ 16
head_only got e (inl none) long fault = let no : length got ≡ 0 = ap length none in omega (arith, no, long)
head_only got e (inr fits) long fault = let is = spent_refused got e long fault in omega (arith, is, fits, long)

head_behind : (got : List ℕ) (e : Error) (left left' : Option (List ℕ)) → (got ≡ []) ⊎ (length got ≤ spent got) → (16 ≤ length got) × (head_fault got ≡ Some e) → Consumes left left' got → Behind left left'
head_behind got e left left' own g q = refused_behind got e left left' (head_only got e own g.0 g.1) g.1 q

failed_by : (e : Error) (mid : List ℕ) (old new : SourceView) → ReadsToMessage (Err e) mid → (mid ≡ []) ⊎ (length mid ≤ spent mid)
    → Comes {A = Unit {0}} (Err e) mid old new → Spends {A = Received} (Err e) old new
failed_by (errors.InputOutput kinds.Ended) mid old new g own c = ended_behind mid old.left new.left old.stop g c.0 c.1
failed_by (errors.InputOutput kinds.Fault) mid old new g own c = tt
failed_by errors.Memory mid old new g own c = tt
failed_by e mid old new g own c = spends_of {A = Received} (Err e) old new (head_behind mid e old.left new.left own g c.0)

-- all that came is all that was there
got_all : (kept mid : List ℕ) → kept ≡ [] → mid ≡ kept ++ drop (length kept) mid → drop (length kept) mid ≡ mid
got_all kept mid none grown = sym (grown ∙ ap (λ l. l ++ drop (length kept) mid) none)

pub failed_spends : (e : Error) (kept mid : List ℕ) (old new : SourceView) → kept ≡ [] → mid ≡ kept ++ drop (length kept) mid
    → ReadsToMessage (Err e) mid → (mid ≡ kept) ⊎ (length mid ≤ spent mid) → Comes {A = Unit {0}} (Err e) (drop (length kept) mid) old new → Spends {A = Received} (Err e) old new
failed_spends e kept mid old new none grown g own c =
    failed_by e mid old new g (subst (λ l. (mid ≡ l) ⊎ (length mid ≤ spent mid)) none own)
    (subst (λ l. Comes {A = Unit {0}} (Err e) l old new) (got_all kept mid none grown) c)

-- ---- a front came whole, and was received or refused

all_there : (mid : List ℕ) → IsThere mid → (mid ≡ []) ⊎ (length mid ≤ spent mid) → length mid ≡ total mid
all_there mid g (inl none) = let no : length mid ≡ 0 = ap length none in let long = g.0.head in absurd (omega (arith, no, long))
all_there mid g (inr fits) =
    let is = spent_right mid g.0.head g.0.right in
    omega (arith, is, fits, g.1)

pub whole_spends : (r : Result Received Error) (kept mid : List ℕ) (old new : SourceView) → kept ≡ [] → mid ≡ kept ++ drop (length kept) mid
    → IsThere mid → (mid ≡ kept) ⊎ (length mid ≤ spent mid) → Comes {A = Unit {0}} (Ok tt) (drop (length kept) mid) old new → Spends r old new
whole_spends r kept mid old new none grown g own c =
    let all = all_there mid g (subst (λ l. (mid ≡ l) ⊎ (length mid ≤ spent mid)) none own) in
    spends_of r old new (own_behind mid old.left new.left g.0.head g.0.right all (subst (Consumes old.left new.left) (got_all kept mid none grown) c.0))
