-- Numbers that answers had.
use Rattle.std.proofs.Common.{◌≡◌, refl, sym, ◌∙◌, ap, ℕ, List, [], ◌∷◌, Bool, true, false, cond, Option, Some, None, is_some, arith}
use Rattle.std.specs.Map.{lookup}
use Rattle.std.specs.BTreeMap.{insert_entry, is_at}
use Rattle.std.specs.Ordering.{nat_cmp, match_ordering}
use Rattle.std.specs.declared.cmp.Ordering.{Ordering}
use Rattle.std.specs.declared.cmp.Ordering.TheVariants.{Less, Equal, Greater}
use Rattle.peer_objects.specs.Notifying.{Notified, is_known, awaiting}

at_itself : (n : ℕ) → is_at (nat_cmp n) n ≡ true
at_itself n = grind arith

found_first : (n : ℕ) (v : Bool) (b : Bool) (rest : Notified) → b ≡ true → is_some (cond b (Some v) (lookup (is_at (nat_cmp n)) rest)) ≡ true
found_first n v true rest is = refl
found_first n v false rest is = cc

found_later : (n : ℕ) (v : Bool) (b : Bool) (rest : Notified) → is_some (lookup (is_at (nat_cmp n)) rest) ≡ true → is_some (cond b (Some v) (lookup (is_at (nat_cmp n)) rest)) ≡ true
found_later n v true rest is = refl
found_later n v false rest is = is

inserted : (n : ℕ) (v : Bool) (es : Notified) → is_some (lookup (is_at (nat_cmp n)) (insert_entry nat_cmp es n v)) ≡ true
inserted n v [] = found_first n v (is_at (nat_cmp n) n) [] (at_itself n)
inserted n v (e ∷ es) = by (nat_cmp n e.0) refl (inserted n v es)
  where
    by : (o : Ordering) → nat_cmp n e.0 ≡ o → is_some (lookup (is_at (nat_cmp n)) (insert_entry nat_cmp es n v)) ≡ true
        → is_some (lookup (is_at (nat_cmp n)) (match_ordering o ((n, v) ∷ e ∷ es) ((e.0, v) ∷ es) (e ∷ insert_entry nat_cmp es n v))) ≡ true
    by Less at later = found_first n v (is_at (nat_cmp n) n) (e ∷ es) (at_itself n)
    by Equal at later = found_first n v (is_at (nat_cmp n) e.0) es (grind arith)
    by Greater at later = found_later n e.1 (is_at (nat_cmp n) e.0) (insert_entry nat_cmp es n v) later

-- the number of an answer that was given is one that an answer had
pub known_now : (number : ℕ) (notified : Notified) → is_known (awaiting (Some number) notified) number ≡ true
known_now number notified = by (is_known notified number) refl
  where
    by : (b : Bool) → is_known notified number ≡ b → is_known (cond b notified (insert_entry nat_cmp notified number false)) number ≡ true
    by true is = is
    by false is = inserted number false notified
