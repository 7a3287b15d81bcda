-- How many containers the values of replies open at once, where what they tell can be sent.
use Rattle.std.proofs.Common.{◌≡◌, refl, ◌≤◌, ◌+◌, ℕ, List, [], ◌∷◌, map, max, arith}
use Rattle.std.specs.List.{AllByRecursion, fold}
use Rattle.std.specs.Ordering.{match_ordering}
use Rattle.std.specs.declared.cmp.Ordering.{Ordering}
use Rattle.std.specs.declared.cmp.Ordering.TheVariants.{Less, Equal, Greater}
use Rattle.std.specs.BTreeMap.{insert_entry}
use Rattle.object_tree.specs.Texts.{text_cmp}
use Rattle.wire_tree.specs.Datum.{Datum, entries_of}
use Rattle.wire_encoding.specs.Encoding.{depth, depths}
use Rattle.object_interface.specs.Sending.{AreSendable}
use Rattle.object_standard.specs.Properties.{with_property, sorted, property_entry, properties_value}
use Rattle.object_standard.specs.ObjectManager.{interface_entry, interfaces_value, object_entry, managed_value}
use Rattle.object_standard.specs.declared.object_manager.ManagedInterface.{ManagedInterface}
use Rattle.object_standard.specs.declared.object_manager.ManagedObject.{ManagedObject}

max_within : (a b n : ℕ) → a ≤ n → b ≤ n → max a b ≤ n
max_within a b n h k = omega (arith, h, k)

-- entries whose keys are texts open one more than their values
entries_within : {X : Type 0} (f : X → Datum × Datum) (n : ℕ) (xs : List X) → AllByRecursion (λ x. (depth (f x).0 ≡ 0) × (depth (f x).1 ≤ n)) xs → depths (entries_of (map f xs)) ≤ n + 1
entries_within f n [] all = omega arith
entries_within f n (x ∷ xs) all =
    let one : max (depth (f x).0) (max (depth (f x).1) 0) + 1 ≤ n + 1 = let key = all.0.0 in let value = all.0.1 in omega (arith, key, value) in
    max_within (max (depth (f x).0) (max (depth (f x).1) 0) + 1) (depths (entries_of (map f xs))) (n + 1) one (entries_within f n xs all.1)

-- ---- properties

-- the value opens no more
abbrev Within : ℕ → List ℕ × Datum → Type 0
Within n p = depth p.1 ≤ n

insert_within : (n : ℕ) (es : List (List ℕ × Datum)) (k : List ℕ) (v : Datum) → AllByRecursion (Within n) es → depth v ≤ n → AllByRecursion (Within n) (insert_entry text_cmp es k v)
insert_within n [] k v all one = (one, tt)
insert_within n (e ∷ es) k v all one = by (text_cmp k e.0) (insert_within n es k v all.1 one)
  where
    by : (o : Ordering) → AllByRecursion (Within n) (insert_entry text_cmp es k v) → AllByRecursion (Within n) (match_ordering o ((k, v) ∷ e ∷ es) ((e.0, v) ∷ es) (e ∷ insert_entry text_cmp es k v))
    by Less later = (one, all)
    by Equal later = (one, all.1)
    by Greater later = (all.0, later)

fold_within : (n : ℕ) (done ps : List (List ℕ × Datum)) → AllByRecursion (Within n) done → AllByRecursion (Within n) ps → AllByRecursion (Within n) (fold with_property done ps)
fold_within n done [] all more = all
fold_within n done (p ∷ ps) all more = fold_within n (with_property done p) ps (insert_within n done p.0 p.1 all more.0) more.1

sendable_within : (ps : List (List ℕ × Datum)) → AreSendable ps → AllByRecursion (Within 56) ps
sendable_within [] all = tt
sendable_within (p ∷ ps) all = (all.0.1, sendable_within ps all.1)

in_variants : (n : ℕ) (ps : List (List ℕ × Datum)) → AllByRecursion (Within n) ps → AllByRecursion (λ p. (depth (property_entry p).0 ≡ 0) × (depth (property_entry p).1 ≤ n + 1)) ps
in_variants n [] all = tt
in_variants n (p ∷ ps) all = ((refl, let one = all.0 in omega (arith, one)), in_variants n ps all.1)

pub properties_depth : (ps : List (List ℕ × Datum)) → AreSendable ps → depth (properties_value ps) ≤ 59
properties_depth ps all =
    let entries = entries_within property_entry 57 (sorted ps) (in_variants 56 (sorted ps) (fold_within 56 [] ps tt (sendable_within ps all))) in
    omega (arith, entries)

-- ---- interfaces and objects

each_interface : (is : List ManagedInterface) → AllByRecursion (λ i. AreSendable i.properties) is → AllByRecursion (λ i. (depth (interface_entry i).0 ≡ 0) × (depth (interface_entry i).1 ≤ 59)) is
each_interface [] all = tt
each_interface (i ∷ is) all = ((refl, properties_depth i.properties all.0), each_interface is all.1)

pub interfaces_depth : (is : List ManagedInterface) → AllByRecursion (λ i. AreSendable i.properties) is → depth (interfaces_value is) ≤ 61
interfaces_depth is all = let entries = entries_within interface_entry 59 is (each_interface is all) in omega (arith, entries)

each_object : (os : List ManagedObject) → AllByRecursion (λ o. AllByRecursion (λ i. AreSendable i.properties) o.interfaces) os → AllByRecursion (λ o. (depth (object_entry o).0 ≡ 0) × (depth (object_entry o).1 ≤ 61)) os
each_object [] all = tt
each_object (o ∷ os) all = ((refl, interfaces_depth o.interfaces all.0), each_object os all.1)

pub managed_depth : (os : List ManagedObject) → AllByRecursion (λ o. AllByRecursion (λ i. AreSendable i.properties) o.interfaces) os → depth (managed_value os) ≤ 63
managed_depth os all = let entries = entries_within object_entry 61 os (each_object os all) in omega (arith, entries)
