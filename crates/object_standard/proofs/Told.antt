-- What is told of objects is what their arguments are.
use Rattle.std.proofs.Common.{◌≡◌, refl, ap, ◌∙◌, ℕ, List, [], ◌∷◌, map, Result, Ok, Err, IfOk}
use Rattle.wire_signature.specs.SingleType.{variant as any}
use Rattle.wire_signature.specs.declared.basic.BasicType.TheVariants as basics
use Rattle.wire_tree.specs.Datum.{Datum, dict, text, string, object_path, variant, entries_of}
use Rattle.wire_argument.specs.Kinds.{both}
use Rattle.object_standard.specs.Properties.{sorted, properties_type, properties_value, names_value, changed_values}
use Rattle.object_standard.specs.ObjectManager.{interfaces_type, interface_entry, interfaces_value, object_entry, managed_value, added_values}
use Rattle.object_standard.specs.declared.object_manager.ManagedInterface.{ManagedInterface}
use Rattle.object_standard.specs.declared.object_manager.ManagedObject.{ManagedObject}

-- properties, interfaces and objects as arguments, and the values that they are
abbrev pub properties_datum : List (List ℕ × Datum) → Datum
properties_datum ps = dict basics.String any (entries_of (map (both (text string) variant) ps))

abbrev pub interfaces_datum : List (List ℕ × List (List ℕ × Datum)) → Datum
interfaces_datum is = dict basics.String properties_type (entries_of (map (both (text string) properties_datum) is))

abbrev pub objects_datum : List (List ℕ × List (List ℕ × List (List ℕ × Datum))) → Datum
objects_datum os = dict basics.ObjectPath interfaces_type (entries_of (map (both (text object_path) interfaces_datum) os))

-- an interface's name, and its properties in their order
abbrev pub told_interface : ManagedInterface → List ℕ × List (List ℕ × Datum)
told_interface i = (i.name, sorted i.properties)

-- an object's path, and its interfaces
abbrev pub told_object : ManagedObject → List ℕ × List (List ℕ × List (List ℕ × Datum))
told_object o = (o.path, map told_interface o.interfaces)

-- the entries
interfaces_told : (is : List ManagedInterface) → map (both (text string) properties_datum) (map told_interface is) ≡ map interface_entry is
interfaces_told [] = refl
interfaces_told (i ∷ is) = ap (λ es. interface_entry i ∷ es) (interfaces_told is)

object_told : (o : ManagedObject) → both (text object_path) interfaces_datum (told_object o) ≡ object_entry o
object_told o = ap (λ es. (text object_path o.path, dict basics.String properties_type (entries_of es))) (interfaces_told o.interfaces)

objects_told : (os : List ManagedObject) → map (both (text object_path) interfaces_datum) (map told_object os) ≡ map object_entry os
objects_told [] = refl
objects_told (o ∷ os) = ap (λ e. e ∷ map (both (text object_path) interfaces_datum) (map told_object os)) (object_told o) ∙ ap (λ es. object_entry o ∷ es) (objects_told os)

-- the values
pub properties_are : (es ps : List (List ℕ × Datum)) → es ≡ sorted ps → properties_datum es ≡ properties_value ps
properties_are es ps e = ap properties_datum e

pub interfaces_are : (es : List (List ℕ × List (List ℕ × Datum))) (is : List ManagedInterface) → es ≡ map told_interface is → interfaces_datum es ≡ interfaces_value is
interfaces_are es is e = ap interfaces_datum e ∙ ap (λ ds. dict basics.String properties_type (entries_of ds)) (interfaces_told is)

pub objects_are : (es : List (List ℕ × List (List ℕ × List (List ℕ × Datum)))) (os : List ManagedObject) → es ≡ map told_object os → objects_datum es ≡ managed_value os
objects_are es os e = ap objects_datum e ∙ ap (λ ds. dict basics.ObjectPath interfaces_type (entries_of ds)) (objects_told os)

pub added_are : (e : List ℕ × List (List ℕ × List (List ℕ × Datum))) (o : ManagedObject) → e ≡ told_object o → text object_path e.0 ∷ interfaces_datum e.1 ∷ [] ≡ added_values o
added_are e o same = ap (λ (x : List ℕ × List (List ℕ × List (List ℕ × Datum))). text object_path x.0 ∷ interfaces_datum x.1 ∷ []) same ∙ ap (λ d. text object_path o.path ∷ d ∷ []) (interfaces_are (map told_interface o.interfaces) o.interfaces refl)

pub changed_are : (name interface : List ℕ) (es ps : List (List ℕ × Datum)) (names invalidated : List (List ℕ)) → name ≡ interface → es ≡ sorted ps → names ≡ invalidated
    → text string name ∷ properties_datum es ∷ names_value names ∷ [] ≡ changed_values interface ps invalidated
changed_are name interface es ps names invalidated same e listed =
    ap (λ n. text string n ∷ properties_datum es ∷ names_value names ∷ []) same ∙ ap (λ d. text string interface ∷ d ∷ names_value names ∷ []) (properties_are es ps e)
    ∙ ap (λ ns. text string interface ∷ properties_value ps ∷ names_value ns ∷ []) listed

-- what came of a call is the same, said in another way
pub ok_is : {A E : Type 0} (r : Result A E) (x y : A) → x ≡ y → IfOk r (λ a. a ≡ x) → IfOk r (λ a. a ≡ y)
ok_is (Ok a) x y e h = h ∙ e
ok_is (Err k) x y e h = tt
