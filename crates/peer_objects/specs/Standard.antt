-- What the standard interfaces answer, which each object has by itself or, for `org.freedesktop.DBus.ObjectManager`, where it was added
-- (D-Bus Specification, "Standard Interfaces").
use Rattle.std.specs.Prelude.{◌≡◌, ℕ, Bool, true, false, not, if◌then◌else◌, List, [], ◌∷◌, filter, Option, None, Some, is_some, unwrap_or, Result, Ok, Err, IsTrue}
use Rattle.std.specs.List.{AllZip}
use Rattle.wire_tree.specs.Datum.{Datum, text, string, variant}
use Rattle.wire_message.specs.Front.{MessageView}
use Rattle.wire_message.specs.declared.fdo.Error.{Error}
use Rattle.wire_message.specs.declared.error.Error.{Error as Failure}
use Rattle.wire_message.specs.declared.error.Error.TheVariants as failures
use Rattle.object_interface.specs.Meaning.{Meaning}
use Rattle.object_interface.specs.Sending.{IsSendableValue, AreSendable}
use Rattle.object_interface.specs.declared.description.Description.{Description}
use Rattle.object_interface.specs.declared.answer.DispatchResult2.{DispatchResult2}
use Rattle.object_interface.specs.declared.answer.DispatchResult2.TheVariants.{NotFound}
use Rattle.object_interface.specs.Errors.{alone, invalid}
use Rattle.object_interface.specs.declared.description.DescribedInterface.{DescribedInterface}
use Rattle.object_tree.specs.Objects.{Objects, Rows, root, is_same, rows_at, is_manager, from_path, below}
use Rattle.object_tree.specs.Standard.{manager_name, is_standard}
use Rattle.object_tree.specs.declared.standard.StandardInterface.{StandardInterface}
use Rattle.object_text.specs.Nodes.{introspection}
use Rattle.object_text.specs.declared.described.DescribedObject.{DescribedObject}
use Rattle.object_standard.specs.Arguments.{TakesNone}
use Rattle.object_standard.specs.Method.{method_named}
use Rattle.object_standard.specs.ObjectManager.{managed_value, manager_description}
use Rattle.object_standard.specs.Peer.{peer_answer}
use Rattle.object_standard.specs.Properties.{NamesInterface, NamesNone, of_interface, of_property, of_setting, properties_value, unknown_property, answer_of_get, answer_of_set}
use Rattle.object_standard.specs.Standing.{standing}
use Rattle.object_standard.specs.declared.method.StandardMethod.{StandardMethod}
use Rattle.object_standard.specs.declared.method.StandardMethod.TheVariants as methods
use Rattle.object_standard.specs.declared.object_manager.ManagedInterface.{ManagedInterface}
use Rattle.object_standard.specs.declared.object_manager.ManagedObject.{ManagedObject}
use Rattle.peer_objects.specs.Serving.{Slots, IsKeptAt}
use Rattle.peer_objects.specs.Dispatching.{Target, Nothing, Standard, Slot, reached, member_in, SetsMut}

-- ---- properties (D-Bus Specification, "org.freedesktop.DBus.Properties")

-- the object that a call names
abbrev pub path_in : MessageView → List ℕ
path_in m = unwrap_or m.path root

-- The arguments of `Set` name a property of the interface that is kept in the slot.
abbrev pub SetsProperty : Objects → MessageView → ℕ → Type 0
SetsProperty objects m slot =
    (interface property : List ℕ) × (value : Datum) × NamesInterface m of_setting interface (text string property ∷ variant value ∷ []) × (reached objects (path_in m) interface ≡ Slot slot)

-- the call is a `Set` of such a property
abbrev pub SetsIn : Objects → StandardInterface → MessageView → ℕ → Type 0
SetsIn objects standard m slot = (method_named standard (member_in m) ≡ Some methods.Set) × SetsProperty objects m slot

module _ {B : Type 0} (meaning : B → Meaning) (state : B → List ℕ) where
  -- The value of a property is asked for, of what the path and the interface's name reach: no standard interface has properties.
  abbrev pub GetsAt : Target → List ℕ → Slots B → DispatchResult2 → Type 0
  GetsAt (Nothing error) property slots answer = answer ≡ alone (Err error)
  GetsAt (Standard interface) property slots answer = answer ≡ unknown_property property
  GetsAt (Slot slot) property slots answer =
      (b : B) × (got : Option (Result Datum Error)) × IsKeptAt slots slot b × (meaning b).gets (state b) property got × IsSendableValue got × (answer ≡ answer_of_get property got)

  -- All properties are asked for.
  abbrev pub GetsAllAt : Target → Slots B → DispatchResult2 → Type 0
  GetsAllAt (Nothing error) slots answer = answer ≡ alone (Err error)
  GetsAllAt (Standard interface) slots answer = answer ≡ alone (Ok (properties_value [] ∷ []))
  GetsAllAt (Slot slot) slots answer =
      (b : B) × (got : List (List ℕ × Datum)) × IsKeptAt slots slot b × (meaning b).gets_all (state b) got × AreSendable got × (answer ≡ alone (Ok (properties_value got ∷ [])))

  -- A property is set: by the call that may change nothing; or, where that asks for it, by the one that may.
  abbrev pub SetsAt : Target → List ℕ → Datum → Slots B → Slots B → DispatchResult2 → Type 0
  SetsAt (Nothing error) property value old new answer = (answer ≡ alone (Err error)) × (new ≡ old)
  SetsAt (Standard interface) property value old new answer = (answer ≡ unknown_property property) × (new ≡ old)
  SetsAt (Slot slot) property value old new answer = (said : DispatchResult2) × SetsMut meaning state slot property value old new said × (answer ≡ answer_of_set property said)

  -- `Get` takes an interface's name and a property's.
  pub data Gets (objects : Objects) (m : MessageView) (slots : Slots B) (answer : DispatchResult2) : Type 0 where
    Taken : (interface property : List ℕ) → NamesInterface m of_property interface (text string property ∷ []) → GetsAt (reached objects (path_in m) interface) property slots answer → Gets objects m slots answer
    Refused : NamesNone m of_property → answer ≡ invalid → Gets objects m slots answer

  -- `GetAll` takes an interface's name.
  pub data GetsAll (objects : Objects) (m : MessageView) (slots : Slots B) (answer : DispatchResult2) : Type 0 where
    Taken : (interface : List ℕ) → NamesInterface m of_interface interface [] → GetsAllAt (reached objects (path_in m) interface) slots answer → GetsAll objects m slots answer
    Refused : NamesNone m of_interface → answer ≡ invalid → GetsAll objects m slots answer

  -- `Set` takes an interface's name, a property's, and the value in a variant.
  pub data Sets (objects : Objects) (m : MessageView) (old new : Slots B) (answer : DispatchResult2) : Type 0 where
    Taken : (interface property : List ℕ) (value : Datum) → NamesInterface m of_setting interface (text string property ∷ variant value ∷ [])
        → SetsAt (reached objects (path_in m) interface) property value old new answer → Sets objects m old new answer
    Refused : NamesNone m of_setting → answer ≡ invalid → new ≡ old → Sets objects m old new answer

  -- ---- what is told of objects (D-Bus Specification, "org.freedesktop.DBus.Introspectable", "org.freedesktop.DBus.ObjectManager")

  -- What introspection tells of the interface in the slot: what it describes; of an ObjectManager, which is told by the first, what the
  -- standard says.
  abbrev pub DescribesBy : Bool → Slots B → ℕ → Description → Type 0
  DescribesBy true slots slot told = told ≡ manager_description
  DescribesBy false slots slot told = (b : B) × IsKeptAt slots slot b × (meaning b).describes (state b) told

  abbrev pub Describes : Slots B → List ℕ × ℕ → Description → Type 0
  Describes slots row told = DescribesBy (is_same row.0 manager_name) slots row.1 told

  -- an object is told with each of its interfaces
  abbrev pub TellsObject : Slots B → List ℕ × Rows → DescribedObject → Type 0
  TellsObject slots object told = (told.path ≡ object.0) × AllZip (λ row (i : DescribedInterface). (i.name ≡ row.0) × Describes slots row i.description) object.1 told.interfaces

  -- The text tells of the object that is asked, and of all objects below it.
  abbrev pub IsText : Objects → List ℕ → Slots B → List ℕ → Type 0
  IsText objects path slots words = (told : List DescribedObject) × AllZip (TellsObject slots) (from_path objects path) told × (words ≡ introspection standing told)

  -- that text is the answer
  abbrev pub Introspects : Objects → List ℕ → Slots B → DispatchResult2 → Type 0
  Introspects objects path slots answer = (told : List DescribedObject) × AllZip (TellsObject slots) (from_path objects path) told × (answer ≡ alone (Ok (text string (introspection standing told) ∷ [])))

  -- What asking for the text gives, which is of these bytes; or why there is none: InterfaceNotFound, exactly where the tree hasn't the path.
  abbrev pub GivesText : {T : Type 0} → (T → List ℕ) → Objects → List ℕ → Slots B → Result T Failure → Type 0
  GivesText bytes objects path slots (Ok t) = IsTrue (is_some (rows_at objects path)) × IsText objects path slots (bytes t)
  GivesText bytes objects path slots (Err error) = error ≡ (if is_some (rows_at objects path) then failures.Memory else failures.InterfaceNotFound)

  -- an interface with its properties, which can be sent
  abbrev pub ManagesInterface : Slots B → List ℕ × ℕ → ManagedInterface → Type 0
  ManagesInterface slots row told = (told.name ≡ row.0) × AreSendable told.properties × (b : B) × IsKeptAt slots row.1 b × (meaning b).gets_all (state b) told.properties

  -- an object with each of its interfaces but the standard ones
  abbrev pub ManagesObject : Slots B → List ℕ × Rows → ManagedObject → Type 0
  ManagesObject slots object told = (told.path ≡ object.0) × AllZip (ManagesInterface slots) (filter (λ (row : List ℕ × ℕ). not (is_standard row.0)) object.1) told.interfaces

  -- The managed objects are all those strictly below the one that is asked.
  abbrev pub Manages : Objects → List ℕ → Slots B → DispatchResult2 → Type 0
  Manages objects path slots answer = (told : List ManagedObject) × AllZip (ManagesObject slots) (below objects path) told × (answer ≡ alone (Ok (managed_value told ∷ [])))

  -- What asking for these gives; or why there are none: InterfaceNotFound, exactly where the object tells of none below it.
  abbrev pub GivesManaged : {V : Type 0} → (V → List ManagedObject) → Objects → List ℕ → Slots B → Result V Failure → Type 0
  GivesManaged items objects path slots (Ok v) = IsTrue (is_manager objects path) × AllZip (ManagesObject slots) (below objects path) (items v)
  GivesManaged items objects path slots (Err error) = error ≡ (if is_manager objects path then failures.Memory else failures.InterfaceNotFound)

  -- ---- all of them

  -- What a standard interface answers to a call of that method, if it has it; none but `Set` changes anything.
  abbrev pub StandardAnswers : Option (List ℕ) → Objects → Option StandardMethod → MessageView → Slots B → Slots B → DispatchResult2 → Type 0
  StandardAnswers machine objects None m old new answer = (answer ≡ NotFound) × (new ≡ old)
  StandardAnswers machine objects (Some (methods.Peer method)) m old new answer = TakesNone m (λ a. a ≡ peer_answer machine method) answer × (new ≡ old)
  StandardAnswers machine objects (Some methods.Introspect) m old new answer = TakesNone m (Introspects objects (path_in m) old) answer × (new ≡ old)
  StandardAnswers machine objects (Some methods.Get) m old new answer = Gets objects m old answer × (new ≡ old)
  StandardAnswers machine objects (Some methods.Set) m old new answer = Sets objects m old new answer
  StandardAnswers machine objects (Some methods.GetAll) m old new answer = GetsAll objects m old answer × (new ≡ old)
  StandardAnswers machine objects (Some methods.GetManagedObjects) m old new answer = TakesNone m (Manages objects (path_in m) old) answer × (new ≡ old)
