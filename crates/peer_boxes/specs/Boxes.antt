-- What the program's own interfaces mean.
use Rattle.std.specs.Prelude.{◌≡◌, ◌+◌, ◌==◌, ◌^◌, ◌-◌, ℕ, true, false, if◌then◌else◌, List, [], ◌∷◌, ◌++◌, codes, decimal, Option, None, Some, Result, Ok}
use Rattle.wire_signature.specs.SingleType.{basic}
use Rattle.wire_signature.specs.declared.basic.BasicType.TheVariants as basics
use Rattle.wire_tree.specs.Datum.{Datum, num, uint32, text, string}
use Rattle.wire_argument.specs.Kinds.{text_in}
use Rattle.wire_body.specs.Chained.{first_of}
use Rattle.wire_message.specs.Front.{MessageView}
use Rattle.wire_message.specs.declared.fdo_kind.Kind.{Kind}
use Rattle.wire_message.specs.declared.fdo.Error.{Error}
use Rattle.object_interface.specs.Arguments.{IsBody, IsNoBody}
use Rattle.object_interface.specs.Describing.{argument, method, property, nothing}
use Rattle.object_interface.specs.Errors.{alone, fails, invalid}
use Rattle.object_interface.specs.Meaning.{Meaning}
use Rattle.object_interface.specs.declared.answer.DispatchResult2.{DispatchResult2}
use Rattle.object_interface.specs.declared.answer.DispatchResult2.TheVariants.{NotFound, RequiresMut, Done}
use Rattle.object_interface.specs.declared.description.Description.{Description}
use Rattle.object_interface.specs.declared.description.Access.TheVariants.{Read, ReadWrite}
use Rattle.object_standard.specs.Properties.{changed_signal}
use Rattle.object_tree.specs.Texts.{is_same}

-- ---- interfaces that are nothing but a name

abbrev pub empty : List ℕ → Meaning
empty name = record {
  title = name;
  gets = λ s p r. r ≡ None;
  gets_all = λ s ps. ps ≡ [];
  sets = λ s p v r t. (t ≡ s) × (r ≡ NotFound);
  calls = λ s m n r. r ≡ NotFound;
  calls_mut = λ s m n r t. (t ≡ s) × (r ≡ NotFound);
  describes = λ s d. d ≡ nothing;
}

-- ---- the greeter

-- how often it was called, with this call: the count stays at the greatest number of 64 bits
abbrev pub next_count : ℕ → ℕ
next_count n = if n == 2 ^ 64 - 1 then n else n + 1

-- what it says
abbrev pub greeting : List ℕ → ℕ → List ℕ
greeting name count = codes "Hello " ++ (name ++ (codes "! I have been called " ++ (decimal count ++ codes " times.")))

-- the reply is that string
abbrev pub says : List ℕ → DispatchResult2
says said = alone (Ok (text string said ∷ []))

-- Its method `SayHello` takes a name, counts, and greets; what isn't one name is refused, and nothing counted. It has no other method.
pub data GreeterAnswers (state : List ℕ) (m : MessageView) (member : List ℕ) (r : DispatchResult2) (later : List ℕ) : Type 0 where
  Greets : (values : List Datum) (count : ℕ) → is_same member (codes "SayHello") ≡ true → IsBody m (basic basics.String ∷ []) values → state ≡ count ∷ []
      → later ≡ next_count count ∷ [] → r ≡ says (greeting (text_in (first_of values)) (next_count count)) → GreeterAnswers state m member r later
  Refuses : is_same member (codes "SayHello") ≡ true → IsNoBody m (basic basics.String ∷ []) → later ≡ state → r ≡ invalid → GreeterAnswers state m member r later
  HasNone : is_same member (codes "SayHello") ≡ false → later ≡ state → r ≡ NotFound → GreeterAnswers state m member r later

-- what introspection tells of it
abbrev pub greeter_description : Description
greeter_description = record nothing {
  methods = method (codes "SayHello") (argument (codes "name") (basic basics.String) ∷ []) (record { name = None; ty = basic basics.String } ∷ []) ∷ [];
}

abbrev pub greeter : Meaning
greeter = record (empty (codes "org.zbus.MyGreeter1")) {
  calls = λ s m n r. r ≡ (if is_same n (codes "SayHello") then RequiresMut else NotFound);
  calls_mut = GreeterAnswers;
  describes = λ s d. d ≡ greeter_description;
}

-- ---- the object with one property

-- its property `Test` can't be set
pub data TestSets (state property : List ℕ) (r : DispatchResult2) (later : List ℕ) : Type 0 where
  ReadOnly : is_same property (codes "Test") ≡ true → later ≡ state → r ≡ fails Kind.PropertyReadOnly (codes "Property 'Test' is read-only") → TestSets state property r later
  HasNone : is_same property (codes "Test") ≡ false → later ≡ state → r ≡ NotFound → TestSets state property r later

-- its property `Test` is a text
pub data TestGets (property : List ℕ) (r : Option (Result Datum Error)) : Type 0 where
  Test : is_same property (codes "Test") ≡ true → r ≡ Some (Ok (text string (codes "test"))) → TestGets property r
  HasNone : is_same property (codes "Test") ≡ false → r ≡ None → TestGets property r

abbrev pub test_description : Description
test_description = record nothing { properties = property (codes "Test") (basic basics.String) Read ∷ [] }

abbrev pub test_object : Meaning
test_object = record (empty (codes "org.zbus.TestObj")) {
  gets = λ s p r. TestGets p r;
  gets_all = λ s ps. ps ≡ (codes "Test", text string (codes "test")) ∷ [];
  sets = λ s p v r t. TestSets s p r t;
  describes = λ s d. d ≡ test_description;
}

-- ---- the level

-- its properties: the level alone
abbrev pub level_properties : ℕ → List (List ℕ × Datum)
level_properties value = (codes "Value", num uint32 value) ∷ []

-- setting it sends PropertiesChanged with the level, and then an empty reply
abbrev pub level_set : ℕ → DispatchResult2
level_set value =
    Done (record { result = Ok []; before = changed_signal (codes "org.zbus.Level") (level_properties value) [] ∷ []; after = []; notifier = None })

-- its property `Value` is the level
pub data LevelGets (state property : List ℕ) (r : Option (Result Datum Error)) : Type 0 where
  Level : (value : ℕ) → is_same property (codes "Value") ≡ true → state ≡ value ∷ [] → r ≡ Some (Ok (num uint32 value)) → LevelGets state property r
  HasNone : is_same property (codes "Value") ≡ false → r ≡ None → LevelGets state property r

-- the level that a value is, where it is a number of that type
abbrev pub level_in : Datum → Option ℕ
level_in (num uint32 value) = Some value
level_in other = None

-- It is set to a number of its type; another value is refused, and sets nothing.
pub data LevelSets (state property : List ℕ) (v : Datum) (r : DispatchResult2) (later : List ℕ) : Type 0 where
  Sets : (value : ℕ) → is_same property (codes "Value") ≡ true → level_in v ≡ Some value → later ≡ value ∷ [] → r ≡ level_set value → LevelSets state property v r later
  Refuses : is_same property (codes "Value") ≡ true → level_in v ≡ None → later ≡ state → r ≡ invalid → LevelSets state property v r later
  HasNone : is_same property (codes "Value") ≡ false → later ≡ state → r ≡ NotFound → LevelSets state property v r later

-- Its method `Fail` takes nothing and fails.
pub data LevelAnswers (state : List ℕ) (m : MessageView) (member : List ℕ) (r : DispatchResult2) (later : List ℕ) : Type 0 where
  Fails : is_same member (codes "Fail") ≡ true → IsBody m [] [] → later ≡ state → r ≡ fails Kind.Failed (codes "failed") → LevelAnswers state m member r later
  Refuses : is_same member (codes "Fail") ≡ true → IsNoBody m [] → later ≡ state → r ≡ invalid → LevelAnswers state m member r later
  HasNone : is_same member (codes "Fail") ≡ false → later ≡ state → r ≡ NotFound → LevelAnswers state m member r later

-- what introspection tells of it
abbrev pub level_description : Description
level_description = record nothing {
  methods = method (codes "Fail") [] [] ∷ [];
  properties = property (codes "Value") (basic basics.Uint32) ReadWrite ∷ [];
}

abbrev pub level : Meaning
level = record {
  title = codes "org.zbus.Level";
  gets = LevelGets;
  gets_all = λ s ps. (value : ℕ) × (s ≡ value ∷ []) × (ps ≡ level_properties value);
  sets = LevelSets;
  calls = λ s m n r. LevelAnswers s m n r s;
  calls_mut = LevelAnswers;
  describes = λ s d. d ≡ level_description;
}
