-- Dictionaries `a{sv}`, in which a message bus describes itself (D-Bus Specification, "Message Bus Messages"), and what
-- their keys say.
use Rattle.std.specs.Prelude.{◌≡◌, true, ℕ, List, [], ◌∷◌, bytes_eq, map, not, reverse}
use Rattle.std.specs.Prelude.{Option, Some, None, option_map, option_and_then, Result, Ok, Err}
use Rattle.std.specs.List.{AllByRecursion, filter, list_any}
use Rattle.std.specs.Map.{lookup}
use Rattle.wire_signature.specs.SingleType.{SingleType}
use Rattle.wire_signature.specs.declared.error.VariantError.TheVariants as faults
use Rattle.wire_tree.specs.Datum.{Datum, type_of, num, uint32}
use Rattle.wire_argument.specs.Kinds.{bits_in, text_in, elements_in}
use Rattle.wire_message.specs.declared.error.Error.{Error}
use Rattle.wire_message.specs.declared.error.Error.TheVariants as errors

-- the keys of a dictionary in their order, each with its value
abbrev pub Entries : Type 0
Entries = List (List ℕ × Datum)

-- ---- what a key says

-- the value of the last entry that has the key
abbrev pub last_under : List ℕ → Entries → Option Datum
last_under key dict = lookup (λ name. bytes_eq name key) (reverse dict)

-- a number, if the value is a UINT32
abbrev pub count_of : Datum → Option ℕ
count_of (num uint32 count) = Some count
count_of value = None

-- the number of a key
abbrev pub count_under : List ℕ → Entries → Option ℕ
count_under key dict = option_and_then count_of (last_under key dict)

-- the number of a key, which is known to be of a type of numbers
abbrev pub number_under : List ℕ → Entries → Option ℕ
number_under key dict = option_map bits_in (last_under key dict)

-- the text of a key, which is known to be of the type STRING
abbrev pub text_under : List ℕ → Entries → Option (List ℕ)
text_under key dict = option_map text_in (last_under key dict)

-- the numbers of a list
abbrev pub numbers_in : Datum → List ℕ
numbers_in value = map bits_in (elements_in value)

-- the numbers of a key, which is known to be of a type of lists of numbers
abbrev pub numbers_under : List ℕ → Entries → Option (List ℕ)
numbers_under key dict = option_map numbers_in (last_under key dict)

-- the entries that have none of the keys
abbrev pub others : List (List ℕ) → Entries → Entries
others keys dict = filter (λ entry. not (list_any (bytes_eq entry.0) keys)) dict

-- ---- types

-- each entry that has one of the keys is of the type
abbrev pub AreOf : SingleType → List (List ℕ) → Entries → Type 0
AreOf kind keys dict = AllByRecursion (λ entry. list_any (bytes_eq entry.0) keys ≡ true → type_of entry.1 ≡ kind) dict

-- ---- what is read

-- what a key says, seen by `read`: SignatureMismatch exactly where an entry that has the key is of another type
abbrev pub TellsField : {A : Type 0} → (Datum → A) → SingleType → Entries → List ℕ → Result (Option A) Error → Type 0
TellsField read kind dict key (Ok field) = (field ≡ option_map read (last_under key dict)) × AreOf kind (key ∷ []) dict
TellsField read kind dict key (Err (errors.Variant faults.SignatureMismatch)) = AreOf kind (key ∷ []) dict → ⊥
TellsField read kind dict key (Err errors.Memory) = Unit {0}
TellsField read kind dict key (Err error) = ⊥

-- what was read, seen by `view`
abbrev pub seen : {A B : Type 0} → (A → B) → Result (Option A) Error → Result (Option B) Error
seen view (Ok field) = Ok (option_map view field)
seen view (Err error) = Err error

-- what a whole dictionary says: SignatureMismatch exactly where an entry is of another type than its key
abbrev pub TellsDict : {A : Type 0} → (A → Type 0) → Type 0 → Result A Error → Type 0
TellsDict IsRead AreTyped (Ok read) = IsRead read × AreTyped
TellsDict IsRead AreTyped (Err (errors.Variant faults.SignatureMismatch)) = AreTyped → ⊥
TellsDict IsRead AreTyped (Err errors.Memory) = Unit {0}
TellsDict IsRead AreTyped (Err error) = ⊥
