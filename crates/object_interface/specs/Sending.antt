-- What an object may give (D-Bus Specification, "Valid Signatures", "Type System").
use Rattle.std.specs.Prelude.{ℕ, ◌≤◌, nat_lt, Bool, IsTrue, List, Option, None, Some, Result, Ok, Err, IfErr}
use Rattle.std.specs.List.{AllByRecursion, list_all}
use Rattle.wire_tree.specs.Datum.{Datum, data_of}
use Rattle.wire_encoding.specs.Encoding.{depth, depths}
use Rattle.wire_message.specs.FdoErrors.{reply_text}
use Rattle.wire_message.specs.declared.fdo.Error.{Error}
use Rattle.object_interface.specs.declared.answer.Signal.{Signal}
use Rattle.object_interface.specs.declared.answer.DispatchResult2.{DispatchResult2}
use Rattle.object_interface.specs.declared.answer.DispatchResult2.TheVariants.{Done}

-- how many containers a value that an object gives may open at once; around it stand those of the answer that tells it
abbrev pub most_open : ℕ
most_open = 56

-- the values of a body open no more
abbrev pub AreShallow : List Datum → Type 0
AreShallow values = depths (data_of values) ≤ most_open

-- a text holds no 0 byte, which ends a string (D-Bus Specification, "Marshaling (Wire Format)")
abbrev pub has_no_zero : List ℕ → Bool
has_no_zero bytes = list_all (nat_lt 0) bytes

-- an error can be sent: its text holds no 0 byte
abbrev pub IsSendableError : Error → Type 0
IsSendableError error = IsTrue (has_no_zero (reply_text error))

-- a reply opens no more containers, or the error can be sent
abbrev pub IsSendableResult : Result (List Datum) Error → Type 0
IsSendableResult (Ok values) = AreShallow values
IsSendableResult (Err error) = IsSendableError error

-- an answer can be sent, with its signals
abbrev pub IsSendable : DispatchResult2 → Type 0
IsSendable (Done d) =
    IsSendableResult d.result × AllByRecursion (λ (s : Signal). AreShallow s.body) d.before × AllByRecursion (λ (s : Signal). AreShallow s.body) d.after
IsSendable answer = Unit {0}

-- the error of an answer can be sent, where it is one
abbrev pub HasSendableError : DispatchResult2 → Type 0
HasSendableError (Done d) = IfErr d.result IsSendableError
HasSendableError answer = Unit {0}

-- a property's value can be sent, or the error in its place
abbrev pub IsSendableValue : Option (Result Datum Error) → Type 0
IsSendableValue None = Unit {0}
IsSendableValue (Some (Ok value)) = depth value ≤ most_open
IsSendableValue (Some (Err error)) = IsSendableError error

-- properties can be sent: no name of one holds a 0 byte
abbrev pub AreSendable : List (List ℕ × Datum) → Type 0
AreSendable properties = AllByRecursion (λ (p : List ℕ × Datum). IsTrue (has_no_zero p.0) × (depth p.1 ≤ most_open)) properties
