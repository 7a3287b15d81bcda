-- What tells a rule's sender from another: its kind and its text (D-Bus Specification, "Valid Names", "Bus names"),
-- since the text of the bus's own name is of both kinds.
use Rattle.std.specs.Prelude.{ℕ, Bool, nat_eq, List, [], ◌∷◌, ◌++◌}
use Rattle.std.specs.Cmp.Lexicographic.{pointwise}
use Rattle.std.specs.Hash as fed
use Rattle.std.specs.Hash.{Alike, HashWrites, on_Alike, same_Alike}
use Rattle.std.proofs.lemmas.Slice.Eq.{bytes_eq-Decides}
use Rattle.wire_names.specs.declared.bus.OwnedBusName.{OwnedBusName}
use Rattle.wire_names.specs.declared.bus.OwnedBusName.TheVariants.{Unique, WellKnown}

-- the kind, and behind it the text
abbrev pub key_of : OwnedBusName → List ℕ
key_of (Unique text) = 0 ∷ text
key_of (WellKnown text) = 1 ∷ text

-- two senders are one: of one kind, and with one text
abbrev pub same_sender : OwnedBusName → OwnedBusName → Bool
same_sender name other = pointwise nat_eq (key_of name) (key_of other)

-- a kind and a text, each fed by itself
abbrev pub key_fed : List ℕ → HashWrites
key_fed [] = []
key_fed (kind ∷ text) = fed.u8 kind ++ fed.str text

-- A hash is fed alike of two senders that are one.
pub sender_alike : Alike same_sender (λ name. key_fed (key_of name))
sender_alike = on_Alike key_of (same_Alike key_fed bytes_eq-Decides)
