-- What the code calls what is reached; whether a slot keeps an interface; and calls that may change the one that is kept.
use Rattle.std.specs.Prelude.{◌≡◌, ℕ, Bool, true, false, Option, Some, List, Result, Ok, Err, slice_get, ⊤}
use Rattle.wire_message.specs.declared.error.Error.{Error}
use Rattle.wire_message.specs.declared.error.Error.TheVariants as errors
use Rattle.object_interface.specs.Sending.{IsSendableError}
use Rattle.peer_objects.specs.Serving.{Slots, Reference}
use Rattle.peer_objects.specs.Dispatching.{Target}
use Rattle.peer_objects.specs.declared.target.Target.{Target as Found}
use Rattle.peer_objects.specs.declared.target.Target.TheVariants as found

-- what was found
abbrev pub target_of : Found → Target
target_of (found.Nothing error) = Target.Nothing error
target_of (found.Standard interface) = Target.Standard interface
target_of (found.Slot slot) = Target.Slot slot

-- the error, where nothing was found, can be sent
abbrev pub IsSayable : Found → Type 0
IsSayable (found.Nothing error) = IsSendableError error
IsSayable other = ⊤

-- what is looked up in the slots is an interface
abbrev pub is_kept : {B : Type 0} → Option (Option B) → Bool
is_kept (Some (Some b)) = true
is_kept other = false

-- where it is an interface in a slot, one is kept there
abbrev pub is_held : {B : Type 0} → Slots B → Found → Bool
is_held slots (found.Slot slot) = is_kept (slice_get slots slot)
is_held slots other = true

-- What lending an interface gives that is meant, so that it may be changed: its slot, which keeps one; or InterfaceNotFound, exactly
-- where it keeps none.
abbrev pub LendsMut : {B D : Type 0} → (D → ℕ) → Slots B → Reference → Result D Error → Type 0
LendsMut slot slots reference (Ok lent) = (slot lent ≡ reference.slot) × (is_kept (slice_get slots reference.slot) ≡ true)
LendsMut slot slots reference (Err error) = (error ≡ errors.InterfaceNotFound) × (is_kept (slice_get slots reference.slot) ≡ false)
