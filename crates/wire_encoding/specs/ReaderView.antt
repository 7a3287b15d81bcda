-- What contracts see of a call that takes memory.
use Rattle.std.specs.Prelude.{◌≡◌, Option, Some, None, Result, Ok, Err}
use Rattle.wire_signature.specs.declared.error.VariantError.{VariantError}
use Rattle.wire_signature.specs.declared.error.VariantError.TheVariants as errors

-- A refusal says that nothing was found. Want of memory tells nothing.
abbrev pub Refuses : {Y : Type 0} → VariantError → Option Y → Type 0
Refuses errors.Malformed found = found ≡ None
Refuses errors.Memory found = Unit {0}
Refuses e found = ⊥

-- Seen by `view`, what a call that takes memory returned is what reading finds.
abbrev pub Gives : {X Y : Type 0} → (X → Y) → Result X VariantError → Option Y → Type 0
Gives view (Ok x) found = found ≡ Some (view x)
Gives view (Err e) found = Refuses e found
