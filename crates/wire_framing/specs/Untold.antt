-- What a source or a sink tells that tells nothing of its bytes.
use Rattle.std.specs.Prelude.{ℕ, ◌≡◌, Bool, false, Option, Some, None}
use Rattle.std.specs.Borrow.{GName}
use Rattle.wire_framing.specs.Views.{SourceView, SinkView}

-- a source that tells nothing, and never fails
abbrev pub untold_source : SourceView
untold_source = record { left = None; stop = None; faults = 0; asked = None; widest = None }

-- a sink that tells only how often it was asked to close, and never fails
abbrev pub untold_sink : ℕ → SinkView
untold_sink closes = record { held = None; room = None; faults = 0; closes = Some closes }

-- it is no lent one
abbrev pub no_name : Option GName
no_name = None

-- an end of a connection within the process of which no read came to the end, and which wasn't closed
abbrev pub IsNew : Bool → ℕ → Type 0
IsNew over closes = (over ≡ false) × (closes ≡ 0)
