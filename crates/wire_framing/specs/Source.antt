-- What a source of bytes answers, over what it tells of itself before and after the call.
use Rattle.std.specs.Prelude.{ℕ, ◌≡◌, ◌≢◌, ◌+◌, ◌-◌, max, ◌<◌, ◌≤◌, ◌^◌, ◌⊎◌, Bool, true, List, [], length, take, Option, Some, None, Result, Ok, Err}
use Rattle.std.specs.Io.KnownBytes.{Consumes, Keeps, IsAtEnd}
use Rattle.wire_framing.specs.Views.{SourceView}

-- A count rose, or stands at its greatest value, where it stays.
abbrev pub MayRise : ℕ → ℕ → Type 0
MayRise old new = (old < new) ⊎ ((old ≡ 2 ^ 64 - 1) × (new ≡ 2 ^ 64 - 1))

-- Nothing comes any more: no byte is left where that is told, and no failing call comes where that is told.
abbrev pub IsEnd : Option (List ℕ) → Option Bool → Type 0
IsEnd left stop = IsAtEnd left × (stop ≢ Some true)

-- A call failed. A source that tells of its failing call fails only there, behind its last byte, and tells nothing from
-- then on; another stays as it was.
abbrev pub FailsAt : Option Bool → Option Bool → Option (List ℕ) → Option (List ℕ) → Type 0
FailsAt None stop' left left' = (stop' ≡ None) × Keeps left left'
FailsAt (Some stop) stop' left left' = (stop ≡ true) × (left ≡ Some []) × (stop' ≡ None) × (left' ≡ None)

-- What `read` of a buffer answers. Ok(n): n bytes stand at its front, and are left no more; none only at the end, or
-- where the buffer has no room. Failed only where the count of faults rose. That count never falls.
abbrev pub Reads : {E : Type 0} → Result ℕ E → List ℕ → SourceView → SourceView → Type 0
Reads (Ok n) buf old new =
    (n ≤ length buf) × Consumes old.left new.left (take n buf) × (n ≡ 0 → 0 < length buf → IsEnd new.left old.stop)
    × (new.stop ≡ old.stop) × (old.faults ≤ new.faults)
Reads (Err e) buf old new = FailsAt old.stop new.stop old.left new.left × MayRise old.faults new.faults

-- a count, where it is told, grew by at most n
abbrev pub GrowsBy : Option ℕ → Option ℕ → ℕ → Type 0
GrowsBy None count' n = Unit {0}
GrowsBy (Some count) None n = ⊥
GrowsBy (Some count) (Some count') n = count' ≤ count + n

-- A source that tells how often it was asked, was asked at most n times more.
abbrev pub Asks : SourceView → SourceView → ℕ → Type 0
Asks old new n = GrowsBy old.asked new.asked n

-- a width, where it is told, is at most what it was, or n
abbrev pub GrowsTo : Option ℕ → Option ℕ → ℕ → Type 0
GrowsTo None width' n = Unit {0}
GrowsTo (Some width) None n = ⊥
GrowsTo (Some width) (Some width') n = width' ≤ max width n

-- A source that tells the widest buffer that a read had, got none wider than that or than n bytes.
abbrev pub Widens : SourceView → SourceView → ℕ → Type 0
Widens old new n = GrowsTo old.widest new.widest n
