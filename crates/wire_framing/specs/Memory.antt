-- What pieces in memory, a source of them and a sink in memory tell.
use Rattle.std.specs.Prelude.{ℕ, ◌≡◌, refl, min, Bool, true, false, ◌==◌, if◌then◌else◌, List, [], ◌∷◌, ◌++◌, length, take, Option, Some, None, Result, Ok, Err}
use Rattle.wire_framing.specs.Views.{SourceView, SinkView}
use Rattle.wire_framing.specs.declared.memory.Piece.{Piece}
use Rattle.wire_framing.specs.declared.memory.Piece.TheVariants.{Bytes, Fault}
use Rattle.wire_framing.specs.declared.memory.MemorySource.{MemorySource}
use Rattle.wire_framing.specs.declared.memory.MemorySink.{MemorySink}

-- the bytes before the first failing call, or before the end
abbrev pub told_bytes : List Piece → List ℕ
told_bytes [] = []
told_bytes (Bytes v ∷ pieces) = v.items ++ told_bytes pieces
told_bytes (Fault ∷ pieces) = []

-- whether a call is to fail
abbrev pub told_stop : List Piece → Bool
told_stop [] = false
told_stop (Bytes v ∷ pieces) = told_stop pieces
told_stop (Fault ∷ pieces) = true

-- What a source over pieces tells: its bytes and whether a call is to fail, both until its first failed call; and its counts.
abbrev pub source_view : MemorySource → SourceView
source_view s = record {
  left = if s.faults == 0 then Some (s.piece.now ++ told_bytes s.pieces.now) else None;
  stop = if s.faults == 0 then Some (told_stop s.pieces.now) else None;
  faults = s.faults;
  asked = Some s.asked;
  widest = Some s.widest;
}

-- What is told together is told of no more together.
pub told_of_no_more : (b : Bool) (bytes : List ℕ) (stop : Bool) → (if b then Some bytes else None) ≡ None → (if b then Some stop else None) ≡ None
told_of_no_more true bytes stop e = cc
told_of_no_more false bytes stop e = refl

-- The piece of which the next read gives bytes: what is left of the last one, or else the first that isn't empty. It is
-- empty at the end, and None where a failing call comes first.
abbrev pub next_piece : List ℕ → List Piece → Option (List ℕ)
next_piece (byte ∷ bytes) pieces = Some (byte ∷ bytes)
next_piece [] [] = Some []
next_piece [] (Bytes v ∷ pieces) = next_piece v.items pieces
next_piece [] (Fault ∷ pieces) = None

-- What a read into a buffer answers, by the piece that comes next: as many of its bytes as the buffer has room for.
abbrev pub ReadsPiece : {E : Type 0} → Result ℕ E → List ℕ → Option (List ℕ) → Type 0
ReadsPiece (Ok n) buf (Some bytes) = (n ≡ min (length buf) (length bytes)) × (take n buf ≡ take n bytes)
ReadsPiece (Ok n) buf None = ⊥
ReadsPiece (Err e) buf (Some bytes) = ⊥
ReadsPiece (Err e) buf None = Unit {0}

-- what a sink in memory tells
abbrev pub sink_view : MemorySink → SinkView
sink_view s = record { held = Some s.bytes.items; room = Some s.room; faults = s.faults; closes = Some s.closes }
