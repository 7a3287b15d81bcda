use Rattle.std.proofs.Common.{◌≡◌, ℕ, suc, Some}
use Rattle.wire_number.specs.declared.endian.Endian.{Endian}
use Rattle.wire_number.specs.Reading.{Cursor}
use Rattle.wire_number.specs.ReaderView.{cursor_of}
use Rattle.wire_number.proofs.Steps.{AreBytes, bytes_from}
use Rattle.wire_signature.specs.SingleType.{variant as any}
use Rattle.wire_tree.specs.Datum.{Datum, variant, IsValid}
use Rattle.wire_tree.specs.DatumView.{datum_of}
use Rattle.wire_encoding.specs.Reading.{variant_at, value_at}
use Rattle.wire_encoding.proofs.FoundValues.{IsValue, value_takes}
use Rattle.wire_codec.proofs.read.read_inner.Goals as goal

-- what a variant holds is a value that a message may hold
held_valid : (room : ℕ) (order : Endian) (c : Cursor) (d : Datum) (after : Cursor) → AreBytes c.rest → variant_at (value_at room order) order c ≡ Some (variant d, after) → IsValid d
unfolding value_at
held_valid room order c d after low e =
    let v : IsValue (suc room) order any c (variant d, after) = value_takes (suc room) order any c (variant d, after) e low in
    record { type = v.well_typed.1; well_typed = v.well_typed.0 }

pub from_valid-requires : goal.from_valid-requires
from_valid-requires c =
    held_valid c.args.room c.args.order (cursor_of c.args.reader) (datum_of c.in_ok-tree.tree) (cursor_of c.in_ok-tree.after) (bytes_from c.args.reader.rest.now c.are_bytes.ensures) c.in_ok-tree.ensures
