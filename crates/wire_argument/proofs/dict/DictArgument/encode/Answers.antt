use Rattle.std.proofs.Common.{map, refl, subst, sym}
use Rattle.std.proofs.lemmas.Result.{err_from_is_err_and}
use Rattle.wire_tree.specs.Datum.{AreWellTyped, entries_of, entry_type}
use Rattle.wire_encoding.specs.Encoding.{encoding, ArraysFit}
use Rattle.wire_codec.proofs.Writes.{elements_well_typed, array_written, opening_refused, stays_open}
use Rattle.wire_argument.specs.Kinds.{both}
use Rattle.wire_argument.proofs.dict.DictArgument.encode.Goals as goal

pub returns-in_err-array : goal.returns-in_err-array
unfolding encoding ArraysFit
returns-in_err-array g c =
    let p = err_from_is_err_and c.from_residual.result c.from_residual.ensures.1 in
    rw (p.1, p.2)
    (opening_refused _ (entry_type g.K.Key.basic g.V.Argument.kind) 8 (entries_of (map (both g.K.Argument.datum g.V.Argument.datum) c.args.self.now)) _ _ refl c.in_err-array.ensures)

pub encode_entries-written-requires : goal.encode_entries-written-requires
encode_entries-written-requires g c =
    record {
      well_typed = subst (λ es. AreWellTyped (entries_of (map (both g.K.Argument.datum g.V.Argument.datum) es))) (sym c.as_slice.ensures)
          (elements_well_typed (entry_type g.K.Key.basic g.V.Argument.kind) _ c.requires.well_typed);
    }

pub close_array-requires : goal.close_array-requires
close_array-requires g c = stays_open _ _ _ _ c.in_ok-array.ensures _ _ _ _ c.encode_entries-written.ensures

pub returns : goal.returns
unfolding encoding ArraysFit
returns g c =
    array_written _ (entry_type g.K.Key.basic g.V.Argument.kind) 8 (entries_of (map (both g.K.Argument.datum g.V.Argument.datum) c.args.self.now)) _ _ _ _ _ refl c.in_ok-array.ensures
    (rw c.as_slice.ensures at c.encode_entries-written.ensures) c.close_array.ensures
