use Rattle.std.proofs.Common.{◌≡◌, arith, map, refl, sym, ◌∙◌}
use Rattle.wire_tree.specs.Datum.{array, dict, struct, data_of, entries_of}
use Rattle.wire_tree.specs.DatumView.{datum_of, pair_of}
use Rattle.wire_tree.proofs.Lists.{lists-same, structs-one, arrays-one, dicts-one, seen-item}
use Rattle.wire_tree.proofs.Parts.{size_item, size_pair}
use Rattle.wire_tree.proofs.same.+same.Goals as goal

pub are_same-is_same-requires : goal.are_same-is_same-requires
are_same-is_same-requires t c =
    (omega (arith, size_item c.args.trees.now c.loop-i.i c.index-trees-i.result c.loop-i-test.true c.index-trees-i.is), tt)

pub are_same-returns-then-not-is_same : goal.are_same-returns-then-not-is_same
are_same-returns-then-not-is_same t c = (
  λ h. absurd (cc),
  λ e. sym c.if-not-is_same.true ∙ c.is_same.ensures.1
      (seen-item datum_of datum_of c.args.trees.now c.args.others.now c.loop-i.i c.index-trees-i.result c.index-others-i.result e c.loop-i-test.true c.index-trees-i.is c.index-others-i.is),
)

pub are_same_pairs-is_same_pair-requires : goal.are_same_pairs-is_same_pair-requires
are_same_pairs-is_same_pair-requires t c =
    (omega (arith, size_pair c.args.pairs.now c.loop-i.i c.index-pairs-i.result c.loop-i-test.true c.index-pairs-i.is), tt)

pub are_same_pairs-returns-then-not-is_same_pair : goal.are_same_pairs-returns-then-not-is_same_pair
are_same_pairs-returns-then-not-is_same_pair t c = (
  λ h. absurd (cc),
  λ e. sym c.if-not-is_same_pair.true ∙ c.is_same_pair.ensures.1
      (seen-item pair_of pair_of c.args.pairs.now c.args.others.now c.loop-i.i c.index-pairs-i.result c.index-others-i.result e c.loop-i-test.true c.index-pairs-i.is c.index-others-i.is),
)

pub is_same-returns-then-is_same_type : goal.is_same-returns-then-is_same_type
is_same-returns-then-is_same_type t c =
    let k : c.in-Array-Array.x ≡ c.in-Array-Array.y = c.if-is_same_type.ensures.0 refl in
    let d : array c.in-Array-Array.x (data_of (map datum_of c.as_slice.result.now)) ≡ datum_of c.args.tree.now = grind arith in
    let e : array c.in-Array-Array.x (data_of (map datum_of c.as_slice-then-is_same_type.result.now)) ≡ datum_of c.args.other.now = grind arith in
    lists-same (λ ds. array c.in-Array-Array.x (data_of ds)) (arrays-one c.in-Array-Array.x) c.are_same.result _ _ _ _ d e c.are_same.ensures

pub is_same-returns-in-Struct-Struct : goal.is_same-returns-in-Struct-Struct
is_same-returns-in-Struct-Struct t c =
    let d : struct (data_of (map datum_of c.as_slice-in-Struct-Struct.result.now)) ≡ datum_of c.args.tree.now = grind arith in
    let e : struct (data_of (map datum_of c.as_slice-in-Struct-Struct-2.result.now)) ≡ datum_of c.args.other.now = grind arith in
    lists-same (λ ds. struct (data_of ds)) structs-one c.are_same-in-Struct-Struct.result _ _ _ _ d e c.are_same-in-Struct-Struct.ensures

pub is_same-returns-then-is_same_entry_type : goal.is_same-returns-then-is_same_entry_type
is_same-returns-then-is_same_entry_type t c =
    let k : (c.in-Dict-Dict.key ≡ c.in-Dict-Dict.other_key) × (c.in-Dict-Dict.value ≡ c.in-Dict-Dict.other_value) = c.if-is_same_entry_type.ensures.0 refl in
    let p = k.0 in let q = k.1 in
    let d : dict c.in-Dict-Dict.key c.in-Dict-Dict.value (entries_of (map pair_of c.as_slice-then-is_same_entry_type.result.now)) ≡ datum_of c.args.tree.now = grind arith in
    let e : dict c.in-Dict-Dict.key c.in-Dict-Dict.value (entries_of (map pair_of c.as_slice-then-is_same_entry_type-2.result.now)) ≡ datum_of c.args.other.now = grind arith in
    lists-same (λ es. dict c.in-Dict-Dict.key c.in-Dict-Dict.value (entries_of es)) (dicts-one c.in-Dict-Dict.key c.in-Dict-Dict.value) c.are_same_pairs.result _ _ _ _ d e
    c.are_same_pairs.ensures
