use Rattle.std.proofs.Common.{arith}
use Rattle.wire_number.specs.ReaderView.{cursor_of}
use Rattle.wire_number.proofs.Steps.{bytes_from}
use Rattle.wire_signature.specs.SingleType.{SingleType, IsType}
use Rattle.wire_encoding.specs.Promises.{StandsFirst}
use Rattle.wire_encoding.proofs.Exact.{first_is_type, long_first, no_first, encodes_type, walked_from, walked_nothing}
use Rattle.wire_encoding.proofs.skipping.skip_by_text.Goals as goal

pub returns-in_err-first_type-clause-none : goal.returns-in_err-first_type-clause-none
returns-in_err-first_type-clause-none c = rw c.from_residual.ensures (no_first _ _ _ _ c.in_err-first_type.ensures.none)

pub returns-then-branch-gt-MAX_LENGTH-clause-none : goal.returns-then-branch-gt-MAX_LENGTH-clause-none
returns-then-branch-gt-MAX_LENGTH-clause-none c =
    long_first _ _ _ _ c.in_ok-first_type.field-0 c.in_ok-first_type.ensures.found c.if-branch-gt-MAX_LENGTH.true

pub returns-in_err-after-clause-none : goal.returns-in_err-after-clause-none
returns-in_err-after-clause-none c =
    rw c.from_residual-in_err-after.ensures (walked_nothing _ _ _ _ _ c.new-reader.ensures c.in_err-after.ensures)

pub overflow_sub-result : goal.overflow_sub-result
overflow_sub-result c =
    let b = c.in_ok-first_type.ensures.found in
    (walked_from _ _ b.first _ _ (cursor_of c.new-reader.result) (c.in_ok-after.field-0-0.now, cursor_of c.in_ok-after.after) c.new-reader.ensures
    (first_is_type _ _ b (omega arith)) (b.rest, b.text) (bytes_from c.args.bytes.now (λ i. omega (arith, c.type_inv.bytes i))) c.in_ok-after.ensures).1.before

pub returns : goal.returns
returns c =
    let b = c.in_ok-first_type.ensures.found in
    let over = λ (t : SingleType) (valid : IsType t) (first : StandsFirst t c.args.types.now).
    walked_from _ _ t _ _ (cursor_of c.new-reader.result) (c.in_ok-after.field-0-0.now, cursor_of c.in_ok-after.after) c.new-reader.ensures
    valid first (bytes_from c.args.bytes.now (λ i. omega (arith, c.type_inv.bytes i))) c.in_ok-after.ensures in
    let k = over b.first (first_is_type _ _ b (omega arith)) (b.rest, b.text) in record {
      found = (b.first, k.0, (b.rest, b.text), k.1.found);
      within = k.1.within;
      only = λ t first d front rest s e. ((over t (encodes_type _ _ t d front s) first).1.only d front rest s e).1;
      none = tt;
    }
