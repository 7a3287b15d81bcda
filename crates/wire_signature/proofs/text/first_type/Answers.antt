use Rattle.std.proofs.Common.{◌≡◌, Some, None, sym}
use Rattle.wire_signature.specs.Parsing.{first_length}
use Rattle.wire_signature.proofs.Exact.{begins, begins_again, first_length-none, first_length-rest}
use Rattle.wire_signature.proofs.text.first_type.Goals as goal

pub returns-in_err-rest-clause-none : goal.returns-in_err-rest-clause-none
returns-in_err-rest-clause-none c =
    rw c.from_residual.ensures
    (λ n h. let e : first_length c.args.text.now ≡ Some n = begins_again c.args.text.now n h in
    let f : first_length c.args.text.now ≡ None = first_length-none c.args.text.now c.in_err-rest.ensures in absurd (cc))

pub returns-in_err-rest-clause-length : goal.returns-in_err-rest-clause-length
returns-in_err-rest-clause-length c = rw c.from_residual.ensures (sym (first_length-none c.args.text.now c.in_err-rest.ensures))

pub overflow_sub-result : goal.overflow_sub-result
overflow_sub-result c = (first_length-rest c.args.text.now c.in_ok-rest.rest.now c.in_ok-rest.ensures).1

pub returns-clause-found : goal.returns-clause-found
returns-clause-found c = begins c.args.text.now _ (first_length-rest c.args.text.now c.in_ok-rest.rest.now c.in_ok-rest.ensures).0

pub returns-clause-length : goal.returns-clause-length
returns-clause-length c = sym (first_length-rest c.args.text.now c.in_ok-rest.rest.now c.in_ok-rest.ensures).0
