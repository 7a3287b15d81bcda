use Rattle.std.proofs.Common.{◌≡◌, ◌+◌, ◌∙◌, ℕ, arith}
use Rattle.wire_message.proofs.Adding.{code-placed, field-added, field-bytes, field-room}
use Rattle.wire_message.proofs.writing.put_field.Goals as goal

unshifted : (n : ℕ) → 0 + n ≡ n
unshifted n = omega arith

pub put_value-requires : goal.put_value-requires
put_value-requires c =
    let head = rw (c.byte.ensures, c.letter.ensures, c.value_type-kind.ensures, unshifted _) at c.in_ok-append.ensures in
    record { short = rw c.value_type-kind.ensures c.requires; placed = code-placed c.args.code c.args.out.now.items c.append.new.out.items head }

pub set_value-requires : goal.set_value-requires
set_value-requires c =
    let head = rw (c.byte.ensures, c.letter.ensures, c.value_type-kind.ensures, unshifted _) at c.in_ok-append.ensures in
    let value = rw c.value_type-kind.ensures at c.in_ok-put_value.ensures in
    rw (c.len.ensures ∙ c.put_value.new.out.ok.0) (field-room c.args.order c.args.code c.args.field_value c.args.out.now.items c.put_value.new.out.items
    (field-bytes c.args.order c.args.code c.args.field_value c.args.out.now.items c.append.new.out.items c.put_value.new.out.items head value))

pub returns : goal.returns
returns c =
    let head = rw (c.byte.ensures, c.letter.ensures, c.value_type-kind.ensures, unshifted _) at c.in_ok-append.ensures in
    let value = rw c.value_type-kind.ensures at c.in_ok-put_value.ensures in
    let offsets = rw (c.len.ensures ∙ c.put_value.new.out.ok.0) at c.set_value.ensures in
    field-added c.args.order c.args.code c.args.field_value c.args.out.now.items c.put_value.new.out.items c.args.offsets.now c.set_value.new.self (field-bytes c.args.order c.args.code c.args.field_value c.args.out.now.items c.append.new.out.items c.put_value.new.out.items head value)
    offsets.field offsets.spans
