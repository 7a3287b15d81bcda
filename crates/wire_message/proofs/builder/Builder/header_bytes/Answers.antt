use Rattle.std.proofs.Common.{◌∙◌, ◌++◌, ap, arith, refl, sym}
use Rattle.wire_message.proofs.Building.{fields-long, fields-short, header-made, path-long}
use Rattle.wire_message.proofs.builder.Builder.header_bytes.Goals as goal

pub put_fields-requires : goal.put_fields-requires
put_fields-requires c =
    fields-short c.self.inside.fields c.self.invariant.fields (sym c.has_long_path.ensures ∙ c.if-has_long_path.false)

pub returns-then-has_long_path-clause-written : goal.returns-then-has_long_path-clause-written
returns-then-has_long_path-clause-written c =
    rw (← c.self.view_is) (path-long _ 0 c.args.serial (sym c.has_long_path.ensures ∙ c.if-has_long_path.true))

pub returns-then-fields_len-gt-MESSAGE_LIMIT-clause-written : goal.returns-then-fields_len-gt-MESSAGE_LIMIT-clause-written
returns-then-fields_len-gt-MESSAGE_LIMIT-clause-written c =
    rw (← c.self.view_is)
    (fields-long _ c.args.serial _ c.extend_from_slice.new.self.items c.put_fields.new.out.items c.in_ok-offsets.offsets (c.in_ok-extend_from_slice.ensures.items ∙ ap (λ r. r ++ c.start_of-start.result) c.in_ok-text.ensures.items ∙ c.start_of-start.ensures) c.in_ok-offsets.ensures refl
    (omega (arith, c.len-fields_len.ensures ∙ c.put_fields.new.out.ok.0)))

pub returns-clause-made : goal.returns-clause-made
returns-clause-made c =
    rw (← c.self.view_is)
    (header-made _ c.args.serial _ c.extend_from_slice.new.self.items c.put_fields.new.out.items c.in_ok-offsets.offsets (c.in_ok-extend_from_slice.ensures.items ∙ ap (λ r. r ++ c.start_of-start.result) c.in_ok-text.ensures.items ∙ c.start_of-start.ensures) c.in_ok-offsets.ensures
    (omega (arith, c.len-fields_len.ensures ∙ c.put_fields.new.out.ok.0)) c.put_u32.new.out.items c.pad_to.new.out.items c.put_u32.ensures c.in_ok-pad_to.ensures)

pub returns-clause-written : goal.returns-clause-written
returns-clause-written c = (returns-clause-made c).written
