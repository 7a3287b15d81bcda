use Rattle.wire_message.specs.Field.{field_list}
use Rattle.wire_message.proofs.Adding.{added-then as then}
use Rattle.wire_message.proofs.writing.put_each.Goals as goal

pub returns : goal.returns
unfolding field_list
returns c =
    let o = c.args.order in
    then o _ _ _ _ _ _ _ _ c.in_ok-put_text.ensures (then o _ _ _ _ _ _ _ _ c.in_ok-put_text-2.ensures (then o _ _ _ _ _ _ _ _ c.in_ok-put_text-3.ensures
    (then o _ _ _ _ _ _ _ _ c.in_ok-put_text-4.ensures (then o _ _ _ _ _ _ _ _ c.in_ok-put_number.ensures (then o _ _ _ _ _ _ _ _ c.in_ok-put_text-5.ensures
    (then o _ _ _ _ _ _ _ _ c.in_ok-put_text-6.ensures (then o _ _ _ _ _ _ _ _ c.in_ok-put_text-7.ensures c.in_ok-put_number-2.ensures)))))))
