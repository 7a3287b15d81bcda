use Rattle.std.proofs.Common.{ap, refl, ◌∙◌, map, option_map, true, [], codes}
use Rattle.std.proofs.Output.{has_written_of_eq}
use Rattle.wire_names.specs.BusName.{text_of_owned}
use Rattle.rule_match.specs.Part.{kind_word}
use Rattle.rule_match.specs.Printing.{named}
use Rattle.rule_match.specs.RuleView.{rule_view}
use Rattle.rule_match.specs.Text.{one, part_text, argument_text, place_part, rule_text}
use Rattle.rule_match.proofs.Printed.{then_written, none_told, none_mapped, next_named, next_one, next_list, text_is}
use Rattle.rule_match.proofs.display.MatchRuleDisplay.fmt.Goals as goal

pub returns : goal.returns
returns g c =
    let r = c.self.inside in
    let kind = option_map kind_word r.kind in
    let sender = option_map text_of_owned r.sender in
    let w0 = rw c.kind_text.ensures at c.in_ok-write_text.ensures in
    let n0 = next_named (codes "type") true c.is_none-first.result c.is_none-first.result kind refl (none_told r.kind c.is_none-first.result c.is_none-first.ensures ∙ none_mapped kind_word r.kind) in
    let w1 = rw c.sender_text.ensures at c.in_ok-write_text-2.ensures in
    let n1 = next_named (codes "sender") c.is_none-first.result c.both-first.result c.is_none.result sender c.both-first.ensures (none_told r.sender c.is_none.result c.is_none.ensures ∙ none_mapped text_of_owned r.sender) in
    let w2 = rw c.text_of.ensures at c.in_ok-write_text-3.ensures in
    let n2 = next_named (codes "interface") c.both-first.result c.both-first-2.result c.is_none-2.result r.interface c.both-first-2.ensures (none_told r.interface c.is_none-2.result c.is_none-2.ensures) in
    let w3 = rw c.text_of-2.ensures at c.in_ok-write_text-4.ensures in
    let n3 = next_named (codes "member") c.both-first-2.result c.both-first-3.result c.is_none-3.result r.member c.both-first-3.ensures (none_told r.member c.is_none-3.result c.is_none-3.ensures) in
    let w4 = rw c.text_of-3.ensures at c.in_ok-write_text-5.ensures in
    let n4 = next_named (codes "destination") c.both-first-3.result c.both-first-4.result c.is_none-4.result r.destination c.both-first-4.ensures (none_told r.destination c.is_none-4.result c.is_none-4.ensures) in
    let w5 = c.in_ok-write_place.ensures in
    let n5 = next_one place_part c.both-first-4.result c.both-first-5.result c.is_none-5.result r.path c.both-first-5.ensures (none_told r.path c.is_none-5.result c.is_none-5.ensures) in
    let w6 = rw c.as_slice.ensures at c.in_ok-write_arguments.ensures in
    let n6 = next_list (argument_text []) c.both-first-5.result c.both-first-6.result c.is_empty.result r.args c.both-first-6.ensures (rw c.as_slice-2.ensures at c.is_empty.ensures) in
    let w7 = rw c.as_slice-3.ensures at c.in_ok-write_arguments-2.ensures in
    let n7 = next_list (argument_text (codes "path")) c.both-first-6.result c.both-first-7.result c.is_empty-2.result r.arg_paths c.both-first-7.ensures (rw c.as_slice-4.ensures at c.is_empty-2.ensures) in
    let w8 = rw c.namespace_of.ensures at c.write_text-6.ensures in
    record {
      writes = λ plain ok. has_written_of_eq _ _ _ _ _ (text_is (rule_view r) ∙ ap rule_text c.self.view_is) ((then_written _ _ _ _ _ true c.is_none-first.result (named (codes "type") kind) _ w0 n0
          (then_written _ _ _ _ _ c.is_none-first.result c.both-first.result (named (codes "sender") sender) _ w1 n1
          (then_written _ _ _ _ _ c.both-first.result c.both-first-2.result (named (codes "interface") r.interface) _ w2 n2
          (then_written _ _ _ _ _ c.both-first-2.result c.both-first-3.result (named (codes "member") r.member) _ w3 n3
          (then_written _ _ _ _ _ c.both-first-3.result c.both-first-4.result (named (codes "destination") r.destination) _ w4 n4
          (then_written _ _ _ _ _ c.both-first-4.result c.both-first-5.result (map part_text (one place_part r.path)) _ w5 n5
          (then_written _ _ _ _ _ c.both-first-5.result c.both-first-6.result (map (argument_text []) r.args) _ w6 n6
          (then_written _ _ _ _ _ c.both-first-6.result c.both-first-7.result (map (argument_text (codes "path")) r.arg_paths) _ w7 n7
          w8)))))))) plain ok);
      styled = tt;
    }
