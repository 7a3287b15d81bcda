use Rattle.std.proofs.Common.{◌∙◌, ap, sym, ◌≡◌}
use Rattle.std.specs.Prelude.{◌||◌}
use Rattle.rule_match.specs.Accepting.{accepts}
use Rattle.watch_tool.proofs.Words.{fits, fits_is, text_more, is_any_more}
use Rattle.watch_tool.proofs.line.put_indices.Goals as goal

pub loop-index-preserved : goal.loop-index-preserved
loop-index-preserved c =
    let inv = c.loop-index.invariant in
    let matches = accepts c.index-rules-index.result c.loop-index.candidate in
    let is : fits c.args.rules.now c.args.message.now c.loop-index.index ≡ matches =
    fits_is c.args.rules.now c.args.message.now c.loop-index.candidate c.loop-index.index c.index-rules-index.result c.loop-index-test.true c.index-rules-index.is inv.candidate in
    record {
      text = text_more c.args.rules.now c.args.message.now c.loop-index.index matches c.loop-index.any c.args.text.now.items c.loop-index.text.items c.put_index.new.text.items is inv.any inv.text c.in_ok-any.ensures.text;
      any = c.in_ok-any.ensures.any ∙ ap (λ b. b || matches) inv.any ∙ sym (is_any_more c.args.rules.now c.args.message.now c.loop-index.index matches is);
      candidate = c.in_ok-any.ensures.same ∙ inv.candidate;
    }
