use Rattle.std.proofs.Common.{◌≡◌, ◌∙◌, nat_le}
use Rattle.std.specs.List.{position_or_len}
use Rattle.rule_match.proofs.Placing.{put_same, put_new}
use Rattle.rule_match.proofs.arguments.put_among.Goals as goal

pub returns-then-has_index-clause-put : goal.returns-then-has_index-clause-put
returns-then-has_index-clause-put c =
    let a = c.args.argument in
    let xs = c.args.arguments.now.items in
    let place : c.place_of-place.result ≡ position_or_len (λ b. nat_le a.index b.index) xs = rw c.as_slice.ensures.value at c.place_of-place.ensures.place in
    let held = rw c.as_slice-2.ensures.value at (c.has_index.ensures.yes c.if-has_index.true) in
    rw place (put_same a xs c.requires (rw place at held.0) (rw place at (held.1 a)))

pub returns-clause-put : goal.returns-clause-put
returns-clause-put c =
    let a = c.args.argument in
    let xs = c.args.arguments.now.items in
    let place : c.place_of-place.result ≡ position_or_len (λ b. nat_le a.index b.index) xs = rw c.as_slice.ensures.value at c.place_of-place.ensures.place in
    let new = rw c.as_slice-2.ensures.value at (c.has_index.ensures.no c.if-has_index.false) in
    c.insert.ensures.items ∙ rw (c.in_ok-insert.was, place) (put_new a xs c.requires (rw place at new))
