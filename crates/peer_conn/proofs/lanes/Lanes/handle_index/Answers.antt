use Rattle.std.proofs.{Common.{◌≡◌, arith, slice_get, sym, ◌∙◌, ap}, lemmas.Grind.common_steps, lemmas.Option.gets}
use Rattle.peer_conn.proofs.Numbers.{place-places}
use Rattle.peer_conn.proofs.lanes.Lanes.handle_index.Goals as goal

pub returns : goal.returns
returns c =
    let found : c.copied.result ≡ slice_get c.places.result.now c.args.number = grind (arith, common_steps, gets) in
    found ∙ ap (λ ps. slice_get ps c.args.number) c.places.ensures ∙ sym (place-places 0 c.args.lane c.args.number c.args.self.now)
