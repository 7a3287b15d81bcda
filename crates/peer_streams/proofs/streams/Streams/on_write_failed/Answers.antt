-- All that wait for the return are lost.
use Rattle.std.proofs.Common.{refl, sym, subst}
use Rattle.peer_streams.specs.{History.{Loses, after}, Refinement.{lost, RefinesStreams}, Keeping.views, Arriving.{parts, ChangesEach}}
use Rattle.peer_streams.proofs.{ArrivingGiven.{views_lost, forgotten}, StreamsMade.streams_lost}
use Rattle.peer_streams.proofs.streams.Streams.on_write_failed.Goals as goal

pub invariant_of-self : goal.invariant_of-self
invariant_of-self c =
    let s = c.self.inside in
    let each = c.lose_each.ensures s.made s.waiting.items c.self.invariant in
    forgotten (parts s.made c.lose_each.new.states.entries c.lose_each.new.lists) s.waiting.items c.forget_settled.new.waiting.items c.forget_settled.ensures each.kept

pub returns : goal.returns
returns c p left =
    let s = c.self.inside in
    let index = c.args.index in
    let waiting = s.waiting.items in
    let was = parts s.made s.states.entries s.lists in
    let now = parts s.made c.lose_each.new.states.entries c.lose_each.new.lists in
    let each = subst (λ ks. ChangesEach (lost index) ks waiting was now) c.deref.ensures.value (c.lose_each.ensures s.made waiting c.self.invariant) in
    subst (λ v. RefinesStreams v (after (Loses index) p)) (sym (views_lost index was now waiting refl c.self.invariant each)) (streams_lost (views was) p index (subst (λ v. RefinesStreams v p) (sym c.self.view_is) left))
