-- It was one that waits, and is gone.
use Rattle.std.proofs.Common.{◌≡◌, refl, sym, ◌∙◌, ap, true, Some}
use Rattle.std.proofs.lemmas.Bool.{false≢true}
use Rattle.peer_streams.specs.{Names.StreamState, Arriving.{parts, is_put_at}}
use Rattle.peer_streams.proofs.Settling.{dropped}
use Rattle.peer_streams.proofs.arriving.lose.Goals.{in-Some, in-None}
use Rattle.peer_streams.proofs.arriving.lose.Goals as goal

pub returns-in-Some-remove : goal.returns-in-Some-remove
returns-in-Some-remove c made waiting was =
    let st = c.in-Some-remove.lost in
    let at = sym c.in-Some-remove.ensures.value in
    let put : is_put_at c.args.index st.progress ≡ true = elim c.match-get.branch [
      | in-Some w ↦
          let same : Some w.in-Some.state.now ≡ Some st = w.in-Some.ensures.value ∙ at in
          let is : w.in-Some.state.now ≡ st = cc in
          ap (λ (x : StreamState). is_put_at c.args.index x.progress) (sym is) ∙ sym w.is_put_at-waits.ensures ∙ sym w.waits-is ∙ c.if-not-waits.false
      | in-None w ↦ absurd (false≢true (sym w.waits-is ∙ c.if-not-waits.false))
    ] in
    dropped c.args.index c.args.stream st (parts made c.args.states.now.entries c.args.lists.now) (parts made c.remove.new.self.entries c.close.new.self) waiting refl at put c.remove.ensures.updates.0
    (record { limits = c.close.ensures.limits; held = c.close.ensures.held }) was
