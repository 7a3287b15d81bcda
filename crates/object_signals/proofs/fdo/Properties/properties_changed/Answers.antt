use Rattle.std.proofs.Common.{◌≡◌, inl, ap, ◌∙◌, subst, codes, List, ℕ}
use Rattle.wire_message.specs.Outgoing.{OutgoingMessageView}
use Rattle.object_signals.specs.Emitting.{signal_from}
use Rattle.object_signals.proofs.fdo.Properties.properties_changed.Goals as goal

pub returns : goal.returns
returns g c =
    let e = c.args.emitter.now in
    let same = ap (λ (n : List ℕ). signal_from e n c.from_static_str-member.result c.in_ok-body.body) c.name.ensures
    ∙ ap (λ (n : List ℕ). signal_from e (codes "org.freedesktop.DBus.Properties") n c.in_ok-body.body) c.from_static_str-member.ensures
    ∙ ap (signal_from e (codes "org.freedesktop.DBus.Properties") (codes "PropertiesChanged")) c.in_ok-body.ensures in
    inl (subst (λ (m : OutgoingMessageView). g.P.Emits.puts c.args.peer.now m c.emit-2.result c.emit-2.new.peer) same c.emit-2.ensures)
