use Rattle.std.proofs.Common.{◌≡◌, refl, sym, ◌∙◌, ap, Some}
use Rattle.object_standard.specs.Method.{method_named}
use Rattle.peer_objects.specs.Standard.{path_in}
use Rattle.peer_objects.proofs.Sayable.{peer_law, introspects_law, manages_law}
use Rattle.peer_objects.proofs.Taken.{by_get, by_get_all}
use Rattle.peer_objects.proofs.server.ObjectServer.answer_standard.Goals as goal

pub returns-in-Some-Get-clause-answers : goal.returns-in-Some-Get-clause-answers
returns-in-Some-Get-clause-answers g c =
    by_get g.B.Interface.meaning g.B.Interface.state c.got.result _ c.args.self.now.0 _ c.args.message.now c.args.self.now.1 _
    (ap (method_named c.args.interface) (sym c.as_str.ensures.value) ∙ sym c.named.ensures ∙ c.in-Some-Get.is ∙ ap Some c.in-Some-Get.field-0-is) refl c.got.ensures.told

pub returns-in-Some-GetAll-clause-answers : goal.returns-in-Some-GetAll-clause-answers
returns-in-Some-GetAll-clause-answers g c =
    by_get_all g.B.Interface.meaning g.B.Interface.state c.got_all.result _ c.args.self.now.0 _ c.args.message.now c.args.self.now.1 _
    (ap (method_named c.args.interface) (sym c.as_str.ensures.value) ∙ sym c.named.ensures ∙ c.in-Some-GetAll.is ∙ ap Some c.in-Some-GetAll.field-0-is) refl c.got_all.ensures.told

pub returns-in-Some-Peer-clause-law : goal.returns-in-Some-Peer-clause-law
returns-in-Some-Peer-clause-law g c = peer_law c.answer_of_peer.result _ _ c.args.message.now c.answer_of_peer.ensures

pub returns-in-Some-Introspect-clause-law : goal.returns-in-Some-Introspect-clause-law
returns-in-Some-Introspect-clause-law g c = introspects_law g.B.Interface.meaning g.B.Interface.state c.introspected.result c.args.self.now.0 c.args.message.now (path_in c.args.message.now) c.args.self.now.1 c.introspected.ensures

pub returns-in-Some-GetManagedObjects-clause-law : goal.returns-in-Some-GetManagedObjects-clause-law
returns-in-Some-GetManagedObjects-clause-law g c = manages_law g.B.Interface.meaning g.B.Interface.state c.managed.result c.args.self.now.0 c.args.message.now (path_in c.args.message.now) c.args.self.now.1 c.managed.ensures
